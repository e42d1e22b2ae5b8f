use Rattle.st_index.proofs.Called.{PageLaws}
use Rattle.st_terms.specs.Looks.{Looks}
use Rattle.st_terms.proofs.Loops.{handed}
use Rattle.st_paged.specs.Laws.{agrees-before, asks-on, reached-stays}
use Rattle.st_paged.specs.Paged.{AsksFor, IsReached, StandsIn}
use Rattle.st_paged.proofs.OfForm.{form, spot}
use Rattle.st_paged.proofs.Selecting.{known-fail, known-then}
use Rattle.st_paged.proofs.paged.Paged.searched.Given as given
use Rattle.st_paged.proofs.paged.Paged.searched.Goals as goal

laws : (g : given.Over) → PageLaws g.P.Pages.attempt g.P.Pages.follows g.P.Pages.asked
laws g = record {
  is_sound = g.met.P.Pages.is_sound;
  seen_stays = g.met.P.Pages.seen_stays;
  drawn_stays = g.met.P.Pages.drawn_stays;
  drawn_unwritten = g.met.P.Pages.drawn_unwritten;
  follows_on = g.met.P.Pages.follows_on;
  asked_more = g.met.P.Pages.asked_more;
  asked_on = g.met.P.Pages.asked_on;
  asked_tells = g.met.P.Pages.asked_tells;
}

pub returns-in_err-known-clause-looks : goal.returns-in_err-known-clause-looks
returns-in_err-known-clause-looks g c = λ w s agrees stands variables query is checked.
    let a = c.args.self.now in
    let b = c.known_in.new.self in
    handed (Looks _ _ _ _ _ _) c.in_err-known.field-0.0 _ c.from_residual.ensures
    (known-fail s variables query c.args.search.now is checked (StandsIn g.P.Pages.attempt form b w s) (StandsIn g.P.Pages.attempt form b w s) (AsksFor g.P.Pages.attempt g.P.Pages.follows form spot g.P.Pages.asked a b w) (λ e n. IsReached g.P.Pages.attempt b w e)
    c.in_err-known.field-0.0 (c.in_err-known.ensures.looks w s agrees stands))

pub returns-clause-looks : goal.returns-clause-looks
returns-clause-looks g c = λ w s agrees stands variables query is checked.
    let attempt = g.P.Pages.attempt in
    let follows = g.P.Pages.follows in
    let asked = g.P.Pages.asked in
    let a = c.args.self.now in
    let b = c.known_in.new.self in
    let d = c.filtered_known.new.base in
    let first = c.in_ok-known.ensures in
    let last = c.filtered_known.ensures in
    let f = first.looks w s (agrees-before attempt follows g.met.P.Pages.seen_stays b d w last.keeps.below agrees) stands in
    known-then s variables query c.args.search.now is checked (StandsIn attempt form b w s) (StandsIn attempt form d w s)
    (AsksFor attempt follows form spot asked a b w) (AsksFor attempt follows form spot asked b d w) (AsksFor attempt follows form spot asked a d w) (λ e n. IsReached attempt b w e) (λ e n. IsReached attempt d w e)
    (λ x y. asks-on attempt follows form spot asked (laws g) g.met.P.Pages.written_stays a b d w x y first.keeps.below last.keeps.below) (λ e n. reached-stays attempt follows g.met.P.Pages.seen_stays b d w e last.keeps.below)
    c.in_ok-known.known c.as_slice.result.now c.filtered_known.result c.as_slice.ensures f (λ are. last.looks w s agrees f.answers.1 variables query is checked are)
