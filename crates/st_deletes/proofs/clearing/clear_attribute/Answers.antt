use Rattle.std.proofs.Common.{IsTrue, ◌∙◌}
use Rattle.std.specs.List.{list_all}
use Rattle.st_pages.proofs.Carried.{Stays}
use Rattle.st_index.proofs.Called.{PageLaws, earlier}
use Rattle.st_deletes.specs.Cleared.{is_cleared, is_memberless, is_unreferred}
use Rattle.st_deletes.proofs.Lasting.{live-stays, number-stays}
use Rattle.st_deletes.proofs.Holders.{both-cleared}
use Rattle.st_deletes.proofs.Stepwise.{clears-fail, clears-then}
use Rattle.st_deletes.proofs.clearing.clear_attribute.Given as given
use Rattle.st_deletes.proofs.clearing.clear_attribute.Goals as goal

laws : (g : given.Over) → PageLaws g.P.Pages.attempt g.P.Pages.follows g.P.Pages.asked
laws g = record {
  is_sound = g.met.P.Pages.is_sound;
  seen_stays = g.met.P.Pages.seen_stays;
  drawn_stays = g.met.P.Pages.drawn_stays;
  drawn_unwritten = g.met.P.Pages.drawn_unwritten;
  follows_on = g.met.P.Pages.follows_on;
  asked_more = g.met.P.Pages.asked_more;
  asked_on = g.met.P.Pages.asked_on;
  asked_tells = g.met.P.Pages.asked_tells;
}

pub returns-in-Ok-clause-clears : goal.returns-in-Ok-clause-clears
returns-in-Ok-clause-clears g c = λ array s agrees same stands live f.
    let e = c.args.entity in
    let a = c.args.attribute.now in
    let B = g.P.Pages.attempt c.clear_references.new.pages in
    let C = g.P.Pages.attempt c.clear_members.new.pages in
    let stays : Stays B C = g.met.P.Pages.seen_stays c.clear_references.new.pages c.clear_members.new.pages c.clear_members.ensures.follows in
    clears-then g.P.Pages.attempt g.P.Pages.follows g.P.Pages.asked (laws g) g.S.Store.holds array c.args.places.now e c.args.pages.now c.clear_references.new.pages c.clear_members.new.pages c.clear_references.ensures.follows c.clear_members.ensures.follows s
    (λ t. IsTrue (list_all (is_unreferred a.number e) t.triples)) (λ t. IsTrue (list_all (is_memberless a e) t.triples)) (λ t. IsTrue (list_all (is_cleared a e) t.triples)) (tt {0}) c.clear_members.result
    (c.in-Ok.ensures.clears array s (earlier B C array stays agrees) same stands live f)
    (λ t less nearly had. c.clear_members.ensures.clears array t agrees (less.schema ∙ same) nearly (live-stays e s t less e live) (number-stays e s t less a.number a f))
    (λ t u less had next found. both-cleared a e u.triples (next.fewer (is_unreferred a.number e) had) found)

pub returns-in-Err-clause-clears : goal.returns-in-Err-clause-clears
returns-in-Err-clause-clears g c = λ array s agrees same stands live f.
    let e = c.args.entity in
    let a = c.args.attribute.now in
    clears-fail g.P.Pages.attempt g.P.Pages.follows g.P.Pages.asked (laws g) g.S.Store.holds array c.args.places.now e c.args.pages.now c.clear_references.new.pages s
    (λ t. IsTrue (list_all (is_unreferred a.number e) t.triples)) (λ t. IsTrue (list_all (is_cleared a e) t.triples)) c.in-Err.fault
    (c.in-Err.ensures.clears array s agrees same stands live f)
