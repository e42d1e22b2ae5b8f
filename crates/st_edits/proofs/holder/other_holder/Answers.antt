use Rattle.std.proofs.Common.{◌≡◌, true, false, [], ◌∷◌, Some, ap, ◌∙◌, arith}
use Rattle.std.specs.Prelude.{◌==◌, find, is_some}
use Rattle.st_lattice.specs.Stores.{aside}
use Rattle.st_pages.specs.Attempt.{over}
use Rattle.st_state.specs.Bases.{is_other}
use Rattle.st_index.proofs.Called.{PageLaws}
use Rattle.st_database.proofs.Touching.{touches-more}
use Rattle.st_standing.proofs.Fitting.{found-holds}
use Rattle.st_edits.proofs.Held.{found-aside, found-there}
use Rattle.st_edits.proofs.Settling.{number-of}
use Rattle.st_edits.proofs.holder.other_holder.Given as given
use Rattle.st_edits.proofs.holder.other_holder.Goals as goal

laws : (g : given.Over) → PageLaws g.P.Pages.attempt g.P.Pages.follows g.P.Pages.asked
laws g = record {
  is_sound = g.met.P.Pages.is_sound;
  seen_stays = g.met.P.Pages.seen_stays;
  drawn_stays = g.met.P.Pages.drawn_stays;
  drawn_unwritten = g.met.P.Pages.drawn_unwritten;
  follows_on = g.met.P.Pages.follows_on;
  asked_more = g.met.P.Pages.asked_more;
  asked_on = g.met.P.Pages.asked_on;
  asked_tells = g.met.P.Pages.asked_tells;
}

pub returns-in-Ok-clause-finds : goal.returns-in-Ok-clause-finds
returns-in-Ok-clause-finds g c = λ array s agrees same stands a f unique.
    let n = c.args.number in
    let A = g.P.Pages.attempt c.args.pages.now in
    let has = stands.database.has in
    let index = found-holds (λ b. b.unique ≡ true → b.index ≡ true) (λ b. b.number == n) s.schema.attributes a (c.laws_of_places.ensures.indexed (over A array) s.schema c.args.places.now has) f unique in
    let there = found-there s.schema c.args.places.now n a has.spells.readable has.names.of f index in
    let x = c.in-Ok.ensures.finds there.0 there.1 array s agrees same stands (ap is_some f) in
    record {
      answers = c.first_other.ensures ∙ ap (find (is_other (Some c.args.entity))) (c.as_slice.ensures ∙ x.answers);
      sound = tt;
      touches = touches-more g.P.Pages.attempt g.P.Pages.follows g.P.Pages.asked (laws g) c.args.pages.now c.found_holders.new.pages array (there.0.store ∷ []) (aside a) false false 0 0 0 0 (found-aside n there.0.store a (number-of s.schema n a f) there.2)
          (λ h. h) (omega arith) (omega arith) x.touches;
    }

pub returns-in-Err-clause-finds : goal.returns-in-Err-clause-finds
returns-in-Err-clause-finds g c = λ array s agrees same stands a f unique.
    let n = c.args.number in
    let A = g.P.Pages.attempt c.args.pages.now in
    let has = stands.database.has in
    let index = found-holds (λ b. b.unique ≡ true → b.index ≡ true) (λ b. b.number == n) s.schema.attributes a (c.laws_of_places.ensures.indexed (over A array) s.schema c.args.places.now has) f unique in
    let there = found-there s.schema c.args.places.now n a has.spells.readable has.names.of f index in
    let x = c.in-Err.ensures.finds there.0 there.1 array s agrees same stands (ap is_some f) in
    record {
      answers = tt;
      sound = x.sound;
      touches = touches-more g.P.Pages.attempt g.P.Pages.follows g.P.Pages.asked (laws g) c.args.pages.now c.found_holders.new.pages array (there.0.store ∷ []) (aside a) false false 0 0 0 0 (found-aside n there.0.store a (number-of s.schema n a f) there.2)
          (λ h. h) (omega arith) (omega arith) x.touches;
    }
