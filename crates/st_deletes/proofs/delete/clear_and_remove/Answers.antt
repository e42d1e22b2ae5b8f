use Rattle.std.proofs.Common.{◌∙◌, IsTrue}
use Rattle.std.specs.List.{list_all}
use Rattle.st_pages.proofs.Carried.{Stays}
use Rattle.st_index.proofs.Called.{PageLaws, earlier}
use Rattle.st_removals.specs.Taken.{is_own_or_strange}
use Rattle.st_deletes.proofs.Lasting.{live-stays}
use Rattle.st_deletes.proofs.Stepwise.{removes-fail, removes-then}
use Rattle.st_deletes.proofs.delete.clear_and_remove.Given as given
use Rattle.st_deletes.proofs.delete.clear_and_remove.Goals as goal

laws : (g : given.Over) → PageLaws g.P.Pages.attempt g.P.Pages.follows g.P.Pages.asked
laws g = record {
  is_sound = g.met.P.Pages.is_sound;
  seen_stays = g.met.P.Pages.seen_stays;
  drawn_stays = g.met.P.Pages.drawn_stays;
  drawn_unwritten = g.met.P.Pages.drawn_unwritten;
  follows_on = g.met.P.Pages.follows_on;
  asked_more = g.met.P.Pages.asked_more;
  asked_on = g.met.P.Pages.asked_on;
  asked_tells = g.met.P.Pages.asked_tells;
}

pub returns-in-Ok-clause-removes : goal.returns-in-Ok-clause-removes
returns-in-Ok-clause-removes g c = λ array s agrees same stands live.
    let e = c.args.entity in
    let B = g.P.Pages.attempt c.clear_attributes.new.pages in
    let C = g.P.Pages.attempt c.remove.new.pages in
    let stays : Stays B C = g.met.P.Pages.seen_stays c.clear_attributes.new.pages c.remove.new.pages c.remove.ensures.follows in
    removes-then g.P.Pages.attempt g.P.Pages.follows g.P.Pages.asked (laws g) g.S.Store.holds array c.args.places.now c.args.entity c.args.pages.now c.clear_attributes.new.pages c.remove.new.pages c.clear_attributes.ensures.follows c.remove.ensures.follows s
    (λ t. IsTrue (list_all (is_own_or_strange c.args.schema.now e) t.triples)) (tt {0}) c.remove.result (c.in-Ok.ensures.clears array s (earlier B C array stays agrees) same stands live)
    (λ t less nearly own. c.remove.ensures.removes array t agrees (less.schema ∙ same) nearly (live-stays e s t less e live) own)

pub returns-in-Err-clause-removes : goal.returns-in-Err-clause-removes
returns-in-Err-clause-removes g c = λ array s agrees same stands live.
    removes-fail g.P.Pages.attempt g.P.Pages.follows g.P.Pages.asked (laws g) g.S.Store.holds array c.args.places.now c.args.entity c.args.pages.now c.clear_attributes.new.pages s (λ t. IsTrue (list_all (is_own_or_strange c.args.schema.now c.args.entity) t.triples)) c.in-Err.fault
    (c.in-Err.ensures.clears array s agrees same stands live)
