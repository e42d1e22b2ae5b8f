use Rattle.st_index.proofs.Called.{PageLaws}
use Rattle.st_removals.proofs.Forgetting.{forgets-done, forgets-fault}
use Rattle.st_removals.proofs.sets.forget.Given as given
use Rattle.st_removals.proofs.sets.forget.Goals as goal

laws : (g : given.Over) → PageLaws g.P.Pages.attempt g.P.Pages.follows g.P.Pages.asked
laws g = record {
  is_sound = g.met.P.Pages.is_sound;
  seen_stays = g.met.P.Pages.seen_stays;
  drawn_stays = g.met.P.Pages.drawn_stays;
  drawn_unwritten = g.met.P.Pages.drawn_unwritten;
  follows_on = g.met.P.Pages.follows_on;
  asked_more = g.met.P.Pages.asked_more;
  asked_on = g.met.P.Pages.asked_on;
  asked_tells = g.met.P.Pages.asked_tells;
}

pub returns-in-Ok-clause-clears : goal.returns-in-Ok-clause-clears
returns-in-Ok-clause-clears g c = λ array s agrees same stands admits entity live speaks.
    forgets-done g.P.Pages.attempt g.P.Pages.follows g.P.Pages.asked (laws g) g.S.Store.holds c.args.pages.now c.drop_member.new.pages array c.args.places.now s stands.legal c.args.holder c.args.number c.args.value.now admits entity speaks
    c.in-Ok.field-0 tt (c.in-Ok.ensures.takes array s agrees same stands admits)

pub returns-in-Err-clause-clears : goal.returns-in-Err-clause-clears
returns-in-Err-clause-clears g c = λ array s agrees same stands admits entity live speaks.
    forgets-fault g.P.Pages.attempt g.P.Pages.follows g.P.Pages.asked (laws g) g.S.Store.holds c.args.pages.now c.drop_member.new.pages array c.args.places.now s stands.legal c.args.holder c.args.number c.args.value.now admits entity speaks
    c.in-Err.fault (c.in-Err.ensures.takes array s agrees same stands admits)
