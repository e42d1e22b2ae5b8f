use Rattle.std.proofs.Common.{refl}
use Rattle.std.specs.Prelude.{is_ok, ⊤}
use Rattle.st_state.specs.Calls.{Set}
use Rattle.st_index.proofs.Called.{PageLaws}
use Rattle.st_paged.proofs.Calling.{Put, edited-asks, edited-continues, edited-gives, on-ok, set-first, set-puts, set-reaches, stood}
use Rattle.st_paged.proofs.OfForm.{form, spot, spots}
use Rattle.st_paged.proofs.base.PagedBase.set.Given as given
use Rattle.st_paged.proofs.base.PagedBase.set.Goals as goal

laws : (g : given.Over) → PageLaws g.P.Pages.attempt g.P.Pages.follows g.P.Pages.asked
laws g = record {
  is_sound = g.met.P.Pages.is_sound;
  seen_stays = g.met.P.Pages.seen_stays;
  drawn_stays = g.met.P.Pages.drawn_stays;
  drawn_unwritten = g.met.P.Pages.drawn_unwritten;
  follows_on = g.met.P.Pages.follows_on;
  asked_more = g.met.P.Pages.asked_more;
  asked_on = g.met.P.Pages.asked_on;
  asked_tells = g.met.P.Pages.asked_tells;
}

pub returns-clause-follows : goal.returns-clause-follows
returns-clause-follows g c =
    edited-continues g.P.Pages.attempt g.P.Pages.follows g.P.Pages.asked (laws g) form spot spots c.self.inside.schema c.self.inside.places c.self.inside.pages c.set_value.new.pages c.args.self.now c.self.view_is
    (g.P.Pages.met c.self.inside.pages) (g.P.Pages.met c.set_value.new.pages) (Set c.args.entity c.args.attribute c.args.value.now) c.set_value.result c.set_value.ensures.behaves c.set_value.ensures.kinds

pub returns-clause-gives : goal.returns-clause-gives
returns-clause-gives g c = λ w s agrees stands admits.
    let near = stood g.P.Pages.attempt g.P.Pages.follows g.P.Pages.asked (laws g) form spot spots c.self.inside.schema c.self.inside.places c.self.inside.pages c.set_value.new.pages c.args.self.now c.self.view_is w s stands in
    edited-gives g.P.Pages.attempt g.P.Pages.follows g.P.Pages.asked (laws g) form spot spots c.self.inside.schema c.self.inside.places c.self.inside.pages c.set_value.new.pages c.args.self.now c.self.view_is w s stands
    c.set_value.result (Set c.args.entity c.args.attribute c.args.value.now) (λ done. ⊤) (c.set_value.ensures.edits w s agrees near.of_schema near.nearly admits)

pub returns-clause-asks : goal.returns-clause-asks
returns-clause-asks g c = λ w s agrees stands admits.
    let near = stood g.P.Pages.attempt g.P.Pages.follows g.P.Pages.asked (laws g) form spot spots c.self.inside.schema c.self.inside.places c.self.inside.pages c.set_value.new.pages c.args.self.now c.self.view_is w s stands in
    edited-asks g.P.Pages.attempt g.P.Pages.follows g.P.Pages.asked (laws g) form spot spots c.self.inside.schema c.self.inside.places c.self.inside.pages c.set_value.new.pages c.args.self.now c.self.view_is w s stands
    c.set_value.result (Set c.args.entity c.args.attribute c.args.value.now) (is_ok c.set_value.result) (λ done. ⊤) refl (c.set_value.ensures.edits w s agrees near.of_schema near.nearly admits)
    (set-puts g.P.Pages.attempt g.P.Pages.follows g.P.Pages.asked (laws g) form spot spots c.self.inside.schema c.self.inside.places c.self.inside.pages c.set_value.new.pages c.args.self.now c.self.view_is w s stands
    c.args.entity c.args.attribute c.args.value.now c.set_value.result (g.P.Pages.met c.self.inside.pages) (g.P.Pages.met c.set_value.new.pages) (g.met.P.Pages.follows_itself c.self.inside.pages) c.set_value.ensures.behaves c.set_value.ensures.kinds
    (on-ok (Put g.P.Pages.attempt g.P.Pages.follows g.P.Pages.asked (laws g) form spot spots c.self.inside.schema c.self.inside.places c.self.inside.pages c.set_value.new.pages c.args.self.now c.self.view_is w s stands c.args.entity c.args.attribute) c.set_value.result c.set_value.ensures.put (λ put. put w s agrees near.of_schema near.nearly admits)))

pub returns-clause-reached : goal.returns-clause-reached
returns-clause-reached g c = λ w s agrees stands admits.
    let near = stood g.P.Pages.attempt g.P.Pages.follows g.P.Pages.asked (laws g) form spot spots c.self.inside.schema c.self.inside.places c.self.inside.pages c.set_value.new.pages c.args.self.now c.self.view_is w s stands in
    set-reaches g.P.Pages.attempt g.P.Pages.follows g.P.Pages.asked (laws g) form spot spots c.self.inside.schema c.self.inside.places c.self.inside.pages c.set_value.new.pages c.args.self.now c.self.view_is w s stands
    c.args.entity c.args.attribute c.args.value.now c.set_value.result c.set_value.ensures.behaves.below admits.0 (c.set_value.ensures.first w s agrees near.of_schema near.nearly admits)

pub returns-clause-first : goal.returns-clause-first
returns-clause-first g c = λ w s agrees stands admits.
    let near = stood g.P.Pages.attempt g.P.Pages.follows g.P.Pages.asked (laws g) form spot spots c.self.inside.schema c.self.inside.places c.self.inside.pages c.set_value.new.pages c.args.self.now c.self.view_is w s stands in
    set-first g.P.Pages.attempt g.P.Pages.follows g.P.Pages.asked (laws g) form spot spots c.self.inside.schema c.self.inside.places c.self.inside.pages c.set_value.new.pages c.args.self.now c.self.view_is w s stands
    c.args.entity c.args.attribute c.args.value.now c.set_value.result c.set_value.ensures.behaves.below admits.0 (c.set_value.ensures.first w s agrees near.of_schema near.nearly admits)
