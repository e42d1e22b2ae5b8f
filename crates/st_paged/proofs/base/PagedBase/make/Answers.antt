use Rattle.std.proofs.Common.{refl, ◌≡◌}
use Rattle.std.specs.Prelude.{is_ok}
use Rattle.st_state.specs.Calls.{Make}
use Rattle.st_state.specs.State.{next_entity}
use Rattle.st_index.proofs.Called.{PageLaws}
use Rattle.st_paged.proofs.Calling.{edited-asks, edited-continues, edited-gives, stood}
use Rattle.st_paged.proofs.OfForm.{form, spot, spots}
use Rattle.st_paged.proofs.base.PagedBase.make.Given as given
use Rattle.st_paged.proofs.base.PagedBase.make.Goals as goal

laws : (g : given.Over) → PageLaws g.P.Pages.attempt g.P.Pages.follows g.P.Pages.asked
laws g = record {
  is_sound = g.met.P.Pages.is_sound;
  seen_stays = g.met.P.Pages.seen_stays;
  drawn_stays = g.met.P.Pages.drawn_stays;
  drawn_unwritten = g.met.P.Pages.drawn_unwritten;
  follows_on = g.met.P.Pages.follows_on;
  asked_more = g.met.P.Pages.asked_more;
  asked_on = g.met.P.Pages.asked_on;
  asked_tells = g.met.P.Pages.asked_tells;
}

pub returns-clause-follows : goal.returns-clause-follows
returns-clause-follows g c =
    edited-continues g.P.Pages.attempt g.P.Pages.follows g.P.Pages.asked (laws g) form spot spots c.self.inside.schema c.self.inside.places c.self.inside.pages c.make_entity.new.pages c.args.self.now c.self.view_is
    (g.P.Pages.met c.self.inside.pages) (g.P.Pages.met c.make_entity.new.pages) (Make c.args.ty) c.make_entity.result c.make_entity.ensures.behaves c.make_entity.ensures.kinds

pub returns-clause-gives : goal.returns-clause-gives
returns-clause-gives g c = λ w s agrees stands.
    let near = stood g.P.Pages.attempt g.P.Pages.follows g.P.Pages.asked (laws g) form spot spots c.self.inside.schema c.self.inside.places c.self.inside.pages c.make_entity.new.pages c.args.self.now c.self.view_is w s stands in
    edited-gives g.P.Pages.attempt g.P.Pages.follows g.P.Pages.asked (laws g) form spot spots c.self.inside.schema c.self.inside.places c.self.inside.pages c.make_entity.new.pages c.args.self.now c.self.view_is w s stands
    c.make_entity.result (Make c.args.ty) (λ entity. entity ≡ next_entity s c.args.ty) (c.make_entity.ensures.edits w s agrees near.of_schema near.nearly)

pub returns-clause-asks : goal.returns-clause-asks
returns-clause-asks g c = λ w s agrees stands.
    let near = stood g.P.Pages.attempt g.P.Pages.follows g.P.Pages.asked (laws g) form spot spots c.self.inside.schema c.self.inside.places c.self.inside.pages c.make_entity.new.pages c.args.self.now c.self.view_is w s stands in
    edited-asks g.P.Pages.attempt g.P.Pages.follows g.P.Pages.asked (laws g) form spot spots c.self.inside.schema c.self.inside.places c.self.inside.pages c.make_entity.new.pages c.args.self.now c.self.view_is w s stands
    c.make_entity.result (Make c.args.ty) (is_ok c.make_entity.result) (λ entity. entity ≡ next_entity s c.args.ty) refl (c.make_entity.ensures.edits w s agrees near.of_schema near.nearly) tt
