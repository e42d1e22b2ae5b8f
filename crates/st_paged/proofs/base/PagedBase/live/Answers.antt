use Rattle.std.proofs.Common.{[], refl, ◌∷◌, ◌≡◌}
use Rattle.std.specs.Prelude.{is_ok}
use Rattle.st_lattice.specs.Stores.{store}
use Rattle.st_lattice.specs.declared.stores.StoreKind.TheVariants.{Extent}
use Rattle.st_state.specs.Calls.{Live}
use Rattle.st_state.specs.State.{is_live}
use Rattle.st_index.proofs.Called.{PageLaws}
use Rattle.st_paged.proofs.Calling.{looked-asks, looked-continues, looked-gives, stood}
use Rattle.st_paged.proofs.OfForm.{form, spot, spots}
use Rattle.st_paged.proofs.base.PagedBase.live.Given as given
use Rattle.st_paged.proofs.base.PagedBase.live.Goals as goal

laws : (g : given.Over) → PageLaws g.P.Pages.attempt g.P.Pages.follows g.P.Pages.asked
laws g = record {
  is_sound = g.met.P.Pages.is_sound;
  seen_stays = g.met.P.Pages.seen_stays;
  drawn_stays = g.met.P.Pages.drawn_stays;
  drawn_unwritten = g.met.P.Pages.drawn_unwritten;
  follows_on = g.met.P.Pages.follows_on;
  asked_more = g.met.P.Pages.asked_more;
  asked_on = g.met.P.Pages.asked_on;
  asked_tells = g.met.P.Pages.asked_tells;
}

pub returns-clause-follows : goal.returns-clause-follows
returns-clause-follows g c =
    looked-continues g.P.Pages.attempt g.P.Pages.follows g.P.Pages.asked (laws g) form spot spots c.self.inside.schema c.self.inside.places c.self.inside.pages c.is_live.new.pages c.args.self.now c.self.view_is
    (g.P.Pages.met c.self.inside.pages) (g.P.Pages.met c.is_live.new.pages) c.is_live.result c.is_live.ensures.keeps

pub returns-clause-gives : goal.returns-clause-gives
returns-clause-gives g c = λ w s agrees stands.
    let near = stood g.P.Pages.attempt g.P.Pages.follows g.P.Pages.asked (laws g) form spot spots c.self.inside.schema c.self.inside.places c.self.inside.pages c.is_live.new.pages c.args.self.now c.self.view_is w s stands in
    looked-gives g.P.Pages.attempt g.P.Pages.follows g.P.Pages.asked (laws g) form spot spots c.self.inside.schema c.self.inside.places c.self.inside.pages c.is_live.new.pages c.args.self.now c.self.view_is w s stands
    (g.P.Pages.met c.self.inside.pages) (g.P.Pages.met c.is_live.new.pages) c.is_live.result c.as_base.result (store Extent c.args.entity.ty ∷ []) (Live c.args.entity) (λ live. live ≡ is_live s c.args.entity)
    c.as_base.ensures refl refl c.is_live.ensures.keeps (c.is_live.ensures.finds w s agrees near.of_schema near.nearly)

pub returns-clause-asks : goal.returns-clause-asks
returns-clause-asks g c = λ w s agrees stands.
    let near = stood g.P.Pages.attempt g.P.Pages.follows g.P.Pages.asked (laws g) form spot spots c.self.inside.schema c.self.inside.places c.self.inside.pages c.is_live.new.pages c.args.self.now c.self.view_is w s stands in
    looked-asks g.P.Pages.attempt g.P.Pages.follows g.P.Pages.asked (laws g) form spot spots c.self.inside.schema c.self.inside.places c.self.inside.pages c.is_live.new.pages c.args.self.now c.self.view_is w s stands
    c.is_live.result (store Extent c.args.entity.ty ∷ []) (Live c.args.entity) (is_ok c.as_base.result) (λ live. live ≡ is_live s c.args.entity)
    (λ n h. h) (c.is_live.ensures.finds w s agrees near.of_schema near.nearly) tt
