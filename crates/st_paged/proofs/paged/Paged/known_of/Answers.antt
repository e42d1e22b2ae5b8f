use Rattle.std.proofs.Common.{refl, subst, sym}
use Rattle.std.specs.Prelude.{is_ok}
use Rattle.st_lattice.specs.Outline.{Outline}
use Rattle.st_lattice.specs.Stores.{extents}
use Rattle.st_state.specs.Calls.{Listed}
use Rattle.st_known.specs.Known.{AreKnown}
use Rattle.st_state.specs.State.{entities_of}
use Rattle.st_index.proofs.Called.{PageLaws}
use Rattle.st_database.proofs.Touching.{AreAmong}
use Rattle.st_paged.proofs.Calling.{looked-asks, looked-continues, looked-gives, stood}
use Rattle.st_paged.proofs.OfForm.{form, spot, spots}
use Rattle.st_paged.proofs.paged.Paged.known_of.Given as given
use Rattle.st_paged.proofs.paged.Paged.known_of.Goals as goal

laws : (g : given.Over) → PageLaws g.P.Pages.attempt g.P.Pages.follows g.P.Pages.asked
laws g = record {
  is_sound = g.met.P.Pages.is_sound;
  seen_stays = g.met.P.Pages.seen_stays;
  drawn_stays = g.met.P.Pages.drawn_stays;
  drawn_unwritten = g.met.P.Pages.drawn_unwritten;
  follows_on = g.met.P.Pages.follows_on;
  asked_more = g.met.P.Pages.asked_more;
  asked_on = g.met.P.Pages.asked_on;
  asked_tells = g.met.P.Pages.asked_tells;
}

pub returns-clause-follows : goal.returns-clause-follows
returns-clause-follows g c =
    looked-continues g.P.Pages.attempt g.P.Pages.follows g.P.Pages.asked (laws g) form spot spots c.self.inside.schema c.self.inside.places c.self.inside.pages c.list_known.new.pages c.args.self.now c.self.view_is
    (g.P.Pages.met c.self.inside.pages) (g.P.Pages.met c.list_known.new.pages) c.list_known.result c.list_known.ensures.keeps

pub returns-clause-gives : goal.returns-clause-gives
returns-clause-gives g c = λ w s agrees stands.
    let near = stood g.P.Pages.attempt g.P.Pages.follows g.P.Pages.asked (laws g) form spot spots c.self.inside.schema c.self.inside.places c.self.inside.pages c.list_known.new.pages c.args.self.now c.self.view_is w s stands in
    looked-gives g.P.Pages.attempt g.P.Pages.follows g.P.Pages.asked (laws g) form spot spots c.self.inside.schema c.self.inside.places c.self.inside.pages c.list_known.new.pages c.args.self.now c.self.view_is w s stands
    (g.P.Pages.met c.self.inside.pages) (g.P.Pages.met c.list_known.new.pages) c.list_known.result c.as_base.result (extents c.self.inside.schema c.args.ty) (Listed c.args.ty) (AreKnown s (entities_of s c.args.ty))
    c.as_base.ensures refl refl c.list_known.ensures.keeps (c.list_known.ensures.finds w s agrees near.of_schema near.nearly)

pub returns-clause-asks : goal.returns-clause-asks
returns-clause-asks g c = λ w s agrees stands.
    let near = stood g.P.Pages.attempt g.P.Pages.follows g.P.Pages.asked (laws g) form spot spots c.self.inside.schema c.self.inside.places c.self.inside.pages c.list_known.new.pages c.args.self.now c.self.view_is w s stands in
    looked-asks g.P.Pages.attempt g.P.Pages.follows g.P.Pages.asked (laws g) form spot spots c.self.inside.schema c.self.inside.places c.self.inside.pages c.list_known.new.pages c.args.self.now c.self.view_is w s stands
    c.list_known.result (extents c.self.inside.schema c.args.ty) (Listed c.args.ty) (is_ok c.as_base.result) (AreKnown s (entities_of s c.args.ty))
    (subst (λ (o : Outline). AreAmong (extents c.self.inside.schema c.args.ty) (extents o c.args.ty)) (sym near.of_schema) (λ n h. h)) (c.list_known.ensures.finds w s agrees near.of_schema near.nearly) tt
