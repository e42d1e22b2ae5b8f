use Rattle.std.proofs.Common.{◌≡◌, ◌==◌, ◌++◌, true, false, List, [], ◌∷◌, sym, ap, ◌∙◌, append-nil}
use Rattle.std.specs.Prelude.{filter, ◌&&◌}
use Rattle.st_values.specs.declared.value.EntityId.{EntityId}
use Rattle.st_lattice.specs.declared.stores.StoreKind.TheVariants.{Extent}
use Rattle.st_lattice.specs.Lattice.{isa}
use Rattle.st_lattice.specs.Outline.{Outline}
use Rattle.st_lattice.specs.Stores.{extents, store}
use Rattle.st_index.proofs.Called.{PageLaws}
use Rattle.st_lookups.proofs.Listed.{all-of-type, extent-among, none-of-type}
use Rattle.st_lookups.proofs.Lived.{finds-nothing}
use Rattle.st_lookups.proofs.Rowed.{finds-more}
use Rattle.st_lookups.proofs.extent.push_of.Given as given
use Rattle.st_lookups.proofs.extent.push_of.Goals as goal

laws : (g : given.Over) → PageLaws g.P.Pages.attempt g.P.Pages.follows g.P.Pages.asked
laws g = record {
  is_sound = g.met.P.Pages.is_sound;
  seen_stays = g.met.P.Pages.seen_stays;
  drawn_stays = g.met.P.Pages.drawn_stays;
  drawn_unwritten = g.met.P.Pages.drawn_unwritten;
  follows_on = g.met.P.Pages.follows_on;
  asked_more = g.met.P.Pages.asked_more;
  asked_on = g.met.P.Pages.asked_on;
  asked_tells = g.met.P.Pages.asked_tells;
}

pub returns-then-isa-clause-finds : goal.returns-then-isa-clause-finds
returns-then-isa-clause-finds g c = λ array s agrees same stands.
    let old = c.args.serials.now.entities in
    let new = c.push_exact.new.serials.entities in
    let other = c.args.other in
    let ty = c.args.ty in
    let is : isa c.args.schema.now other ty ≡ true = sym c.isa.ensures ∙ c.if-isa.true in
    finds-more g.P.Pages.attempt g.P.Pages.follows g.P.Pages.asked (laws g) c.args.pages.now c.push_exact.new.pages array (λ _. new ≡ old ++ filter (λ e. e.ty == other) s.live) (λ _. new ≡ old ++ filter (λ e. (e.ty == other) && isa s.schema other ty) s.live)
    (store Extent other ∷ []) (extents c.args.schema.now ty) c.push_exact.result (extent-among c.args.schema.now ty other c.requires.known is)
    (λ _ e. e ∙ ap (λ (l : List EntityId). old ++ l) (all-of-type other (isa s.schema other ty) s.live (ap (λ (o : Outline). isa o other ty) same ∙ is)))
    (c.push_exact.ensures.finds array s agrees same stands)

pub returns-else-isa-clause-finds : goal.returns-else-isa-clause-finds
returns-else-isa-clause-finds g c = λ array s agrees same stands.
    let old = c.args.serials.now.entities in
    let other = c.args.other in
    let ty = c.args.ty in
    let is : isa c.args.schema.now other ty ≡ false = sym c.isa.ensures ∙ c.if-isa.false in
    finds-nothing (g.P.Pages.asked c.args.pages.now c.args.pages.now) (g.P.Pages.attempt c.args.pages.now) array (g.met.P.Pages.asked_nothing c.args.pages.now) (λ _. old ≡ old ++ filter (λ e. (e.ty == other) && isa s.schema other ty) s.live)
    (extents c.args.schema.now ty) _ (sym (ap (λ (l : List EntityId). old ++ l) (none-of-type other (isa s.schema other ty) s.live (ap (λ (o : Outline). isa o other ty) same ∙ is)) ∙ append-nil old))
