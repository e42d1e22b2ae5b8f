use Rattle.std.proofs.Common.{◌≡◌, ◌==◌, ◌++◌, true, false, List, [], ◌∷◌, sym, ap, ◌∙◌, append-nil}
use Rattle.std.specs.Prelude.{filter, position, ◌&&◌}
use Rattle.st_values.specs.declared.value.EntityId.{EntityId}
use Rattle.st_values.specs.Order.{same_value}
use Rattle.st_lattice.specs.declared.stores.StoreKind.TheVariants.{Extent}
use Rattle.st_lattice.specs.Lattice.{attributes_in, isa}
use Rattle.st_lattice.specs.Outline.{Outline}
use Rattle.st_lattice.specs.Stores.{extents, store}
use Rattle.st_pages.specs.Attempt.{over}
use Rattle.st_state.specs.State.{value_at}
use Rattle.st_state.specs.Rows.{entity_row}
use Rattle.st_index.proofs.Called.{PageLaws}
use Rattle.st_lookups.specs.Looks.{is_cell, value_among}
use Rattle.st_lookups.proofs.Listed.{extent-among}
use Rattle.st_lookups.proofs.Lived.{finds-nothing}
use Rattle.st_lookups.proofs.Picked.{type-having, type-lacking}
use Rattle.st_lookups.proofs.Rowed.{finds-more}
use Rattle.st_lookups.proofs.holders.having_of.Given as given
use Rattle.st_lookups.proofs.holders.having_of.Goals as goal

laws : (g : given.Over) → PageLaws g.P.Pages.attempt g.P.Pages.follows g.P.Pages.asked
laws g = record {
  is_sound = g.met.P.Pages.is_sound;
  seen_stays = g.met.P.Pages.seen_stays;
  drawn_stays = g.met.P.Pages.drawn_stays;
  drawn_unwritten = g.met.P.Pages.drawn_unwritten;
  follows_on = g.met.P.Pages.follows_on;
  asked_more = g.met.P.Pages.asked_more;
  asked_on = g.met.P.Pages.asked_on;
  asked_tells = g.met.P.Pages.asked_tells;
}

pub returns-then-isa-clause-finds : goal.returns-then-isa-clause-finds
returns-then-isa-clause-finds g c = λ array s agrees same stands there single.
    let old = c.args.entities in
    let other = c.args.other in
    let x = c.args.attribute.now in
    let v = c.args.value.now in
    let is : isa c.args.schema.now other x.owner ≡ true = sym c.isa.ensures ∙ c.if-isa.true in
    let in-rows = c.laws_of_places.ensures.in_rows (over (g.P.Pages.attempt c.args.pages.now) array) s.schema c.args.places.now stands.database.has in
    finds-more g.P.Pages.attempt g.P.Pages.follows g.P.Pages.asked (laws g) c.args.pages.now c.having_exact.new.pages array
    (λ (more : List EntityId). more ≡ old ++ filter (λ e. same_value (value_among (position (λ a. a.number == x.number) (filter is_cell (attributes_in s.schema other))) (entity_row s e).cells) v) (filter (λ e. e.ty == other) s.live))
    (λ (more : List EntityId). more ≡ old ++ filter (λ e. (e.ty == other) && (isa s.schema e.ty x.owner && same_value (value_at x.number e s.triples) v)) s.live)
    (store Extent other ∷ []) (extents c.args.schema.now x.owner) c.having_exact.result (extent-among c.args.schema.now x.owner other c.requires.known is)
    (λ more e. e ∙ ap (λ (l : List EntityId). old ++ l) (type-having s x.number x there v other in-rows single (ap (λ (o : Outline). isa o other x.owner) same ∙ is)))
    (c.having_exact.ensures.finds array s agrees same stands)

pub returns-else-isa-clause-finds : goal.returns-else-isa-clause-finds
returns-else-isa-clause-finds g c = λ array s agrees same stands there single.
    let old = c.args.entities in
    let other = c.args.other in
    let x = c.args.attribute.now in
    let v = c.args.value.now in
    let is : isa c.args.schema.now other x.owner ≡ false = sym c.isa.ensures ∙ c.if-isa.false in
    finds-nothing (g.P.Pages.asked c.args.pages.now c.args.pages.now) (g.P.Pages.attempt c.args.pages.now) array (g.met.P.Pages.asked_nothing c.args.pages.now)
    (λ (more : List EntityId). more ≡ old ++ filter (λ e. (e.ty == other) && (isa s.schema e.ty x.owner && same_value (value_at x.number e s.triples) v)) s.live) (extents c.args.schema.now x.owner) old
    (sym (ap (λ (l : List EntityId). old ++ l) (type-lacking s x.number x there v other (ap (λ (o : Outline). isa o other x.owner) same ∙ is)) ∙ append-nil old))
