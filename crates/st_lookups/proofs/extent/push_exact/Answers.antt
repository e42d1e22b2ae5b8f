use Rattle.std.proofs.Common.{◌≡◌, ℕ, ◌==◌, ◌++◌, true, Bool, List, [], ◌∷◌, sym, ap, ◌∙◌, subst, append-nil, map, take, replicate}
use Rattle.std.specs.Prelude.{filter}
use Rattle.std.specs.List.{All}
use Rattle.st_values.specs.declared.value.EntityId.{EntityId}
use Rattle.st_lattice.specs.declared.stores.StoreKind.TheVariants.{Extent}
use Rattle.st_lattice.specs.Stores.{store}
use Rattle.st_store.specs.Rows.{rows_from}
use Rattle.st_standing.specs.Standing.{extent_rows}
use Rattle.st_standing.proofs.RowLaws.{RowLaws}
use Rattle.st_lookups.specs.declared.extent.Serials.{Serials}
use Rattle.st_lookups.specs.Looks.{Finds, entity_in, taken_from}
use Rattle.st_lookups.proofs.Listed.{none-of, rows-entities, rows-sound}
use Rattle.st_lookups.proofs.Lived.{finds-less, finds-nothing, names-most, of-extent}
use Rattle.st_lookups.proofs.Walked.{TookRows}
use Rattle.st_lookups.proofs.extent.push_exact.Goals as goal

pub returns-in_default-clause-finds : goal.returns-in_default-clause-finds
returns-in_default-clause-finds g c = λ array s agrees same stands.
    let old = c.args.serials.now.entities in
    finds-nothing (g.P.Pages.asked c.args.pages.now c.args.pages.now) (g.P.Pages.attempt c.args.pages.now) array (g.met.P.Pages.asked_nothing c.args.pages.now) (λ _. old ≡ old ++ filter (λ e. e.ty == c.args.ty) s.live) (store Extent c.args.ty ∷ []) _
    (sym (ap (λ (l : List EntityId). old ++ l) (none-of s c.args.ty stands.legal (names-most s.schema c.args.schema.now c.args.ty same (c.extent_of.ensures.none c.in_default.is))) ∙ append-nil old))

Told : Serials → Serials → List (List ℕ) → Type 0
Told before after rows = (after.ty ≡ before.ty) × (after.entities ≡ before.entities ++ map (entity_in before.ty) rows)

pub returns-clause-finds : goal.returns-clause-finds
unfolding Told
returns-clause-finds g c =
    let laws : RowLaws = record {
      key_width = c.laws_of_keys.ensures.width;
      key_order = c.laws_of_keys.ensures.order;
      width = c.laws_of_rows.ensures.width;
      pair_width = c.laws_of_rows.ensures.pair_width;
      pairs = c.laws_of_rows.ensures.pairs;
      serials = c.laws_of_rows.ensures.serials;
    } in
    let A = g.P.Pages.attempt c.args.pages.now in
    let B = g.P.Pages.attempt c.walk.new.pages in
    let asked = g.P.Pages.asked c.args.pages.now c.walk.new.pages in
    let ty = c.args.ty in
    let place = c.in-Some.place in
    let is = c.in-Some.ensures.laid.store_is in
    let begun : Serials = record c.args.serials.now { ty = ty } in
    let new = c.walk.new.visit in
    let T : List (List ℕ) → Type 0 = TookRows Told begun new in
    let Sound : List (List ℕ) → Type 0 = All (λ row. take 4 row ≡ replicate 4 0 → ⊥) in
    λ array s agrees same stands.
    finds-less asked A B array (λ _. T (taken_from (λ row. true) (rows_from place.key c.serial_key.result (extent_rows s ty)))) (λ _. new.entities ≡ c.args.serials.now.entities ++ filter (λ e. e.ty == ty) s.live) (place.store ∷ []) (store Extent ty ∷ []) c.walk.result
    (ap (λ (n : ℕ). n ∷ []) is)
    (λ _ took.
    (took begun [] (Rattle.std.proofs.Common.refl, sym (append-nil begun.entities))).1
    ∙ ap (λ (k : ℕ). begun.entities ++ map (entity_in ty) (taken_from (λ row. true) (rows_from k c.serial_key.result (extent_rows s ty)))) c.in-Some.ensures.laid.key
    ∙ ap (λ (l : List ℕ). begun.entities ++ map (entity_in ty) (taken_from (λ row. true) (rows_from 4 l (extent_rows s ty)))) c.serial_key.ensures
    ∙ ap (λ (l : List EntityId). begun.entities ++ l) (rows-entities laws s stands.program ty))
    (of-extent g.S.Store.holds A B c.args.schema.now c.args.places.now ty place (λ array rows. Sound rows → Finds asked A B array (λ _. T (taken_from (λ row. true) (rows_from place.key c.serial_key.result rows))) (place.store ∷ []) c.walk.result) c.ranges.ty.fits
    c.in-Some.ensures.value is c.walk.ensures.finds array s agrees same stands (rows-sound laws s stands.program ty))
