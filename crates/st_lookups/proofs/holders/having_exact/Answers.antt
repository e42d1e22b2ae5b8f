use Rattle.std.proofs.Common.{◌≡◌, ℕ, ◌==◌, ◌++◌, true, false, Err, Ok, List, [], ◌∷◌, refl, sym, ap, ◌∙◌, subst, append-nil, pos}
use Rattle.std.specs.Prelude.{filter, position}
use Rattle.std.specs.List.{All}
use Rattle.std.proofs.lemmas.List.Elements.{All-nil}
use Rattle.st_values.specs.declared.value.EntityId.{EntityId}
use Rattle.st_values.specs.declared.value.Value.TheVariants.{Int}
use Rattle.st_values.specs.Order.{same_value}
use Rattle.st_lattice.specs.declared.stores.StoreKind.TheVariants.{Extent}
use Rattle.st_lattice.specs.Lattice.{attributes_in}
use Rattle.st_lattice.specs.Outline.{Outline}
use Rattle.st_lattice.specs.Stores.{store}
use Rattle.st_rows.specs.Rows.{AreHeld, row_fields}
use Rattle.st_state.specs.Rows.{entity_row}
use Rattle.st_store.specs.Rows.{rows_from}
use Rattle.st_database.specs.Touches.{Touches}
use Rattle.st_standing.specs.Standing.{extent_rows}
use Rattle.st_standing.proofs.RowLaws.{RowLaws}
use Rattle.st_lookups.specs.declared.holders.Celled.{Celled}
use Rattle.st_lookups.specs.Looks.{AreCells, Cells, Finds, IsSoundRow, entities_having, is_cell, taken_from, value_among}
use Rattle.st_lookups.proofs.Listed.{none-of}
use Rattle.st_lookups.proofs.Lived.{finds-nothing, names-most, of-extent}
use Rattle.st_lookups.proofs.Picked.{exactly-having}
use Rattle.st_lookups.proofs.Sound.{extent-sound}
use Rattle.st_lookups.proofs.Walked.{TookRows}
use Rattle.st_lookups.proofs.holders.having_exact.Goals as goal

pub returns-in_default-clause-finds : goal.returns-in_default-clause-finds
returns-in_default-clause-finds g c = λ array s agrees same stands.
    let old = c.args.entities in
    let test : EntityId → _ = λ e. same_value (value_among (position (λ a. a.number == c.args.number) (filter is_cell (attributes_in s.schema c.args.ty))) (entity_row s e).cells) c.args.value.now in
    finds-nothing (g.P.Pages.asked c.args.pages.now c.args.pages.now) (g.P.Pages.attempt c.args.pages.now) array (g.met.P.Pages.asked_nothing c.args.pages.now) (λ (more : List EntityId). more ≡ old ++ filter test (filter (λ e. e.ty == c.args.ty) s.live)) (store Extent c.args.ty ∷ []) old
    (sym (ap (λ (l : List EntityId). old ++ filter test l) (none-of s c.args.ty stands.legal (names-most s.schema c.args.schema.now c.args.ty same (c.extent_of.ensures.none c.in_default.is))) ∙ append-nil old))

Told : Celled → Celled → List (List ℕ) → Type 0
Told before after rows = (after.schema.now ≡ before.schema.now) × (after.ty ≡ before.ty) × (after.index ≡ before.index) × (after.value.now ≡ before.value.now)
    × ((read : List Cells) × AreCells before.schema.now before.ty rows read × (after.entities ≡ before.entities ++ entities_having before.ty before.index before.value.now read))

pub returns-in-Ok-clause-finds : goal.returns-in-Ok-clause-finds
unfolding Told
returns-in-Ok-clause-finds g c =
    let laws : RowLaws = record {
      key_width = c.laws_of_keys.ensures.width;
      key_order = c.laws_of_keys.ensures.order;
      width = c.laws_of_rows.ensures.width;
      pair_width = c.laws_of_rows.ensures.pair_width;
      pairs = c.laws_of_rows.ensures.pairs;
      serials = c.laws_of_rows.ensures.serials;
    } in
    let A = g.P.Pages.attempt c.args.pages.now in
    let B = g.P.Pages.attempt c.walk.new.pages in
    let asked = g.P.Pages.asked c.args.pages.now c.walk.new.pages in
    let ty = c.args.ty in
    let v = c.args.value.now in
    let schema = c.args.schema.now in
    let place = c.in-Some.place in
    let is = c.in-Some.ensures.laid.store_is in
    let key : List ℕ = c.serial_key.result in
    let begun : Celled = record { schema = c.args.schema; ty = ty; index = c.cell_index-index.result; value = c.args.value; entities = c.args.entities } in
    let T : List (List ℕ) → Type 0 = TookRows Told begun c.walk.new.visit in
    λ array s agrees same stands.
    let found = of-extent g.S.Store.holds A B schema c.args.places.now ty place (λ array rows. All (IsSoundRow schema ty) rows → Finds {A = Unit {0}} asked A B array (λ _. T (taken_from (λ row. true) (rows_from place.key key rows))) (place.store ∷ []) (Ok c.in-Ok.field-0)) c.ranges.ty.fits
    c.in-Some.ensures.value is c.in-Ok.ensures.finds array s agrees same stands
    (subst (λ (o : Outline). All (IsSoundRow o ty) (extent_rows s ty)) same (extent-sound s stands.legal stands.program ty)) in
    let told = found.answers begun [] (refl, refl, refl, refl, ([], record { rows_are = refl; held = All-nil (λ (r : Cells). AreHeld (row_fields schema ty) (Int (pos r.serial) ∷ r.cells)) }, sym (append-nil begun.entities))) in
    record {
      answers = told.4.2 ∙ ap (λ (l : List EntityId). c.args.entities ++ l)
          (exactly-having laws c.laws_of_rows.ensures.one_spelling s stands.legal stands.program ty schema same place.key key c.in-Some.ensures.laid.key c.serial_key.ensures c.args.number c.cell_index-index.result c.cell_index-index.ensures v told.4.0 told.4.1);
      sound = tt;
      touches = subst (λ (l : List ℕ). Touches asked A B array l false 0 0) (ap (λ (n : ℕ). n ∷ []) is) found.touches;
    }

pub returns-in-Err-clause-finds : goal.returns-in-Err-clause-finds
unfolding Told
returns-in-Err-clause-finds g c =
    let A = g.P.Pages.attempt c.args.pages.now in
    let B = g.P.Pages.attempt c.walk.new.pages in
    let asked = g.P.Pages.asked c.args.pages.now c.walk.new.pages in
    let ty = c.args.ty in
    let schema = c.args.schema.now in
    let place = c.in-Some.place in
    let is = c.in-Some.ensures.laid.store_is in
    let key : List ℕ = c.serial_key.result in
    let begun : Celled = record { schema = c.args.schema; ty = ty; index = c.cell_index-index.result; value = c.args.value; entities = c.args.entities } in
    let T : List (List ℕ) → Type 0 = TookRows Told begun c.walk.new.visit in
    λ array s agrees same stands.
    let found = of-extent g.S.Store.holds A B schema c.args.places.now ty place (λ array rows. All (IsSoundRow schema ty) rows → Finds {A = Unit {0}} asked A B array (λ _. T (taken_from (λ row. true) (rows_from place.key key rows))) (place.store ∷ []) (Err c.in-Err.fault)) c.ranges.ty.fits
    c.in-Some.ensures.value is c.in-Err.ensures.finds array s agrees same stands
    (subst (λ (o : Outline). All (IsSoundRow o ty) (extent_rows s ty)) same (extent-sound s stands.legal stands.program ty)) in
    record {
      answers = tt;
      sound = found.sound;
      touches = subst (λ (l : List ℕ). Touches asked A B array l false 0 0) (ap (λ (n : ℕ). n ∷ []) is) found.touches;
    }
