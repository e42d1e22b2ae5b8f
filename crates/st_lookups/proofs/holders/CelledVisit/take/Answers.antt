use Rattle.std.proofs.Common.{◌≡◌, ◌++◌, ◌∷◌, [], if◌then◌else◌, List, ℕ, ◌∙◌, ap}
use Rattle.st_values.specs.declared.value.Value.{Value}
use Rattle.st_values.specs.Order.{same_value}
use Rattle.st_lookups.specs.Looks.{AreCells, Cells, entities_having, value_among}
use Rattle.st_lookups.specs.declared.holders.Celled.{Celled}
use Rattle.st_lookups.proofs.Membered.{on-ok}
use Rattle.st_lookups.proofs.Holding.{cells-told}
use Rattle.st_lookups.proofs.holders.CelledVisit.take.Goals as goal

pub returns-in-Ok-clause-told : goal.returns-in-Ok-clause-told
returns-in-Ok-clause-told c =
    let old = c.args.self.now in
    let new = c.keep.new.self in
    let n = c.in-Ok.serial in
    let cells = c.in-Ok.cells in
    let row = c.args.row.now in
    on-ok (new.entities ≡ old.entities ++ (if same_value (value_among old.index c.as_slice.result.now) old.value.now then (record { ty = old.ty; serial = n }) ∷ [] else []))
    ((before : Celled) (rows : List (List ℕ)) → (old.schema.now ≡ before.schema.now) × (old.ty ≡ before.ty) × (old.index ≡ before.index) × (old.value.now ≡ before.value.now)
    × ((read : List Cells) × AreCells before.schema.now before.ty rows read × (old.entities ≡ before.entities ++ entities_having before.ty before.index before.value.now read))
    → (new.schema.now ≡ before.schema.now) × (new.ty ≡ before.ty) × (new.index ≡ before.index) × (new.value.now ≡ before.value.now)
    × ((read : List Cells) × AreCells before.schema.now before.ty (rows ++ row ∷ []) read × (new.entities ≡ before.entities ++ entities_having before.ty before.index before.value.now read)))
    c.keep.result
    (λ kept before rows told.
    let schema : new.schema.now ≡ old.schema.now = λ i. (c.keep.ensures.schema i).now in
    let value : new.value.now ≡ old.value.now = λ i. (c.keep.ensures.value i).now in (
      schema ∙ told.0,
      c.keep.ensures.ty ∙ told.1,
      c.keep.ensures.index ∙ told.2,
      value ∙ told.3,
      cells-told before.schema.now old.schema.now before.ty old.ty before.index old.index before.value.now old.value.now before.entities old.entities new.entities rows n cells row told.0 told.1 told.2 told.3 told.4
          c.in-Ok.ensures.held c.in-Ok.ensures.bytes
          (kept ∙ ap (λ (l : List Value). old.entities ++ (if same_value (value_among old.index l) old.value.now then (record { ty = old.ty; serial = n }) ∷ [] else [])) c.as_slice.ensures),
    ))
    c.keep.ensures.entities
