use Rattle.std.proofs.Common.{◌≡◌, ◌++◌, ◌∷◌, [], if◌then◌else◌, List, ℕ, ◌∙◌}
use Rattle.st_values.specs.Order.{same_value}
use Rattle.st_state.specs.State.{Pair}
use Rattle.st_index.specs.Turned.{entities_with}
use Rattle.st_lookups.specs.Looks.{AreMembers}
use Rattle.st_lookups.specs.declared.holders.Having.{Having}
use Rattle.st_lookups.proofs.Membered.{on-ok, having-more}
use Rattle.st_lookups.proofs.holders.HavingVisit.take.Goals as goal

pub returns-in-Ok-clause-told : goal.returns-in-Ok-clause-told
returns-in-Ok-clause-told c =
    let old = c.args.self.now in
    let new = c.keep.new.self in
    let v = c.in-Ok.value in
    let e = c.in-Ok.entity in
    let row = c.args.row.now in
    on-ok (new.entities ≡ old.entities ++ (if same_value v old.value.now then e ∷ [] else []))
    ((before : Having) (rows : List (List ℕ)) → (old.attribute.now ≡ before.attribute.now) × (old.value.now ≡ before.value.now) × ((pairs : List Pair) × AreMembers before.attribute.now.kind rows pairs × (old.entities ≡ before.entities ++ entities_with before.value.now pairs))
    → (new.attribute.now ≡ before.attribute.now) × (new.value.now ≡ before.value.now) × ((pairs : List Pair) × AreMembers before.attribute.now.kind (rows ++ row ∷ []) pairs × (new.entities ≡ before.entities ++ entities_with before.value.now pairs)))
    c.keep.result
    (λ kept before rows told.
    let same : new.attribute.now ≡ old.attribute.now = λ i. (c.keep.ensures.attribute i).now in
    let here : new.value.now ≡ old.value.now = λ i. (c.keep.ensures.value i).now in (
      same ∙ told.0,
      here ∙ told.1,
      having-more before.attribute.now old.attribute.now before.value.now old.value.now before.entities old.entities new.entities rows v e row told.0 told.1 told.2 c.in-Ok.ensures.value c.in-Ok.ensures.entity c.in-Ok.ensures.row kept,
    ))
    c.keep.ensures.entities
