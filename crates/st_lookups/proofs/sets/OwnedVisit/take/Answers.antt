use Rattle.std.proofs.Common.{◌≡◌, ◌++◌, ◌∷◌, [], if◌then◌else◌, List, ℕ, ◌∙◌}
use Rattle.st_values.specs.Order.{same_entity}
use Rattle.st_state.specs.State.{Pair}
use Rattle.st_lookups.specs.Looks.{AreMembers, values_with}
use Rattle.st_lookups.specs.declared.sets.Owned.{Owned}
use Rattle.st_lookups.proofs.Membered.{on-ok, told-more}
use Rattle.st_lookups.proofs.sets.OwnedVisit.take.Goals as goal

pub returns-in-Ok-clause-told : goal.returns-in-Ok-clause-told
returns-in-Ok-clause-told c =
    let old = c.args.self.now in
    let new = c.keep.new.self in
    let v = c.in-Ok.value in
    let e = c.in-Ok.entity in
    let row = c.args.row.now in
    on-ok (new.values ≡ old.values ++ (if same_entity e old.entity then v ∷ [] else []))
    ((before : Owned) (rows : List (List ℕ)) → (old.attribute.now ≡ before.attribute.now) × (old.entity ≡ before.entity) × ((pairs : List Pair) × AreMembers before.attribute.now.kind rows pairs × (old.values ≡ before.values ++ values_with before.entity pairs))
    → (new.attribute.now ≡ before.attribute.now) × (new.entity ≡ before.entity) × ((pairs : List Pair) × AreMembers before.attribute.now.kind (rows ++ row ∷ []) pairs × (new.values ≡ before.values ++ values_with before.entity pairs)))
    c.keep.result
    (λ kept before rows told.
    let same : new.attribute.now ≡ old.attribute.now = λ i. (c.keep.ensures.attribute i).now in (
      same ∙ told.0,
      c.keep.ensures.entity ∙ told.1,
      told-more before.attribute.now old.attribute.now before.entity old.entity before.values old.values new.values rows v e row told.0 told.1 told.2 c.in-Ok.ensures.value c.in-Ok.ensures.entity c.in-Ok.ensures.row kept,
    ))
    c.keep.ensures.values
