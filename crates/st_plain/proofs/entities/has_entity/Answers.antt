use Rattle.std.proofs.Common.{not, sym, ap, ◌∙◌}
use Rattle.std.specs.Prelude.{slice_get}
use Rattle.std.proofs.lemmas.List.Folds.{find_at}
use Rattle.st_values.specs.Order.{entity_before, same_entity}
use Rattle.st_values.proofs.Entities.{same_entity-is, same_entity-itself, entity_before-strict}
use Rattle.st_plain.proofs.Ordered.{found, is_found}
use Rattle.st_plain.proofs.entities.has_entity.Goals as goal

pub returns-in-Some : goal.returns-in-Some
returns-in-Some c =
    let e = c.args.entity in
    let xs = c.args.entities.now in
    c.is_same_entity.ensures
    ∙ ap (is_found entity_before entity_before-strict same_entity same_entity-is same_entity-itself e) (sym c.in-Some.is ∙ c.at.ensures ∙ ap (slice_get xs) c.place_of.ensures.value ∙ sym (find_at (λ y. not (entity_before y e)) xs))
    ∙ sym (found entity_before entity_before-strict same_entity same_entity-is same_entity-itself e xs c.requires)

pub returns-in-None : goal.returns-in-None
returns-in-None c =
    let e = c.args.entity in
    let xs = c.args.entities.now in
    ap (is_found entity_before entity_before-strict same_entity same_entity-is same_entity-itself e) (sym c.in-None.is ∙ c.at.ensures ∙ ap (slice_get xs) c.place_of.ensures.value ∙ sym (find_at (λ y. not (entity_before y e)) xs))
    ∙ sym (found entity_before entity_before-strict same_entity same_entity-is same_entity-itself e xs c.requires)
