use Rattle.std.proofs.Common.{rules}
use Rattle.std.proofs.lemmas.List.Sorted.{IsPartitionPoint-from_clause}
use Rattle.st_values.specs.Order.{entity_before}
use Rattle.st_values.proofs.Entities.{entity_before-strict}
use Rattle.st_plain.proofs.Ordered.{parted, place-found}
use Rattle.st_plain.proofs.entities.place_of.Goals as goal

pub returns-clause-value : goal.returns-clause-value
returns-clause-value c =
    let xs = c.args.entities.now in
    let e = c.args.entity in
    let point = IsPartitionPoint-from_clause (λ y. entity_before y e) _ _ c.partition_point.ensures.partitioned (parted entity_before entity_before-strict xs e c.requires) (λ a r q k. search rules) in
    place-found entity_before entity_before-strict xs e c.partition_point.result c.partition_point.ensures.bound point
