use Rattle.std.proofs.Common.{nat_lt, rules}
use Rattle.std.proofs.lemmas.List.Sorted.{IsPartitionPoint-from_clause}
use Rattle.st_triples.proofs.Parts.{place-from}
use Rattle.st_triples.proofs.Flat.{below-parted}
use Rattle.st_triples.proofs.column.place_of.Goals as goal

pub returns : goal.returns
returns c =
    place-from (λ x. nat_lt x.attribute c.args.attribute) c.args.columns.now _ c.partition_point.ensures.bound
    (IsPartitionPoint-from_clause (λ x. nat_lt x.attribute c.args.attribute) _ _ c.partition_point.ensures.partitioned (below-parted c.args.attribute c.args.columns.now c.requires) (λ a r f' k. search rules))
