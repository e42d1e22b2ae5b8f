use Rattle.std.proofs.Common.{rules}
use Rattle.std.proofs.lemmas.List.Sorted.{IsPartitionPoint-from_clause}
use Rattle.st_state.specs.State.{is_at}
use Rattle.st_triples.proofs.Parts.{place-from}
use Rattle.st_triples.proofs.search.count_at.Goals as goal

pub returns : goal.returns
returns c =
    place-from (is_at c.args.attribute c.args.entity) c.args.triples.now _ c.partition_point.ensures.bound
    (IsPartitionPoint-from_clause (is_at c.args.attribute c.args.entity) _ _ c.partition_point.ensures.partitioned c.requires (λ a r f' k. search rules))
