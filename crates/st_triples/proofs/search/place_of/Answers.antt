use Rattle.std.proofs.Common.{rules}
use Rattle.std.proofs.lemmas.List.Sorted.{IsPartitionPoint-from_clause}
use Rattle.st_state.specs.State.{triple_before}
use Rattle.st_triples.specs.Marked.{triple_of}
use Rattle.st_triples.proofs.Parts.{place-from}
use Rattle.st_triples.proofs.Runs.{before-parted}
use Rattle.st_triples.proofs.search.place_of.Goals as goal

pub returns : goal.returns
returns c =
    let t = triple_of c.args.attribute c.args.entity c.args.value.now in
    place-from (λ u. triple_before u t) c.args.triples.now _ c.partition_point.ensures.bound
    (IsPartitionPoint-from_clause (λ u. triple_before u t) _ _ c.partition_point.ensures.partitioned (before-parted t c.args.triples.now c.requires) (λ a r f' k. search rules))
