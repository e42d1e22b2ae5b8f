use Rattle.std.proofs.Common.{rules}
use Rattle.std.specs.Prelude.{nat_lt}
use Rattle.std.proofs.lemmas.List.Sorted.{IsPartitionPoint-from_clause}
use Rattle.st_pages.proofs.Searched.{parted, below-up-to}
use Rattle.st_pages.proofs.places.index_of.Goals as goal

pub returns-clause-front : goal.returns-clause-front
returns-clause-front c =
    below-up-to (λ p. p.store) c.args.store c.args.places.now _ c.partition_point.ensures.bound
    (IsPartitionPoint-from_clause (λ p. nat_lt p.store c.args.store) _ _ c.partition_point.ensures.partitioned (parted (λ p. p.store) c.args.store c.args.places.now c.requires) (λ a r f' k. search rules))
