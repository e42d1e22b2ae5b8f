use Rattle.std.proofs.Common.{rules}
use Rattle.std.specs.Prelude.{nat_lt}
use Rattle.std.proofs.lemmas.List.Sorted.{IsPartitionPoint-from_clause}
use Rattle.st_pages.proofs.Searched.{parted, below-up-to}
use Rattle.st_pages.proofs.images.place_of.Goals as goal

pub returns-clause-front : goal.returns-clause-front
returns-clause-front c =
    below-up-to (λ e. e.page) c.args.page c.args.slots.now _ c.partition_point.ensures.bound
    (IsPartitionPoint-from_clause (λ e. nat_lt e.page c.args.page) _ _ c.partition_point.ensures.partitioned (parted (λ e. e.page) c.args.page c.args.slots.now c.requires) (λ a r f' k. search rules))
