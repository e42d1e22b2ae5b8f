use Rattle.std.proofs.Common.{◌≡◌, ◌≤◌, ℕ, List, length, drop}
use Rattle.st_lattice.specs.Features.{first_called}
use Rattle.st_lattice.specs.Made.{entry}
use Rattle.st_lattice.proofs.table.table_of.Given as goal

abbrev pub decreases-loop-index : goal.decreases-loop-index
decreases-loop-index l = l.index

abbrev pub invariant-loop-index : goal.invariant-loop-index
invariant-loop-index l = record {
  within : l.index ≤ length l.features;
  told : (name : List ℕ) → entry l.table name ≡ first_called l.names name (drop l.index l.features);
}
