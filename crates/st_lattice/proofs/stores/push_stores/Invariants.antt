use Rattle.std.proofs.Common.{◌≡◌, ◌++◌}
use Rattle.st_lattice.specs.Stores.{stores_below}
use Rattle.st_lattice.proofs.stores.push_stores.Given as goal

abbrev pub invariant-loop-number : goal.invariant-loop-number
invariant-loop-number l = l.into ≡ l.initial.into ++ stores_below l.schema l.kind l.number
