use Rattle.std.proofs.Common.{◌≡◌}
use Rattle.std.specs.Prelude.{filter}
use Rattle.st_lattice.specs.Lattice.{isa, below}
use Rattle.st_lattice.proofs.schema.Schema.descendants.Given as goal

abbrev pub invariant-loop-other : goal.invariant-loop-other
invariant-loop-other l = l.numbers ≡ filter (λ t. isa l.self t l.ty) (below l.other)
