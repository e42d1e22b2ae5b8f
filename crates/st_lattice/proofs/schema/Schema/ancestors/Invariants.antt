use Rattle.std.proofs.Common.{◌≡◌}
use Rattle.std.specs.Prelude.{filter}
use Rattle.st_lattice.specs.Lattice.{isa, below}
use Rattle.st_lattice.proofs.schema.Schema.ancestors.Given as goal

abbrev pub invariant-loop-ancestor : goal.invariant-loop-ancestor
invariant-loop-ancestor l = l.numbers ≡ filter (isa l.self l.ty) (below l.ancestor)
