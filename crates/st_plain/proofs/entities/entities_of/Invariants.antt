use Rattle.std.proofs.Common.{◌≡◌, take}
use Rattle.std.specs.Prelude.{filter}
use Rattle.st_lattice.specs.Lattice.{isa}
use Rattle.st_plain.proofs.entities.entities_of.Given as goal

abbrev pub invariant-loop-entity : goal.invariant-loop-entity
invariant-loop-entity l = l.found ≡ filter (λ e. isa l.schema e.ty l.ty) (take l.entity-index l.entities)
