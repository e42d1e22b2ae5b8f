use Rattle.std.proofs.Common.{◌≡◌, take}
use Rattle.std.specs.Prelude.{flat_map}
use Rattle.st_lattice.specs.Features.{named}
use Rattle.st_lattice.proofs.table.features_of.Given as goal

abbrev pub invariant-loop-attribute : goal.invariant-loop-attribute
invariant-loop-attribute l = l.features ≡ flat_map named (take l.attribute-index l.attributes)
