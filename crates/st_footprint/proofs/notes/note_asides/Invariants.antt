use Rattle.std.proofs.Common.{◌≡◌, take}
use Rattle.std.specs.Prelude.{filter, flat_map}
use Rattle.st_lattice.specs.Lattice.{isa}
use Rattle.st_lattice.specs.Stores.{aside}
use Rattle.st_footprint.specs.Noted.{noted}
use Rattle.st_footprint.proofs.notes.note_asides.Given as goal

abbrev pub invariant-loop-attribute : goal.invariant-loop-attribute
invariant-loop-attribute l = l.into ≡ noted (flat_map aside (filter (λ a. isa l.schema l.ty a.owner) (take l.attribute-index l.attribute-items))) l.initial.into
