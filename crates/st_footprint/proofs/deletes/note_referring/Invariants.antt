use Rattle.std.proofs.Common.{◌≡◌, take}
use Rattle.std.specs.Prelude.{filter, flat_map}
use Rattle.st_lattice.specs.Stores.{whole, may_refer}
use Rattle.st_footprint.specs.Noted.{noted}
use Rattle.st_footprint.proofs.deletes.note_referring.Given as goal

abbrev pub invariant-loop-attribute : goal.invariant-loop-attribute
invariant-loop-attribute l = l.into ≡ noted (flat_map (whole l.schema) (filter (may_refer l.schema l.ty) (take l.attribute-index l.attribute-items))) l.initial.into
