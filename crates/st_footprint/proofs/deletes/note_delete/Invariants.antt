use Rattle.std.proofs.Common.{◌≡◌, take}
use Rattle.std.specs.Prelude.{flat_map}
use Rattle.st_lattice.specs.Stores.{deleted}
use Rattle.st_footprint.specs.Noted.{noted}
use Rattle.st_footprint.proofs.deletes.note_delete.Given as goal

abbrev pub invariant-loop-ty : goal.invariant-loop-ty
invariant-loop-ty l = l.into ≡ noted (flat_map (deleted l.schema) (take l.ty-index l.ty-items)) l.initial.into
