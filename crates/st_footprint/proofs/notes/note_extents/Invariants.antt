use Rattle.std.proofs.Common.{◌≡◌, take, map}
use Rattle.st_lattice.specs.declared.stores.StoreKind.TheVariants.{Extent}
use Rattle.st_lattice.specs.Stores.{store}
use Rattle.st_footprint.specs.Noted.{noted}
use Rattle.st_footprint.proofs.notes.note_extents.Given as goal

abbrev pub invariant-loop-other : goal.invariant-loop-other
invariant-loop-other l = l.into ≡ noted (map (store Extent) (take l.other-index l.other-items)) l.initial.into
