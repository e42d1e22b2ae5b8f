use Rattle.std.proofs.Common.{◌≡◌, take}
use Rattle.std.specs.Prelude.{flat_map}
use Rattle.st_lattice.specs.Lattice.{attribute_of}
use Rattle.st_query.specs.Footprint.{cell_stores}
use Rattle.st_footprint.specs.Noted.{noted}
use Rattle.st_footprint.proofs.effects.note_cells_of.Given as goal

abbrev pub invariant-loop-cell : goal.invariant-loop-cell
invariant-loop-cell l = l.into ≡ noted (flat_map (λ c. cell_stores l.schema (attribute_of l.schema l.ty c.name)) (take l.cell-index l.cells)) l.initial.into
