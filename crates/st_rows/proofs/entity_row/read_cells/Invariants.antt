use Rattle.st_rows.specs.Rows.{cell_fields}
use Rattle.st_rows.specs.Cells.{cells_from}
use Rattle.st_rows.proofs.Reading.{Reads}
use Rattle.st_rows.proofs.entity_row.read_cells.Given as goal

abbrev pub invariant-loop-position : goal.invariant-loop-position
invariant-loop-position l = Reads (cell_fields l.schema l.ty) (cells_from l.schema l.ty l.position) l.bytes l.place l.cells
