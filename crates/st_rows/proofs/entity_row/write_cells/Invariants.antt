use Rattle.std.proofs.Common.{drop}
use Rattle.st_rows.specs.Rows.{cell_fields, row}
use Rattle.st_rows.specs.Cells.{cells_from}
use Rattle.st_rows.proofs.Writing.{Writes}
use Rattle.st_rows.proofs.entity_row.write_cells.Given as goal

abbrev pub invariant-loop-position : goal.invariant-loop-position
invariant-loop-position l =
    Writes (cells_from l.schema l.ty l.position) (drop l.index l.cells) l.place l.into (row (cell_fields l.schema l.ty) l.cells)
