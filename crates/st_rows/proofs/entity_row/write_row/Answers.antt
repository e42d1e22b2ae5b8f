use Rattle.std.proofs.Common.{arith}
use Rattle.st_rows.proofs.RowLaws.{cells-behind}
use Rattle.st_rows.proofs.entity_row.write_row.Goals as goal

pub write_cells-requires-clause-width : goal.write_cells-requires-clause-width
write_cells-requires-clause-width c = cells-behind c.args.schema.now c.args.ty c.write_u32.new.buf (omega arith)
