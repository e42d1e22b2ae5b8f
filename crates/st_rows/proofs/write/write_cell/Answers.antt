use Rattle.st_rows.proofs.Cells.{cell-written}
use Rattle.st_rows.proofs.write.write_cell.Goals as goal

pub returns-in_default : goal.returns-in_default
returns-in_default c = cell-written c.args.kind c.args.value.now c.args.into.now c.write_key.new.into c.in_default.not-Null c.requires.width c.write_key.ensures
