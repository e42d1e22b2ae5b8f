use Rattle.std.proofs.Common.{◌+◌, ◌++◌, take, drop}
use Rattle.st_image.specs.Fields.{rows_of}
use Rattle.st_page_rows.proofs.Changed.{remove-done}
use Rattle.st_page_rows.proofs.Reworked.{Done}
use Rattle.st_page_rows.proofs.change.remove_row.Goals as goal

pub returns : goal.returns
returns c =
    let done : Done c.args.width c.args.page.now c.set_count.new.self (take c.args.index (rows_of c.args.width c.args.page.now) ++ drop (c.args.index + 1) (rows_of c.args.width c.args.page.now)) =
    remove-done c.args.width c.args.index c.count-count.result c.args.page.now c.shift.new.self c.clear.new.self c.set_count.new.self c.requires.laid c.requires.within
    c.count-count.ensures c.shift.ensures c.clear.ensures c.set_count.ensures in
    record { laid = done.laid; head = done.head; rows = done.lists }
