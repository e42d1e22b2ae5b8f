use Rattle.std.proofs.Common.{◌++◌, ◌∷◌, take, drop}
use Rattle.st_image.specs.Fields.{rows_of}
use Rattle.st_image.proofs.Sides.{are-bytes}
use Rattle.st_page_rows.proofs.Changed.{insert-done}
use Rattle.st_page_rows.proofs.Reworked.{Done}
use Rattle.st_page_rows.proofs.change.insert_row.Goals as goal

pub returns : goal.returns
returns c =
    let done : Done c.args.width c.args.page.now c.set_count.new.self (take c.args.index (rows_of c.args.width c.args.page.now) ++ c.args.row.now ∷ drop c.args.index (rows_of c.args.width c.args.page.now)) =
    insert-done c.args.width c.args.index c.count-count.result c.args.page.now c.args.row.now c.shift.new.self c.write.new.self c.set_count.new.self c.requires.laid c.requires.within c.requires.wide c.requires.room
    (are-bytes c.args.row.now c.type_inv.row) c.count-count.ensures c.shift.ensures c.write.ensures c.set_count.ensures in
    record { laid = done.laid; head = done.head; rows = done.lists }
