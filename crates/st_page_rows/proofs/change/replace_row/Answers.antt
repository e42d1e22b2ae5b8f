use Rattle.std.proofs.Common.{◌+◌, ◌++◌, ◌∷◌, take, drop}
use Rattle.st_image.specs.Fields.{rows_of}
use Rattle.st_image.proofs.Sides.{are-bytes}
use Rattle.st_page_rows.proofs.Changed.{replace-done, replace-same}
use Rattle.st_page_rows.proofs.Reworked.{Done}
use Rattle.st_page_rows.proofs.change.replace_row.Goals as goal

pub returns : goal.returns
returns c =
    let done : Done c.args.width c.args.page.now c.write.new.self (take c.args.index (rows_of c.args.width c.args.page.now) ++ c.args.row.now ∷ drop (c.args.index + 1) (rows_of c.args.width c.args.page.now)) =
    replace-done c.args.width c.args.index c.args.page.now c.args.row.now c.write.new.self c.requires.laid c.requires.within c.requires.wide (are-bytes c.args.row.now c.type_inv.row) c.write.ensures in
    record {
      laid = done.laid;
      head = done.head;
      rows = done.lists;
      same = replace-same c.args.width c.args.index c.args.page.now c.args.row.now c.write.new.self c.requires.laid c.requires.within c.write.ensures;
    }
