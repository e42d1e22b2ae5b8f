use Rattle.std.proofs.Common.{length}
use Rattle.st_image.specs.Bytes.{number}
use Rattle.st_image.proofs.RowChecks.{row-child, row-key-wrong, row-plain, row-tail-wrong}
use Rattle.st_image.proofs.Sides.{are-bytes}
use Rattle.st_image.proofs.rows.row_fault.Goals as goal

pub returns-in-Some : goal.returns-in-Some
returns-in-Some c =
    row-key-wrong c.args.child (length c.args.low.now) (number c.args.low.now) (number c.args.high.now) c.args.row.now c.in-Some.place c.requires.low c.in-Some.ensures

pub returns-in-Some-outside_32 : goal.returns-in-Some-outside_32
returns-in-Some-outside_32 c =
    row-tail-wrong c.args.child (length c.args.low.now) (number c.args.low.now) (number c.args.high.now) c.args.row.now c.in-Some-outside_32.place c.if-child.true (c.requires.child c.if-child.true) c.in_default.ensures c.in-Some-outside_32.ensures

pub returns-in_default-outside_32 : goal.returns-in_default-outside_32
returns-in_default-outside_32 c =
    row-child c.args.child (length c.args.low.now) (number c.args.low.now) (number c.args.high.now) c.args.row.now c.if-child.true (c.requires.child c.if-child.true) c.in_default.ensures c.in_default-outside_32.ensures

pub returns-else-child : goal.returns-else-child
returns-else-child c =
    row-plain c.args.child (length c.args.low.now) (number c.args.low.now) (number c.args.high.now) c.args.row.now c.if-child.false c.requires.low (are-bytes c.args.row.now c.type_inv.row) c.in_default.ensures
