use Rattle.std.proofs.Common.{subst, arith, ℕ, List, pos, take}
use Rattle.std.proofs.lemmas.List.{take_rest}
use Rattle.st_values.specs.declared.value.Value.TheVariants.{Int}
use Rattle.st_rows.specs.declared.field.Field.TheVariants.{Serial}
use Rattle.st_rows.specs.Rows.{cell_fields, IsTaken}
use Rattle.st_rows.specs.Causes.{IsRowCause}
use Rattle.st_rows.proofs.RowLaws.{cells-behind}
use Rattle.st_rows.proofs.Reading.{behind-fits, behind-first}
use Rattle.st_rows.proofs.entity_row.read_row.Goals as goal

pub read_cells-requires-clause-width : goal.read_cells-requires-clause-width
read_cells-requires-clause-width c = cells-behind c.args.schema.now c.args.ty c.args.bytes.now c.requires.width

pub moved-requires : goal.moved-requires
moved-requires c =
    let wide = cells-behind c.args.schema.now c.args.ty c.args.bytes.now c.requires.width in
    behind-fits _ _ 4 c.in-Err.fault c.in-Err.ensures.cause wide (omega arith) (omega arith)

pub returns-in-Err-clause-cause : goal.returns-in-Err-clause-cause
returns-in-Err-clause-cause c =
    let n = c.in_ok-serial.serial in
    let taken : IsTaken Serial (take 4 c.args.bytes.now) = (Int (pos n), c.in_ok-serial.ensures.held, c.in_ok-serial.ensures.bytes) in
    let cause = subst (λ (bytes : List ℕ). IsRowCause (cell_fields c.args.schema.now c.args.ty) bytes c.in-Err.fault) (take_rest c.args.bytes.now 4) c.in-Err.ensures.cause in
    rw c.moved.ensures (behind-first Serial _ _ c.in-Err.fault taken cause)
