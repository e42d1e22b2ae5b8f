use Rattle.std.proofs.Common.{subst}
use Rattle.st_rows.specs.declared.fault.RowFault.{RowFault}
use Rattle.st_index.specs.Bad.{IsPairCause}
use Rattle.st_index.proofs.Named.{good-row}
use Rattle.st_index.proofs.reading.entity_with.Goals as goal

pub returns-in-Err-BadRow-clause-sound : goal.returns-in-Err-BadRow-clause-sound
returns-in-Err-BadRow-clause-sound c =
    let schema = c.args.schema.now in
    let a = c.args.attribute.now in
    let row = c.args.row.now in
    good-row schema a c.laws_of_rows.ensures.one_spelling c.laws_of_rows.ensures.refused row c.in-Err-BadRow.place
    (subst (λ (f : RowFault). IsPairCause schema a row f) c.in-Err-BadRow.field-0-is c.in-Err-BadRow.ensures.cause)
