use Rattle.st_lookups.proofs.Membered.{none-refused}
use Rattle.st_lookups.proofs.sets.member_in.Goals as goal

pub returns-in-Err-clause-refused : goal.returns-in-Err-clause-refused
returns-in-Err-clause-refused c = none-refused c.laws_of_rows.ensures.refused c.args.schema.now c.args.attribute.now c.args.row.now c.in-Err.fault c.in-Err.ensures.cause
