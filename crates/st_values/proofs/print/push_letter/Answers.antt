use Rattle.std.proofs.Common.{arith}
use Rattle.st_values.proofs.Escapes.{flat_map-other}
use Rattle.st_values.proofs.print.push_letter.Goals as goal

pub returns-in_default-clause-ok : goal.returns-in_default-clause-ok
returns-in_default-clause-ok c =
    rw (flat_map-other c.args.letter (omega arith) (omega arith) (omega arith)) c.push.ensures.ok
