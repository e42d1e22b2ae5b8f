use Rattle.st_schema.specs.Checks.{written_fault}
use Rattle.st_schema.proofs.Firsts.{no_refusal}
use Rattle.st_schema.proofs.Orderly.{resolved_orderly}
use Rattle.st_schema.proofs.read.numbered.Goals as goal

pub resolved-requires-clause-orderly : goal.resolved-requires-clause-orderly
resolved-requires-clause-orderly c =
    resolved_orderly c.args.written.now
    (no_refusal (written_fault c.args.written.now.types) (rw c.as_slice-types.ensures at c.in_ok-check_written.ensures))
