use Rattle.std.proofs.Common.{◌∙◌, sym}
use Rattle.st_running.proofs.Checks.{text-own-alone}
use Rattle.st_running.proofs.check.text_refusal.Goals as goal

pub returns-clause-own : goal.returns-clause-own
returns-clause-own c = text-own-alone c.args.schema.now c.args.variables.now c.args.statement.now c.text_refused.result (sym c.is_abort.ensures ∙ c.if-is_abort.false) c.text_refused.ensures
