use Rattle.std.proofs.Common.{◌≡◌, length}
use Rattle.st_statements.specs.Reading.{read_behind}
use Rattle.st_reader.specs.Scripts.{transaction_at, script}
use Rattle.st_reader.proofs.script.script.Given as goal

abbrev pub invariant-loop-form : goal.invariant-loop-form
invariant-loop-form l = read_behind (λ before. transaction_at) l.transactions l.forms ≡ script l.fn.forms

abbrev pub decreases-loop-form : goal.decreases-loop-form
decreases-loop-form l = length l.forms
