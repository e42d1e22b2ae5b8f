use Rattle.std.proofs.Common.{◌≡◌, length}
use Rattle.st_statements.specs.Reading.{read_behind, at_most}
use Rattle.st_statements.specs.Queries.{condition_at}
use Rattle.st_statements.specs.Queries.{max_conditions, limited}
use Rattle.st_statements.proofs.part.conditions_in.Given as goal

abbrev pub invariant-loop-form : goal.invariant-loop-form
invariant-loop-form l = read_behind (at_most max_conditions condition_at) l.conditions l.forms ≡ limited max_conditions condition_at l.fn.forms

abbrev pub decreases-loop-form : goal.decreases-loop-form
decreases-loop-form l = length l.forms
