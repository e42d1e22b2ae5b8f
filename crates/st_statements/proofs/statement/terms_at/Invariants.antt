use Rattle.std.proofs.Common.{◌≡◌, length}
use Rattle.st_statements.specs.Reading.{read_behind}
use Rattle.st_statements.specs.Terms.{term_at}
use Rattle.st_statements.specs.Statements.{terms_at}
use Rattle.st_statements.proofs.statement.terms_at.Given as goal

abbrev pub invariant-loop-form : goal.invariant-loop-form
invariant-loop-form l = read_behind (λ before. term_at) l.terms l.forms ≡ terms_at l.fn.forms

abbrev pub decreases-loop-form : goal.decreases-loop-form
decreases-loop-form l = length l.forms
