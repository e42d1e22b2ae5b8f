use Rattle.std.proofs.Common.{◌≡◌, length}
use Rattle.st_statements.specs.Reading.{read_behind, at_most}
use Rattle.st_statements.specs.Terms.{term_at}
use Rattle.st_statements.specs.Queries.{max_shown, limited}
use Rattle.st_statements.proofs.part.shown_in.Given as goal

abbrev pub invariant-loop-form : goal.invariant-loop-form
invariant-loop-form l = read_behind (at_most max_shown term_at) l.terms l.forms ≡ limited max_shown term_at l.fn.forms

abbrev pub decreases-loop-form : goal.decreases-loop-form
decreases-loop-form l = length l.forms
