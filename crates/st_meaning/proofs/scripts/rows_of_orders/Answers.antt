use Rattle.std.proofs.Common.{refl}
use Rattle.std.specs.Fmt.{digits}
use Rattle.st_query.specs.Ways.{way}
use Rattle.st_meaning.specs.Terms.{term_meaning}
use Rattle.st_meaning.specs.Checks.{term_refused}
use Rattle.st_meaning.specs.Rules.{refusal}
use Rattle.st_meaning.specs.Runs.{runs, runs_statement}
use Rattle.st_meaning.specs.Lines.{client_lines}
use Rattle.st_meaning.proofs.scripts.rows_of_orders.Goals as goal

pub returns-clause-descending : goal.returns-clause-descending
unfolding client_lines runs runs_statement refusal term_refused term_meaning way digits
returns-clause-descending c = refl

pub returns-clause-null_first : goal.returns-clause-null_first
unfolding client_lines runs runs_statement refusal term_refused term_meaning way digits
returns-clause-null_first c = refl

pub returns-clause-ties : goal.returns-clause-ties
unfolding client_lines runs runs_statement refusal term_refused term_meaning way digits
returns-clause-ties c = refl

pub returns-clause-differs_from_null : goal.returns-clause-differs_from_null
unfolding client_lines runs runs_statement refusal term_refused term_meaning way digits
returns-clause-differs_from_null c = refl

pub returns-clause-members : goal.returns-clause-members
unfolding client_lines runs runs_statement refusal term_refused term_meaning way digits
returns-clause-members c = refl
