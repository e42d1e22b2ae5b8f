use Rattle.std.proofs.Common.{refl}
use Rattle.std.specs.Fmt.{digits}
use Rattle.st_query.specs.Ways.{way}
use Rattle.st_meaning.specs.Terms.{term_meaning}
use Rattle.st_meaning.specs.Checks.{term_refused}
use Rattle.st_meaning.specs.Rules.{refusal}
use Rattle.st_meaning.specs.Runs.{runs, runs_statement}
use Rattle.st_meaning.specs.Lines.{client_lines}
use Rattle.st_meaning.proofs.scripts.rows_of_names.Goals as goal

pub returns-clause-ty : goal.returns-clause-ty
unfolding client_lines runs runs_statement refusal term_refused term_meaning way digits
returns-clause-ty c = refl

pub returns-clause-attribute : goal.returns-clause-attribute
unfolding client_lines runs runs_statement refusal term_refused term_meaning way digits
returns-clause-attribute c = refl

pub returns-clause-variable : goal.returns-clause-variable
unfolding client_lines runs runs_statement refusal term_refused term_meaning way digits
returns-clause-variable c = refl

pub returns-clause-inherited : goal.returns-clause-inherited
unfolding client_lines runs runs_statement refusal term_refused term_meaning way digits
returns-clause-inherited c = refl

pub returns-clause-literal : goal.returns-clause-literal
unfolding client_lines runs runs_statement refusal term_refused term_meaning way digits
returns-clause-literal c = refl

pub returns-clause-inverse_as_a_cell : goal.returns-clause-inverse_as_a_cell
unfolding client_lines runs runs_statement refusal term_refused term_meaning way digits
returns-clause-inverse_as_a_cell c = refl

pub returns-clause-own_cells : goal.returns-clause-own_cells
unfolding client_lines runs runs_statement refusal term_refused term_meaning way digits
returns-clause-own_cells c = refl
