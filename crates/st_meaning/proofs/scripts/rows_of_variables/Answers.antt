use Rattle.std.proofs.Common.{refl}
use Rattle.std.specs.Fmt.{digits}
use Rattle.st_query.specs.Ways.{way}
use Rattle.st_meaning.specs.Terms.{term_meaning}
use Rattle.st_meaning.specs.Checks.{term_refused}
use Rattle.st_meaning.specs.Rules.{refusal}
use Rattle.st_meaning.specs.Runs.{runs, runs_statement}
use Rattle.st_meaning.specs.Lines.{client_lines}
use Rattle.st_meaning.proofs.scripts.rows_of_variables.Goals as goal

pub returns-clause-hidden : goal.returns-clause-hidden
unfolding client_lines runs runs_statement refusal term_refused term_meaning way digits
returns-clause-hidden c = refl

pub returns-clause-hidden_dead : goal.returns-clause-hidden_dead
unfolding client_lines runs runs_statement refusal term_refused term_meaning way digits
returns-clause-hidden_dead c = refl

pub returns-clause-null_under_a_path : goal.returns-clause-null_under_a_path
unfolding client_lines runs runs_statement refusal term_refused term_meaning way digits
returns-clause-null_under_a_path c = refl

pub returns-clause-not_live_in_a_condition : goal.returns-clause-not_live_in_a_condition
unfolding client_lines runs runs_statement refusal term_refused term_meaning way digits
returns-clause-not_live_in_a_condition c = refl
