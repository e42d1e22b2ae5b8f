use Rattle.std.proofs.Common.{refl}
use Rattle.std.specs.Fmt.{digits}
use Rattle.st_query.specs.Ways.{way}
use Rattle.st_meaning.specs.Terms.{term_meaning}
use Rattle.st_meaning.specs.Checks.{term_refused}
use Rattle.st_meaning.specs.Rules.{refusal}
use Rattle.st_meaning.specs.Runs.{runs, runs_statement}
use Rattle.st_meaning.specs.Lines.{client_lines}
use Rattle.st_meaning.proofs.scripts.rows_of_uniques.Goals as goal

pub returns-clause-taken : goal.returns-clause-taken
unfolding client_lines runs runs_statement refusal term_refused term_meaning way digits
returns-clause-taken c = refl

pub returns-clause-made_taken : goal.returns-clause-made_taken
unfolding client_lines runs runs_statement refusal term_refused term_meaning way digits
returns-clause-made_taken c = refl

pub returns-clause-nulls_are_not_held : goal.returns-clause-nulls_are_not_held
unfolding client_lines runs runs_statement refusal term_refused term_meaning way digits
returns-clause-nulls_are_not_held c = refl
