use Rattle.std.proofs.Common.{refl}
use Rattle.std.specs.Fmt.{digits}
use Rattle.st_query.specs.Ways.{way}
use Rattle.st_meaning.specs.Terms.{term_meaning}
use Rattle.st_meaning.specs.Checks.{term_refused}
use Rattle.st_meaning.specs.Rules.{refusal}
use Rattle.st_meaning.specs.Runs.{runs, runs_statement}
use Rattle.st_meaning.specs.Lines.{client_lines}
use Rattle.st_meaning.proofs.scripts.rows_of_texts.Goals as goal

pub returns-clause-longest : goal.returns-clause-longest
unfolding client_lines runs runs_statement refusal term_refused term_meaning way digits
returns-clause-longest c = refl

pub returns-clause-too_long : goal.returns-clause-too_long
unfolding client_lines runs runs_statement refusal term_refused term_meaning way digits
returns-clause-too_long c = refl

pub returns-clause-long_condition : goal.returns-clause-long_condition
unfolding client_lines runs runs_statement refusal term_refused term_meaning way digits
returns-clause-long_condition c = refl

pub returns-clause-long_before_null : goal.returns-clause-long_before_null
unfolding client_lines runs runs_statement refusal term_refused term_meaning way digits
returns-clause-long_before_null c = refl
