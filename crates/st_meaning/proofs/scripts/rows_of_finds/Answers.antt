use Rattle.std.proofs.Common.{refl}
use Rattle.std.specs.Fmt.{digits}
use Rattle.st_query.specs.Ways.{way}
use Rattle.st_meaning.specs.Terms.{term_meaning}
use Rattle.st_meaning.specs.Checks.{term_refused}
use Rattle.st_meaning.specs.Rules.{refusal}
use Rattle.st_meaning.specs.Runs.{runs, runs_statement}
use Rattle.st_meaning.specs.Lines.{client_lines}
use Rattle.st_meaning.proofs.scripts.rows_of_finds.Goals as goal

pub returns-clause-found : goal.returns-clause-found
unfolding client_lines runs runs_statement refusal term_refused term_meaning way digits
returns-clause-found c = refl

pub returns-clause-descendants : goal.returns-clause-descendants
unfolding client_lines runs runs_statement refusal term_refused term_meaning way digits
returns-clause-descendants c = refl

pub returns-clause-null_and_too_long : goal.returns-clause-null_and_too_long
unfolding client_lines runs runs_statement refusal term_refused term_meaning way digits
returns-clause-null_and_too_long c = refl
