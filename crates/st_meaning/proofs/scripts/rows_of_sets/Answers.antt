use Rattle.std.proofs.Common.{refl}
use Rattle.std.specs.Fmt.{digits}
use Rattle.st_query.specs.Ways.{way}
use Rattle.st_meaning.specs.Terms.{term_meaning}
use Rattle.st_meaning.specs.Checks.{term_refused}
use Rattle.st_meaning.specs.Rules.{refusal}
use Rattle.st_meaning.specs.Runs.{runs, runs_statement}
use Rattle.st_meaning.specs.Lines.{client_lines}
use Rattle.st_meaning.proofs.scripts.rows_of_sets.Goals as goal

pub returns-clause-no_set : goal.returns-clause-no_set
unfolding client_lines runs runs_statement refusal term_refused term_meaning way digits
returns-clause-no_set c = refl

pub returns-clause-inverse : goal.returns-clause-inverse
unfolding client_lines runs runs_statement refusal term_refused term_meaning way digits
returns-clause-inverse c = refl

pub returns-clause-twice : goal.returns-clause-twice
unfolding client_lines runs runs_statement refusal term_refused term_meaning way digits
returns-clause-twice c = refl
