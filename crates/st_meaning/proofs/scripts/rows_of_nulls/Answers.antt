use Rattle.std.proofs.Common.{refl}
use Rattle.std.specs.Fmt.{digits}
use Rattle.st_query.specs.Ways.{way}
use Rattle.st_meaning.specs.Terms.{term_meaning}
use Rattle.st_meaning.specs.Checks.{term_refused}
use Rattle.st_meaning.specs.Rules.{refusal}
use Rattle.st_meaning.specs.Runs.{runs, runs_statement}
use Rattle.st_meaning.specs.Lines.{client_lines}
use Rattle.st_meaning.proofs.scripts.rows_of_nulls.Goals as goal

pub returns-clause-set : goal.returns-clause-set
unfolding client_lines runs runs_statement refusal term_refused term_meaning way digits
returns-clause-set c = refl

pub returns-clause-make : goal.returns-clause-make
unfolding client_lines runs runs_statement refusal term_refused term_meaning way digits
returns-clause-make c = refl

pub returns-clause-add : goal.returns-clause-add
unfolding client_lines runs runs_statement refusal term_refused term_meaning way digits
returns-clause-add c = refl

pub returns-clause-take : goal.returns-clause-take
unfolding client_lines runs runs_statement refusal term_refused term_meaning way digits
returns-clause-take c = refl

pub returns-clause-target : goal.returns-clause-target
unfolding client_lines runs runs_statement refusal term_refused term_meaning way digits
returns-clause-target c = refl

pub returns-clause-deleted : goal.returns-clause-deleted
unfolding client_lines runs runs_statement refusal term_refused term_meaning way digits
returns-clause-deleted c = refl
