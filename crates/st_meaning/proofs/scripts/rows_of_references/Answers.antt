use Rattle.std.proofs.Common.{refl}
use Rattle.std.specs.Fmt.{digits}
use Rattle.st_query.specs.Ways.{way}
use Rattle.st_meaning.specs.Terms.{term_meaning}
use Rattle.st_meaning.specs.Checks.{term_refused}
use Rattle.st_meaning.specs.Rules.{refusal}
use Rattle.st_meaning.specs.Runs.{runs, runs_statement}
use Rattle.st_meaning.specs.Lines.{client_lines}
use Rattle.st_meaning.proofs.scripts.rows_of_references.Goals as goal

pub returns-clause-references : goal.returns-clause-references
unfolding client_lines runs runs_statement refusal term_refused term_meaning way digits
returns-clause-references c = refl

pub returns-clause-manual : goal.returns-clause-manual
unfolding client_lines runs runs_statement refusal term_refused term_meaning way digits
returns-clause-manual c = refl

pub returns-clause-needed : goal.returns-clause-needed
unfolding client_lines runs runs_statement refusal term_refused term_meaning way digits
returns-clause-needed c = refl

pub returns-clause-own_references : goal.returns-clause-own_references
unfolding client_lines runs runs_statement refusal term_refused term_meaning way digits
returns-clause-own_references c = refl

pub returns-clause-own_need : goal.returns-clause-own_need
unfolding client_lines runs runs_statement refusal term_refused term_meaning way digits
returns-clause-own_need c = refl

pub returns-clause-need_of_another : goal.returns-clause-need_of_another
unfolding client_lines runs runs_statement refusal term_refused term_meaning way digits
returns-clause-need_of_another c = refl
