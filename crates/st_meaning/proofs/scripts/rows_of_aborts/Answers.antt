use Rattle.std.proofs.Common.{refl}
use Rattle.std.specs.Fmt.{digits}
use Rattle.st_query.specs.Ways.{way}
use Rattle.st_meaning.specs.Terms.{term_meaning}
use Rattle.st_meaning.specs.Checks.{term_refused}
use Rattle.st_meaning.specs.Rules.{refusal}
use Rattle.st_meaning.specs.Runs.{runs, runs_statement}
use Rattle.st_meaning.specs.Lines.{client_lines}
use Rattle.st_meaning.proofs.scripts.rows_of_aborts.Goals as goal

pub returns-clause-spliced : goal.returns-clause-spliced
unfolding client_lines runs runs_statement refusal term_refused term_meaning way digits
returns-clause-spliced c = refl

pub returns-clause-serials_come_back : goal.returns-clause-serials_come_back
unfolding client_lines runs runs_statement refusal term_refused term_meaning way digits
returns-clause-serials_come_back c = refl

pub returns-clause-later_client_state : goal.returns-clause-later_client_state
unfolding client_lines runs runs_statement refusal term_refused term_meaning way digits
returns-clause-later_client_state c = refl
