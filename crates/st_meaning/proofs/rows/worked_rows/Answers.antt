use Rattle.std.proofs.Common.{refl}
use Rattle.std.specs.Fmt.{digits}
use Rattle.st_query.specs.Ways.{way}
use Rattle.st_meaning.specs.Lines.{client_lines}
use Rattle.st_meaning.specs.Runs.{runs, runs_statement}
use Rattle.st_meaning.specs.Rules.{refusal}
use Rattle.st_meaning.specs.Checks.{term_refused}
use Rattle.st_meaning.specs.Terms.{term_meaning}
use Rattle.st_meaning.proofs.rows.worked_rows.Goals as goal

pub returns-clause-empty : goal.returns-clause-empty
unfolding client_lines runs runs_statement refusal term_refused digits term_meaning way
returns-clause-empty c = refl

pub returns-clause-made : goal.returns-clause-made
unfolding client_lines runs runs_statement refusal term_refused digits term_meaning way
returns-clause-made c = refl

pub returns-clause-unset : goal.returns-clause-unset
unfolding client_lines runs runs_statement refusal term_refused digits term_meaning way
returns-clause-unset c = refl

pub returns-clause-bound_anew : goal.returns-clause-bound_anew
unfolding client_lines runs runs_statement refusal term_refused digits term_meaning way
returns-clause-bound_anew c = refl

pub returns-clause-set : goal.returns-clause-set
unfolding client_lines runs runs_statement refusal term_refused digits term_meaning way
returns-clause-set c = refl

pub returns-clause-cleared : goal.returns-clause-cleared
unfolding client_lines runs runs_statement refusal term_refused digits term_meaning way
returns-clause-cleared c = refl

pub returns-clause-escaped : goal.returns-clause-escaped
unfolding client_lines runs runs_statement refusal term_refused digits term_meaning way
returns-clause-escaped c = refl

pub returns-clause-extremes : goal.returns-clause-extremes
unfolding client_lines runs runs_statement refusal term_refused digits term_meaning way
returns-clause-extremes c = refl

pub returns-clause-literals : goal.returns-clause-literals
unfolding client_lines runs runs_statement refusal term_refused digits term_meaning way
returns-clause-literals c = refl
