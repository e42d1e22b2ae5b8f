use Rattle.std.proofs.Common.{refl}
use Rattle.std.specs.Fmt.{digits}
use Rattle.st_query.specs.Ways.{way}
use Rattle.st_meaning.specs.Terms.{term_meaning}
use Rattle.st_meaning.specs.Checks.{term_refused}
use Rattle.st_meaning.specs.Rules.{refusal}
use Rattle.st_meaning.specs.Runs.{runs, runs_statement}
use Rattle.st_meaning.specs.Lines.{client_lines}
use Rattle.st_meaning.proofs.scripts.rows_of_ensures.Goals as goal

pub returns-clause-both_ways : goal.returns-clause-both_ways
unfolding client_lines runs runs_statement refusal term_refused term_meaning way digits
returns-clause-both_ways c = refl

pub returns-clause-null_key : goal.returns-clause-null_key
unfolding client_lines runs runs_statement refusal term_refused term_meaning way digits
returns-clause-null_key c = refl

pub returns-clause-held_outside : goal.returns-clause-held_outside
unfolding client_lines runs runs_statement refusal term_refused term_meaning way digits
returns-clause-held_outside c = refl

pub returns-clause-others_kept : goal.returns-clause-others_kept
unfolding client_lines runs runs_statement refusal term_refused term_meaning way digits
returns-clause-others_kept c = refl
