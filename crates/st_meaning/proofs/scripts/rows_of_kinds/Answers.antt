use Rattle.std.proofs.Common.{refl}
use Rattle.std.specs.Fmt.{digits}
use Rattle.st_query.specs.Ways.{way}
use Rattle.st_meaning.specs.Terms.{term_meaning}
use Rattle.st_meaning.specs.Checks.{term_refused}
use Rattle.st_meaning.specs.Rules.{refusal}
use Rattle.st_meaning.specs.Runs.{runs, runs_statement}
use Rattle.st_meaning.specs.Lines.{client_lines}
use Rattle.st_meaning.proofs.scripts.rows_of_kinds.Goals as goal

pub returns-clause-outer_first : goal.returns-clause-outer_first
unfolding client_lines runs runs_statement refusal term_refused term_meaning way digits
returns-clause-outer_first c = refl

pub returns-clause-second_side : goal.returns-clause-second_side
unfolding client_lines runs runs_statement refusal term_refused term_meaning way digits
returns-clause-second_side c = refl

pub returns-clause-no_entity : goal.returns-clause-no_entity
unfolding client_lines runs runs_statement refusal term_refused term_meaning way digits
returns-clause-no_entity c = refl

pub returns-clause-ancestor : goal.returns-clause-ancestor
unfolding client_lines runs runs_statement refusal term_refused term_meaning way digits
returns-clause-ancestor c = refl

pub returns-clause-descendant : goal.returns-clause-descendant
unfolding client_lines runs runs_statement refusal term_refused term_meaning way digits
returns-clause-descendant c = refl

pub returns-clause-set_in_a_let : goal.returns-clause-set_in_a_let
unfolding client_lines runs runs_statement refusal term_refused term_meaning way digits
returns-clause-set_in_a_let c = refl

pub returns-clause-member_of_a_value : goal.returns-clause-member_of_a_value
unfolding client_lines runs runs_statement refusal term_refused term_meaning way digits
returns-clause-member_of_a_value c = refl

pub returns-clause-key_not_unique : goal.returns-clause-key_not_unique
unfolding client_lines runs runs_statement refusal term_refused term_meaning way digits
returns-clause-key_not_unique c = refl

pub returns-clause-inverse_in_set : goal.returns-clause-inverse_in_set
unfolding client_lines runs runs_statement refusal term_refused term_meaning way digits
returns-clause-inverse_in_set c = refl
