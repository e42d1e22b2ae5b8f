use Rattle.std.proofs.Common.{◌≡◌, length}
use Rattle.st_statements.specs.Reading.{read_behind, at_most}
use Rattle.st_statements.specs.Queries.{key_at}
use Rattle.st_statements.specs.Queries.{max_keys, limited}
use Rattle.st_statements.proofs.part.keys_in.Given as goal

abbrev pub invariant-loop-form : goal.invariant-loop-form
invariant-loop-form l = read_behind (at_most max_keys key_at) l.keys l.forms ≡ limited max_keys key_at l.fn.forms

abbrev pub decreases-loop-form : goal.decreases-loop-form
decreases-loop-form l = length l.forms
