use Rattle.std.proofs.Common.{◌≡◌, ◌++◌, length}
use Rattle.st_reader.proofs.apart.all_of.Given as goal

abbrev pub invariant-loop-form : goal.invariant-loop-form
invariant-loop-form l = l.forms ++ l.ahead ≡ l.fn.ahead

abbrev pub decreases-loop-form : goal.decreases-loop-form
decreases-loop-form l = length l.ahead
