use Rattle.std.proofs.Common.{◌≡◌, ◌++◌, length, reverse}
use Rattle.st_sexp.proofs.ahead.Ahead.new.Given as goal

abbrev pub invariant-loop-item : goal.invariant-loop-item
invariant-loop-item g l = l.items ++ reverse l.reversed ≡ l.fn.items

abbrev pub decreases-loop-item : goal.decreases-loop-item
decreases-loop-item g l = length l.items
