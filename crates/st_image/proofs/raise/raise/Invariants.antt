use Rattle.st_image.proofs.Raising.{Raised}
use Rattle.st_image.proofs.raise.raise.Given as goal

abbrev pub invariant-loop-i : goal.invariant-loop-i
invariant-loop-i l = Raised l.initial.bytes l.bytes l.i

abbrev pub decreases-loop-i : goal.decreases-loop-i
decreases-loop-i l = l.i
