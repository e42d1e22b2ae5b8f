use Rattle.std.proofs.Common.{length}
use Rattle.st_statements.proofs.term.+path_along.Given as goal

abbrev pub decreases-path_along : goal.decreases-path_along
decreases-path_along l = length l.steps
