use Rattle.std.specs.Prelude.{length}
use Rattle.st_terms.proofs.read.+walk.Given as goal

abbrev pub decreases-walk : goal.decreases-walk
decreases-walk g l = length l.readings.now
