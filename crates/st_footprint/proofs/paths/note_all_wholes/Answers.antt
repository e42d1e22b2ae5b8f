use Rattle.std.proofs.Common.{arith}
use Rattle.st_footprint.proofs.Noted.{steps}
use Rattle.st_footprint.proofs.paths.note_all_wholes.Goals as goal

pub loop-term-preserved : goal.loop-term-preserved
loop-term-preserved c = grind (arith, steps)
