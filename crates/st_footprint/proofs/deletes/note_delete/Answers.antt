use Rattle.std.proofs.Common.{arith}
use Rattle.st_footprint.proofs.Noted.{steps}
use Rattle.st_footprint.proofs.deletes.note_delete.Goals as goal

pub loop-ty-preserved : goal.loop-ty-preserved
loop-ty-preserved c = grind (arith, steps)
