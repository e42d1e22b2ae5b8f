use Rattle.std.proofs.Common.{arith}
use Rattle.st_footprint.proofs.Noted.{steps}
use Rattle.st_footprint.proofs.effects.note_ensure.Goals as goal

pub returns : goal.returns
returns c = grind (arith, steps)
