use Rattle.std.proofs.Common.{arith}
use Rattle.st_footprint.proofs.Noted.{steps}
use Rattle.st_footprint.proofs.starts.+note_start.Goals as goal

pub returns-in-Literal : goal.returns-in-Literal
returns-in-Literal t c = grind (arith, steps)

pub returns-in-Variable : goal.returns-in-Variable
returns-in-Variable t c = grind (arith, steps)

pub returns-in-Path : goal.returns-in-Path
returns-in-Path t c = grind (arith, steps)
