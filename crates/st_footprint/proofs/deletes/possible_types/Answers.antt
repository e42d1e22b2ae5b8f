use Rattle.std.proofs.Common.{arith}
use Rattle.st_footprint.proofs.Noted.{steps}
use Rattle.st_footprint.proofs.deletes.possible_types.Goals as goal

pub returns-in_ok-value-in-Literal : goal.returns-in_ok-value-in-Literal
returns-in_ok-value-in-Literal c = grind (arith, steps)

pub returns-in-Variable : goal.returns-in-Variable
returns-in-Variable c = grind (arith, steps)

pub returns-in-Path : goal.returns-in-Path
returns-in-Path c = grind (arith, steps)
