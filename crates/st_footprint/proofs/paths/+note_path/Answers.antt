use Rattle.std.proofs.Common.{arith}
use Rattle.st_footprint.proofs.Noted.{steps}
use Rattle.st_footprint.proofs.paths.+note_path.Goals as goal

pub returns-in_ok-note_feature-in-Path : goal.returns-in_ok-note_feature-in-Path
returns-in_ok-note_feature-in-Path t c = grind (arith, steps)

pub returns-in-Literal : goal.returns-in-Literal
returns-in-Literal t c = grind (arith, steps)

pub returns-in-Literal-2 : goal.returns-in-Literal-2
returns-in-Literal-2 t c = grind (arith, steps)
