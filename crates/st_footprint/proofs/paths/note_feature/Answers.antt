use Rattle.std.proofs.Common.{arith}
use Rattle.st_footprint.proofs.Noted.{steps}
use Rattle.st_footprint.proofs.paths.note_feature.Goals as goal

pub returns-in_ok-note_cell-in-Inverse : goal.returns-in_ok-note_cell-in-Inverse
returns-in_ok-note_cell-in-Inverse c = grind (arith, steps)
