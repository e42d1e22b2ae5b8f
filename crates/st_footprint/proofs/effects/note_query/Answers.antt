use Rattle.std.proofs.Common.{arith}
use Rattle.st_footprint.proofs.Noted.{steps}
use Rattle.st_footprint.proofs.effects.note_query.Goals as goal

pub returns-in_ok-note_extents-in-Some : goal.returns-in_ok-note_extents-in-Some
returns-in_ok-note_extents-in-Some c = grind (arith, steps)
