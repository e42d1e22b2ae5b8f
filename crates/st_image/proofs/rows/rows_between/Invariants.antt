use Rattle.std.proofs.Common.{length}
use Rattle.st_image.specs.Bytes.{number}
use Rattle.st_image.proofs.RowLoop.{Progress}
use Rattle.st_image.proofs.rows.rows_between.Given as goal

abbrev pub invariant-loop-i : goal.invariant-loop-i
invariant-loop-i l = Progress l.child (length l.initial.low) l.width l.initial.is_first l.count l.body l.i l.is_first (number l.low) (number l.high)
