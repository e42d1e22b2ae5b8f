use Rattle.std.proofs.Common.{take}
use Rattle.st_image.specs.Bytes.{number}
use Rattle.st_image.proofs.Sides.{Side}
use Rattle.st_image.proofs.range.first_outside.Given as goal

abbrev pub invariant-loop-i : goal.invariant-loop-i
invariant-loop-i l = record {
  low : Side l.on_low (number (take l.i l.low)) (number (take l.i l.bytes));
  high : Side l.on_high (number (take l.i l.bytes)) (number (take l.i l.high));
}
