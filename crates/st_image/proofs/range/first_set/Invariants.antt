use Rattle.std.proofs.Common.{◌≡◌, take}
use Rattle.st_image.specs.Bytes.{number}
use Rattle.st_image.proofs.range.first_set.Given as goal

abbrev pub invariant-loop-i : goal.invariant-loop-i
invariant-loop-i l = number (take l.i l.bytes) ≡ 0
