use Rattle.std.proofs.Common.{◌≡◌, false, drop}
use Rattle.st_token.specs.Scan.{after_gap}
use Rattle.st_token.proofs.gap.skip_gap.Given as goal

abbrev pub invariant-loop-i : goal.invariant-loop-i
invariant-loop-i l = after_gap l.in_comment (drop l.i l.bytes) ≡ after_gap false (drop l.fn.at l.bytes)
