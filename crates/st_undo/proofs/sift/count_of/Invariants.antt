use Rattle.std.proofs.Common.{◌≡◌, ◌≤◌, length, take}
use Rattle.std.specs.Prelude.{filter}
use Rattle.st_undo.proofs.sift.count_of.Given as goal

abbrev pub invariant-loop-item : goal.invariant-loop-item
invariant-loop-item g l = (l.count ≡ length (filter (g.S.Sieve.takes l.sieve) (take l.item-index l.items))) × (l.count ≤ l.item-index)
