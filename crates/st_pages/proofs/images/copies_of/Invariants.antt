use Rattle.std.proofs.Common.{◌≡◌, take}
use Rattle.st_pages.proofs.images.copies_of.Given as goal

abbrev pub invariant-loop-slot : goal.invariant-loop-slot
invariant-loop-slot l = l.copied.items ≡ take l.slot-index l.slots
