use Rattle.std.proofs.Common.{◌≡◌, take, Some}
use Rattle.std.specs.Prelude.{map}
use Rattle.st_removals.specs.Taken.{left_of}
use Rattle.st_removals.proofs.references.emptied.Given as goal

-- what is left of the cells so far
abbrev pub invariant-loop-cell : goal.invariant-loop-cell
invariant-loop-cell l = l.left ≡ map (left_of (Some l.entity)) (take l.cell-index l.cells)
