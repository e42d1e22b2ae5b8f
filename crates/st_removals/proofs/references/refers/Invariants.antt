use Rattle.std.proofs.Common.{◌≡◌, drop, Some}
use Rattle.std.specs.List.{list_any}
use Rattle.st_removals.specs.Taken.{goes}
use Rattle.st_removals.proofs.references.refers.Given as goal

-- no cell so far is the entity
abbrev pub invariant-loop-cell : goal.invariant-loop-cell
invariant-loop-cell l = list_any (goes (Some l.entity)) (drop l.cell-index l.cells) ≡ list_any (goes (Some l.entity)) l.cells
