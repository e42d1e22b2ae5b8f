use Rattle.std.proofs.Common.{◌≡◌, ◌++◌, map, take}
use Rattle.st_footprint.specs.Terms.{targets}
use Rattle.st_footprint.proofs.terms.push_cells.Given as goal

abbrev pub invariant-loop-cell : goal.invariant-loop-cell
invariant-loop-cell l = targets l.into.items ≡ targets l.initial.into.items ++ map (λ cell. cell.value) (take l.cell-index l.cells)
