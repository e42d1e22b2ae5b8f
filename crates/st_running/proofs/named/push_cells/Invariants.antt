use Rattle.std.proofs.Common.{◌≡◌, ◌++◌, map, take, None}
use Rattle.st_running.specs.Named.{terms_name}
use Rattle.st_running.proofs.named.push_cells.Given as goal

abbrev pub invariant-loop-cell : goal.invariant-loop-cell
invariant-loop-cell l = l.into.items ≡ l.initial.into.items ++ terms_name l.schema l.variables None (map (λ cell. cell.value) (take l.cell-index l.cells))
