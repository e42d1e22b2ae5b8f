use Rattle.std.proofs.Common.{◌≤◌, ◌==◌, drop}
use Rattle.st_lookups.proofs.Celled.{Passed, cells_among}
use Rattle.st_lookups.proofs.extent.cell_index.Given as goal

-- how many cells were passed
abbrev pub invariant-loop-attribute : goal.invariant-loop-attribute
invariant-loop-attribute l = record {
  passed : Passed (λ a. a.number == l.number) (cells_among l.schema l.ty l.attributes) (cells_among l.schema l.ty (drop l.attribute-index l.attributes)) l.index;
  small : l.index ≤ l.attribute-index;
}
