use Rattle.std.proofs.Common.{◌≡◌, ◌+◌, ◌≤◌, ◌*◌, take}
use Rattle.std.specs.Prelude.{filter}
use Rattle.std.specs.List.{sum_by}
use Rattle.st_lattice.specs.Lattice.{isa}
use Rattle.st_lattice.specs.Stores.{cell_width}
use Rattle.st_lattice.proofs.schema.Schema.row_width.Given as goal

abbrev pub invariant-loop-attribute : goal.invariant-loop-attribute
invariant-loop-attribute l = record {
  value : l.width ≡ 4 + sum_by cell_width (filter (λ a. isa l.self l.ty a.owner) (take l.attribute-index l.attribute-items));
  small : l.width ≤ 4 + 257 * l.attribute-index;
}
