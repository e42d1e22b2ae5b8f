-- The cells of a row, as they are gone through by the positions of attributes.
use Rattle.std.specs.Prelude.{ℕ, List, drop, filter, flat_map}
use Rattle.st_lattice.specs.Outline.{Outline}
use Rattle.st_lattice.specs.Lattice.{isa}
use Rattle.st_rows.specs.declared.field.Field.{Field}
use Rattle.st_rows.specs.Rows.{cell_of}

-- the cells of those of a type's attributes that stand from a position on
abbrev pub cells_from : Outline → ℕ → ℕ → List Field
cells_from schema ty position = flat_map cell_of (filter (λ a. isa schema ty a.owner) (drop position schema.attributes))
