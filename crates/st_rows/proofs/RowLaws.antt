-- The widths of rows are those of their fields.
use Rattle.std.proofs.Common.{◌≡◌, ℕ, ◌+◌, ◌-◌, Bool, true, false, cond, List, [], ◌∷◌, ◌++◌, length, take, drop, refl, sym, ap, ◌∙◌, length-take, length-drop, arith}
use Rattle.std.specs.Prelude.{flat_map, ◌||◌}
use Rattle.std.specs.List.{sum_by}
use Rattle.std.proofs.lemmas.List.Sums.{sum_by-cons}
use Rattle.st_lattice.specs.declared.attribute.Attribute.{Attribute}
use Rattle.st_lattice.specs.Outline.{Outline}
use Rattle.st_lattice.specs.Lattice.{attributes_in}
use Rattle.st_lattice.specs.Stores.{key_width, cell_width, row_width}
use Rattle.st_values.specs.declared.value.Kind.{Kind}
use Rattle.st_values.specs.declared.value.Kind.TheVariants as kind
use Rattle.st_keys.specs.Keys.{width}
use Rattle.st_rows.specs.declared.field.Field.{Field}
use Rattle.st_rows.specs.declared.field.Field.TheVariants.{Cell}
use Rattle.st_rows.specs.Rows.{fields_width, cell_of, cell_fields, row_fields, pair_fields, pair_width}

same-width : (k : Kind) → width k ≡ key_width k
same-width kind.Int = refl
same-width kind.Bool = refl
same-width (kind.Text limit) = refl
same-width (kind.Entity ty) = refl

one : (apart : Bool) (k : Kind) (rest : List Field) → fields_width (cond apart [] (Cell k ∷ []) ++ rest) ≡ cond apart 0 (key_width k + 1) + fields_width rest
one true k rest = omega arith
one false k rest = omega (arith, same-width k)

cells : (attributes : List Attribute) → fields_width (flat_map cell_of attributes) ≡ sum_by cell_width attributes
cells [] = refl
cells (a ∷ attributes) =
    one (a.many || a.column) a.kind (flat_map cell_of attributes) ∙ ap (λ (n : ℕ). cell_width a + n) (cells attributes) ∙ sym (sum_by-cons cell_width a attributes)

pub row_fields-width : (schema : Outline) (ty : ℕ) → fields_width (row_fields schema ty) ≡ row_width schema ty
row_fields-width schema ty = ap (λ (n : ℕ). 4 + n) (cells (attributes_in schema ty))

-- a row of a type has its cells behind the 4 bytes of the serial
cells-width : (schema : Outline) (ty : ℕ) → row_width schema ty ≡ 4 + fields_width (cell_fields schema ty)
cells-width schema ty = sym (row_fields-width schema ty)

-- so wide are the bytes behind it
pub cells-behind : (schema : Outline) (ty : ℕ) (bytes : List ℕ) → length bytes ≡ row_width schema ty → length (take (length bytes - 4) (drop 4 bytes)) ≡ fields_width (cell_fields schema ty)
cells-behind schema ty bytes wide = simp (length-take, length-drop) (omega (arith, cells-width schema ty))

pub pair_fields-width : (kind : Kind) (turned : Bool) → fields_width (pair_fields kind turned) ≡ pair_width kind
pair_fields-width kind true = omega arith
pair_fields-width kind false = omega arith
