-- Going through a type's cells by the positions of attributes.
use Rattle.std.proofs.Common.{◌≡◌, ℕ, suc, ◌+◌, ◌<◌, ◌≤◌, Bool, true, false, cond, List, [], ◌∷◌, ◌++◌, length, get_or, drop, refl, sym, ap, ◌∙◌, drop-cons, add-one}
use Rattle.std.specs.Prelude.{filter, flat_map}
use Rattle.std.proofs.lemmas.List.{drop_all}
use Rattle.st_lattice.specs.declared.attribute.Attribute.{Attribute}
use Rattle.st_lattice.specs.Outline.{Outline}
use Rattle.st_lattice.specs.Lattice.{isa}
use Rattle.st_rows.specs.declared.field.Field.{Field}
use Rattle.st_rows.specs.Rows.{cell_of}
use Rattle.st_rows.specs.Cells.{cells_from}

first : (test : Attribute → Bool) (a : Attribute) (rest : List Attribute)
    → flat_map cell_of (filter test (a ∷ rest)) ≡ cond (test a) (cell_of a) [] ++ flat_map cell_of (filter test rest)
first test a rest =
    elim (test a) as (λ v. flat_map cell_of (cond v (a ∷ filter test rest) (filter test rest)) ≡ cond v (cell_of a) [] ++ flat_map cell_of (filter test rest)) [
      | true ↦ refl
      | false ↦ refl
    ]

-- the cell of the attribute at a position, where the type has it, and then those from the next position on
next : (schema : Outline) (ty position : ℕ) (a : Attribute) → position < length schema.attributes → a ≡ get_or schema.attributes position a
    → cells_from schema ty position ≡ cond (isa schema ty a.owner) (cell_of a) [] ++ cells_from schema ty (suc position)
next schema ty position a h e =
    let cells : List Attribute → List Field = λ (attributes : List Attribute). flat_map cell_of (filter (λ b. isa schema ty b.owner) attributes) in
    let here : drop position schema.attributes ≡ a ∷ drop (suc position) schema.attributes = drop-cons schema.attributes position a h ∙ (λ i. sym e i ∷ drop (suc position) schema.attributes) in
    ap cells here ∙ first (λ b. isa schema ty b.owner) a (drop (suc position) schema.attributes)

pub cells-had : (schema : Outline) (ty position : ℕ) (a : Attribute) (fields : List Field) → position < length schema.attributes → a ≡ get_or schema.attributes position a
    → true ≡ isa schema ty a.owner → fields ≡ cell_of a → cells_from schema ty position ≡ fields ++ cells_from schema ty (position + 1)
cells-had schema ty position a fields h e of same =
    rw add-one (next schema ty position a h e ∙ (λ i. cond (sym of i) (sym same i) [] ++ cells_from schema ty (suc position)))

pub cells-lacked : (schema : Outline) (ty position : ℕ) (a : Attribute) → position < length schema.attributes → a ≡ get_or schema.attributes position a
    → false ≡ isa schema ty a.owner → cells_from schema ty position ≡ cells_from schema ty (position + 1)
cells-lacked schema ty position a h e of =
    rw add-one (next schema ty position a h e ∙ (λ i. cond (sym of i) (cell_of a) [] ++ cells_from schema ty (suc position)))

-- there are none from the end on
pub cells-end : (schema : Outline) (ty position : ℕ) → length schema.attributes ≤ position → cells_from schema ty position ≡ []
cells-end schema ty position h =
    ap (λ (attributes : List Attribute). flat_map cell_of (filter (λ b. isa schema ty b.owner) attributes)) (drop_all position schema.attributes h)
