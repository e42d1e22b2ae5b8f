-- The cells of rows with the numbers of their attributes, from the last attribute on.
use Rattle.std.proofs.Common.{◌≡◌, ℕ, List, [], ◌∷◌, ◌++◌, take, refl, sym, ap, ◌∙◌, append-nil}
use Rattle.std.specs.Prelude.{reverse}
use Rattle.st_values.specs.declared.value.Value.{Value}
use Rattle.st_lattice.specs.declared.attribute.Attribute.{Attribute}
use Rattle.st_lattice.specs.Outline.{Outline}
use Rattle.st_known.specs.declared.known.KnownValue.{KnownValue}
use Rattle.st_lookups.proofs.Celled.{all-cells, cells_among}
use Rattle.st_listings.specs.Listings.{numbered, numbered_cells}

-- The values so far, and those of the first attributes with the cells that are left, are those of all attributes with all cells.
pub record Numbers (schema : Outline) (ty : ℕ) (xs : List Attribute) (cells : List Value) (values : List KnownValue) (left : ℕ) (rest : List Value) : Type 0 where
  pub same : numbered (reverse (cells_among schema ty xs)) (reverse cells) ≡ values ++ numbered (reverse (cells_among schema ty (take left xs))) (reverse rest)

numbered-none : (xs : List Attribute) → numbered xs [] ≡ []
numbered-none [] = refl
numbered-none (x ∷ xs) = refl

-- where no cells are left, or no attributes, all have their numbers
pub numbers-end : (schema : Outline) (ty : ℕ) (xs : List Attribute) (cells : List Value) (values : List KnownValue) (left : ℕ) (rest : List Value) → xs ≡ schema.attributes → rest ≡ [] → Numbers schema ty xs cells values left rest
    → values ≡ numbered_cells schema ty cells
numbers-end schema ty xs cells values left rest all none x =
    sym (append-nil values) ∙ ap (λ (l : List KnownValue). values ++ l) (sym (ap (λ (l : List Value). numbered (reverse (cells_among schema ty (take left xs))) (reverse l)) none ∙ numbered-none (reverse (cells_among schema ty (take left xs)))))
    ∙ sym x.same ∙ ap (λ (l : List Attribute). numbered (reverse l) (reverse cells)) (ap (cells_among schema ty) all ∙ sym (all-cells schema ty))

pub numbers-all : (schema : Outline) (ty : ℕ) (xs : List Attribute) (cells : List Value) (values : List KnownValue) (left : ℕ) (rest : List Value) → xs ≡ schema.attributes → left ≡ 0 → Numbers schema ty xs cells values left rest
    → values ≡ numbered_cells schema ty cells
numbers-all schema ty xs cells values left rest all none x =
    sym (append-nil values) ∙ ap (λ (l : List KnownValue). values ++ l) (sym (ap (λ (n : ℕ). numbered (reverse (cells_among schema ty (take n xs))) (reverse rest)) none))
    ∙ sym x.same ∙ ap (λ (l : List Attribute). numbered (reverse l) (reverse cells)) (ap (cells_among schema ty) all ∙ sym (all-cells schema ty))
