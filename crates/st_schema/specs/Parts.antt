-- The parts from which the canonical text is put together.
use Rattle.std.specs.Prelude.{ℕ, Bool, true, false, not, ◌&&◌, List, [], ◌∷◌, ◌++◌, flat_map, codes}
use Rattle.st_lattice.specs.declared.attribute.Attribute.{Attribute}
use Rattle.st_schema.specs.Canonical.{inverse_items, option_items}

-- the space before an item that is not the first
abbrev pub gap : Bool → List ℕ
gap false = []
gap true = 32 ∷ []

-- items with a space before each
abbrev pub spaced : List (List ℕ) → List ℕ
spaced items = flat_map (λ item. 32 ∷ item) items

-- the options of an attribute
abbrev pub options_of : Attribute → List (List ℕ)
options_of a =
    inverse_items a.inverse ++ option_items (codes ":unique") a.unique ++ option_items (codes ":no-nulls") a.no_nulls ++ option_items (codes ":index") (a.index && not a.unique)
