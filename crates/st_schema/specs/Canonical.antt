-- The canonical text of a schema.
use Rattle.std.specs.Prelude.{ℕ, Bool, true, false, not, ◌&&◌, ◌==◌, List, [], ◌∷◌, ◌++◌, length, map, filter, flat_map, codes, Option, Some, None}
use Rattle.std.specs.List.{join_with_byte}
use Rattle.std.specs.Fmt.{decimal}
use Rattle.st_values.specs.declared.value.Kind.{Kind}
use Rattle.st_values.specs.declared.value.Kind.TheVariants as kind
use Rattle.st_lattice.specs.declared.attribute.Attribute.{Attribute}
use Rattle.st_lattice.specs.Outline.{Outline, type_name, parents_of}
use Rattle.st_lattice.specs.Lattice.{below}

-- items between parentheses, with one space between each two
abbrev pub in_list : List (List ℕ) → List ℕ
in_list items = 40 ∷ join_with_byte 32 items ++ 41 ∷ []

-- the type of single values, a string always with its size
abbrev pub kind_text : Outline → Kind → List ℕ
kind_text schema kind.Int = codes "integer"
kind_text schema kind.Bool = codes "boolean"
kind_text schema (kind.Text size) = in_list (codes "string" ∷ decimal size ∷ [])
kind_text schema (kind.Entity ty) = type_name schema ty

abbrev pub type_text : Outline → Bool → Kind → List ℕ
type_text schema false k = kind_text schema k
type_text schema true k = in_list (codes "set-of" ∷ kind_text schema k ∷ [])

abbrev pub inverse_items : Option (List ℕ) → List (List ℕ)
inverse_items None = []
inverse_items (Some name) = codes ":inverse" ∷ name ∷ []

-- an option that is on
abbrev pub option_items : List ℕ → Bool → List (List ℕ)
option_items word false = []
option_items word true = word ∷ codes "t" ∷ []

-- an attribute with its options; the index that a unique one keeps is not written
abbrev pub attribute_text : Outline → Attribute → List ℕ
attribute_text schema a =
    in_list (a.name ∷ type_text schema a.many a.kind ∷ inverse_items a.inverse ++ option_items (codes ":unique") a.unique
    ++ option_items (codes ":no-nulls") a.no_nulls ++ option_items (codes ":index") (a.index && not a.unique))

-- the attributes of a type's own
abbrev pub own_attributes : Outline → ℕ → List Attribute
own_attributes schema ty = filter (λ a. a.owner == ty) schema.attributes

abbrev pub type_line : Outline → ℕ → List ℕ
type_line schema ty =
    in_list (codes "define-entity-type" ∷ type_name schema ty ∷ in_list (map (type_name schema) (parents_of schema ty))
    ∷ in_list (map (attribute_text schema) (own_attributes schema ty)) ∷ [])
    ++ 10 ∷ []

-- one line for the definition, and one for each type
abbrev pub canonical : Outline → List ℕ
canonical schema =
    in_list (codes "define-schema" ∷ schema.name ∷ []) ++ 10 ∷ flat_map (type_line schema) (below (length schema.names))
