-- A schema, as lists, and what is found in it by name or number.
use Rattle.std.specs.Prelude.{ℕ, ◌==◌, ◌<◌, ◌≤◌, ◌≡◌, List, [], ◌∷◌, ◌++◌, length, find, position, slice_index_or, Option, ⊤}
use Rattle.std.specs.List.{All}
use Rattle.std.specs.Str.{bytes_eq}
use Rattle.st_values.specs.declared.value.Kind.{Kind}
use Rattle.st_values.specs.declared.value.Kind.TheVariants as kind
use Rattle.st_lattice.specs.declared.attribute.Attribute.{Attribute}

-- a schema: its name, the names of its types in text order, the parents of each by position, its attributes in text
-- order, and the number that the next new attribute gets
pub record Outline : Type 0 where
  pub name : List ℕ
  pub names : List (List ℕ)
  pub parents : List (List ℕ)
  pub attributes : List Attribute
  pub next : ℕ

-- the parents of a type
abbrev pub parents_of : Outline → ℕ → List ℕ
parents_of schema ty = slice_index_or schema.parents ty []

-- the name of a type
abbrev pub type_name : Outline → ℕ → List ℕ
type_name schema ty = slice_index_or schema.names ty []

-- the position of the type with a name
abbrev pub type_named : Outline → List ℕ → Option ℕ
type_named schema name = position (λ other. bytes_eq other name) schema.names

-- the attribute with a number
abbrev pub attribute : Outline → ℕ → Option Attribute
attribute schema number = find (λ a. a.number == number) schema.attributes

-- a short name behind its type's, with a dot between
abbrev pub qualified_by : List (List ℕ) → ℕ → List ℕ → List ℕ
qualified_by names ty name = slice_index_or names ty [] ++ 46 ∷ name

abbrev pub qualified : Outline → ℕ → List ℕ → List ℕ
qualified schema ty name = qualified_by schema.names ty name

-- the qualified name of an attribute
abbrev pub attribute_name : Outline → Attribute → List ℕ
attribute_name schema a = qualified schema a.owner a.name

-- each parent of a type stands before it
abbrev pub AreEarlier : List (List ℕ) → Type 0
AreEarlier parents = (ty : ℕ) → All (λ p. p < ty) (slice_index_or parents ty [])

-- the type of a kind of entities is one of so many
abbrev pub IsWithin : ℕ → Kind → Type 0
IsWithin count (kind.Entity ty) = ty < count
IsWithin count _ = ⊤

-- The numbers of a schema are in order: at most 64 types, whose parents stand before them; at most 256 attributes,
-- whose owners are types, as are those of their values.
pub record IsOrderly (schema : Outline) : Type 0 where
  pub few_types : length schema.names ≤ 64
  pub parents : length schema.parents ≡ length schema.names
  pub earlier : AreEarlier schema.parents
  pub few_attributes : length schema.attributes ≤ 256
  pub owners : All (λ a. a.owner < length schema.names) schema.attributes
  pub kinds : All (λ a. IsWithin (length schema.names) a.kind) schema.attributes
  pub next : schema.next < 65536
