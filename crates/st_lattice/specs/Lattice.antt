-- Which types are of which, and which attributes a type has from those that it descends from.
use Rattle.std.specs.Prelude.{ℕ, zero, suc, Bool, false, ◌==◌, ◌||◌, ◌&&◌, List, [], length, map, filter, find, slice_index_or, nat_lt, Option}
use Rattle.std.specs.List.{list_any, range_with_len}
use Rattle.std.specs.Str.{bytes_eq}
use Rattle.st_values.specs.Arranged.{arranged}
use Rattle.st_lattice.specs.declared.attribute.Attribute.{Attribute}
use Rattle.st_lattice.specs.Outline.{Outline}

-- whether a type is another one or descends from it, over at most so many steps from a type to a parent
abbrev pub isa_within : ℕ → List (List ℕ) → ℕ → ℕ → Bool
isa_within zero parents ty ancestor = ty == ancestor
isa_within (suc steps) parents ty ancestor =
    (ty == ancestor) || list_any (λ p. isa_within steps parents p ancestor) (slice_index_or parents ty [])

-- The same without a bound, by the parents of all types: parents stand before their children, so that a type has no
-- more steps above it than its position.
abbrev pub isa_by : List (List ℕ) → ℕ → ℕ → Bool
isa_by parents ty ancestor = isa_within ty parents ty ancestor

-- whether a type is another one or descends from it: it is that type, or a parent of it is of that type
abbrev pub isa : Outline → ℕ → ℕ → Bool
isa schema ty ancestor = isa_by schema.parents ty ancestor

-- the numbers below one, ascending
abbrev pub below : ℕ → List ℕ
below count = range_with_len 0 count

-- for each of the first types, which of so many types it is of
abbrev pub descent_rows : List (List ℕ) → ℕ → ℕ → List (List Bool)
descent_rows parents count types = map (λ ty. map (isa_by parents ty) (below count)) (below types)

-- what such rows say of a type and another; false outside them
abbrev pub said : List (List Bool) → ℕ → ℕ → Bool
said rows ty ancestor = slice_index_or (slice_index_or rows ty []) ancestor false

-- whether a type is of another by the rows of its parents
abbrev pub says : List (List Bool) → List ℕ → ℕ → ℕ → Bool
says rows above ty ancestor = (ty == ancestor) || list_any (λ p. said rows p ancestor) above

-- which of so many types a type is of, by the rows of its parents
abbrev pub next_row : List (List Bool) → List ℕ → ℕ → ℕ → List Bool
next_row rows above count ty = map (says rows above ty) (below count)

-- the type and all that it descends from, ascending
abbrev pub ancestors : Outline → ℕ → List ℕ
ancestors schema ty = filter (isa schema ty) (below (length schema.names))

-- the type and all that descend from it, ascending
abbrev pub descendants : Outline → ℕ → List ℕ
descendants schema ty = filter (λ t. isa schema t ty) (below (length schema.names))

-- the attributes of a type, its own and inherited ones, in text order
abbrev pub attributes_in : Outline → ℕ → List Attribute
attributes_in schema ty = filter (λ a. isa schema ty a.owner) schema.attributes

-- their numbers
abbrev pub attributes_of : Outline → ℕ → List ℕ
attributes_of schema ty = map (λ a. a.number) (attributes_in schema ty)

-- the attribute of a type with a short name
abbrev pub attribute_of : Outline → ℕ → List ℕ → Option Attribute
attribute_of schema ty name = find (λ a. isa schema ty a.owner && bytes_eq a.name name) schema.attributes

-- the attributes in the order of their numbers
abbrev pub by_number : Outline → List Attribute
by_number schema = arranged (λ a b. nat_lt a.number b.number) schema.attributes
