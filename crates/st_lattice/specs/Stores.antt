-- What is stored for a schema, by number, and how wide a row of a type is.
use Rattle.std.specs.Prelude.{ℕ, ◌+◌, ◌*◌, Bool, false, ◌==◌, ◌||◌, if◌then◌else◌, List, [], ◌∷◌, ◌++◌, length, map, filter, flat_map, Option, Some, None, is_some}
use Rattle.std.specs.List.{list_any, sum_by}
use Rattle.st_values.specs.declared.value.Kind.{Kind}
use Rattle.st_values.specs.declared.value.Kind.TheVariants as kind
use Rattle.st_lattice.specs.declared.attribute.Attribute.{Attribute}
use Rattle.st_lattice.specs.declared.stores.StoreKind.{StoreKind}
use Rattle.st_lattice.specs.declared.stores.StoreKind.TheVariants.{Extent, Set, Index, Inverse, Column}
use Rattle.st_lattice.specs.Outline.{Outline, attribute}
use Rattle.st_lattice.specs.Lattice.{below, descendants, attributes_in}

-- the number of a kind of stores
abbrev pub kind_number : StoreKind → ℕ
kind_number Extent = 0
kind_number Set = 1
kind_number Index = 2
kind_number Inverse = 3
kind_number Column = 4

-- the number of a store: its kind, and the number of its type or attribute
abbrev pub store : StoreKind → ℕ → ℕ
store kind number = kind_number kind * 65536 + number

-- whether an attribute has a store of a kind: a set of values, an index, an inverse, or a column apart from the rows
abbrev pub keeps : StoreKind → Attribute → Bool
keeps Extent a = false
keeps Set a = a.many
keeps Index a = a.index
keeps Inverse a = is_some a.inverse
keeps Column a = a.column

-- whether an attribute is there and passes a test
abbrev pub passes : (Attribute → Bool) → Option Attribute → Bool
passes test None = false
passes test (Some a) = test a

-- whether an attribute is there and has a store of a kind
abbrev pub keeps_one : StoreKind → Option Attribute → Bool
keeps_one kind a = passes (keeps kind) a

-- the stores of a kind, ascending, of the attributes whose numbers are below one
abbrev pub stores_below : Outline → StoreKind → ℕ → List ℕ
stores_below schema kind count = map (store kind) (filter (λ number. keeps_one kind (attribute schema number)) (below count))

-- The stores of a schema, ascending: the types' extents, then the sets, indexes, inverses and columns of attributes.
abbrev pub stores_of : Outline → List ℕ
stores_of schema =
    map (store Extent) (below (length schema.names)) ++ stores_below schema Set schema.next ++ stores_below schema Index schema.next
    ++ stores_below schema Inverse schema.next ++ stores_below schema Column schema.next

-- the extents of a type and of all that descend from it
abbrev pub extents : Outline → ℕ → List ℕ
extents schema ty = map (store Extent) (descendants schema ty)

-- Stores of an attribute, of which it may lack some. The values that stand apart from the rows: its set and its column.
abbrev pub values_of : Attribute → List ℕ
values_of a = store Set a.number ∷ store Column a.number ∷ []

-- its index
abbrev pub index_of : Attribute → List ℕ
index_of a = store Index a.number ∷ []

-- its inverse
abbrev pub inverse_of : Attribute → List ℕ
inverse_of a = store Inverse a.number ∷ []

-- where an attribute's values are: the extents of all types that have it, and its own store of values
abbrev pub cell : Outline → Attribute → List ℕ
cell schema a = extents schema a.owner ++ values_of a

-- all that changes with an attribute's value
abbrev pub whole : Outline → Attribute → List ℕ
whole schema a = cell schema a ++ index_of a ++ inverse_of a

-- the same beside the extents
abbrev pub aside : Attribute → List ℕ
aside a = values_of a ++ index_of a ++ inverse_of a

-- where the entities are found whose attribute has a value: its inverse, where it has one, else its index, else its values
abbrev pub found_by : Outline → Attribute → List ℕ
found_by schema a = if is_some a.inverse then inverse_of a else if a.index then index_of a else cell schema a

-- the types of the entities that values of a kind are
abbrev pub kind_types : Outline → Kind → List ℕ
kind_types schema (kind.Entity ty) = descendants schema ty
kind_types schema _ = []

-- whether an attribute may refer to an entity of a type
abbrev pub may_refer : Outline → ℕ → Attribute → Bool
may_refer schema ty a = list_any (λ t. t == ty) (kind_types schema a.kind)

-- all that changes with an entity of a type that is deleted: its extent, what its attributes have beside it, and all of
-- the attributes that may refer to it
abbrev pub deleted : Outline → ℕ → List ℕ
deleted schema ty =
    store Extent ty ∷ flat_map aside (attributes_in schema ty) ++ flat_map (whole schema) (filter (may_refer schema ty) schema.attributes)

-- how many bytes the key of a value takes
abbrev pub key_width : Kind → ℕ
key_width kind.Int = 8
key_width kind.Bool = 1
key_width (kind.Text limit) = limit + 1
key_width (kind.Entity ty) = 6

-- how many bytes a row has for an attribute: one and its key; none for a set or a column
abbrev pub cell_width : Attribute → ℕ
cell_width a = if a.many || a.column then 0 else key_width a.kind + 1

-- how many bytes a row of a type takes: four for the serial, and its cells
abbrev pub row_width : Outline → ℕ → ℕ
row_width schema ty = 4 + sum_by cell_width (attributes_in schema ty)
