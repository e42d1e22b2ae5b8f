-- The footprint of a statement: the stores that it may look at or change, by number.
use Rattle.std.specs.Prelude.{ℕ, Bool, ◌==◌, List, [], ◌∷◌, ◌++◌, filter, flat_map, Option, Some, None}
use Rattle.std.specs.List.{list_any}
use Rattle.st_values.specs.declared.value.Value.{Value}
use Rattle.st_values.specs.declared.value.Value.TheVariants as value
use Rattle.st_lattice.specs.declared.attribute.Attribute.{Attribute}
use Rattle.st_lattice.specs.declared.stores.StoreKind.TheVariants.{Extent}
use Rattle.st_lattice.specs.declared.called.Called.{Called}
use Rattle.st_lattice.specs.declared.called.Called.TheVariants.{Nothing, Own, Inverse}
use Rattle.st_lattice.specs.Outline.{Outline, type_named}
use Rattle.st_lattice.specs.Lattice.{descendants, attributes_in, attribute_of}
use Rattle.st_lattice.specs.Called.{called}
use Rattle.st_lattice.specs.Stores.{store, stores_of, extents, index_of, inverse_of, cell, whole, aside, kind_types, deleted}
use Rattle.st_query.specs.declared.query.Query.{Query}
use Rattle.st_query.specs.declared.statement.Cell.{Cell}
use Rattle.st_query.specs.declared.statement.Statement.{Statement}
use Rattle.st_query.specs.declared.statement.Statement.TheVariants.{Make, Set, Add, Take, Delete, Find, Ensure, ForEach}
use Rattle.st_query.specs.declared.term.Term.{Term}
use Rattle.st_query.specs.declared.term.Variable.{Variable}
use Rattle.st_query.specs.Terms.{literal_value, variable_value}
use Rattle.st_query.specs.Ways.{Start, Written, Named, way}
use Rattle.st_query.specs.Written.{terms_of, starts_of, query_terms}

-- all that changes with the value of what a name calls
abbrev pub whole_called : Outline → Called Attribute → List ℕ
whole_called schema Nothing = []
whole_called schema (Own a) = whole schema a
whole_called schema (Inverse a) = whole schema a

-- an entity's extent
abbrev pub extent_of : Value → List ℕ
extent_of (value.Entity e) = store Extent e.ty ∷ []
extent_of _ = []

-- what a term begins with
abbrev pub start_stores : Outline → List Variable → Start → List ℕ
start_stores schema variables (Written written) = extent_of (literal_value schema written)
start_stores schema variables (Named name) = extent_of (variable_value variables name)

-- a feature of a path: the cell of its attribute, and for an inverse that too
abbrev pub feature_stores : Outline → Called Attribute → List ℕ
feature_stores schema Nothing = []
feature_stores schema (Own a) = cell schema a
feature_stores schema (Inverse a) = cell schema a ++ inverse_of a

-- the paths of terms
abbrev pub path_stores : Outline → List Term → List ℕ
path_stores schema terms = flat_map (λ term. flat_map (λ name. feature_stores schema (called schema name)) (way term).features) terms

-- a new entity of a type: its extent, and what its attributes have beside it
abbrev pub make_stores : Outline → Option ℕ → List ℕ
make_stores schema None = []
make_stores schema (Some ty) = store Extent ty ∷ flat_map aside (attributes_in schema ty)

-- an attribute of a type that is set
abbrev pub cell_stores : Outline → Option Attribute → List ℕ
cell_stores schema None = []
cell_stores schema (Some a) = whole schema a

abbrev pub cells_stores : Outline → List Cell → Option ℕ → List ℕ
cells_stores schema cells None = []
cells_stores schema cells (Some ty) = flat_map (λ c. cell_stores schema (attribute_of schema ty c.name)) cells

-- an attribute that is looked up: its index and its inverse
abbrev pub key_stores : Option Attribute → List ℕ
key_stores None = []
key_stores (Some a) = index_of a ++ inverse_of a

abbrev pub find_stores : Outline → List ℕ → Option ℕ → List ℕ
find_stores schema key None = []
find_stores schema key (Some ty) = key_stores (attribute_of schema ty key) ++ extents schema ty

-- the types that an entity may have to which a value belongs
abbrev pub value_types : Value → List ℕ
value_types (value.Entity e) = e.ty ∷ []
value_types _ = []

abbrev pub feature_types : Outline → Called Attribute → List ℕ
feature_types schema Nothing = []
feature_types schema (Own a) = kind_types schema a.kind
feature_types schema (Inverse a) = descendants schema a.owner

abbrev pub start_types : Outline → List Variable → Start → List ℕ
start_types schema variables (Written written) = value_types (literal_value schema written)
start_types schema variables (Named name) = value_types (variable_value variables name)

-- the possible types of a term: that of its value, and for a path all that are of the attribute's type
abbrev pub possible_types : Outline → List Variable → List (List ℕ) → Start → List ℕ
possible_types schema variables [] start = start_types schema variables start
possible_types schema variables (name ∷ names) start = feature_types schema (called schema name)

-- a query: the entities of its type, and all that has to do with the attributes that its terms name
abbrev pub query_stores : Outline → Query → Option ℕ → List ℕ
query_stores schema query None = []
query_stores schema query (Some ty) =
    extents schema ty
    ++ flat_map (λ term. flat_map (λ name. whole_called schema (called schema name)) (way term).features) (query_terms query)

-- what a statement does by itself
abbrev pub effect_stores : Outline → List Variable → Statement → List ℕ
effect_stores schema variables (Make var ty cells) = make_stores schema (type_named schema ty)
effect_stores schema variables (Set feature target written) = whole_called schema (called schema feature)
effect_stores schema variables (Add feature target written) = whole_called schema (called schema feature)
effect_stores schema variables (Take feature target written) = whole_called schema (called schema feature)
effect_stores schema variables (Delete target) = flat_map (deleted schema) (possible_types schema variables (way target).features (way target).start)
effect_stores schema variables (Find var ty key written) = find_stores schema key (type_named schema ty)
effect_stores schema variables (Ensure var ty cells) = make_stores schema (type_named schema ty) ++ cells_stores schema cells (type_named schema ty)
effect_stores schema variables (ForEach query) = query_stores schema query (type_named schema query.ty)
effect_stores schema variables _ = []

-- whether a statement may touch a store: its literals and variables that are entities, its paths, and what it does
abbrev pub touches : Outline → List Variable → Statement → ℕ → Bool
touches schema variables statement number =
    list_any (λ other. other == number)
    (flat_map (start_stores schema variables) (starts_of statement) ++ path_stores schema (terms_of statement) ++ effect_stores schema variables statement)

-- the footprint: the stores of the schema that a statement may touch, ascending
unfoldable pub footprint : Outline → List Variable → Statement → List ℕ
footprint schema variables statement = filter (touches schema variables statement) (stores_of schema)
