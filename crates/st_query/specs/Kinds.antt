-- The kinds of terms, as they are known before anything is evaluated, and the kinds that their places want.
use Rattle.std.specs.Prelude.{ℕ, Bool, true, false, if◌then◌else◌, List, [], ◌∷◌, map, find, Option, Some, None}
use Rattle.std.specs.Str.{bytes_eq}
use Rattle.st_values.specs.declared.value.Kind.{Kind}
use Rattle.st_values.specs.declared.value.Kind.TheVariants as kind
use Rattle.st_values.specs.declared.value.Value.{Value}
use Rattle.st_values.specs.declared.value.Value.TheVariants as value
use Rattle.st_lattice.specs.declared.attribute.Attribute.{Attribute}
use Rattle.st_lattice.specs.declared.called.Called.{Called}
use Rattle.st_lattice.specs.declared.called.Called.TheVariants.{Nothing, Own, Inverse}
use Rattle.st_lattice.specs.Outline.{Outline, type_named}
use Rattle.st_lattice.specs.Lattice.{isa}
use Rattle.st_lattice.specs.Called.{called}
use Rattle.st_query.specs.declared.kind.Sort.{Sort}
use Rattle.st_query.specs.declared.kind.Sort.TheVariants as sort
use Rattle.st_query.specs.declared.kind.Typing.{Typing}
use Rattle.st_query.specs.declared.kind.Typing.TheVariants.{One, Many}
use Rattle.st_query.specs.declared.kind.Expected.{Expected}
use Rattle.st_query.specs.declared.kind.Expected.TheVariants.{Anything, AnyValue, Comparable, Storable, SetOf}
use Rattle.st_query.specs.declared.query.Query.{Query}
use Rattle.st_query.specs.declared.term.Literal.{Literal}
use Rattle.st_query.specs.declared.term.Literal.TheVariants as literal
use Rattle.st_query.specs.declared.term.Term.{Term}
use Rattle.st_query.specs.declared.term.Variable.{Variable}
use Rattle.st_query.specs.Terms.{literal_value}
use Rattle.st_query.specs.Ways.{Start, Written, Named, way}

-- ---- sorts

-- the sort of a value
abbrev pub value_sort : Value → Sort
value_sort value.Null = sort.Null
value_sort (value.Int _) = sort.Int
value_sort (value.Bool _) = sort.Bool
value_sort (value.Text _) = sort.Text
value_sort (value.Entity e) = sort.Entity e.ty

-- the sort of the values that an attribute takes
abbrev pub kind_sort : Kind → Sort
kind_sort kind.Int = sort.Int
kind_sort kind.Bool = sort.Bool
kind_sort (kind.Text _) = sort.Text
kind_sort (kind.Entity ty) = sort.Entity ty

-- the sort of the value, or of the set's values
abbrev pub sort_of : Typing → Sort
sort_of (One s) = s
sort_of (Many s) = s

-- ---- what fits

-- two integers, two truth values, two texts or two entities compare, and null with everything
abbrev pub compare_well : Sort → Sort → Bool
compare_well sort.Null b = true
compare_well a sort.Null = true
compare_well sort.Int sort.Int = true
compare_well sort.Bool sort.Bool = true
compare_well sort.Text sort.Text = true
compare_well (sort.Entity _) (sort.Entity _) = true
compare_well a b = false

-- whether a value of the second sort can stand in an attribute of the first; an entity's type has to be of the attribute's
abbrev pub store_well : Outline → Sort → Sort → Bool
store_well schema a sort.Null = true
store_well schema sort.Int sort.Int = true
store_well schema sort.Bool sort.Bool = true
store_well schema sort.Text sort.Text = true
store_well schema (sort.Entity ty) (sort.Entity other) = isa schema other ty
store_well schema a b = false

-- whether what is given fits what a place wants
abbrev pub fits : Outline → Expected → Typing → Bool
fits schema Anything typing = true
fits schema AnyValue (One s) = true
fits schema (Comparable a) (One b) = compare_well a b
fits schema (Storable a) (One b) = store_well schema a b
fits schema (SetOf a) (Many b) = compare_well a b
fits schema expected typing = false

-- ---- names

-- a name that a term may use, and the sort of what it stands for
pub record Known : Type 0 where
  pub name : List ℕ
  pub sort : Sort

-- variables are of the sorts of their present values
abbrev pub known : List Variable → List Known
known variables = map (λ variable. record { name = variable.name; sort = value_sort variable.value }) variables

-- the variable of a query is an entity of its type, and hides an outer one of its name
abbrev pub known_in : List Known → Query → ℕ → List Known
known_in names query ty = record { name = query.var; sort = sort.Entity ty } ∷ names

-- ---- what a term is; none where its name isn't there

-- an entity that is written out is of its type
abbrev pub entity_typing : Option ℕ → Option Typing
entity_typing None = None
entity_typing (Some ty) = Some (One (sort.Entity ty))

abbrev pub literal_typing : Outline → Literal → Option Typing
literal_typing schema (literal.Entity ty serial) = entity_typing (type_named schema ty)
literal_typing schema written = Some (One (value_sort (literal_value schema written)))

abbrev pub variable_typing : Option Known → Option Typing
variable_typing None = None
variable_typing (Some k) = Some (One k.sort)

abbrev pub start_typing : Outline → List Known → Start → Option Typing
start_typing schema names (Written written) = literal_typing schema written
start_typing schema names (Named name) = variable_typing (find (λ k. bytes_eq k.name name) names)

-- an attribute gives a value, or a set of them
abbrev pub attribute_typing : Attribute → Typing
attribute_typing a = if a.many then Many (kind_sort a.kind) else One (kind_sort a.kind)

-- a feature gives its attribute's values, and an inverse the entities that have the attribute
abbrev pub feature_typing : Called Attribute → Option Typing
feature_typing Nothing = None
feature_typing (Own a) = Some (attribute_typing a)
feature_typing (Inverse a) = Some (Many (sort.Entity a.owner))

abbrev pub way_typing : Outline → List Known → List (List ℕ) → Start → Option Typing
way_typing schema names [] start = start_typing schema names start
way_typing schema names (feature ∷ features) start = feature_typing (called schema feature)

-- the name that is looked up for a literal or a variable; most literals have none
abbrev pub literal_name : Literal → List ℕ
literal_name (literal.Entity ty serial) = ty
literal_name _ = []

abbrev pub start_name : Start → List ℕ
start_name (Written written) = literal_name written
start_name (Named name) = name

-- the sort of what is there, null's where nothing is
abbrev pub typing_sort : Option Typing → Sort
typing_sort None = sort.Null
typing_sort (Some typing) = sort_of typing

-- the sort of a term
abbrev pub term_sort : Outline → List Known → Term → Sort
term_sort schema names term = typing_sort (way_typing schema names (way term).features (way term).start)

-- ---- what places want

-- a feature is taken of an entity of its owner, and an inverse of one of its attribute's kind
abbrev pub expected_under : Called Attribute → Expected
expected_under Nothing = Anything
expected_under (Own a) = Storable (sort.Entity a.owner)
expected_under (Inverse a) = Storable (kind_sort a.kind)

-- what is wanted of a value that an attribute is to have
abbrev pub expected_in : Option Attribute → Expected
expected_in None = Anything
expected_in (Some a) = Storable (kind_sort a.kind)
