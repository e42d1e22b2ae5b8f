-- The checks of a statement before anything is evaluated: the names, the kinds and the sets, in one pass in text order.
use Rattle.std.specs.Prelude.{ℕ, Bool, not, if◌then◌else◌, List, [], ◌∷◌, ◌++◌, map, Option, Some, None}
use Rattle.st_lattice.specs.declared.attribute.Attribute.{Attribute}
use Rattle.st_lattice.specs.declared.called.Called.{Called}
use Rattle.st_lattice.specs.declared.called.Called.TheVariants.{Nothing, Own, Inverse}
use Rattle.st_lattice.specs.Called.{called}
use Rattle.st_lattice.specs.Outline.{Outline, type_named}
use Rattle.st_lattice.specs.Lattice.{attribute_of}
use Rattle.st_query.specs.declared.kind.Sort.TheVariants as sort
use Rattle.st_query.specs.declared.kind.Typing.{Typing}
use Rattle.st_query.specs.declared.kind.Expected.{Expected}
use Rattle.st_query.specs.declared.kind.Expected.TheVariants.{Anything, AnyValue, Comparable, Storable, SetOf}
use Rattle.st_query.specs.declared.query.Condition.{Condition}
use Rattle.st_query.specs.declared.query.Condition.TheVariants as condition
use Rattle.st_query.specs.declared.query.Query.{Query}
use Rattle.st_query.specs.declared.statement.Cell.{Cell}
use Rattle.st_query.specs.declared.statement.Statement.{Statement}
use Rattle.st_query.specs.declared.statement.Statement.TheVariants.{Make, Set, Add, Take, Delete, Find, Ensure, Let, Print, ForEach, Abort}
use Rattle.st_query.specs.declared.term.Term.{Term}
use Rattle.st_query.specs.Kinds.{kind_sort, fits, Known, known_in, start_typing, start_name, feature_typing, term_sort, expected_under, expected_in}
use Rattle.st_query.specs.Ways.{Start, way}
use Rattle.st_state.specs.declared.refusal.Refusal.{Refusal}
use Rattle.st_state.specs.declared.refusal.Refusal.TheVariants.{UnknownName, WrongType, NotASet}
use Rattle.st_state.specs.Refusals.{first_of}

-- rule 1 where the name isn't there, and rule 2 where what is given doesn't fit what is wanted
abbrev pub fit_or_refused : Outline → Expected → List ℕ → Option Typing → Option Refusal
fit_or_refused schema expected name None = Some (UnknownName name)
fit_or_refused schema expected name (Some typing) = if fits schema expected typing then None else Some WrongType

-- the checks of a term in its place, an outer form before its parts
abbrev pub way_refused : Outline → List Known → Expected → List (List ℕ) → Start → Option Refusal
way_refused schema names expected [] start = fit_or_refused schema expected (start_name start) (start_typing schema names start)
way_refused schema names expected (feature ∷ features) start =
    first_of (fit_or_refused schema expected feature (feature_typing (called schema feature))
    ∷ way_refused schema names (expected_under (called schema feature)) features start ∷ [])

unfoldable pub term_refused : Outline → List Known → Expected → Term → Option Refusal
term_refused schema names expected term = way_refused schema names expected (way term).features (way term).start

-- rule 2 where something isn't so
abbrev pub wrong_unless : Bool → Option Refusal
wrong_unless right = if right then None else Some WrongType

-- a name of a cell: an attribute of the type, with single values
abbrev pub cell_name_refused : List ℕ → Option Attribute → Option Refusal
cell_name_refused name None = Some (UnknownName name)
cell_name_refused name (Some a) = wrong_unless (not a.many)

-- a name of a key: an attribute of the type whose values are unique
abbrev pub key_name_refused : List ℕ → Option Attribute → Option Refusal
key_name_refused name None = Some (UnknownName name)
key_name_refused name (Some a) = wrong_unless a.unique

-- a cell: its name and then its value
abbrev pub cell_refused : Outline → List Known → ℕ → Cell → Option Refusal
cell_refused schema names ty cell =
    first_of (cell_name_refused cell.name (attribute_of schema ty cell.name)
    ∷ term_refused schema names (expected_in (attribute_of schema ty cell.name)) cell.value ∷ [])

-- a key: its name and then its value
abbrev pub key_refused : Outline → List Known → ℕ → List ℕ → Term → Option Refusal
key_refused schema names ty key written =
    first_of (key_name_refused key (attribute_of schema ty key) ∷ term_refused schema names (expected_in (attribute_of schema ty key)) written ∷ [])

abbrev pub cells_refused : Outline → List Known → ℕ → List Cell → Option Refusal
cells_refused schema names ty cells = first_of (map (cell_refused schema names ty) cells)

-- the first cell of an ensure is its key
abbrev pub ensure_refused : Outline → List Known → ℕ → List Cell → Option Refusal
ensure_refused schema names ty [] = None
ensure_refused schema names ty (key ∷ cells) =
    first_of (key_refused schema names ty key.name key.value ∷ cells_refused schema names ty cells ∷ [])

-- a type, and then what depends on it
abbrev pub typed_refused : List ℕ → (ℕ → Option Refusal) → Option ℕ → Option Refusal
typed_refused name others None = Some (UnknownName name)
typed_refused name others (Some ty) = others ty

-- set: an attribute with single values, the entity, the value
abbrev pub set_refused : Outline → List Known → List ℕ → Term → Term → Called Attribute → Option Refusal
set_refused schema names feature target written Nothing = Some (UnknownName feature)
set_refused schema names feature target written (Inverse a) = Some WrongType
set_refused schema names feature target written (Own a) =
    first_of (wrong_unless (not a.many) ∷ term_refused schema names (Storable (sort.Entity a.owner)) target
    ∷ term_refused schema names (Storable (kind_sort a.kind)) written ∷ [])

-- add-to-set and delete-from-set: an attribute with sets, else rule 7; the entity, the value
abbrev pub member_refused : Outline → List Known → List ℕ → Term → Term → Called Attribute → Option Refusal
member_refused schema names feature target written Nothing = Some (UnknownName feature)
member_refused schema names feature target written (Inverse a) = Some (NotASet feature)
member_refused schema names feature target written (Own a) =
    first_of ((if a.many then None else Some (NotASet feature)) ∷ term_refused schema names (Storable (sort.Entity a.owner)) target
    ∷ term_refused schema names (Storable (kind_sort a.kind)) written ∷ [])

-- a condition: of two sides that don't compare the second one is wrong
abbrev pub condition_refused : Outline → List Known → Condition → Option Refusal
condition_refused schema names (condition.Compare sign left right) =
    first_of (term_refused schema names AnyValue left ∷ term_refused schema names (Comparable (term_sort schema names left)) right ∷ [])
condition_refused schema names (condition.Null term) = term_refused schema names AnyValue term
condition_refused schema names (condition.NotNull term) = term_refused schema names AnyValue term
condition_refused schema names (condition.Member v set) =
    first_of (term_refused schema names AnyValue v ∷ term_refused schema names (SetOf (term_sort schema names v)) set ∷ [])

-- the parts of a query of a type: its conditions, its keys, what it shows
abbrev pub parts_refused : Outline → Query → List Known → Option Refusal
parts_refused schema query names =
    first_of (map (condition_refused schema names) query.conditions ++ map (λ key. term_refused schema names AnyValue key.term) query.keys
    ++ map (term_refused schema names Anything) query.shown)

-- rules 1, 2 and 7: the first that the text of a statement breaks
abbrev pub text_refused : Outline → List Known → Statement → Option Refusal
text_refused schema names (Make var ty cells) = typed_refused ty (λ t. cells_refused schema names t cells) (type_named schema ty)
text_refused schema names (Set feature target written) = set_refused schema names feature target written (called schema feature)
text_refused schema names (Add feature target written) = member_refused schema names feature target written (called schema feature)
text_refused schema names (Take feature target written) = member_refused schema names feature target written (called schema feature)
text_refused schema names (Delete target) = term_refused schema names (Comparable (sort.Entity 0)) target
text_refused schema names (Find var ty key written) = typed_refused ty (λ t. key_refused schema names t key written) (type_named schema ty)
text_refused schema names (Ensure var ty cells) = typed_refused ty (λ t. ensure_refused schema names t cells) (type_named schema ty)
text_refused schema names (Let var written) = term_refused schema names AnyValue written
text_refused schema names (Print terms) = first_of (map (term_refused schema names Anything) terms)
text_refused schema names (ForEach query) = typed_refused query.ty (λ t. parts_refused schema query (known_in names query t)) (type_named schema query.ty)
text_refused schema names Abort = None
