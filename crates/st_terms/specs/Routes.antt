-- Terms that were looked up: what each begins with, and how the features are read from there on.
use Rattle.std.specs.Prelude.{ℕ, Bool, false, if◌then◌else◌, List, [], ◌∷◌, ◌++◌, map, flat_map, Option, Some, None, All, ⊤}
use Rattle.std.specs.Str.{bytes_eq}
use Rattle.st_values.specs.declared.value.EntityId.{EntityId}
use Rattle.st_values.specs.declared.value.Value.{Value}
use Rattle.st_values.specs.declared.value.Value.TheVariants as value
use Rattle.st_lattice.specs.declared.attribute.Attribute.{Attribute}
use Rattle.st_lattice.specs.declared.called.Called.{Called}
use Rattle.st_lattice.specs.declared.called.Called.TheVariants as called
use Rattle.st_lattice.specs.Outline.{Outline, attribute}
use Rattle.st_lattice.specs.Called.{called as called_by_name}
use Rattle.st_query.specs.declared.term.Variable.{Variable}
use Rattle.st_query.specs.Terms.{literal_value, variable_value}
use Rattle.st_query.specs.declared.term.Term.{Term}
use Rattle.st_query.specs.Ways.{Start, Written, Named, Way, way}
use Rattle.st_state.specs.State.{State, value_at, values_at, turned}
use Rattle.st_lattice.specs.Stores.{cell}
use Rattle.st_state.specs.Calls.{Call, Get, Members, Turned, HasAttribute, Admits, stores_by, found_in}
use Rattle.st_meaning.specs.declared.meaning.Meaning.{Meaning}
use Rattle.st_meaning.specs.declared.meaning.Meaning.TheVariants.{Single, Set}
use Rattle.st_meaning.specs.Terms.{single}
use Rattle.st_terms.specs.declared.route.Reading.{Reading}
use Rattle.st_terms.specs.declared.route.Reading.TheVariants.{Nothing, Value as One, Members as Many, Inverse}
use Rattle.st_terms.specs.declared.route.Origin.{Origin}
use Rattle.st_terms.specs.declared.route.Origin.TheVariants.{Fixed, Subject}
use Rattle.st_terms.specs.declared.route.Route.{Route}
use Rattle.st_terms.specs.Looks.{Place}

-- ---- looked up

-- how what a name calls is read
abbrev pub reading_of : Called Attribute → Reading
reading_of called.Nothing = Nothing
reading_of (called.Own a) = if a.many then Many a.number else One a.number
reading_of (called.Inverse a) = Inverse a.number

-- the readings of features, the last one first
abbrev pub readings_of : Outline → List (List ℕ) → List Reading
readings_of schema [] = []
readings_of schema (name ∷ names) = readings_of schema names ++ reading_of (called_by_name schema name) ∷ []

-- whether a name is that of the entity that a query looks at
abbrev pub is_subject : Option (List ℕ) → List ℕ → Bool
is_subject None name = false
is_subject (Some subject) name = bytes_eq subject name

-- what a name stands for
abbrev pub origin_named : List Variable → Option (List ℕ) → List ℕ → Origin
origin_named variables subject name = if is_subject subject name then Subject else Fixed (variable_value variables name)

-- what a term begins with
abbrev pub origin_of : Outline → List Variable → Option (List ℕ) → Start → Origin
origin_of schema variables subject (Written written) = Fixed (literal_value schema written)
origin_of schema variables subject (Named name) = origin_named variables subject name

abbrev pub route_of : Outline → List Variable → Option (List ℕ) → Way → Route
route_of schema variables subject w = record { origin = origin_of schema variables subject w.start; readings = readings_of schema w.features }

-- ---- read

-- what a reading gives of a value; of null that is null, or the empty set
abbrev pub reading_value : State → Reading → Value → Meaning
reading_value state (One number) (value.Entity e) = Single (value_at number e state.triples)
reading_value state (Many number) (value.Entity e) = Set (values_at number e state.triples)
reading_value state (Inverse number) (value.Entity e) = Set (map value.Entity (turned number (value.Entity e) state.triples))
reading_value state (Many number) _ = Set []
reading_value state (Inverse number) _ = Set []
reading_value state _ _ = Single value.Null

-- what readings give, one after another
abbrev pub walked : State → List Reading → Meaning → Meaning
walked state [] m = m
walked state (r ∷ rs) m = walked state rs (reading_value state r (single m))

-- the value that a term begins with, where a query looks at an entity, if one does
abbrev pub origin_value : Origin → Option EntityId → Value
origin_value (Fixed v) subject = v
origin_value Subject None = value.Null
origin_value Subject (Some e) = value.Entity e

-- what a term stands for
abbrev pub route_meaning : State → Route → Option EntityId → Meaning
route_meaning state route subject = walked state route.readings (Single (origin_value route.origin subject))

-- ---- what is asked of a base

-- the call that reads a value
abbrev pub reading_calls : Reading → Value → List Call
reading_calls (One number) (value.Entity e) = Get e number ∷ []
reading_calls (Many number) (value.Entity e) = Members e number ∷ []
reading_calls (Inverse number) (value.Entity e) = Turned number (value.Entity e) ∷ []
reading_calls _ _ = []

-- a state admits the call
abbrev pub AdmitsReading : State → Reading → Value → Type 0
AdmitsReading state reading v = All (Admits state) (reading_calls reading v)

abbrev pub AdmitsWalk : State → List Reading → Meaning → Type 0
AdmitsWalk state [] m = ⊤
AdmitsWalk state (r ∷ rs) m = AdmitsReading state r (single m) × AdmitsWalk state rs (reading_value state r (single m))

-- the stores that a reading may look at
abbrev pub reading_stores : Outline → Reading → List ℕ
reading_stores schema (One number) = stores_by (cell schema) (attribute schema number)
reading_stores schema (Many number) = stores_by (cell schema) (attribute schema number)
reading_stores schema (Inverse number) = stores_by (found_in schema) (attribute schema number)
reading_stores schema Nothing = []

-- the places that are reached
abbrev pub reading_places : Reading → Value → List Place
reading_places (One number) (value.Entity e) = record { entity = e; number = number } ∷ []
reading_places _ _ = []

abbrev pub walk_places : State → List Reading → Meaning → List Place
walk_places state [] m = []
walk_places state (r ∷ rs) m = reading_places r (single m) ++ walk_places state rs (reading_value state r (single m))

-- what is asked for a term that was looked up
abbrev pub AdmitsRoute : State → Route → Option EntityId → Type 0
AdmitsRoute state route subject = AdmitsWalk state route.readings (Single (origin_value route.origin subject))

abbrev pub route_stores : Outline → Route → List ℕ
route_stores schema route = flat_map (reading_stores schema) route.readings

abbrev pub route_places : State → Route → Option EntityId → List Place
route_places state route subject = walk_places state route.readings (Single (origin_value route.origin subject))

-- and for a term as it is written, outside a query
abbrev pub term_route : Outline → List Variable → Term → Route
term_route schema variables term = route_of schema variables None (way term)

abbrev pub AdmitsTerm : State → List Variable → Term → Type 0
AdmitsTerm state variables term = AdmitsRoute state (term_route state.schema variables term) None

abbrev pub term_stores : Outline → List Variable → Term → List ℕ
term_stores schema variables term = route_stores schema (term_route schema variables term)

abbrev pub term_places : State → List Variable → Term → List Place
term_places state variables term = route_places state (term_route state.schema variables term) None

-- the attribute of an inverse is one of the schema
abbrev pub IsReadingOf : Outline → Reading → Type 0
IsReadingOf schema (Inverse number) = HasAttribute schema number
IsReadingOf schema _ = ⊤
