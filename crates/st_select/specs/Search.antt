-- Queries that were looked up: what is asked of each entity, and what it takes to ask it.
use Rattle.std.specs.Prelude.{ℕ, ◌<◌, Bool, not, List, [], ◌∷◌, ◌++◌, map, flat_map, filter, Option, Some, None, All, option_and_then}
use Rattle.std.specs.List.{list_all}
use Rattle.std.specs.Option.{ForSome}
use Rattle.std.specs.Prelude.{length}
use Rattle.st_values.specs.declared.value.EntityId.{EntityId}
use Rattle.st_values.specs.declared.value.Value.{Value}
use Rattle.st_values.specs.declared.value.Value.TheVariants as value
use Rattle.st_lattice.specs.Outline.{Outline, type_named}
use Rattle.st_lattice.specs.Stores.{extents}
use Rattle.st_query.specs.declared.query.Condition.{Condition}
use Rattle.st_query.specs.declared.query.Condition.TheVariants as condition
use Rattle.st_query.specs.declared.query.Key.{Key}
use Rattle.st_query.specs.declared.query.Query.{Query}
use Rattle.st_query.specs.declared.term.Term.{Term}
use Rattle.st_query.specs.declared.term.Variable.{Variable}
use Rattle.st_query.specs.Ways.{way}
use Rattle.st_state.specs.State.{State}
use Rattle.st_meaning.specs.declared.meaning.Meaning.{Meaning}
use Rattle.st_meaning.specs.Terms.{single}
use Rattle.st_meaning.specs.Selection.{compares, is_null, is_member, entities_in}
use Rattle.st_known.specs.declared.known.Known.{Known}
use Rattle.st_known.specs.Known.{known_value}
use Rattle.st_terms.specs.declared.route.Route.{Route}
use Rattle.st_terms.specs.declared.route.Origin.{Origin}
use Rattle.st_terms.specs.declared.route.Origin.TheVariants.{Fixed, Subject}
use Rattle.st_terms.specs.declared.route.Reading.{Reading}
use Rattle.st_terms.specs.declared.route.Reading.TheVariants.{Value as One}
use Rattle.st_terms.specs.Routes.{route_of, route_meaning, route_stores, AdmitsRoute, IsReadingOf}
use Rattle.st_select.specs.declared.search.Ask.{Ask}
use Rattle.st_select.specs.declared.search.Ask.TheVariants as ask
use Rattle.st_select.specs.declared.search.Test.{Test}
use Rattle.st_select.specs.declared.search.OrderKey.{OrderKey}
use Rattle.st_select.specs.declared.search.Search.{Search}

-- ---- looked up

-- null, which begins with no name and has no features
abbrev pub null_route : Route
null_route = record { origin = Fixed value.Null; readings = [] }

-- a term, where a name stands for the entity that is looked at
abbrev pub subject_route : Outline → List Variable → List ℕ → Term → Route
subject_route schema variables var term = route_of schema variables (Some var) (way term)

abbrev pub test_of : Outline → List Variable → List ℕ → Condition → Test
test_of schema variables var (condition.Compare sign left right) =
    record { ask = ask.Compare sign; left = subject_route schema variables var left; right = subject_route schema variables var right }
test_of schema variables var (condition.Null term) = record { ask = ask.Null; left = subject_route schema variables var term; right = null_route }
test_of schema variables var (condition.NotNull term) = record { ask = ask.NotNull; left = subject_route schema variables var term; right = null_route }
test_of schema variables var (condition.Member v set) =
    record { ask = ask.Member; left = subject_route schema variables var v; right = subject_route schema variables var set }

abbrev pub order_key_of : Outline → List Variable → List ℕ → Key → OrderKey
order_key_of schema variables var key = record { route = subject_route schema variables var key.term; descending = key.descending }

-- a query that was looked up
abbrev pub search_of : Outline → List Variable → Query → Search
search_of schema variables query =
    record {
      ty = type_named schema query.ty;
      tests = map (test_of schema variables query.var) query.conditions;
      keys = map (order_key_of schema variables query.var) query.keys;
    }

-- ---- what was looked up is of the schema

abbrev pub IsRouteOf : Outline → Route → Type 0
IsRouteOf schema route = All (IsReadingOf schema) route.readings

pub record IsTestOf (schema : Outline) (test : Test) : Type 0 where
  pub left : IsRouteOf schema test.left
  pub right : IsRouteOf schema test.right

abbrev pub IsOrderKeyOf : Outline → OrderKey → Type 0
IsOrderKeyOf schema key = IsRouteOf schema key.route

abbrev pub IsTypeOf : Outline → Option ℕ → Type 0
IsTypeOf schema ty = ForSome ty (λ number. number < length schema.names)

pub record IsSearchOf (schema : Outline) (search : Search) : Type 0 where
  pub ty : IsTypeOf schema search.ty
  pub tests : All (IsTestOf schema) search.tests
  pub keys : All (IsOrderKeyOf schema) search.keys

-- ---- at hand

-- the attribute whose value is read first
abbrev pub first_read : List Reading → Option ℕ
first_read (One number ∷ readings) = Some number
first_read _ = None

-- the attribute that a term reads first of the entity that is looked at, if it begins with that entity
abbrev pub first_of_subject : Origin → List Reading → Option ℕ
first_of_subject Subject readings = first_read readings
first_of_subject (Fixed v) readings = None

-- the value that the first feature of a term has, where it is known of the entity that is looked at
abbrev pub first_value : Route → Known → Option Value
first_value route known = option_and_then (λ number. known_value known number) (first_of_subject route.origin route.readings)

-- ---- asked

-- what is asked of two meanings
abbrev pub answer : Ask → Meaning → Meaning → Bool
answer (ask.Compare sign) a b = compares sign (single a) (single b)
answer ask.Null a b = is_null (single a)
answer ask.NotNull a b = not (is_null (single a))
answer ask.Member a b = is_member (single a) b

-- whether a test is true of an entity
abbrev pub test_holds : State → EntityId → Test → Bool
test_holds state e test = answer test.ask (route_meaning state test.left (Some e)) (route_meaning state test.right (Some e))

-- whether each is
abbrev pub all_hold : State → List Test → EntityId → Bool
all_hold state tests e = list_all (test_holds state e) tests

-- the entities of which each test is true
abbrev pub matching : State → List Test → List EntityId → List EntityId
matching state tests entities = filter (all_hold state tests) entities

-- the entities that a search finds
abbrev pub search_matches : State → Search → List EntityId
search_matches state search = matching state search.tests (entities_in state search.ty)

-- the value of a key of an entity
abbrev pub key_value : State → EntityId → OrderKey → Value
key_value state e key = single (route_meaning state key.route (Some e))

-- ---- what is asked of a base

abbrev pub AdmitsTest : State → EntityId → Test → Type 0
AdmitsTest state e test = AdmitsRoute state test.left (Some e) × AdmitsRoute state test.right (Some e)

abbrev pub AdmitsTests : State → List Test → EntityId → Type 0
AdmitsTests state tests e = All (AdmitsTest state e) tests

abbrev pub AdmitsKeys : State → List OrderKey → EntityId → Type 0
AdmitsKeys state keys e = All (λ key. AdmitsRoute state key.route (Some e)) keys

pub record AdmitsSearch (state : State) (search : Search) : Type 0 where
  pub tests : All (AdmitsTests state search.tests) (entities_in state search.ty)
  pub keys : All (AdmitsKeys state search.keys) (entities_in state search.ty)

abbrev pub test_stores : Outline → Test → List ℕ
test_stores schema test = route_stores schema test.left ++ route_stores schema test.right

abbrev pub tests_stores : Outline → List Test → List ℕ
tests_stores schema tests = flat_map (test_stores schema) tests

abbrev pub keys_stores : Outline → List OrderKey → List ℕ
keys_stores schema keys = flat_map (λ key. route_stores schema key.route) keys

abbrev pub type_stores : Outline → Option ℕ → List ℕ
type_stores schema None = []
type_stores schema (Some ty) = extents schema ty

-- the stores that may be looked at for the entities that a search finds, and those for their order too
abbrev pub matches_stores : Outline → Search → List ℕ
matches_stores schema search = type_stores schema search.ty ++ tests_stores schema search.tests

abbrev pub search_stores : Outline → Search → List ℕ
search_stores schema search = matches_stores schema search ++ keys_stores schema search.keys
