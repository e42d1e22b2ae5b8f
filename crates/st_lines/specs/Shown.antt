-- What is shown of the entities of a query, by terms that were looked up.
use Rattle.std.specs.Prelude.{◌≡◌, ℕ, true, List, ◌∷◌, map, flat_map, Some, All}
use Rattle.st_values.specs.declared.value.EntityId.{EntityId}
use Rattle.st_values.specs.declared.value.Value.TheVariants.{Entity}
use Rattle.st_lattice.specs.Outline.{type_named}
use Rattle.st_lattice.specs.Lattice.{isa}
use Rattle.st_query.specs.declared.query.Query.{Query}
use Rattle.st_state.specs.State.{State, is_live}
use Rattle.st_meaning.specs.declared.meaning.Meaning.TheVariants.{Single}
use Rattle.st_meaning.specs.Statements.{tail}
use Rattle.st_terms.specs.declared.route.Route.{Route}
use Rattle.st_terms.specs.Looks.{Place}
use Rattle.st_terms.specs.Routes.{route_meaning, route_stores, route_places}

-- what the line of an entity says
abbrev pub shown_tail : State → List (List ℕ) → List Route → EntityId → List ℕ
shown_tail state names routes e = tail names 42 (Single (Entity e) ∷ map (λ route. route_meaning state route (Some e)) routes)

-- the stores that are asked for it
abbrev pub shown_stores : State → List Route → List ℕ
shown_stores state routes = flat_map (route_stores state.schema) routes

-- the places that are reached for it
abbrev pub shown_places : State → List Route → EntityId → List Place
shown_places state routes e = flat_map (λ route. route_places state route (Some e)) routes

-- entities are live, and of the type of a query
abbrev pub AreOf : State → Query → List EntityId → Type 0
AreOf state query entities = All (λ e. (is_live state e ≡ true) × ((ty : ℕ) → type_named state.schema query.ty ≡ Some ty → isa state.schema e.ty ty ≡ true)) entities
