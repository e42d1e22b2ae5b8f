-- Statements that were checked, as they are run over a base.
use Rattle.std.specs.Prelude.{◌≡◌, ℕ, List, [], ◌∷◌, ◌++◌, flat_map, None, IsTrue}
use Rattle.st_values.specs.declared.value.Value.{Value}
use Rattle.st_values.specs.declared.value.Value.TheVariants.{Entity}
use Rattle.st_lattice.specs.declared.attribute.Attribute.{Attribute}
use Rattle.st_lattice.specs.declared.called.Called.{Called}
use Rattle.st_lattice.specs.declared.called.Called.TheVariants.{Own}
use Rattle.st_lattice.specs.Outline.{Outline}
use Rattle.st_lattice.specs.Called.{called}
use Rattle.st_query.specs.declared.statement.Statement.{Statement}
use Rattle.st_query.specs.declared.statement.Statement.TheVariants.{Set, Print}
use Rattle.st_query.specs.declared.term.Variable.{Variable}
use Rattle.st_query.specs.Written.{is_written, starts_of, terms_of}
use Rattle.st_query.specs.Footprint.{start_stores, path_stores, effect_stores}
use Rattle.st_state.specs.State.{State}
use Rattle.st_state.specs.Legal.{IsLegal}
use Rattle.st_meaning.specs.Statements.{Present, value_now}
use Rattle.st_meaning.specs.Rules.{rules_1_2_7, rule_5}
use Rattle.st_terms.specs.Looks.{Place}
use Rattle.st_terms.specs.Routes.{term_places}

-- a state and variables
abbrev pub present : State → List Variable → Present
present state variables = record { state = state; variables = variables }

-- A statement that can be written, in a legal state, of which the rules on names, kinds and sets, and then the one on entities that
-- aren't live, refuse nothing.
pub record IsChecked (p : Present) (statement : Statement) : Type 0 where
  pub legal : IsLegal p.state
  pub written : IsTrue (is_written statement)
  pub text : rules_1_2_7 p statement ≡ None
  pub live : rule_5 p statement ≡ None

-- the stores that a statement may touch: those of its literals and variables, of its paths, and of what it does
abbrev pub touched : Outline → List Variable → Statement → List ℕ
touched schema variables statement =
    flat_map (start_stores schema variables) (starts_of statement) ++ path_stores schema (terms_of statement) ++ effect_stores schema variables statement

-- the place that a set sets
abbrev pub set_place : Called Attribute → Value → List Place
set_place (Own a) (Entity e) = record { entity = e; number = a.number } ∷ []
set_place _ _ = []

-- the places that a print reads, and those that a set reads and sets
abbrev pub places_of : Present → Statement → List Place
places_of p (Print terms) = flat_map (term_places p.state p.variables) terms
places_of p (Set feature target written) =
    term_places p.state p.variables target ++ term_places p.state p.variables written
    ++ set_place (called p.state.schema feature) (value_now p target)
places_of p _ = []
