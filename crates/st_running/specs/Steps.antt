-- What a statement gives that is run over a base.
use Rattle.std.specs.Prelude.{◌≡◌, ◌⊎◌, ◌==◌, ◌||◌, ℕ, Bool, true, false, not, List, [], Option, Some, None, Result, All, OnOk}
use Rattle.st_values.specs.declared.value.EntityId.{EntityId}
use Rattle.std.specs.List.{list_any}
use Rattle.st_lattice.specs.Outline.{Outline}
use Rattle.st_lattice.specs.Stores.{stores_of}
use Rattle.st_query.specs.Footprint.{footprint}
use Rattle.st_lattice.specs.Called.{called}
use Rattle.st_query.specs.declared.statement.Statement.{Statement}
use Rattle.st_query.specs.declared.statement.Statement.TheVariants.{Make, Set, Add, Take, Delete, Find, Ensure, Let}
use Rattle.st_values.specs.declared.value.Value.{Value}
use Rattle.st_query.specs.Terms.{bind}
use Rattle.st_running.specs.declared.outcome.Outcome.{Outcome}
use Rattle.st_query.specs.declared.term.Variable.{Variable}
use Rattle.st_state.specs.State.{State}
use Rattle.st_meaning.specs.Statements.{Present, value_now, does, answers}
use Rattle.st_meaning.specs.Rules.{refusal}
use Rattle.st_plain.specs.declared.fault.BaseFault.{BaseFault}
use Rattle.st_plain.specs.Base.{Asked, Reaches}
use Rattle.st_terms.specs.Looks.{AskedAt, Place, Concludes}
use Rattle.st_terms.specs.Checked.{touched, set_place, places_of}
use Rattle.st_changes.specs.Effects.{SetsAt}

-- whether a statement may change what is stored; the others only look
abbrev pub may_put : Statement → Bool
may_put (Make var ty cells) = true
may_put (Set feature target written) = true
may_put (Add feature target written) = true
may_put (Take feature target written) = true
may_put (Delete target) = true
may_put (Ensure var ty cells) = true
may_put _ = false

-- the place that a statement sets, if it is a set
abbrev pub first_place : Present → Statement → List Place
first_place p (Set feature target written) = set_place (called p.state.schema feature) (value_now p target)
first_place p _ = []

-- A statement that is run, in one state: `stands` says of a state that it is stood for behind it, `asks` which calls were asked,
-- `got` whose page was reached. It gives what the definitions say, or is refused by the rule that refuses it; it asks for its own
-- stores alone, and puts nothing where it only looks; an answer tells that the places were reached that it reads or sets, and that
-- each place that it sets was set by the last call, also where it has the value already; and before a place is reached that is set,
-- nothing is put.
pub record Steps {A : Type 0} (p : Present) (statement : Statement) (stands : State → Type 0) (asks : List Asked → Type 0) (got : EntityId → ℕ → Type 0) (right : A → Type 0) (result : Result A BaseFault) : Type 0 where
  pub concludes : Concludes (refusal p statement) stands p.state (does p statement).state right result
  pub asked : AskedAt asks (may_put statement) (touched p.state.schema p.variables statement)
  pub reached : Reaches (All (λ place. got place.entity place.number) (places_of p statement)) result
  pub first : All (λ place. got place.entity place.number) (first_place p statement) ⊎ AskedAt asks false (touched p.state.schema p.variables statement)
  pub sets : OnOk result (All (SetsAt asks p.state) (first_place p statement))

-- the variables where a statement's own one is bound to a value, if it binds one
abbrev pub bound_by : Statement → Option Value → List Variable → List Variable
bound_by statement None variables = variables
bound_by (Make var ty cells) (Some v) variables = bind var v variables
bound_by (Find var ty key written) (Some v) variables = bind var v variables
bound_by (Ensure var ty cells) (Some v) variables = bind var v variables
bound_by (Let var written) (Some v) variables = bind var v variables
bound_by _ (Some v) variables = variables

-- what a statement answers, and the value that it binds its variable to
abbrev pub IsOutcome : Present → Statement → Outcome → Type 0
IsOutcome p statement outcome = (outcome.lines ≡ answers p statement) × (bound_by statement outcome.bound p.variables ≡ (does p statement).variables)

-- whether a store is of the footprint of a statement, if the schema has it
abbrev pub is_in_footprint : Outline → List Variable → Statement → ℕ → Bool
is_in_footprint schema variables statement number =
    not (list_any (λ other. other == number) (stores_of schema)) || list_any (λ other. other == number) (footprint schema variables statement)
