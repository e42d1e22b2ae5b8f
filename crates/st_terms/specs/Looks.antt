-- What is said of several calls on a base, one after another: calls that only look, and calls that may change something.
use Rattle.std.specs.Prelude.{◌≡◌, ℕ, Bool, true, false, List, Option, None, Result, Ok, Err, All, IsTrue, ⊤}
use Rattle.std.specs.List.{list_all}
use Rattle.st_values.specs.declared.value.EntityId.{EntityId}
use Rattle.st_state.specs.declared.refusal.Refusal.{Refusal}
use Rattle.st_state.specs.State.{State}
use Rattle.st_plain.specs.declared.fault.BaseFault.{BaseFault}
use Rattle.st_plain.specs.declared.fault.BaseFault.TheVariants.{Refused, Page, Memory}
use Rattle.st_plain.specs.Base.{Met, Asked, TellsMet, Refuses, Reaches, fault_behind, is_damage, is_of_pages, puts, stores_asked}

-- each of some numbers is among others: a test that holds of all of those holds of all of these
abbrev pub AreAmong : List ℕ → List ℕ → Type 0
AreAmong some others = (test : ℕ → Bool) → IsTrue (list_all test others) → IsTrue (list_all test some)

-- calls were asked at these stores alone, and where nothing may change they only look
pub record AskedAt (asks : List Asked → Type 0) (changes : Bool) (stores : List ℕ) : Type 0 where
  pub calls : List Asked
  pub asked : asks calls
  pub looks : changes ≡ false → puts calls ≡ false
  pub within : AreAmong (stores_asked calls) stores

-- a single-valued attribute of an entity, by number
pub record Place : Type 0 where
  pub entity : EntityId
  pub number : ℕ

-- What calls that only look give: a right answer, and the state is what it was. They are not refused; other faults and want of
-- memory may come at any time, but nothing is damaged that stands for a state.
abbrev pub Answers : {A : Type 0} → Type 0 → (A → Type 0) → Result A BaseFault → Type 0
Answers stands right (Ok x) = right x × stands
Answers stands right (Err (Refused refusal)) = ⊥
Answers stands right (Err (Page fault)) = is_damage fault ≡ false
Answers stands right (Err Memory) = ⊤

-- Calls that only look, in one state: `stands` says that it is still stood for, `asks` which calls were asked, `got` whose page
-- was reached.
pub record Looks {A : Type 0} (stands : Type 0) (asks : List Asked → Type 0) (got : EntityId → ℕ → Type 0) (right : A → Type 0) (stores : List ℕ) (places : List Place) (result : Result A BaseFault) : Type 0 where
  pub answers : Answers stands right result
  pub asked : AskedAt asks false stores
  pub reached : Reaches (All (λ p. got p.entity p.number) places) result

-- What calls give that may change something: a right answer where no refusal is due, and the state that is left; or the refusal
-- that is due, and the state from before. A refusal by pages yields to that one.
abbrev pub Concludes : {A : Type 0} → Option Refusal → (State → Type 0) → State → State → (A → Type 0) → Result A BaseFault → Type 0
Concludes due stands before after right (Ok x) = (due ≡ None) × right x × stands after
Concludes due stands before after right (Err (Refused refusal)) = Refuses due (stands before) refusal
Concludes due stands before after right (Err (Page fault)) = is_damage fault ≡ false
Concludes due stands before after right (Err Memory) = ⊤

-- calls that may change something, in one state
pub record Changes {A : Type 0} (due : Option Refusal) (stands : State → Type 0) (asks : List Asked → Type 0) (before after : State) (right : A → Type 0) (stores : List ℕ) (result : Result A BaseFault) : Type 0 where
  pub concludes : Concludes due stands before after right result
  pub asked : AskedAt asks true stores

-- each fault of pages has one form
abbrev pub IsPlain : {A : Type 0} → Result A BaseFault → Type 0
IsPlain (Err (Page fault)) = IsTrue (is_of_pages fault)
IsPlain _ = ⊤

-- What calls keep, whatever they answer: what lies below, and which faults of pages were met.
pub record Keeps {A : Type 0} (follows : Type 0) (old new : Met) (result : Result A BaseFault) : Type 0 where
  pub below : follows
  pub met : TellsMet old new (fault_behind result)
  pub own : IsPlain result
