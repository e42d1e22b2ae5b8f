-- How a statement changes an entity, once the values of its terms are known: the rules that need no base, and one call.
use Rattle.std.specs.Prelude.{◌≡◌, ℕ, true, List, [], ◌∷◌, ◌++◌, map, Option, Some, None, Result, Ok, Err, ⊤}
use Rattle.st_values.specs.declared.value.EntityId.{EntityId}
use Rattle.st_values.specs.declared.value.Value.{Value}
use Rattle.st_values.specs.declared.value.Value.TheVariants.{Entity}
use Rattle.st_lattice.specs.declared.attribute.Attribute.{Attribute}
use Rattle.st_lattice.specs.declared.called.Called.{Called}
use Rattle.st_lattice.specs.declared.called.Called.TheVariants.{Own}
use Rattle.st_lattice.specs.Outline.{Outline}
use Rattle.st_state.specs.declared.refusal.Refusal.{Refusal}
use Rattle.st_state.specs.State.{State}
use Rattle.st_state.specs.Refusals.{first_of}
use Rattle.st_state.specs.Bases.{not_unique}
use Rattle.st_state.specs.Calls.{Call, Get, Set, Add, Take, Turned, Delete, HasAttribute, Admits, due, after, call_stores}
use Rattle.st_meaning.specs.Rules.{Filling, null_target, set_fillings, member_fillings, too_long, missing}
use Rattle.st_plain.specs.declared.fault.BaseFault.{BaseFault}
use Rattle.st_plain.specs.declared.fault.BaseFault.TheVariants.{Refused, Page, Memory}
use Rattle.st_plain.specs.Base.{Asked, behind}
use Rattle.st_terms.specs.Looks.{Place}

-- ---- rules that need no base

-- what is told without a base: that nothing is to be refused, or the refusal, which is none by pages
abbrev pub Tells : {A : Type 0} → Option Refusal → Result A BaseFault → Type 0
Tells due (Ok x) = due ≡ None
Tells due (Err (Refused refusal)) = (due ≡ Some refusal) × (behind refusal ≡ None)
Tells due (Err (Page fault)) = ⊥
Tells due (Err Memory) = ⊤

-- rules 8 and 3 of what attributes are to get
abbrev pub filling_rules : Outline → List Filling → List (Option Refusal)
filling_rules schema fillings = first_of (map (λ f. too_long f.attribute.kind f.value) fillings) ∷ first_of (map (missing schema) fillings) ∷ []

-- rules 11, 8 and 3 of a set, and of a value that is put into a set
abbrev pub set_rules : Outline → Called Attribute → Value → Value → List (Option Refusal)
set_rules schema c target v = null_target target ∷ filling_rules schema (set_fillings v c)

abbrev pub add_rules : Outline → Called Attribute → Value → Value → List (Option Refusal)
add_rules schema c target v = null_target target ∷ filling_rules schema (member_fillings v c)

-- rules 11 and 3 of a value that is taken out of a set
abbrev pub take_rules : Outline → Called Attribute → Value → Value → List (Option Refusal)
take_rules schema c target v = null_target target ∷ first_of (map (missing schema) (member_fillings v c)) ∷ []

-- ---- the call, if there is one

abbrev pub set_call : Called Attribute → Value → Value → Option Call
set_call (Own a) (Entity e) v = Some (Set e a.number v)
set_call _ _ v = None

abbrev pub add_call : Called Attribute → Value → Value → Option Call
add_call (Own a) (Entity e) v = Some (Add e a.number v)
add_call _ _ v = None

-- a text that is too long is in no set, so that there is nothing to take
abbrev pub take_unless : Attribute → EntityId → Value → Option Refusal → Option Call
take_unless a e v None = Some (Take e a.number v)
take_unless a e v (Some refusal) = None

abbrev pub take_call : Called Attribute → Value → Value → Option Call
take_call (Own a) (Entity e) v = take_unless a e v (too_long a.kind v)
take_call _ _ v = None

-- rule 4 of a value that is put into a set, or taken out of it
abbrev pub add_due : State → Called Attribute → Value → Value → Option Refusal
add_due state (Own a) (Entity e) v = not_unique state a None v
add_due state _ _ v = None

abbrev pub take_due_unless : State → Attribute → Value → Option Refusal → Option Refusal
take_due_unless state a v None = not_unique state a None v
take_due_unless state a v (Some refusal) = None

abbrev pub take_due : State → Called Attribute → Value → Value → Option Refusal
take_due state (Own a) (Entity e) v = take_due_unless state a v (too_long a.kind v)
take_due state _ _ v = None

abbrev pub delete_call : Value → Option Call
delete_call (Entity e) = Some (Delete e)
delete_call _ = None

-- the call that a set begins with
abbrev pub get_call : Called Attribute → Value → Option Call
get_call (Own a) (Entity e) = Some (Get e a.number)
get_call _ _ = None

-- what a state admits, what is due, what is left and which stores are asked, where there may be no call
abbrev pub AdmitsCall : State → Option Call → Type 0
AdmitsCall state None = ⊤
AdmitsCall state (Some call) = Admits state call

abbrev pub due_by : State → Option Call → Option Refusal
due_by state None = None
due_by state (Some call) = due state call

abbrev pub left_by : State → Option Call → State
left_by state None = state
left_by state (Some call) = after state call

-- an attribute that is called is one of the schema
abbrev pub IsThere : Outline → Called Attribute → Type 0
IsThere schema (Own a) = HasAttribute schema a.number
IsThere schema _ = ⊤

abbrev pub stores_of_call : Outline → Option Call → List ℕ
stores_of_call schema None = []
stores_of_call schema (Some call) = call_stores schema call

-- the stores where the attribute's value is looked up, and those of the call behind
abbrev pub member_stores : Outline → Option Call → List ℕ
member_stores schema None = []
member_stores schema (Some (Add e number v)) = call_stores schema (Turned number v) ++ call_stores schema (Add e number v)
member_stores schema (Some (Take e number v)) = call_stores schema (Turned number v) ++ call_stores schema (Take e number v)
member_stores schema (Some call) = call_stores schema call

-- ---- what was asked

-- The last of the calls that were asked sets the value of a place, in this state, and it was answered.
pub record SetsAt (asks : List Asked → Type 0) (state : State) (place : Place) : Type 0 where
  pub before : List Asked
  pub value : Value
  pub asked : asks (before ++ record { state = state; call = Set place.entity place.number value; answered = true } ∷ [])
