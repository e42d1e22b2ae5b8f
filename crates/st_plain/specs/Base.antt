-- What each call of a base gives, whatever holds the state: lists, or pages of which it sees one after the other.
use Rattle.std.specs.Prelude.{◌≡◌, ℕ, ◌≤◌, ◌==◌, Bool, true, false, List, flat_map, Option, Some, None, Result, Ok, Err, IsTrue, ⊤}
use Rattle.std.specs.List.{list_any, sum_by}
use Rattle.std.specs.Option.{ForSome}
use Rattle.st_edge.specs.Faults.{Rose}
use Rattle.st_page.specs.declared.fault.PageFault.{PageFault}
use Rattle.st_page.specs.declared.fault.PageFault.TheVariants as page
use Rattle.st_state.specs.declared.refusal.Refusal.{Refusal}
use Rattle.st_state.specs.declared.refusal.Refusal.TheVariants.{TooManyPages, Full}
use Rattle.st_state.specs.Refusals.{rule_number}
use Rattle.st_state.specs.State.{State}
use Rattle.st_state.specs.Calls.{Call, due, after, rules_of, may_change, call_stores}
use Rattle.st_state.specs.Rows.{rows_added, rows_changed}
use Rattle.st_plain.specs.declared.fault.BaseFault.{BaseFault}
use Rattle.st_plain.specs.declared.fault.BaseFault.TheVariants.{Refused, Page, Memory}

-- A refusal, where the call has to be refused by the first, if by any, and `same` says that the state is what it was.
-- Those by which pages refuse yield to that one; each other one is due, and leaves the state.
abbrev pub Refuses : Option Refusal → Type 0 → Refusal → Type 0
Refuses due same (TooManyPages count) = due ≡ None
Refuses due same (Full in_use) = due ≡ None
Refuses due same refusal = (due ≡ Some refusal) × same

-- whether a fault of pages says that a page is damaged
abbrev pub is_damage : PageFault → Bool
is_damage (page.BadPage number place) = true
is_damage _ = false

-- What a call gives in a state: a right answer where nothing has to be refused, and the state that the call leaves; or the
-- refusal that is due. Other faults and want of memory may come at any time, but nothing is damaged that stands for a
-- state. `stands` says of a state that it is stood for behind the call.
abbrev pub Gives : {A : Type 0} → (State → Type 0) → State → Call → (A → Type 0) → Result A BaseFault → Type 0
Gives stands state call right (Ok x) = (due state call ≡ None) × right x × stands (after state call)
Gives stands state call right (Err (Refused refusal)) = Refuses (due state call) (stands state) refusal
Gives stands state call right (Err (Page fault)) = is_damage fault ≡ false
Gives stands state call right (Err Memory) = ⊤

-- whether a fault of pages has no other form: want of memory has one, and two are refusals
abbrev pub is_of_pages : PageFault → Bool
is_of_pages (page.Full in_use) = false
is_of_pages (page.TooManyPages count) = false
is_of_pages page.Memory = false
is_of_pages _ = true

-- a call refuses by its own rules alone, and each fault has one form
abbrev pub IsOwn : {A : Type 0} → Call → Result A BaseFault → Type 0
IsOwn call (Err (Refused refusal)) = IsTrue (list_any (λ rule. rule == rule_number refusal) (rules_of call))
IsOwn call (Err (Page fault)) = IsTrue (is_of_pages fault)
IsOwn call _ = ⊤

-- the faults of pages that were met: how often, and the last one
pub record Met : Type 0 where
  pub count : ℕ
  pub last : Option PageFault

-- the fault of pages behind a refusal
abbrev pub behind : Refusal → Option PageFault
behind (TooManyPages count) = Some (page.TooManyPages count)
behind (Full in_use) = Some (page.Full in_use)
behind _ = None

-- a fault of pages that is met where pages are asked for; that one is damaged is found out afterwards
abbrev pub met_fault : PageFault → Option PageFault
met_fault (page.BadPage number place) = None
met_fault page.Memory = None
met_fault fault = Some fault

-- the fault of pages that was met behind an answer, if one was
abbrev pub fault_behind : {A : Type 0} → Result A BaseFault → Option PageFault
fault_behind (Err (Refused refusal)) = behind refusal
fault_behind (Err (Page fault)) = met_fault fault
fault_behind _ = None

-- what an answer tells of the faults that were met: their count never falls, and a fault of pages behind the answer is
-- the last of them, of which the call has met one
pub record TellsMet (old new : Met) (told : Option PageFault) : Type 0 where
  pub never_falls : old.count ≤ new.count
  pub is_last : ForSome told (λ fault. (new.last ≡ Some fault) × Rose old.count new.count)

-- a call that was asked in a state, and whether it was answered
pub record Asked : Type 0 where
  pub state : State
  pub call : Call
  pub answered : Bool

-- whether calls may have put anything
abbrev pub puts : List Asked → Bool
puts calls = list_any (λ q. may_change q.call) calls

-- the stores whose pages calls may have got or put
abbrev pub stores_asked : List Asked → List ℕ
stores_asked calls = flat_map (λ q. call_stores q.state.schema q.call) calls

-- for how many rows calls may have drawn pages
abbrev pub rows_drawn : List Asked → ℕ
rows_drawn calls = sum_by (λ q. rows_added q.state (after q.state q.call)) calls

-- for how many rows calls may have changed pages
abbrev pub rows_put : List Asked → ℕ
rows_put calls = sum_by (λ q. rows_changed q.state (after q.state q.call)) calls

-- an answer, or a refusal by pages, tells that a page was got; `got` says so
abbrev pub Reaches : {A : Type 0} → Type 0 → Result A BaseFault → Type 0
Reaches got (Ok x) = got
Reaches got (Err (Refused (TooManyPages count))) = got
Reaches got (Err (Refused (Full in_use))) = got
Reaches got (Err _) = ⊤

-- What a call over lists gives: no call is answered by a fault of pages, and after want of memory the state is what it was.
abbrev pub Does : {A : Type 0} → State → Call → (A → Type 0) → State → Result A BaseFault → Type 0
Does old call right new (Ok x) = (due old call ≡ None) × right x × (new ≡ after old call)
Does old call right new (Err (Refused refusal)) = (due old call ≡ Some refusal) × (new ≡ old)
Does old call right new (Err (Page fault)) = ⊥
Does old call right new (Err Memory) = new ≡ old

-- nothing was met
abbrev pub nothing_met : Met
nothing_met = record { count = 0; last = None }
