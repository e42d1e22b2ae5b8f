-- What calls that change a database give, in the words of the contract of bases.
use Rattle.std.specs.Prelude.{ℕ, ◌*◌, Bool, true, List, Result, Ok, Err, IfOk, IfErr, ⊤}
use Rattle.st_page.specs.declared.fault.PageFault.{PageFault}
use Rattle.st_page.specs.declared.fault.PageFault.TheVariants as page
use Rattle.st_pages.specs.declared.places.Place.{Place}
use Rattle.st_pages.specs.Attempt.{Array, Attempt, over}
use Rattle.st_pages.specs.Calls as pages
use Rattle.st_pages.specs.Reading.{OfDamage}
use Rattle.st_store.specs.Stores.{HasPutStores}
use Rattle.st_database.specs.Touches.{Touches}
use Rattle.st_state.specs.declared.refusal.Refusal.TheVariants.{TooManyPages, Full}
use Rattle.st_state.specs.State.{State}
use Rattle.st_state.specs.Calls.{Call, after, call_stores}
use Rattle.st_state.specs.Rows.{rows_added, rows_changed}
use Rattle.st_plain.specs.declared.fault.BaseFault.{BaseFault}
use Rattle.st_plain.specs.declared.fault.BaseFault.TheVariants.{Refused, Page, Memory}
use Rattle.st_plain.specs.Base.{Met, TellsMet, Gives, IsOwn, fault_behind}
use Rattle.st_standing.specs.Standing.{NearlyStandsAt}

-- a fault of pages as bases answer it: two are refusals, and want of memory has a form of its own
abbrev pub told : PageFault → BaseFault
told (page.TooManyPages count) = Refused (TooManyPages count)
told (page.Full in_use) = Refused (Full in_use)
told page.Memory = Memory
told fault = Page fault

-- the faults that pages met, as those of a base
abbrev pub met_of : pages.Met → Met
met_of met = record { count = met.count; last = met.last }

-- What a call of a base keeps, whatever it answers: what lies below; a fault of pages behind the answer is the last that was
-- met, and one more was met; and it refuses by its own rules alone.
pub record Behaves {A : Type 0} (follows : Type 0) (old new : pages.Met) (call : Call) (result : Result A BaseFault) : Type 0 where
  pub below : follows
  pub met : TellsMet (met_of old) (met_of new) (fault_behind result)
  pub own : IsOwn call result

-- on any bytes, where only drawn pages and pages of stores were put before, no others are put
abbrev pub PutsStores : Attempt → Attempt → Type 0
PutsStores a b = HasPutStores a → HasPutStores b

-- What a call gives of an array that agrees with what was seen, and of a state that it nearly stood for: the right answer, and
-- then it nearly stands for what the call leaves; or the refusal that is due. Only pages of the call's stores, and drawn ones,
-- were asked for; at most 17 were drawn for each row that the call adds, and at most 34 have other bytes for each row that it
-- adds, takes out or gives another content, whatever it answered.
pub record Edits {A : Type 0} (form : Place → Array → List ℕ → List (List ℕ) → Type 0) (asked : (ℕ → Bool) → (ℕ → Bool) → ℕ → Type 0) (a b : Attempt) (array : Array) (places : List Place)
    (s : State) (call : Call) (right : A → Type 0) (result : Result A BaseFault) : Type 0 where
  pub gives : Gives (NearlyStandsAt form (over b array) places) s call right result
  pub touches : Touches asked a b array (call_stores s.schema call) true (17 * rows_added s (after s call)) (34 * rows_changed s (after s call))

-- The same of a call whose refusals were decided in front of it: it answers nothing more than that it is done.
pub record Alters {A : Type 0} (form : Place → Array → List ℕ → List (List ℕ) → Type 0) (asked : (ℕ → Bool) → (ℕ → Bool) → ℕ → Type 0) (a b : Attempt) (array : Array) (places : List Place)
    (s : State) (call : Call) (result : Result A PageFault) : Type 0 where
  pub answers : IfOk result (λ _. NearlyStandsAt form (over b array) places (after s call))
  pub sound : IfErr result (OfDamage (λ page at. ⊥))
  pub touches : Touches asked a b array (call_stores s.schema call) true (17 * rows_added s (after s call)) (34 * rows_changed s (after s call))

-- a call was not answered, and pages refused nothing
abbrev pub IsUnanswered : {A : Type 0} → Result A BaseFault → Type 0
IsUnanswered (Ok x) = ⊥
IsUnanswered (Err (Refused (TooManyPages count))) = ⊥
IsUnanswered (Err (Refused (Full in_use))) = ⊥
IsUnanswered (Err _) = ⊤
