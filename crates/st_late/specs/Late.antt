-- A base that has not read its store yet, and reads it whole at the first call that needs it. Its witness is what lies in
-- the store. `held` is the state of the base and, at the mark, what lay in the store from the start.
use Rattle.std.specs.Prelude.{◌≡◌, ℕ, ◌+◌, ◌≤◌, Bool, true, false, not, List, count_by, Option, Some, None, Result, Ok, Err, IsTrue}
use Rattle.st_edge.specs.Faults.{Rose}
use Rattle.st_page.specs.declared.fault.PageFault.{PageFault}
use Rattle.st_page.specs.declared.fault.PageFault.TheVariants as page
use Rattle.st_state.specs.declared.refusal.Refusal.{Refusal}
use Rattle.st_state.specs.declared.refusal.Refusal.TheVariants.{TooManyPages, Full}
use Rattle.st_state.specs.State.{State}
use Rattle.st_plain.specs.declared.fault.BaseFault.{BaseFault}
use Rattle.st_plain.specs.declared.fault.BaseFault.TheVariants.{Refused}
use Rattle.st_plain.specs.Held.{Held}
use Rattle.st_plain.specs.Base.{Asked, puts}

-- before the store is read, each content with the schema agrees; then the one that was read
pub record Agrees (held : Held) (is_read : Bool) (witness : State) : Type 0 where
  pub read : is_read ≡ true → witness ≡ held.mark
  pub schema : witness.schema ≡ held.state.schema

-- before the store is read, a content stands for itself; then for the state that was made of it
pub record StandsFor (held : Held) (is_read : Bool) (witness state : State) : Type 0 where
  pub unread : is_read ≡ false → (witness ≡ state) × (held.state ≡ held.mark)
  pub read : is_read ≡ true → held.state ≡ state
  pub schema : state.schema ≡ held.state.schema

-- what lies in the store stays, and so does the schema; what was read stays read
pub record Stays (old : Held) (was_read : Bool) (new : Held) (is_read : Bool) : Type 0 where
  pub mark : new.mark ≡ old.mark
  pub schema : new.state.schema ≡ old.state.schema
  pub read : was_read ≡ true → is_read ≡ true

-- one more fault of pages was met: how many were before and are now, and the last one
pub record MeetsOne (old new : ℕ) (told : Option PageFault) (fault : PageFault) : Type 0 where
  pub last : told ≡ Some fault
  pub rose : Rose old new
  pub never_falls : old ≤ new
  pub one : new ≤ old + 1

-- whether any call may be answered by a fault of pages
abbrev pub stops : PageFault → Bool
stops (page.Conflict number holder) = true
stops page.DiskFault = true
stops page.Closed = true
stops _ = false

-- the refusal behind which a fault of pages is
abbrev pub refusal_of : PageFault → Option Refusal
refusal_of (page.TooManyPages count) = Some (TooManyPages count)
refusal_of (page.Full in_use) = Some (Full in_use)
refusal_of _ = None

-- a fault of pages was met that stops the call before the store is read
pub record Stops (was_read is_read : Bool) (old new : ℕ) (last : Option PageFault) (fault : PageFault) : Type 0 where
  pub stops : stops fault ≡ true
  pub read : is_read ≡ was_read
  pub met : MeetsOne old new last fault

-- the end of a call that was answered over lists: with this answer, or refused by pages
abbrev pub Ends : {A : Type 0} → ℕ → ℕ → Option PageFault → Result A BaseFault → Result A BaseFault → Type 0
Ends old new last (Err fault) result = (result ≡ Err fault) × (new ≡ old)
Ends old new last (Ok x) (Ok y) = (y ≡ x) × (new ≡ old)
Ends old new last (Ok x) (Err (Refused (TooManyPages count))) = MeetsOne old new last (page.TooManyPages count)
Ends old new last (Ok x) (Err (Refused (Full in_use))) = MeetsOne old new last (page.Full in_use)
Ends old new last (Ok x) (Err _) = ⊥

-- how many calls were not answered
abbrev pub unanswered : List Asked → ℕ
unanswered calls = count_by (λ q. not q.answered) calls

-- what was asked: something was changed only where a call may put, and each fault that was met left a call unanswered
pub record IsAsked (was_changed is_changed : Bool) (old new : ℕ) (calls : List Asked) : Type 0 where
  pub puts : was_changed ≡ false → is_changed ≡ true → IsTrue (puts calls)
  pub met : new ≤ old + unanswered calls
