-- How a deletion ends, and how a base tells it.
use Rattle.std.proofs.Common.{◌≡◌, ℕ, ◌+◌, ◌*◌, ◌≤◌, Bool, true, List, Option, Some, None, Result, Ok, Err, IsTrue, refl, sym, arith}
use Rattle.st_page.specs.declared.fault.PageFault.{PageFault}
use Rattle.st_values.specs.declared.value.EntityId.{EntityId}
use Rattle.st_lattice.specs.Stores.{deleted}
use Rattle.st_pages.specs.declared.places.Place.{Place}
use Rattle.st_pages.specs.Attempt.{Array, Attempt, over}
use Rattle.st_pages.specs.Calls as pages
use Rattle.st_plain.specs.declared.fault.BaseFault.TheVariants.{Refused}
use Rattle.st_plain.specs.Base.{Gives}
use Rattle.st_state.specs.declared.refusal.Refusal.{Refusal}
use Rattle.st_state.specs.declared.refusal.Refusal.TheVariants.{UnknownName, WrongType, NullNotAllowed, NotUnique, NoSuchEntity, StillNeeded, NotASet, TextTooLong, NumbersSpent, Aborted, NullEntity, TooManyPages, Full}
use Rattle.st_state.specs.State.{State, entity_deleted}
use Rattle.st_state.specs.Bases.{still_needed}
use Rattle.st_state.specs.Calls.{Call, Delete, due}
use Rattle.st_state.specs.Rows.{rows_added, rows_changed}
use Rattle.st_counts.specs.Counts.{referring_rows, spoken_rows}
use Rattle.st_index.proofs.Called.{PageLaws}
use Rattle.st_database.specs.Touches.{Touches}
use Rattle.st_database.proofs.Touching.{touches-more}
use Rattle.st_standing.specs.Standing.{NearlyStandsAt}
use Rattle.st_lookups.specs.Looks.{Finds}
use Rattle.st_edits.specs.Edits.{Behaves}
use Rattle.st_edits.specs.Steps.{IsSettled, Turns}
use Rattle.st_edits.proofs.Settling.{touches-later, touches-look, turns-early}
use Rattle.st_removals.specs.Clears.{Removes, tally}
use Rattle.st_deletes.specs.Needs.{IsNeeded}

module _ {Self : Type 0} (attempt : Self → Attempt) (follows : Self → Self → Type 0) (asked : Self → Self → (ℕ → Bool) → (ℕ → Bool) → ℕ → Type 0) (page_laws : PageLaws attempt follows asked) (form : Place → Array → List ℕ → List (List ℕ) → Type 0)
    (array : Array) (places : List Place) (e : EntityId) (s : State) (x y : Self) where
  abbrev stores : List ℕ
  stores = deleted s.schema e.ty

  -- what was looked up in front of it
  abbrev Found : Result (Option Refusal) PageFault → Type 0
  Found result = Finds (asked x y) (attempt x) (attempt y) array (λ refusal. refusal ≡ still_needed s e) stores result

  module _ (z : Self) (xy : follows x y) (yz : follows y z) (bound : 1 + spoken_rows s e + referring_rows s e ≤ rows_changed s (entity_deleted s e)) (found : Found (Ok None)) where
    touches-deleted : {A : Type 0} (result : Result A PageFault) → Removes form (asked y z) (attempt y) (attempt z) array places e s result
        → Touches (asked x z) (attempt x) (attempt z) array stores true (17 * rows_added s (entity_deleted s e)) (34 * rows_changed s (entity_deleted s e))
    touches-deleted result removes =
        touches-later attempt follows asked page_laws array s (Delete e) stores (λ t h. h) x y z xy yz found.touches
        (touches-more attempt follows asked page_laws y z array stores stores true true 0 (17 * rows_added s (entity_deleted s e)) (34 * (1 + tally s e)) (34 * rows_changed s (entity_deleted s e)) (λ t h. h) (λ h. h) (omega arith) (omega (arith, bound)) removes.touches)

    -- the entity is gone
    pub settles-gone : (done : Unit {0}) → Removes form (asked y z) (attempt y) (attempt z) array places e s (Ok done)
        → Turns {A = Option Refusal} (asked x z) (attempt x) (attempt z) array s (Delete e) (IsSettled form (attempt z) array places s (Delete e)) (Ok None)
    settles-gone done removes = record { answers = (sym found.answers, removes.answers); sound = tt; early = tt; touches = touches-deleted (Ok done) removes }

    -- a fault came
    pub settles-fault : (fault : PageFault) → Removes {A = Unit {0}} form (asked y z) (attempt y) (attempt z) array places e s (Err fault)
        → Turns {A = Option Refusal} (asked x z) (attempt x) (attempt z) array s (Delete e) (IsSettled form (attempt z) array places s (Delete e)) (Err fault)
    settles-fault fault removes = record { answers = tt; sound = removes.sound; early = λ h. sym found.answers; touches = touches-deleted (Err fault) removes }

  -- it is still needed
  pub settles-needed : (refusal : Refusal) → Found (Ok (Some refusal)) → NearlyStandsAt form (over (attempt y) array) places s
      → Turns {A = Option Refusal} (asked x y) (attempt x) (attempt y) array s (Delete e) (IsSettled form (attempt y) array places s (Delete e)) (Ok (Some refusal))
  settles-needed refusal found stands = record {
    answers = (sym found.answers, stands);
    sound = tt;
    early = tt;
    touches = touches-look attempt follows asked page_laws array s (Delete e) stores (λ t h. h) x y found.touches;
  }

  -- a fault came before that was known
  pub settles-early : (fault : PageFault) → Found (Err fault) → IsTrue (pages.is_of_looking fault)
      → Turns {A = Option Refusal} (asked x y) (attempt x) (attempt y) array s (Delete e) (IsSettled form (attempt y) array places s (Delete e)) (Err fault)
  settles-early fault found looks = turns-early attempt follows asked page_laws array s (Delete e) stores (λ t h. h) (IsSettled form (attempt y) array places s (Delete e)) fault x y found.sound looks found.touches

-- ---- how a base tells it

pub behaves-needed : {A : Type 0} (follows : Type 0) (old new : pages.Met) (e : EntityId) (r : Refusal) → IsNeeded r → follows → old.count ≤ new.count → Behaves {A = A} follows old new (Delete e) (Err (Refused r))
behaves-needed follows old new e (StillNeeded x name) h below rises = record {
  below = below;
  met = record { never_falls = rises; is_last = λ f m. absurd (nothing f m) };
  own = refl;
}
  where
    nothing : (f : PageFault) → None ≡ Some f → ⊥
    nothing f m = cc
behaves-needed follows old new e (NotUnique name holder) h below rises = absurd h
behaves-needed follows old new e (UnknownName name) h below rises = absurd h
behaves-needed follows old new e WrongType h below rises = absurd h
behaves-needed follows old new e (NullNotAllowed name) h below rises = absurd h
behaves-needed follows old new e (NoSuchEntity x) h below rises = absurd h
behaves-needed follows old new e (NotASet name) h below rises = absurd h
behaves-needed follows old new e (TextTooLong length limit) h below rises = absurd h
behaves-needed follows old new e (NumbersSpent name) h below rises = absurd h
behaves-needed follows old new e Aborted h below rises = absurd h
behaves-needed follows old new e NullEntity h below rises = absurd h
behaves-needed follows old new e (TooManyPages count) h below rises = absurd h
behaves-needed follows old new e (Full in_use) h below rises = absurd h

pub gives-needed : {A : Type 0} (stands : State → Type 0) (s : State) (call : Call) (right : A → Type 0) (r : Refusal) → IsNeeded r → due s call ≡ Some r → stands s → Gives {A = A} stands s call right (Err (Refused r))
gives-needed stands s call right (StillNeeded x name) h is here = (is, here)
gives-needed stands s call right (NotUnique name holder) h is here = absurd h
gives-needed stands s call right (UnknownName name) h is here = absurd h
gives-needed stands s call right WrongType h is here = absurd h
gives-needed stands s call right (NullNotAllowed name) h is here = absurd h
gives-needed stands s call right (NoSuchEntity x) h is here = absurd h
gives-needed stands s call right (NotASet name) h is here = absurd h
gives-needed stands s call right (TextTooLong length limit) h is here = absurd h
gives-needed stands s call right (NumbersSpent name) h is here = absurd h
gives-needed stands s call right Aborted h is here = absurd h
gives-needed stands s call right NullEntity h is here = absurd h
gives-needed stands s call right (TooManyPages count) h is here = absurd h
gives-needed stands s call right (Full in_use) h is here = absurd h
