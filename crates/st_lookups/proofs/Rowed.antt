-- Calls that only look, in a row.
use Rattle.std.proofs.Common.{◌≡◌, ℕ, ◌==◌, ◌||◌, ◌∙◌, refl, Bool, true, false, List, ◌++◌, Result, sym, subst, arith}
use Rattle.std.proofs.lemmas.List.Folds.{list_any-append}
use Rattle.st_page.specs.declared.fault.PageFault.{PageFault}
use Rattle.st_pages.specs.declared.places.Place.{Place}
use Rattle.st_pages.specs.Attempt.{Array, Attempt, over}
use Rattle.st_pages.proofs.Carried.{over-same}
use Rattle.st_state.specs.State.{State}
use Rattle.st_store.specs.Stores.{among}
use Rattle.st_index.proofs.Called.{PageLaws}
use Rattle.st_index.proofs.Looked.{ok-weaken}
use Rattle.st_database.specs.Touches.{Touches}
use Rattle.st_database.proofs.Touching.{AreAmong, touches-more, touches-then}
use Rattle.st_standing.specs.Standing.{NearlyStandsAt}
use Rattle.st_lookups.specs.Looks.{Finds}

-- pages stand for the same state where nothing was written
pub stands-still : (form : Place → Array → List ℕ → List (List ℕ) → Type 0) (a b : Attempt) (array : Array) (places : List Place) (s : State) → b.written ≡ a.written → NearlyStandsAt form (over a array) places s → NearlyStandsAt form (over b array) places s
stands-still form a b array places s e stands = subst (λ (x : Array). NearlyStandsAt form x places s) (sym (over-same a b array e)) stands

twice : (stores : List ℕ) → AreAmong (stores ++ stores) stores
twice stores store m = either-is (among stores store) (sym (list_any-append (λ s. s == store) stores stores) ∙ m)
  where
    either-is : (b : Bool) → (b || b) ≡ true → b ≡ true
    either-is true h = refl
    either-is false h = h

module _ {Self : Type 0} (attempt : Self → Attempt) (follows : Self → Self → Type 0) (asked : Self → Self → (ℕ → Bool) → (ℕ → Bool) → ℕ → Type 0) (laws : PageLaws attempt follows asked) where
  -- two calls in a row that look at the same stores
  pub touches-both : (a b c : Self) → follows a b → follows b c → (array : Array) (stores : List ℕ) → Touches (asked a b) (attempt a) (attempt b) array stores false 0 0 → Touches (asked b c) (attempt b) (attempt c) array stores false 0 0
      → Touches (asked a c) (attempt a) (attempt c) array stores false 0 0
  touches-both a b c ab bc array stores x y =
      touches-more attempt follows asked laws a c array (stores ++ stores) stores false false 0 0 0 0 (twice stores) (λ e. e) (omega arith) (omega arith)
      (touches-then attempt follows asked laws a b c ab bc array stores stores false false 0 0 0 0 x y)

  -- the same answer of more stores
  pub finds-more : {A : Type 0} (a b : Self) (array : Array) (right less : A → Type 0) (stores others : List ℕ) (result : Result A PageFault) → AreAmong stores others → ((x : A) → right x → less x)
      → Finds (asked a b) (attempt a) (attempt b) array right stores result → Finds (asked a b) (attempt a) (attempt b) array less others result
  finds-more a b array right less stores others result more w x = record {
    answers = ok-weaken right less result w x.answers;
    sound = x.sound;
    touches = touches-more attempt follows asked laws a b array stores others false false 0 0 0 0 more (λ e. e) (omega arith) (omega arith) x.touches;
  }
