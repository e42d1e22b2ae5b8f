-- A lookup in an attribute's index or inverse, in a database that has them.
use Rattle.std.proofs.Common.{arith, ◌≡◌, ℕ, ◌==◌, Bool, true, false, List, [], ◌∷◌, Option, Some, None, Result, IfOk, IfErr, refl, sym, ◌∙◌, subst}
use Rattle.std.specs.Prelude.{IfSome, MatchOption}
use Rattle.std.specs.List.{All}
use Rattle.std.specs.Option.{option_or}
use Rattle.std.proofs.lemmas.Bool.Decides.{nat_tests}
use Rattle.st_values.specs.declared.value.EntityId.{EntityId}
use Rattle.st_values.specs.declared.value.Value.{Value}
use Rattle.st_page.specs.declared.fault.PageFault.{PageFault}
use Rattle.st_lattice.specs.declared.attribute.Attribute.{Attribute}
use Rattle.st_lattice.specs.declared.stores.StoreKind.TheVariants.{Index, Inverse}
use Rattle.st_lattice.specs.Outline.{Outline}
use Rattle.st_lattice.specs.Stores.{store}
use Rattle.st_pages.specs.declared.places.Place.{Place}
use Rattle.st_pages.specs.Attempt.{Array, Attempt, over}
use Rattle.st_pages.specs.Calls.{no_page}
use Rattle.st_pages.specs.Places.{place_of}
use Rattle.st_pages.specs.Reading.{ForEach, OfDamage}
use Rattle.st_pages.proofs.Carried.{over-same}
use Rattle.st_state.specs.State.{Pair}
use Rattle.st_store.specs.Stores.{OfStore}
use Rattle.st_index.specs.Turned.{AreOfPairs, entities_with, found_place}
use Rattle.st_index.specs.Bad.{IsNamed}
use Rattle.st_index.proofs.Called.{PageLaws}
use Rattle.st_index.proofs.Changes.{damage-weaken}
use Rattle.st_index.proofs.Looked.{err-weaken, ok-weaken}
use Rattle.st_index.proofs.Placed.{found-holds}
use Rattle.st_database.specs.Database.{IsDatabase}
use Rattle.st_database.specs.Touches.{Leads, OfDatabase}
use Rattle.st_database.proofs.Frames.{StoreLaws, held-at}
use Rattle.st_database.proofs.Calling.{touches-looked}

same-number : (m n : ℕ) → (m == n) ≡ true → m ≡ n
same-number m n h = grind (arith, nat_tests)

own-place : (s : ℕ) (places : List Place) (place : Place) → place_of s places ≡ Some place → place_of place.store places ≡ Some place
own-place s places place e =
    let has = (found-holds (λ q. q.store == s) (λ q. Unit {0}) places place e (λ k d w. tt)).1 in
    subst (λ (n : ℕ). place_of n places ≡ Some place) (sym (same-number place.store s has)) e

-- the place that is found for an attribute is that of its store
pub found-own : (number : ℕ) (places : List Place) (place : Place) → found_place number places ≡ Some place → place_of place.store places ≡ Some place
found-own number places place e = either-place (place_of (store Inverse number) places) (place_of (store Index number) places) refl refl e
  where
    either-place : (o i : Option Place) → o ≡ place_of (store Inverse number) places → i ≡ place_of (store Index number) places → option_or o i ≡ Some place → place_of place.store places ≡ Some place
    either-place None i e f h = own-place (store Index number) places place (sym f ∙ h)
    either-place (Some q) i e f h = own-place (store Inverse number) places place (sym e ∙ h)

module _ {Self : Type 0} (attempt : Self → Attempt) (follows : Self → Self → Type 0) (asked : Self → Self → (ℕ → Bool) → (ℕ → Bool) → ℕ → Type 0) (laws : PageLaws attempt follows asked) (a b : Self)
    (form : Place → Array → List ℕ → List (List ℕ) → Type 0) (reach : Place → Array → ℕ → Bool) (stores : StoreLaws form reach) (schema : Outline) (places : List Place) (value : Value) where
  abbrev A : Attempt
  A = attempt a

  abbrev B : Attempt
  B = attempt b

  -- what holds of an attribute's pairs, by the rows of the store in which they are looked up
  abbrev OfRows : Option Attribute → Option Place → (Attribute → List Pair → Type 0) → Array → Type 0
  OfRows found spot Holds array = IfSome found (λ c. IfSome spot (λ place. OfStore form place array (λ _ rows. (pairs : List Pair) → AreOfPairs c.kind rows pairs → Holds c pairs)))

  -- what a lookup gives
  leads-from : (found : Option Attribute) (spot : Option Place) (result : Result (List EntityId) PageFault) → ((place : Place) → spot ≡ Some place → place_of place.store places ≡ Some place) → B.written ≡ A.written
      → ForEach A B (λ x. MatchOption spot (asked a b no_page no_page 0) (λ place. asked a b (reach place x) no_page 0))
      → IfOk result (λ entities. ForEach A B (OfRows found spot (λ c pairs. entities ≡ entities_with value pairs)))
      → IfErr result (OfDamage (λ page at. ForEach A B (OfRows found spot (λ c pairs. All (IsNamed schema c) pairs → ⊥))))
      → OfDatabase form A B schema places (λ array view. IfSome found (λ c. IfSome spot (λ place. (pairs : List Pair) → AreOfPairs c.kind (view.rows place.store) pairs → All (IsNamed schema c) pairs
      → Leads form (asked a b) A B array schema places view (λ entities. entities ≡ entities_with value pairs) (place.store ∷ []) false 0 0 result)))
  leads-from None spot result own written asks found sound = λ array view agrees d. tt
  leads-from (Some c) None result own written asks found sound = λ array view agrees d. tt
  leads-from (Some c) (Some place) result own written asks found sound = λ array view agrees d pairs are named.
      let at = own place refl in
      let holds = held-at form reach stores (over A array) schema places view d place at in
      record {
        answers = ok-weaken (λ entities. ForEach A B (OfRows (Some c) (Some place) (λ c pairs. entities ≡ entities_with value pairs))) (λ entities. (entities ≡ entities_with value pairs) × IsDatabase form (over B array) schema places view) result
            (λ entities h. (h array agrees (d.pages place.store) (view.rows place.store) holds pairs are, subst (λ (y : Array). IsDatabase form y schema places view) (sym (over-same A B array written)) d)) found;
        sound = err-weaken (OfDamage (λ page at. ForEach A B (OfRows (Some c) (Some place) (λ c pairs. All (IsNamed schema c) pairs → ⊥)))) (OfDamage (λ page at. ⊥)) result
            (λ fault. damage-weaken (λ page at. ForEach A B (OfRows (Some c) (Some place) (λ c pairs. All (IsNamed schema c) pairs → ⊥))) (λ page at. ⊥)
            (λ page at w. w array agrees (d.pages place.store) (view.rows place.store) holds pairs are named) fault) sound;
        touches = touches-looked attempt follows asked laws a b form reach stores place array schema places view d at written (asks array agrees);
      }

  pub leads-looked-up : (number : ℕ) (found : Option Attribute) (result : Result (List EntityId) PageFault) → B.written ≡ A.written
      → ForEach A B (λ x. MatchOption (found_place number places) (asked a b no_page no_page 0) (λ place. asked a b (reach place x) no_page 0))
      → IfOk result (λ entities. ForEach A B (OfRows found (found_place number places) (λ c pairs. entities ≡ entities_with value pairs)))
      → IfErr result (OfDamage (λ page at. ForEach A B (OfRows found (found_place number places) (λ c pairs. All (IsNamed schema c) pairs → ⊥))))
      → OfDatabase form A B schema places (λ array view. IfSome found (λ c. IfSome (found_place number places) (λ place. (pairs : List Pair) → AreOfPairs c.kind (view.rows place.store) pairs → All (IsNamed schema c) pairs
      → Leads form (asked a b) A B array schema places view (λ entities. entities ≡ entities_with value pairs) (place.store ∷ []) false 0 0 result)))
  leads-looked-up number found result written asks has sound = leads-from found (found_place number places) result (found-own number places) written asks has sound
