-- What is found in the store at a place of a database.
use Rattle.std.proofs.Common.{◌≡◌, ℕ, Bool, false, List, [], ◌∷◌, Result, Ok, Err, IfOk, IfErr, OnOk}
use Rattle.st_page.specs.declared.fault.PageFault.{PageFault}
use Rattle.st_pages.specs.declared.places.Place.{Place}
use Rattle.st_pages.specs.Attempt.{Array, Attempt, over}
use Rattle.st_pages.specs.Calls.{no_page}
use Rattle.st_pages.specs.Reading.{ForEach, OfDamage}
use Rattle.st_store.specs.Stores.{OfStore}
use Rattle.st_index.proofs.Called.{PageLaws}
use Rattle.st_index.proofs.Changes.{damage-weaken}
use Rattle.st_index.proofs.Looked.{err-weaken, ok-weaken}
use Rattle.st_database.specs.Database.{IsDatabase}
use Rattle.st_database.specs.Touches.{Leads, WithStore}
use Rattle.st_database.proofs.Frames.{StoreLaws, held-at}
use Rattle.st_database.proofs.Calling.{touches-looked}
use Rattle.st_lookups.specs.Looks.{Finds}

pub if-ok : {E : Type 0} {A : Type 0} (P : Type 0) (answer : Result A E) → OnOk answer P → IfOk answer (λ _. P)
if-ok P (Ok x) h = h
if-ok P (Err e) h = tt

-- a call that leaves a database as it is finds what it leads to
pub leads-finds : {X : Type 0} (form : Place → Array → List ℕ → List (List ℕ) → Type 0) (asked : (ℕ → Bool) → (ℕ → Bool) → ℕ → Type 0) (a b : Attempt) (place : Place) (R Right : X → List (List ℕ) → Type 0) → ((x : X) (rows : List (List ℕ)) → R x rows → Right x rows) → (result : Result X PageFault)
    → WithStore form a b place (λ array schema places view. Leads form asked a b array schema places view (λ x. R x (view.rows place.store)) (place.store ∷ []) false 0 0 result)
    → WithStore form a b place (λ array schema places view. Finds asked a b array (λ x. Right x (view.rows place.store)) (place.store ∷ []) result)
leads-finds form asked a b place R Right weaker result leads = λ array schema places view agrees d at.
    let x = leads array schema places view agrees d at in
    record {
      answers = ok-weaken (λ y. R y (view.rows place.store) × IsDatabase form (over b array) schema places view) (λ y. Right y (view.rows place.store)) result (λ y h. weaker y (view.rows place.store) h.0) x.answers;
      sound = x.sound;
      touches = x.touches;
    }

module _ {Self : Type 0} (attempt : Self → Attempt) (follows : Self → Self → Type 0) (asked : Self → Self → (ℕ → Bool) → (ℕ → Bool) → ℕ → Type 0) (laws : PageLaws attempt follows asked) (a b : Self)
    (form : Place → Array → List ℕ → List (List ℕ) → Type 0) (reach : Place → Array → ℕ → Bool) (stores : StoreLaws form reach) (place : Place) where
  -- a call that looks at a store finds in each database what it finds in each store, and meets a bad page only where its rows aren't sound
  pub finds-looked : {X : Type 0} (Sound : List (List ℕ) → Type 0) (Right : X → List (List ℕ) → Type 0) (bad : Place → Array → ℕ → ℕ → Type 0)
      → ((p : Place) (x : Array) (pages : List ℕ) (rows : List (List ℕ)) (page at : ℕ) → bad p x page at → form p x pages rows → ⊥) → (result : Result X PageFault) → (attempt b).written ≡ (attempt a).written
      → ForEach (attempt a) (attempt b) (λ x. asked a b (reach place x) no_page 0)
      → IfOk result (λ found. ForEach (attempt a) (attempt b) (λ x. OfStore form place x (λ _ rows. Right found rows)))
      → IfErr result (OfDamage (λ page at. ForEach (attempt a) (attempt b) (λ x. OfStore form place x (λ _ rows. Sound rows → bad place x page at))))
      → WithStore form (attempt a) (attempt b) place (λ array schema places view. Sound (view.rows place.store) → Finds (asked a b) (attempt a) (attempt b) array (λ found. Right found (view.rows place.store)) (place.store ∷ []) result)
  finds-looked Sound Right bad never result written asks found wrong = λ array schema places view agrees d at sound.
      let A = attempt a in
      let B = attempt b in
      let holds = held-at form reach stores (over A array) schema places view d place at in
      let Wrong : ℕ → ℕ → Type 0 = λ page at. ForEach A B (λ x. OfStore form place x (λ _ rows. Sound rows → bad place x page at)) in
      record {
        answers = ok-weaken (λ x. ForEach A B (λ y. OfStore form place y (λ _ rows. Right x rows))) (λ x. Right x (view.rows place.store)) result
            (λ x h. h array agrees (d.pages place.store) (view.rows place.store) holds) found;
        sound = err-weaken (OfDamage Wrong) (OfDamage (λ page at. ⊥)) result
            (λ fault. damage-weaken Wrong (λ page at. ⊥)
            (λ page n w. never place (over A array) (d.pages place.store) (view.rows place.store) page n (w array agrees (d.pages place.store) (view.rows place.store) holds sound) holds) fault) wrong;
        touches = touches-looked attempt follows asked laws a b form reach stores place array schema places view d at written (asks array agrees);
      }
