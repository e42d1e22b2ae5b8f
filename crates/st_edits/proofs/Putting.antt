-- A row is put into an extent, and then the change of a value is noted.
use Rattle.std.proofs.Common.{◌≡◌, ℕ, ◌+◌, ◌*◌, Bool, true, List, [], ◌∷◌, Option, Some, None, Result, Ok, Err, OnOk, refl, subst, arith}
use Rattle.std.specs.Prelude.{⊤, IfSome, is_some, take}
use Rattle.std.specs.Int.{w32, to_be_bytes}
use Rattle.st_page.specs.declared.fault.PageFault.{PageFault}
use Rattle.st_values.specs.declared.value.EntityId.{EntityId}
use Rattle.st_values.specs.declared.value.Value.{Value}
use Rattle.st_lattice.specs.declared.attribute.Attribute.{Attribute}
use Rattle.st_lattice.specs.Outline.{Outline}
use Rattle.st_pages.specs.declared.places.Place.{Place}
use Rattle.st_pages.specs.Attempt.{Array, Attempt, over}
use Rattle.st_pages.specs.Places.{place_of}
use Rattle.st_pages.proofs.Carried.{Stays}
use Rattle.st_store.specs.Rows.{row_with, with_row}
use Rattle.st_index.proofs.Called.{PageLaws, earlier}
use Rattle.st_index.proofs.Looked.{ok-weaken}
use Rattle.st_database.specs.Database.{IsDatabase, View, with_rows}
use Rattle.st_database.specs.Touches.{Leads, OfDatabase, WithStore, added_by, changed_by}
use Rattle.st_database.proofs.Touching.{among-first, leads-fail, leads-more, leads-then}
use Rattle.st_edits.specs.Values.{its_row}

pub on-ok : {A : Type 0} (P Q : Type 0) (result : Result A PageFault) → (P → Q) → OnOk result P → OnOk result Q
on-ok P Q (Ok x) f h = f h
on-ok P Q (Err fault) f h = tt

pub all-ok : {A : Type 0} (P : Type 0) (result : Result A PageFault) → P → OnOk result P
all-ok P (Ok x) h = h
all-ok P (Err fault) h = tt

-- by the row, and its key
pub leads-put : (form : Place → Array → List ℕ → List (List ℕ) → Type 0) (asked : (ℕ → Bool) → (ℕ → Bool) → ℕ → Type 0) (a b : Attempt) (array : Array) (schema : Outline) (places : List Place) (view : View)
    (store key : ℕ) (bytes row : List ℕ) (result : Result Bool PageFault) → key ≡ 4 → bytes ≡ row
    → Leads form asked a b array schema places (with_rows store (with_row key bytes (view.rows store)) view) (λ was. was ≡ is_some (row_with key bytes (view.rows store))) (store ∷ []) true (17 * added_by key bytes (view.rows store)) (34 * changed_by key bytes (view.rows store)) result
    → Leads form asked a b array schema places (with_rows store (with_row 4 row (view.rows store)) view) (λ was. ⊤) (store ∷ []) true (17 * added_by 4 row (view.rows store)) (34 * changed_by 4 row (view.rows store)) result
leads-put form asked a b array schema places view store key bytes row result four is x =
    let Same : ℕ → List ℕ → Type 0 =
    λ k r. Leads form asked a b array schema places (with_rows store (with_row k r (view.rows store)) view) (λ was. was ≡ is_some (row_with k r (view.rows store))) (store ∷ []) true (17 * added_by k r (view.rows store)) (34 * changed_by k r (view.rows store)) result in
    let y : Same 4 row = subst (Same 4) is (subst (λ (k : ℕ). Same k bytes) four x) in
    record {
      answers = ok-weaken (λ was. (was ≡ is_some (row_with 4 row (view.rows store))) × IsDatabase form (over b array) schema places (with_rows store (with_row 4 row (view.rows store)) view))
          (λ was. ⊤ × IsDatabase form (over b array) schema places (with_rows store (with_row 4 row (view.rows store)) view)) result (λ was h. (tt, h.1)) y.answers;
      sound = y.sound;
      touches = y.touches;
    }

-- the first bytes of an entity's row are its serial's
pub its-key : (schema : Outline) (e : EntityId) (cells : List Value) → take 4 (its_row schema e cells) ≡ take 4 (to_be_bytes w32 e.serial)
its-key schema e cells = refl

module _ {Self : Type 0} (attempt : Self → Attempt) (follows : Self → Self → Type 0) (asked : Self → Self → (ℕ → Bool) → (ℕ → Bool) → ℕ → Type 0) (laws : PageLaws attempt follows asked)
    (form : Place → Array → List ℕ → List (List ℕ) → Type 0) (a b c : Self) (ab : follows a b) (schema : Outline) (places : List Place) (place : Place) where
  -- both
  pub leads-both : (bc : follows b c) (later : View → Attribute → View) (put : View → View) (others : List ℕ) (m k : View → ℕ) (n l : ℕ) (found : Option Attribute) (answer : Bool) (result : Result Unit PageFault)
      → WithStore form (attempt a) (attempt b) place (λ array outline there view. Leads form (asked a b) (attempt a) (attempt b) array outline there (put view) (λ was. ⊤) (place.store ∷ []) true (17 * m view) (34 * k view) (Ok answer))
      → OfDatabase form (attempt b) (attempt c) schema places (λ array view. IfSome found (λ x. Leads form (asked b c) (attempt b) (attempt c) array schema places (later view x) (λ done. ⊤) others true (17 * n) (34 * l) result))
      → OfDatabase form (attempt a) (attempt c) schema places (λ array view. place_of place.store places ≡ Some place → IfSome found (λ x.
      Leads form (asked a c) (attempt a) (attempt c) array schema places (later (put view) x) (λ done. ⊤) (place.store ∷ others) true (17 * (m view + n)) (34 * (k view + l)) result))
  leads-both bc later put others m k n l None answer result first second = λ array view agrees d at. tt
  leads-both bc later put others m k n l (Some x) answer result first second = λ array view agrees d at.
      let stays : Stays (attempt b) (attempt c) = laws.seen_stays b c bc in
      subst (λ (most : ℕ). Leads form (asked a c) (attempt a) (attempt c) array schema places (later (put view) x) (λ done. ⊤) (place.store ∷ others) true most (34 * (k view + l)) result)
      (spread 17 (m view) n)
      (subst (λ (more : ℕ). Leads form (asked a c) (attempt a) (attempt c) array schema places (later (put view) x) (λ done. ⊤) (place.store ∷ others) true (17 * m view + 17 * n) more result)
      (spread 34 (k view) l)
      (leads-then attempt follows asked laws form array schema places a b c ab bc (put view) (later (put view) x) (λ was. ⊤) (λ done. ⊤) (place.store ∷ []) others true true (17 * m view) (17 * n) (34 * k view) (34 * l) answer result
      (first array schema places view (earlier (attempt b) (attempt c) array stays agrees) d at)
      (λ _ e. second array (put view) agrees e)))
    where
      spread : (f p q : ℕ) → f * p + f * q ≡ f * (p + q)
      spread f p q = grind arith

  -- the first one was not answered
  pub leads-first : (later : View → Attribute → View) (put : View → View) (others : List ℕ) (m k : View → ℕ) (n l : ℕ) (found : Option Attribute) (fault : PageFault)
      → WithStore form (attempt a) (attempt b) place (λ array outline there view. Leads form (asked a b) (attempt a) (attempt b) array outline there {A = Bool} (put view) (λ was. ⊤) (place.store ∷ []) true (17 * m view) (34 * k view) (Err fault))
      → OfDatabase form (attempt a) (attempt b) schema places (λ array view. place_of place.store places ≡ Some place → IfSome found (λ x.
      Leads form (asked a b) (attempt a) (attempt b) array schema places {A = Unit {0}} (later (put view) x) (λ done. ⊤) (place.store ∷ others) true (17 * (m view + n)) (34 * (k view + l)) (Err fault)))
  leads-first later put others m k n l None fault first = λ array view agrees d at. tt
  leads-first later put others m k n l (Some x) fault first = λ array view agrees d at.
      leads-more-of array view (leads-fail attempt follows asked laws form array schema places a b (put view) (later (put view) x) (λ was. ⊤) (λ done. ⊤) (place.store ∷ []) true (17 * m view) (34 * k view) fault (first array schema places view agrees d at))
    where
      leads-more-of : (array : Array) (view : View) → Leads form (asked a b) (attempt a) (attempt b) array schema places {A = Unit {0}} (later (put view) x) (λ done. ⊤) (place.store ∷ []) true (17 * m view) (34 * k view) (Err fault)
          → Leads form (asked a b) (attempt a) (attempt b) array schema places {A = Unit {0}} (later (put view) x) (λ done. ⊤) (place.store ∷ others) true (17 * (m view + n)) (34 * (k view + l)) (Err fault)
      leads-more-of array view y =
          leads-more attempt follows asked laws form array schema places a b (later (put view) x) (λ done. ⊤) (place.store ∷ []) (place.store ∷ others) true true (17 * m view) (17 * (m view + n)) (34 * k view) (34 * (k view + l)) (Err fault)
          (among-first (place.store ∷ []) others) (λ h. h) (omega arith) (omega arith) y
