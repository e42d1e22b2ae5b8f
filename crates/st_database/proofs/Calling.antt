-- What a call on a store gives in a database that has the store.
use Rattle.std.proofs.Common.{◌≡◌, ℕ, ◌*◌, ◌≤◌, ◌==◌, ◌||◌, Bool, true, false, if◌then◌else◌, List, [], ◌∷◌, Option, Some, None, Result, Ok, Err, IsTrue, IfOk, IfErr, OnOk, refl, sym, ap, ◌∙◌, subst, inl, inr, arith, true≢false}
use Rattle.std.specs.Prelude.{◌&&◌, not, nat_le, IsSome, is_some}
use Rattle.std.proofs.lemmas.Bool.Decides.{nat_tests}
use Rattle.st_values.proofs.Tests.{both, either, first-of, left, one-of}
use Rattle.st_page.specs.declared.fault.PageFault.{PageFault}
use Rattle.st_lattice.specs.Outline.{Outline}
use Rattle.st_image.specs.Fields.{kind_of, store_of}
use Rattle.st_pages.specs.declared.places.Place.{Place}
use Rattle.st_pages.specs.Attempt.{Array, Attempt, Agrees, over}
use Rattle.st_pages.specs.Calls.{IsWithin, no_page}
use Rattle.st_pages.specs.Places.{AscendByStore, place_of}
use Rattle.st_pages.specs.Reading.{ForEach, OfDamage}
use Rattle.st_pages.proofs.Carried.{over-same}
use Rattle.st_store.specs.Rows.{row_with, with_row, without_row}
use Rattle.st_store.specs.Stores.{ForBoth, Inserted, IsSame, KeepNumbers, OfStore, Removed, changes, drew_between, is_page_of}
use Rattle.st_store.proofs.Ordering.{bytes-same}
use Rattle.st_catalog.specs.Catalog.{Has}
use Rattle.st_index.specs.Noted.{differences}
use Rattle.st_index.proofs.Counted.{differences-few, differences-none, or-cases}
use Rattle.st_index.proofs.Called.{PageLaws}
use Rattle.st_index.proofs.Changes.{damage-weaken}
use Rattle.st_index.proofs.Looked.{err-weaken, ok-weaken}
use Rattle.st_database.specs.Database.{IsDatabase, View, with_rows}
use Rattle.st_database.specs.Touches.{Leads, Touches, WithStore, added_by, belongs, changed_by, is_row, may_touch, removed_by}
use Rattle.st_database.proofs.Listed.{is-number}
use Rattle.st_database.proofs.Frames.{StoreLaws, database-changed, held-at}

between : (k : ℕ) → 2 ≤ k → k ≤ 4 → (nat_le 2 k && nat_le k 4) ≡ true
between k h l = grind (arith, nat_tests)

pub is-of : (s : ℕ) (page : List ℕ) → store_of page ≡ s → 2 ≤ kind_of page → kind_of page ≤ 4 → IsTrue (is_page_of s page)
is-of s page e h k = both (store_of page == s) (nat_le 2 (kind_of page) && nat_le (kind_of page) 4) (is-number (store_of page) s e) (between (kind_of page) h k)

is-row : (row : List ℕ) (o : Option (List ℕ)) → is_row row o ≡ true → o ≡ Some row
is-row row None e = absurd (true≢false (sym e))
is-row row (Some other) e = ap Some (sym (bytes-same row other e))

none-there : (o : Option (List ℕ)) → is_some o ≡ false → o ≡ None
none-there None e = refl
none-there (Some x) e = absurd (true≢false e)

module _ {Self : Type 0} (attempt : Self → Attempt) (follows : Self → Self → Type 0) (asked : Self → Self → (ℕ → Bool) → (ℕ → Bool) → ℕ → Type 0) (laws : PageLaws attempt follows asked) (a b : Self)
    (form : Place → Array → List ℕ → List (List ℕ) → Type 0) (reach : Place → Array → ℕ → Bool) (stores : StoreLaws form reach) (place : Place) where
  abbrev A : Attempt
  A = attempt a

  abbrev B : Attempt
  B = attempt b

  module _ (array : Array) (schema : Outline) (places : List Place) (view : View) (d : IsDatabase form (over A array) schema places view) (at : place_of place.store places ≡ Some place) where
    pub reach-is : (page : ℕ) → IsTrue (reach place (over A array) page) → IsTrue (is_page_of place.store (over A array page))
    reach-is page h =
        let holds = held-at form reach stores (over A array) schema places view d place at in
        let bears = stores.basic.bear place (over A array) (d.pages place.store) (view.rows place.store) page holds (sym (stores.basic.reached place (over A array) (d.pages place.store) (view.rows place.store) page holds) ∙ h) in
        is-of place.store (over A array page) bears.1 bears.2 bears.3

    pub may-reach : IsWithin (reach place (over A array)) (may_touch (place.store ∷ []) B (over A array))
    may-reach page h = first-of (belongs (place.store ∷ []) (over A array) page) (B.drawn page) (first-of (is_page_of place.store (over A array page)) false (reach-is page h))

    may-drawn : (page : ℕ) → IsTrue (reach place (over A array) page || drew_between A B page) → IsTrue (may_touch (place.store ∷ []) B (over A array) page)
    may-drawn page h = elim (or-cases (reach place (over A array) page) (drew_between A B page) h) [
      | inl k ↦ may-reach page k
      | inr e ↦ one-of (belongs (place.store ∷ []) (over A array) page) (B.drawn page) (left (B.drawn page) (not (A.drawn page)) e)
    ]

    -- what a call touches that only looks at the store
    pub touches-looked : B.written ≡ A.written → asked a b (reach place (over A array)) no_page 0 → Touches (asked a b) A B array (place.store ∷ []) false 0 0
    touches-looked written asks =
        let same : over B array ≡ over A array = over-same A B array written in
        record {
          asks = laws.asked_more a b (reach place (over A array)) no_page (may_touch (place.store ∷ []) B (over A array)) (λ page. false && may_touch (place.store ∷ []) B (over A array) page) 0 0 may-reach (λ page h. absurd (true≢false (sym h))) (omega arith) asks;
          numbers = λ store page h. inl (subst (λ (x : Array). IsTrue (is_page_of store (x page))) same h);
          few = subst (λ (x : Array). differences (over A array) x ≤ 0) (sym same) (differences-none (over A array) 0);
        }

    -- and one that changes it
    pub touches-changed : (got put : ℕ → Bool) (n most more : ℕ) → IsWithin got (λ page. reach place (over A array) page || drew_between A B page) → IsWithin put (λ page. reach place (over A array) page || drew_between A B page) → n ≤ most
        → asked a b got put n → KeepNumbers A B (over A array) (over B array) → differences (over A array) (over B array) ≤ more → Touches (asked a b) A B array (place.store ∷ []) true most more
    touches-changed got put n most more got-in put-in less asks numbers few = record {
      asks = laws.asked_more a b got put (may_touch (place.store ∷ []) B (over A array)) (λ page. true && may_touch (place.store ∷ []) B (over A array) page) n most (λ page h. may-drawn page (got-in page h)) (λ page h. may-drawn page (put-in page h)) less asks;
      numbers = λ store page h. elim (numbers store page h) [
        | inl k ↦ inl k
        | inr e ↦ inr (left (B.drawn page) (not (A.drawn page)) e)
      ];
      few = few;
    }

  -- a store of a database has no bad page
  pub never-damaged : {X : Type 0} (bad : Place → Array → ℕ → ℕ → Type 0) → ((p : Place) (x : Array) (pages : List ℕ) (rows : List (List ℕ)) (page at : ℕ) → bad p x page at → form p x pages rows → ⊥)
      → (array : Array) (pages : List ℕ) (rows : List (List ℕ)) → Agrees B array → form place (over A array) pages rows → (result : Result X PageFault)
      → IfErr result (OfDamage (λ page at. ForEach A B (λ x. bad place x page at))) → IfErr result (OfDamage (λ page at. ⊥))
  never-damaged bad never array pages rows agrees holds result wrong =
      err-weaken (OfDamage (λ page at. ForEach A B (λ x. bad place x page at))) (OfDamage (λ page at. ⊥)) result
      (λ fault. damage-weaken (λ page at. ForEach A B (λ x. bad place x page at)) (λ page at. ⊥) (λ page at w. never place (over A array) pages rows page at (w array agrees) holds) fault) wrong

  -- ---- a call that looks

  pub leads-looked : {X : Type 0} (R : X → List (List ℕ) → Type 0) (bad : Place → Array → ℕ → ℕ → Type 0) → ((p : Place) (x : Array) (pages : List ℕ) (rows : List (List ℕ)) (page at : ℕ) → bad p x page at → form p x pages rows → ⊥) → (result : Result X PageFault)
      → B.written ≡ A.written → ForEach A B (λ x. asked a b (reach place x) no_page 0) → IfOk result (λ found. ForEach A B (λ x. OfStore form place x (λ _ rows. R found rows)))
      → IfErr result (OfDamage (λ page at. ForEach A B (λ x. bad place x page at)))
      → WithStore form A B place (λ array schema places view. Leads form (asked a b) A B array schema places view (λ found. R found (view.rows place.store)) (place.store ∷ []) false 0 0 result)
  leads-looked R bad never result written asks found wrong = λ array schema places view agrees d at.
      let holds = held-at form reach stores (over A array) schema places view d place at in
      record {
        answers = ok-weaken (λ x. ForEach A B (λ y. OfStore form place y (λ _ rows. R x rows))) (λ x. R x (view.rows place.store) × IsDatabase form (over B array) schema places view) result
            (λ x h. (h array agrees (d.pages place.store) (view.rows place.store) holds, subst (λ (y : Array). IsDatabase form y schema places view) (sym (over-same A B array written)) d)) found;
        sound = never-damaged bad never array (d.pages place.store) (view.rows place.store) agrees holds result wrong;
        touches = touches-looked array schema places view d at written (asks array agrees);
      }

  -- what holds where there is the store holds in each database with it
  pub seen-in : {X : Type 0} (R : Array → Type 0) (result : Result X PageFault) → OnOk result (ForEach A B (λ x. OfStore form place x (λ _ _. R x))) → OnOk result (WithStore form A B place (λ array schema places view. R (over A array)))
  seen-in R (Ok x) h = λ array schema places view agrees d at. h array agrees (d.pages place.store) (view.rows place.store) (held-at form reach stores (over A array) schema places view d place at)
  seen-in R (Err fault) h = tt

  pub put-in : {X : Type 0} (spot : Place → Array → List ℕ → ℕ → Type 0) (row : List ℕ) (Left : X → Array → Array → List ℕ → List (List ℕ) → Type 0) → ((x : X) (before after : Array) (pages : List ℕ) (rows : List (List ℕ)) → Left x before after pages rows → (page : ℕ) × spot place before row page × IsSome (B.written page))
      → (result : Result X PageFault) → IfOk result (λ x. ForBoth A B (λ before after. OfStore form place before (λ pages rows. Left x before after pages rows)))
      → OnOk result (WithStore form A B place (λ array schema places view. (page : ℕ) × spot place (over A array) row page × IsSome (B.written page)))
  put-in spot row Left tells (Ok x) h = λ array schema places view agrees d at.
      tells x (over A array) (over B array) (d.pages place.store) (view.rows place.store) (h array agrees (d.pages place.store) (view.rows place.store) (held-at form reach stores (over A array) schema places view d place at))
  put-in spot row Left tells (Err fault) h = tt

  -- ---- a call that puts a row in, or takes one out

  module _ (ascends : (array : Array) (schema : Outline) (places : List Place) → Has array schema places → AscendByStore places) (spot : Place → Array → List ℕ → ℕ → Type 0)
      (bad : Place → Array → ℕ → ℕ → Type 0) (never : (p : Place) (x : Array) (pages : List ℕ) (rows : List (List ℕ)) (page at : ℕ) → bad p x page at → form p x pages rows → ⊥) (row : List ℕ) (result : Result Bool PageFault)
      (few : ForBoth A B (λ before after. changes place.first before after ≤ 34)) (numbers : ForBoth A B (λ before after. OfStore form place before (λ _ _. KeepNumbers A B before after)))
      (wrong : IfErr result (OfDamage (λ page at. ForEach A B (λ x. bad place x page at)))) where
    pub leads-inserted : ForEach A B (λ x. asked a b (reach place x) (λ page. reach place x page || drew_between A B page) 17)
        → ForEach A B (λ x. OfStore form place x (λ _ rows. IsTrue (is_some (row_with place.key row rows)) → asked a b (reach place x) (reach place x) 0))
        → ForBoth A B (λ before after. OfStore form place before (λ _ rows. row_with place.key row rows ≡ Some row → IsSame before after))
        → IfOk result (λ was. ForBoth A B (λ before after. OfStore form place before (λ reached rows. Inserted form spot (asked a b) reach place A B before after reached row rows was)))
        → WithStore form A B place (λ array schema places view. Leads form (asked a b) A B array schema places (with_rows place.store (with_row place.key row (view.rows place.store)) view)
        (λ was. was ≡ is_some (row_with place.key row (view.rows place.store))) (place.store ∷ []) true (17 * added_by place.key row (view.rows place.store)) (34 * changed_by place.key row (view.rows place.store)) result)
    leads-inserted asks there same inserted = λ array schema places view agrees d at.
        let holds = held-at form reach stores (over A array) schema places view d place at in
        let before : Array = over A array in
        let after : Array = over B array in
        let rows : List (List ℕ) = view.rows place.store in
        let pages : List ℕ = d.pages place.store in
        let had : Option (List ℕ) = row_with place.key row rows in
        let in-reach : IsWithin (reach place before) (λ page. reach place before page || drew_between A B page) = λ page h. first-of (reach place before page) (drew_between A B page) h in
        let less : differences before after ≤ 34 * changed_by place.key row rows = either (is_row row had) (λ t. differences before after ≤ 34 * (if t then 0 else 1))
        (λ e. let one : before ≡ after = λ i page. sym (same array agrees pages rows holds (is-row row had e) page) i in subst (λ (x : Array). differences before x ≤ 0) one (differences-none before 0))
        (λ e. differences-few place.first before after 34 (few array agrees)) in
        record {
          answers = ok-weaken (λ was. ForBoth A B (λ x y. OfStore form place x (λ reached held. Inserted form spot (asked a b) reach place A B x y reached row held was)))
              (λ was. (was ≡ is_some had) × IsDatabase form after schema places (with_rows place.store (with_row place.key row rows) view)) result
              (λ was h. let x = h array agrees pages rows holds in (x.was, database-changed form reach stores spot (asked a b) place A B before after schema places view (with_row place.key row rows) (ascends before schema places d.has) d at x.changed)) inserted;
          sound = never-damaged bad never array pages rows agrees holds result wrong;
          touches = either (is_some had) (λ t. Touches (asked a b) A B array (place.store ∷ []) true (17 * (if t then 0 else 1)) (34 * changed_by place.key row rows))
              (λ e. touches-changed array schema places view d at (reach place before) (reach place before) 0 0 (34 * changed_by place.key row rows) in-reach in-reach (omega arith) (there array agrees pages rows holds e) (numbers array agrees pages rows holds) less)
              (λ e. touches-changed array schema places view d at (reach place before) (λ page. reach place before page || drew_between A B page) 17 17 (34 * changed_by place.key row rows) in-reach (λ page h. h) (omega arith) (asks array agrees) (numbers array agrees pages rows holds) less);
        }

    pub leads-removed : ForEach A B (λ x. asked a b (reach place x) (reach place x) 0)
        → ForBoth A B (λ before after. OfStore form place before (λ _ rows. row_with place.key row rows ≡ None → IsSame before after))
        → IfOk result (λ was. ForBoth A B (λ before after. OfStore form place before (λ reached rows. Removed form spot (asked a b) reach place A B before after reached row rows was)))
        → WithStore form A B place (λ array schema places view. Leads form (asked a b) A B array schema places (with_rows place.store (without_row place.key row (view.rows place.store)) view)
        (λ was. was ≡ is_some (row_with place.key row (view.rows place.store))) (place.store ∷ []) true 0 (34 * removed_by place.key row (view.rows place.store)) result)
    leads-removed asks same removed = λ array schema places view agrees d at.
        let holds = held-at form reach stores (over A array) schema places view d place at in
        let before : Array = over A array in
        let after : Array = over B array in
        let rows : List (List ℕ) = view.rows place.store in
        let pages : List ℕ = d.pages place.store in
        let had : Option (List ℕ) = row_with place.key row rows in
        let in-reach : IsWithin (reach place before) (λ page. reach place before page || drew_between A B page) = λ page h. first-of (reach place before page) (drew_between A B page) h in
        let less : differences before after ≤ 34 * removed_by place.key row rows = either (is_some had) (λ t. differences before after ≤ 34 * (if t then 1 else 0))
        (λ e. differences-few place.first before after 34 (few array agrees))
        (λ e. let one : before ≡ after = λ i page. sym (same array agrees pages rows holds (none-there had e) page) i in subst (λ (x : Array). differences before x ≤ 0) one (differences-none before 0)) in
        record {
          answers = ok-weaken (λ was. ForBoth A B (λ x y. OfStore form place x (λ reached held. Removed form spot (asked a b) reach place A B x y reached row held was)))
              (λ was. (was ≡ is_some had) × IsDatabase form after schema places (with_rows place.store (without_row place.key row rows) view)) result
              (λ was h. let x = h array agrees pages rows holds in (x.was, database-changed form reach stores spot (asked a b) place A B before after schema places view (without_row place.key row rows) (ascends before schema places d.has) d at x.changed)) removed;
          sound = never-damaged bad never array pages rows agrees holds result wrong;
          touches = touches-changed array schema places view d at (reach place before) (reach place before) 0 0 (34 * removed_by place.key row rows) in-reach in-reach (omega arith) (asks array agrees) (numbers array agrees pages rows holds) less;
        }
