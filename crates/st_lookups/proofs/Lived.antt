-- Which row of an extent is that of an entity, and what calls that look at an extent find in a state.
use Rattle.std.proofs.Common.{◌≡◌, ℕ, ◌/◌, ◌%◌, ◌<◌, ◌≤◌, ◌^◌, Bool, true, false, if◌then◌else◌, cond, List, [], ◌∷◌, Some, None, Result, Ok, refl, sym, ap, ◌∙◌, subst, inl, arith, true≢false}
use borrow.Author.Tests.{ltb-true}
use Rattle.std.specs.Prelude.{◌==◌, ◌&&◌, ◌||◌, nat_lt, nat_le, slice_index, filter, map, length}
use Rattle.std.specs.List.{All, list_any}
use Rattle.std.specs.Int.{w32, to_be_bytes}
use Rattle.std.specs.Str.{bytes_eq}
use Rattle.std.specs.Ordering.{is_eq, nat_cmp}
use Rattle.std.specs.Cmp.Lexicographic.{slice_cmp}
use Rattle.std.specs.declared.cmp.Ordering.TheVariants.{Equal}
use Rattle.std.proofs.lemmas.Bool.Decides.{nat_tests}
use Rattle.std.proofs.lemmas.Cmp.{nat_list_cmp_total, tied_itself}
use Rattle.std.proofs.lemmas.List.Elements.{All-filter, All-head, All-tail}
use Rattle.st_page.specs.declared.fault.PageFault.{PageFault}
use Rattle.st_values.specs.declared.value.EntityId.{EntityId}
use Rattle.st_values.specs.Order.{same_entity}
use Rattle.st_values.proofs.Entities.{same_entity-is}
use Rattle.st_values.proofs.Tests.{either, left, never, right}
use Rattle.st_lattice.specs.declared.stores.StoreKind.TheVariants.{Extent}
use Rattle.st_lattice.specs.Outline.{Outline, attribute}
use Rattle.st_lattice.specs.Stores.{store}
use Rattle.st_keys.specs.Keys.{IsEntity}
use Rattle.st_pages.specs.declared.places.Place.{Place}
use Rattle.st_pages.specs.Attempt.{Array, Attempt, over}
use Rattle.st_pages.specs.Places.{place_of}
use Rattle.st_state.specs.State.{State, is_live}
use Rattle.st_state.specs.Legal.{IsNearlyLegal, is_counted}
use Rattle.st_store.specs.Rows.{row_with}
use Rattle.st_store.specs.Stores.{Found}
use Rattle.st_store.proofs.Ordering.{bytes-same}
use Rattle.st_database.specs.Touches.{Touches, WithStore}
use Rattle.st_index.proofs.Counted.{differences-none}
use Rattle.st_index.proofs.Looked.{ok-weaken}
use Rattle.st_standing.specs.Standing.{IsOfProgram, attribute_rows, entity_bytes, extent_rows, rows_at, view_of}
use Rattle.st_standing.proofs.Extents.{live-row}
use Rattle.st_standing.proofs.Fitting.{all-passed, among-holds}
use Rattle.st_standing.proofs.RowLaws.{RowLaws}
use Rattle.st_lookups.specs.Looks.{Finds, OfState}

-- ---- what is found

module _ (asked : (ℕ → Bool) → (ℕ → Bool) → ℕ → Type 0) (a b : Attempt) (array : Array) where
  -- an answer that says less, of the same stores
  pub finds-less : {A : Type 0} (right less : A → Type 0) (stores same : List ℕ) (result : Result A PageFault) → stores ≡ same → ((x : A) → right x → less x) → Finds asked a b array right stores result → Finds asked a b array less same result
  finds-less right less stores same result e w x = record {
    answers = ok-weaken right less result w x.answers;
    sound = x.sound;
    touches = subst (λ (l : List ℕ). Touches asked a b array l false 0 0) e x.touches;
  }

-- where nothing is asked
pub finds-nothing : {A : Type 0} (asked : (ℕ → Bool) → (ℕ → Bool) → ℕ → Type 0) (a : Attempt) (array : Array) → ((got put : ℕ → Bool) → asked got put 0) → (right : A → Type 0) (stores : List ℕ) (x : A) → right x
    → Finds asked a a array right stores (Ok x)
finds-nothing asked a array nothing right stores x h = record {
  answers = h;
  sound = tt;
  touches = record { asks = nothing _ _; numbers = λ s page k. inl k; few = differences-none (over a array) 0 };
}

-- ---- the rows of an extent

near : (ty : ℕ) → ty < 65536 → nat_lt ty 65536 ≡ true
near ty h = grind (arith, nat_tests)

pub rows-extent : (s : State) (ty at : ℕ) → ty < 65536 → at ≡ store Extent ty → rows_at s at ≡ extent_rows s ty
rows-extent s ty at h e =
    let same : at ≡ ty = omega (arith, e) in
    ap (rows_at s) same ∙ ap (λ (b : Bool). if b then extent_rows s ty else attribute_rows s (ty / 65536) (attribute s.schema (ty % 65536))) (near ty h)

-- what is found where there is the store of an extent holds of the rows of the extent of each state
pub of-extent : (form : Place → Array → List ℕ → List (List ℕ) → Type 0) (a b : Attempt) (schema : Outline) (places : List Place) (ty : ℕ) (place : Place) (Holds : Array → List (List ℕ) → Type 0) → ty < 65536
    → Some place ≡ place_of (store Extent ty) places → place.store ≡ store Extent ty → WithStore form a b place (λ array schema places view. Holds array (view.rows place.store)) → OfState form a b schema places (λ array s. Holds array (extent_rows s ty))
of-extent form a b schema places ty place Holds small at is with-store = λ array s agrees same stands.
    subst (Holds array) (rows-extent s ty place.store small is)
    (with-store array s.schema places (view_of s) agrees stands.database (ap (λ (n : ℕ). place_of n places) is ∙ sym at))

-- ---- an entity's row

is-positive : (n : ℕ) → 0 < n → is_eq (nat_cmp n 0) ≡ false
is-positive n h = grind (arith, nat_tests)

nil-serial : (n : ℕ) → (n == 0) ≡ true → n ≡ 0
nil-serial n h = grind (arith, nat_tests)

some-serial : (n : ℕ) → (n == 0) ≡ false → 0 < n
some-serial n h = grind (arith, nat_tests)

module _ (laws : RowLaws) (s : State) where
  -- no row of an extent has the serial 0
  none-nil : (es : List EntityId) → All IsEntity es → row_with 4 (to_be_bytes w32 0) (map (entity_bytes s) es) ≡ None
  none-nil [] all = refl
  none-nil (e ∷ es) all =
      let entity = All-head IsEntity e es all in
      let apart : bytes_eq (to_be_bytes w32 e.serial) (to_be_bytes w32 0) ≡ false =
      never (bytes_eq (to_be_bytes w32 e.serial) (to_be_bytes w32 0)) (λ m.
      let same : slice_cmp nat_cmp (to_be_bytes w32 e.serial) (to_be_bytes w32 0) ≡ Equal =
      ap (λ (l : List ℕ). slice_cmp nat_cmp l (to_be_bytes w32 0)) (bytes-same (to_be_bytes w32 e.serial) (to_be_bytes w32 0) m) ∙ tied_itself nat_list_cmp_total (to_be_bytes w32 0) in
      true≢false (sym (ap is_eq (sym (laws.serials s.schema 0 e.serial 0 [] [] entity.1 (omega arith)) ∙ same)) ∙ is-positive e.serial entity.0)) in
      ap (λ (b : Bool). cond b (Some (entity_bytes s e)) (row_with 4 (to_be_bytes w32 0) (map (entity_bytes s) es))) apart ∙ none-nil es (All-tail IsEntity e es all)

  -- no entity with the serial 0 is live
  nil-dead : (e : EntityId) → e.serial ≡ 0 → (es : List EntityId) → All IsEntity es → list_any (same_entity e) es ≡ false
  nil-dead e z [] all = refl
  nil-dead e z (x ∷ xs) all =
      let entity = All-head IsEntity x xs all in
      let apart : same_entity e x ≡ false = never (same_entity e x) (λ m. let is = ap (λ (y : EntityId). y.serial) (same_entity-is e x m) in let some = entity.0 in absurd (omega (arith, is, z, some))) in
      ap (λ (b : Bool). b || list_any (same_entity e) xs) apart ∙ nil-dead e z xs (All-tail IsEntity x xs all)

  -- which row has an entity's serial, whatever that is
  pub entity-row : IsNearlyLegal s → IsOfProgram s → (e : EntityId) → e.serial < 2 ^ 32 → e.ty < 65536 → row_with 4 (to_be_bytes w32 e.serial) (extent_rows s e.ty) ≡ (if is_live s e then Some (entity_bytes s e) else None)
  entity-row legal program e small few =
      either (e.serial == 0) (λ _. row_with 4 (to_be_bytes w32 e.serial) (extent_rows s e.ty) ≡ (if is_live s e then Some (entity_bytes s e) else None))
      (λ h.
      let z = nil-serial e.serial h in
      ap (λ (n : ℕ). row_with 4 (to_be_bytes w32 n) (extent_rows s e.ty)) z ∙ none-nil (filter (λ x. x.ty == e.ty) s.live) (All-filter (λ x. x.ty == e.ty) IsEntity s.live program.entities)
      ∙ sym (ap (λ (b : Bool). if b then Some (entity_bytes s e) else None) (nil-dead e z s.live program.entities)))
      (λ h. live-row laws s legal program e (some-serial e.serial h, small, few) (to_be_bytes w32 e.serial) refl)

-- an entity was found exactly where it is live
pub found-live : (key : List ℕ) (rows : List (List ℕ)) (bytes row : List ℕ) (live found : Bool) → row_with 4 key rows ≡ (if live then Some bytes else None) → Found 4 key rows found row → found ≡ live
found-live key rows bytes row true true e f = refl
found-live key rows bytes row true false e f = absurd (some-none (sym e ∙ f))
  where
    some-none : Some bytes ≡ None → ⊥
    some-none h = cc
found-live key rows bytes row false true e f = absurd (none-some (sym e ∙ f))
  where
    none-some : None ≡ Some row → ⊥
    none-some h = cc
found-live key rows bytes row false false e f = refl

-- an entity of a type that isn't there isn't live
pub type-dead : (s : State) → IsNearlyLegal s → (e : EntityId) → length s.schema.names ≤ e.ty → is_live s e ≡ false
type-dead s legal e h =
    never (is_live s e) (λ k.
    let counted = among-holds (λ x. is_counted s x ≡ true) e s.live (all-passed (is_counted s) s.live legal.counted) k in
    not-below e.ty (length s.schema.names) (left (nat_lt e.ty (length s.schema.names)) (nat_lt 0 e.serial && nat_le e.serial (slice_index s.last e.ty)) counted) h)
  where
    not-below : (m n : ℕ) → nat_lt m n ≡ true → n ≤ m → ⊥
    not-below m n k l = let z : m < n = ltb-true m n k in omega (arith, z, l)

pub names-most : (one other : Outline) (ty : ℕ) → one ≡ other → length other.names ≤ ty → length one.names ≤ ty
names-most one other ty e h = subst (λ (o : Outline). length o.names ≤ ty) (sym e) h
