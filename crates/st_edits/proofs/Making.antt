-- A new entity: what calls on its extent give, and the state that pages stand for behind them.
use Rattle.std.proofs.Common.{◌≡◌, ℕ, ◌+◌, ◌*◌, ◌<◌, ◌≤◌, ◌^◌, ◌==◌, ◌||◌, Bool, true, false, List, [], ◌∷◌, length, pos, slice_index_or, Option, Some, None, Result, Ok, Err, refl, sym, ap, ◌∙◌, subst, arith, true≢false}
use Rattle.std.specs.Prelude.{nat_lt, slice_index, if◌then◌else◌}
use Rattle.std.specs.List.{All}
use Rattle.std.proofs.lemmas.Bool.Decides.{nat_tests}
use Rattle.std.proofs.lemmas.List.{get_or-set_same, get_or-set_other}
use Rattle.std.proofs.lemmas.List.Elements.{All-cons, All-head, All-set, All-tail}
use Rattle.st_values.specs.declared.value.EntityId.{EntityId}
use Rattle.st_values.specs.Order.{entity_before}
use Rattle.st_values.specs.Arranged.{placed}
use Rattle.st_values.specs.declared.value.Value.{Value}
use Rattle.st_values.specs.declared.value.Value.TheVariants.{Int}
use Rattle.st_values.proofs.Tests.{either, placed-behind, placed-here}
use Rattle.st_rows.specs.Rows.{row, row_fields}
use Rattle.st_page.specs.declared.fault.PageFault.{PageFault}
use Rattle.st_lattice.specs.Outline.{Outline, type_name}
use Rattle.st_lattice.specs.Stores.{row_width, store}
use Rattle.st_lattice.specs.declared.stores.StoreKind.TheVariants.{Extent}
use Rattle.st_keys.specs.Keys.{IsEntity}
use Rattle.st_pages.specs.declared.places.Place.{Place}
use Rattle.st_pages.specs.Attempt.{Array, Attempt, over}
use Rattle.st_pages.specs.Calls.{is_of_looking}
use Rattle.st_pages.specs.Reading.{OfDamage}
use Rattle.st_store.specs.Rows.{with_row}
use Rattle.st_store.specs.Stores.{among}
use Rattle.st_index.proofs.Called.{PageLaws}
use Rattle.st_index.proofs.Looked.{err-weaken, ok-weaken}
use Rattle.st_database.specs.Database.{IsDatabase, View}
use Rattle.st_database.specs.Touches.{Leads, Touches}
use Rattle.st_database.proofs.Frames.{StoreLaws, database-alike}
use Rattle.st_database.proofs.Touching.{AreAmong, touches-more, touches-then}
use Rattle.st_state.specs.declared.refusal.Refusal.{Refusal}
use Rattle.st_state.specs.declared.refusal.Refusal.TheVariants.{NumbersSpent}
use Rattle.st_state.specs.State.{State, entity_made, next_entity}
use Rattle.st_state.specs.Legal.{IsNearlyLegal}
use Rattle.st_state.specs.Calls.{Make}
use Rattle.st_state.specs.Bases.{last_serial, spent}
use Rattle.st_state.specs.Rows.{rows_added, rows_changed}
use Rattle.st_state.proofs.Changed.{number-is, number-itself}
use Rattle.st_state.proofs.Made.{made-nearly}
use Rattle.st_standing.specs.Standing.{IsOfProgram, NearlyStandsAt, entity_bytes, extent_rows, rows_at, view_of}
use Rattle.st_standing.proofs.Extents.{made-cells, made-others, made-rows}
use Rattle.st_standing.proofs.Others.{rows_at-extent}
use Rattle.st_standing.proofs.RowLaws.{RowLaws}
use Rattle.st_lookups.specs.Looks.{IsExtent}
use Rattle.st_edits.specs.Steps.{Made, MadeIn, MakesAt, Turns, new_row, view_with}
use Rattle.st_edits.specs.Edits.{Edits}
use Rattle.st_plain.specs.declared.fault.BaseFault.TheVariants as BaseFault
use Rattle.st_plain.specs.declared.fault.BaseFault.TheVariants.{Refused}
use Rattle.st_edits.proofs.Blank.{blank-is}

-- ---- numbers

not-less : (n : ℕ) → n ≡ 4294967295 → nat_lt n 4294967295 ≡ false
not-less n e = grind (arith, nat_tests, e)

is-less : (n : ℕ) → n < 4294967295 → nat_lt n 4294967295 ≡ true
is-less n h = grind (arith, nat_tests, h)

pub before-small : (n : ℕ) → n + 1 < 4294967296 → n < 4294967295
before-small n h = omega (arith, h)

next-small : (n : ℕ) → n < 4294967295 → n + 1 < 2 ^ 32
next-small n h = omega (arith, h)

apart-turned : (m n : ℕ) → (m == n) ≡ false → (n == m) ≡ false
apart-turned m n h = grind (arith, nat_tests, h)

twice : (x : ℕ) → AreAmong (x ∷ x ∷ []) (x ∷ [])
twice x store m = by (x == store) m
  where
    by : (b : Bool) → (b || (b || false)) ≡ true → (b || false) ≡ true
    by true h = refl
    by false h = h

-- ---- calls on an extent

module _ {Self : Type 0} (attempt : Self → Attempt) (follows : Self → Self → Type 0) (asked : Self → Self → (ℕ → Bool) → (ℕ → Bool) → ℕ → Type 0) (laws : PageLaws attempt follows asked)
    (form : Place → Array → List ℕ → List (List ℕ) → Type 0) (array : Array) (schema : Outline) (places : List Place) (place : Place) (view : View) (ty : ℕ) where
  looked : (a b : Self) → Touches (asked a b) (attempt a) (attempt b) array (place.store ∷ []) false 0 0 → Touches (asked a b) (attempt a) (attempt b) array (place.store ∷ []) true 17 34
  looked a b x = touches-more attempt follows asked laws a b array (place.store ∷ []) (place.store ∷ []) false true 0 17 0 34 (λ s m. m) (λ e. refl) (omega arith) (omega arith) x

  -- all serials were given out
  pub makes-none : (a b : Self) (serial : ℕ) → serial ≡ last_serial → Leads form (asked a b) (attempt a) (attempt b) array schema places view (λ n. n ≡ view.last place.store) (place.store ∷ []) false 0 0 (Ok serial)
      → MakesAt form (asked a b) (attempt a) (attempt b) array schema places place view ty (Ok None)
  makes-none a b serial e x = record { answers = (sym x.answers.0 ∙ e, x.answers.1); sound = tt; early = tt; touches = looked a b x.touches }

  -- the last serial was not read
  pub makes-fault : (a b : Self) (fault : PageFault) → is_of_looking fault ≡ true → Leads form (asked a b) (attempt a) (attempt b) array schema places {A = ℕ} view (λ n. n ≡ view.last place.store) (place.store ∷ []) false 0 0 (Err fault)
      → MakesAt form (asked a b) (attempt a) (attempt b) array schema places place view ty (Err fault)
  makes-fault a b fault looks x = record { answers = tt; sound = x.sound; early = λ e. absurd (true≢false (sym looks ∙ e)); touches = looked a b x.touches }

  -- a row is put in
  pub makes-some : (a b c : Self) → follows a b → follows b c → (serial : ℕ) → serial < last_serial → Leads form (asked a b) (attempt a) (attempt b) array schema places view (λ n. n ≡ view.last place.store) (place.store ∷ []) false 0 0 (Ok serial)
      → (result : Result (Option EntityId) PageFault)
      → (IsDatabase form (over (attempt b) array) schema places view → Leads form (asked b c) (attempt b) (attempt c) array schema places (view_with place (serial + 1) view) (λ made. made ≡ Some (record { ty = ty; serial = serial + 1 })) (place.store ∷ []) true 17 34 result)
      → MakesAt form (asked a c) (attempt a) (attempt c) array schema places place view ty result
  makes-some a b c ab bc serial small x result second =
      let y = second x.answers.1 in
      let less : view.last place.store < last_serial = subst (λ n. n < last_serial) x.answers.0 small in
      record {
        answers = ok-weaken (λ made. (made ≡ Some (record { ty = ty; serial = serial + 1 })) × IsDatabase form (over (attempt c) array) schema places (view_with place (serial + 1) view))
            (MadeIn form (asked a c) (attempt a) (attempt c) array schema places place view ty) result
            (λ made h. subst (MadeIn form (asked a c) (attempt a) (attempt c) array schema places place view ty) (sym h.0)
            (less, ap (λ n. record { ty = ty; serial = n + 1 }) x.answers.0, subst (λ n. IsDatabase form (over (attempt c) array) schema places (view_with place (n + 1) view)) x.answers.0 h.1)) y.answers;
        sound = y.sound;
        early = err-weaken (OfDamage (λ page at. ⊥)) (λ fault. is_of_looking fault ≡ false → view.last place.store < last_serial) result (λ fault h e. less) y.sound;
        touches = touches-more attempt follows asked laws a c array (place.store ∷ place.store ∷ []) (place.store ∷ []) true true 17 17 34 34 (twice place.store) (λ e. e) (omega arith) (omega arith)
            (touches-then attempt follows asked laws a b c ab bc array (place.store ∷ []) (place.store ∷ []) false true 0 17 0 34 x.touches y.touches);
      }

-- ---- the state behind them

module _ {X : Type 0} (before : X → X → Bool) (P : X → Type 0) where
  pub put-in : (x : X) (xs : List X) → P x → All P xs → All P (placed before x xs)
  put-in x [] h all = All-cons P x [] h all
  put-in x (y ∷ ys) h all =
      either (before y x) (λ _. All P (placed before x (y ∷ ys)))
      (λ e. subst (All P) (sym (placed-behind before x y ys e)) (All-cons P y (placed before x ys) (All-head P y ys all) (put-in x ys h (All-tail P y ys all))))
      (λ e. subst (All P) (sym (placed-here before x y ys e)) (All-cons P x (y ∷ ys) h all))

module _ (laws : RowLaws) (s : State) (n : IsNearlyLegal s) (p : IsOfProgram s) (ty : ℕ) (there : ty < length s.schema.names) (small : slice_index s.last ty < last_serial) where
  low : ty < 65536
  low = omega (arith, there, n.orderly.few_types)

  counted : ty < length s.last
  counted = omega (arith, n.counts, there)

  made-program : IsOfProgram (entity_made s ty)
  made-program = record {
    entities = put-in entity_before IsEntity (next_entity s ty) s.live (omega arith, next-small (slice_index s.last ty) small, low) p.entities;
    values = p.values;
    serials = All-set (λ serial. serial < 2 ^ 32) s.last ty (slice_index s.last ty + 1) (next-small (slice_index s.last ty) small) p.serials;
  }

  row-is : new_row (row_width s.schema ty) (slice_index s.last ty + 1) ≡ entity_bytes (entity_made s ty) (next_entity s ty)
  row-is =
      blank-is s.schema ty (slice_index s.last ty + 1)
      ∙ ap (λ (cells : List Value). row (row_fields s.schema ty) (Int (pos (slice_index s.last ty + 1)) ∷ cells)) (sym (made-cells laws s n p ty there))

  module _ (place : Place) (is : place.store ≡ ty) (key : place.key ≡ 4) (width : place.width ≡ row_width s.schema ty) where
    abbrev behind : View
    behind = view_with place (slice_index s.last place.store + 1) (view_of s)

    rows-behind : (at : ℕ) → rows_at (entity_made s ty) at ≡ behind.rows at
    rows-behind at =
        let wide : new_row place.width (slice_index s.last place.store + 1) ≡ entity_bytes (entity_made s ty) (next_entity s ty) =
        ap (λ w. new_row w (slice_index s.last place.store + 1)) width ∙ ap (λ t. new_row (row_width s.schema ty) (slice_index s.last t + 1)) is ∙ row-is in
        either (at == place.store) (λ b. rows_at (entity_made s ty) at ≡ (if b then with_row place.key (new_row place.width (slice_index s.last place.store + 1)) (rows_at s place.store) else rows_at s at))
        (λ e. let here : at ≡ ty = number-is at place.store e ∙ is in
        ap (rows_at (entity_made s ty)) here ∙ rows_at-extent (entity_made s ty) ty low ∙ made-rows laws s n p ty there (next-small (slice_index s.last ty) small)
        ∙ ap (λ k. with_row k (entity_bytes (entity_made s ty) (next_entity s ty)) (extent_rows s ty)) (sym key)
        ∙ ap (λ (l : List ℕ). with_row place.key l (extent_rows s ty)) (sym wide)
        ∙ ap (with_row place.key (new_row place.width (slice_index s.last place.store + 1))) (sym (ap (rows_at s) is ∙ rows_at-extent s ty low)))
        (λ e. made-others laws s n p ty there at (apart-turned at ty (ap (λ z. at == z) (sym is) ∙ e)))

    last-behind : (at : ℕ) → slice_index (entity_made s ty).last at ≡ behind.last at
    last-behind at =
        either (at == place.store) (λ b. slice_index (entity_made s ty).last at ≡ (if b then slice_index s.last place.store + 1 else slice_index s.last at))
        (λ e. let here : at ≡ ty = number-is at place.store e ∙ is in
        ap (slice_index (entity_made s ty).last) here ∙ get_or-set_same s.last ty (slice_index s.last ty + 1) 0 counted ∙ ap (λ z. slice_index s.last z + 1) (sym is))
        (λ e. get_or-set_other s.last ty at (slice_index s.last ty + 1) 0 (λ k. true≢false (sym (number-itself at) ∙ ap (λ z. at == z) (k ∙ sym is) ∙ e)))

    module _ (form : Place → Array → List ℕ → List (List ℕ) → Type 0) (reach : Place → Array → ℕ → Bool) (stores : StoreLaws form reach) (array : Array) (places : List Place) where
      made-stands : IsDatabase form array s.schema places behind → NearlyStandsAt form array places (entity_made s ty)
      made-stands d = record {
        legal = made-nearly s ty n there;
        program = made-program;
        database = database-alike form reach stores array s.schema places behind (view_of (entity_made s ty)) (λ k e w. let q = slice_index_or places k e in (rows-behind q.store, last-behind q.store)) d;
      }

-- ---- what the call gives of a state

module _ (laws : RowLaws) (form : Place → Array → List ℕ → List (List ℕ) → Type 0) (reach : Place → Array → ℕ → Bool) (stores : StoreLaws form reach) (asked : (ℕ → Bool) → (ℕ → Bool) → ℕ → Type 0) (a b : Attempt) (array : Array)
    (s : State) (places : List Place) (stands : NearlyStandsAt form (over a array) places s) (ty : ℕ) (place : Place) (extent : IsExtent s.schema ty place) where
  is-type : place.store ≡ ty
  is-type = let is = extent.store_is in omega (arith, is)

  none-due : slice_index s.last place.store < last_serial → spent s ty ≡ None
  none-due small = ap (λ c. if c then None else Some (NumbersSpent (type_name s.schema ty))) (is-less (slice_index s.last ty) (subst (λ z. slice_index s.last z < last_serial) is-type small))

  made : (o : Option EntityId) → MadeIn form asked a b array s.schema places place (view_of s) ty o → Made form b array places s ty o
  made None h = (
    ap (λ c. if c then None else Some (NumbersSpent (type_name s.schema ty))) (not-less (slice_index s.last ty) (ap (slice_index s.last) (sym is-type) ∙ h.0)),
    record { legal = stands.legal; program = stands.program; database = h.1 },
  )
  made (Some e) h = (
    none-due h.0,
    h.1 ∙ ap (λ z. record { ty = ty; serial = slice_index s.last z + 1 }) is-type,
    made-stands laws s stands.legal stands.program ty extent.known (subst (λ z. slice_index s.last z < last_serial) is-type h.0) place is-type extent.key extent.width form reach stores (over b array) places h.2,
  )

module _ {Self : Type 0} (attempt : Self → Attempt) (follows : Self → Self → Type 0) (asked : Self → Self → (ℕ → Bool) → (ℕ → Bool) → ℕ → Type 0) (page_laws : PageLaws attempt follows asked)
    (laws : RowLaws) (form : Place → Array → List ℕ → List (List ℕ) → Type 0) (reach : Place → Array → ℕ → Bool) (stores : StoreLaws form reach) (a b : Self) (array : Array)
    (s : State) (places : List Place) (stands : NearlyStandsAt form (over (attempt a) array) places s) (ty : ℕ) (place : Place) (extent : IsExtent s.schema ty place) where
  pub made-turns : 1 ≤ rows_added s (entity_made s ty) → 1 ≤ rows_changed s (entity_made s ty) → (result : Result (Option EntityId) PageFault)
      → MakesAt form (asked a b) (attempt a) (attempt b) array s.schema places place (view_of s) ty result → Turns (asked a b) (attempt a) (attempt b) array s (Make ty) (Made form (attempt b) array places s ty) result
  made-turns adds changes result x = record {
    answers = ok-weaken (MadeIn form (asked a b) (attempt a) (attempt b) array s.schema places place (view_of s) ty) (Made form (attempt b) array places s ty) result
        (made laws form reach stores (asked a b) (attempt a) (attempt b) array s places stands ty place extent) x.answers;
    sound = x.sound;
    early = err-weaken (λ fault. is_of_looking fault ≡ false → slice_index s.last place.store < last_serial) (λ fault. is_of_looking fault ≡ false → spent s ty ≡ None) result
        (λ fault h e. none-due laws form reach stores (asked a b) (attempt a) (attempt b) array s places stands ty place extent (h e)) x.early;
    touches = touches-more attempt follows asked page_laws a b array (place.store ∷ []) (store Extent ty ∷ []) true true 17 (17 * rows_added s (entity_made s ty)) 34 (34 * rows_changed s (entity_made s ty))
        (λ t m. subst (λ z. among (z ∷ []) t ≡ true) extent.store_is m) (λ e. e) (omega (arith, adds)) (omega (arith, changes)) x.touches;
  }

-- ---- faults as bases answer them

module _ (form : Place → Array → List ℕ → List (List ℕ) → Type 0) (asked : (ℕ → Bool) → (ℕ → Bool) → ℕ → Type 0) (a b : Attempt) (array : Array) (s : State) (places : List Place) (ty : ℕ) where
  abbrev turns : Option EntityId → Type 0
  turns o = Turns asked a b array s (Make ty) (Made form b array places s ty) (Ok o)

  -- an entity was made
  pub edits-made : (o : Option EntityId) (e : EntityId) → o ≡ Some e → turns o → Edits form asked a b array places s (Make ty) (λ entity. entity ≡ next_entity s ty) (Ok e)
  edits-made o e is x = by (subst turns is x)
    where
      by : turns (Some e) → Edits form asked a b array places s (Make ty) (λ entity. entity ≡ next_entity s ty) (Ok e)
      by y = record { gives = y.answers; touches = y.touches }

  -- all serials were given out
  pub edits-spent : (o : Option EntityId) (refusal : Refusal) → o ≡ None → refusal ≡ NumbersSpent (type_name s.schema ty) → turns o → Edits {A = EntityId} form asked a b array places s (Make ty) (λ entity. entity ≡ next_entity s ty) (Err (Refused refusal))
  edits-spent o refusal is named x =
      subst (λ r. Edits {A = EntityId} form asked a b array places s (Make ty) (λ entity. entity ≡ next_entity s ty) (Err (Refused r))) (sym named) (by (subst turns is x))
    where
      by : turns None → Edits {A = EntityId} form asked a b array places s (Make ty) (λ entity. entity ≡ next_entity s ty) (Err (Refused (NumbersSpent (type_name s.schema ty))))
      by y = record { gives = y.answers; touches = y.touches }

  -- the refusal could not be told
  pub edits-unsaid : (o : Option EntityId) → turns o → Edits {A = EntityId} form asked a b array places s (Make ty) (λ entity. entity ≡ next_entity s ty) (Err BaseFault.Memory)
  edits-unsaid o x = record { gives = tt; touches = x.touches }
