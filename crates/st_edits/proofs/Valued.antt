-- The rows of a database's stores behind a setting of a single value: those of the state that it leaves.
use Rattle.std.proofs.Common.{◌≡◌, ℕ, ◌+◌, ◌*◌, ◌<◌, ◌≤◌, ◌%◌, true, false, List, Some, refl, sym, ap, ◌∙◌, subst, inl, inr, arith, true≢false, if◌then◌else◌}
use Rattle.std.specs.Prelude.{◌==◌, nat_lt}
use Rattle.std.proofs.lemmas.Bool.Decides.{nat_tests}
use Rattle.st_values.specs.declared.value.EntityId.{EntityId}
use Rattle.st_values.specs.declared.value.Value.{Value}
use Rattle.st_values.specs.Order.{same_value}
use Rattle.st_values.proofs.Entities.{same_value-is}
use Rattle.st_values.proofs.Tests.{either, never}
use Rattle.st_lattice.specs.declared.attribute.Attribute.{Attribute}
use Rattle.st_lattice.specs.declared.stores.StoreKind.{StoreKind}
use Rattle.st_lattice.specs.declared.stores.StoreKind.TheVariants.{Extent, Set, Index, Inverse, Column}
use Rattle.st_lattice.specs.Outline.{attribute}
use Rattle.st_lattice.specs.Stores.{keeps, keeps_one, kind_number, store}
use Rattle.st_keys.specs.Keys.{IsEntity}
use Rattle.st_schema_bytes.specs.SchemaBytes.{IsReadable}
use Rattle.st_state.specs.State.{State, attribute_set, converse, is_live, value_at}
use Rattle.st_state.specs.Legal.{IsNearlyLegal}
use Rattle.st_state.proofs.Changed.{number-is}
use Rattle.st_store.specs.Rows.{with_row}
use Rattle.st_index.specs.Turned.{IsOrNull, is_turned_store, noted}
use Rattle.st_database.specs.Database.{View, noted_view, with_rows}
use Rattle.st_standing.specs.Standing.{IsOfProgram, entity_bytes, extent_rows, rows_at, turned_rows, view_of}
use Rattle.st_standing.proofs.Extents.{set-extents, set-rows}
use Rattle.st_standing.proofs.OfKind.{live-entity}
use Rattle.st_standing.proofs.Others.{rows_at-extent, rows_at-index, rows_at-inverse, rows_at-others}
use Rattle.st_standing.proofs.RowLaws.{RowLaws}
use Rattle.st_standing.proofs.Turning.{noted-set, set-nothing}
use Rattle.st_standing.proofs.ValueAt.{set-others}
use Rattle.st_edits.proofs.Kept.{IsStoreOf, attribute-number, kept-number}

-- ---- numbers of stores

extent-not-turned : (n q : ℕ) → q < 65536 → is_turned_store n q ≡ false
extent-not-turned n q h = grind (arith, nat_tests)

extent-is : (ty q : ℕ) → (q == store Extent ty) ≡ (q == ty)
extent-is ty q = ap (λ (n : ℕ). q == n) (omega arith)

kept-not-extent : (k m ty : ℕ) → 1 ≤ k → ty < 65536 → (k * 65536 + m == ty) ≡ false
kept-not-extent k m ty some small = never (k * 65536 + m == ty) (λ h. let is = number-is (k * 65536 + m) ty h in omega (arith, is, some, small))

kept-high : (k m : ℕ) → 1 ≤ k → nat_lt (k * 65536 + m) 65536 ≡ false
kept-high k m some = never (nat_lt (k * 65536 + m) 65536) (λ h. let less : k * 65536 + m < 65536 = grind (arith, nat_tests, h) in omega (arith, less, some))

kept-apart : (k m n : ℕ) → m < 65536 → (m == n) ≡ false → ((k * 65536 + m) % 65536 == n) ≡ false
kept-apart k m n small apart = ap (λ z. z == n) (omega (arith, small)) ∙ apart

-- a store of another attribute is neither the index nor the inverse of one
kept-not-turned : (k m n : ℕ) → m < 65536 → n < 65536 → (m == n) ≡ false → is_turned_store n (k * 65536 + m) ≡ false
kept-not-turned k m n small few apart =
    never (is_turned_store n (k * 65536 + m)) (λ h. true≢false (sym (same k m n small few h) ∙ apart))
  where
    same : (k m n : ℕ) → m < 65536 → n < 65536 → is_turned_store n (k * 65536 + m) ≡ true → (m == n) ≡ true
    same k m n small few h = grind (arith, nat_tests, h)

-- ---- the view

module _ (laws : RowLaws) (s : State) (legal : IsNearlyLegal s) (program : IsOfProgram s) (readable : IsReadable s.schema) (e : EntityId) (live : is_live s e ≡ true)
    (n : ℕ) (a : Attribute) (f : attribute s.schema n ≡ Some a) (one : a.many ≡ false) (in_row : a.column ≡ false) (v : Value) where
  abbrev T : State
  T = attribute_set s n e v

  abbrev old : Value
  old = value_at n e s.triples

  abbrev its_rows : List (List ℕ)
  its_rows = with_row 4 (entity_bytes T e) (extent_rows s e.ty)

  -- the entity's own row is another one
  abbrev pub row_view : View
  row_view = with_rows (store Extent e.ty) (with_row 4 (entity_bytes (attribute_set s n e v) e) (extent_rows s e.ty)) (view_of s)

  entity : IsEntity e
  entity = live-entity s program.entities e live

  small : n < 65536
  small = attribute-number s.schema n a readable legal.orderly f

  extent-rows : (q : ℕ) → q < 65536 → rows_at T q ≡ row_view.rows q
  extent-rows q h =
      rows_at-extent T q h
      ∙ either (q == e.ty) (λ b. extent_rows T q ≡ (if b then its_rows else rows_at s q))
      (λ k. ap (extent_rows T) (number-is q e.ty k) ∙ set-rows laws s legal program e live n v)
      (λ k. set-extents laws s legal program e live n v q k ∙ sym (rows_at-extent s q h))
      ∙ sym (ap (λ b. if b then its_rows else rows_at s q) (extent-is e.ty q))

  kept-row-view : (k m : ℕ) → 1 ≤ k → row_view.rows (k * 65536 + m) ≡ rows_at s (k * 65536 + m)
  kept-row-view k m some = ap (λ b. if b then its_rows else rows_at s (k * 65536 + m)) (extent-is e.ty (k * 65536 + m) ∙ kept-not-extent k m e.ty some entity.2)

  kept-others : (k m : ℕ) → 1 ≤ k → m < 65536 → (m == n) ≡ false → rows_at T (k * 65536 + m) ≡ rows_at s (k * 65536 + m)
  kept-others k m some few apart = rows_at-others s T n refl (λ other h. set-others n other h s e v) (k * 65536 + m) (kept-high k m some) (kept-apart k m n few apart)

  -- where the value is the one that it was
  module _ (same : same_value old v ≡ true) where
    pub nothing : attribute_set s n e v ≡ s
    nothing = ap (attribute_set s n e) (sym (same_value-is old v same)) ∙ set-nothing s n a f legal one e

    kept-same : (k m : ℕ) → 1 ≤ k → rows_at T (k * 65536 + m) ≡ row_view.rows (k * 65536 + m)
    kept-same k m some = ap (λ (t : State). rows_at t (k * 65536 + m)) nothing ∙ sym (kept-row-view k m some)

    pub view-same : (q : ℕ) → IsStoreOf s.schema q → rows_at (attribute_set s n e v) q ≡ row_view.rows q
    view-same q (inl h) = extent-rows q (omega (arith, h, legal.orderly.few_types))
    view-same q (inr (inl (m, is, kept))) = subst (λ z. rows_at T z ≡ row_view.rows z) (sym is) (kept-same 1 m (omega arith))
    view-same q (inr (inr (inl (m, is, kept)))) = subst (λ z. rows_at T z ≡ row_view.rows z) (sym is) (kept-same 2 m (omega arith))
    view-same q (inr (inr (inr (inl (m, is, kept))))) = subst (λ z. rows_at T z ≡ row_view.rows z) (sym is) (kept-same 3 m (omega arith))
    view-same q (inr (inr (inr (inr (m, is, kept))))) = subst (λ z. rows_at T z ≡ row_view.rows z) (sym is) (kept-same 4 m (omega arith))

  -- behind a note
  abbrev pub set_view : View
  set_view = noted_view n a.kind e (value_at n e s.triples) v row_view

  module _ (fits : IsOrNull a.kind v) where
    abbrev Right : ℕ → Type 0
    Right q = rows_at T q ≡ set_view.rows q

    right-other : (k m : ℕ) → 1 ≤ k → m < 65536 → (m == n) ≡ false → Right (k * 65536 + m)
    right-other k m some few apart =
        kept-others k m some few apart ∙ sym (kept-row-view k m some)
        ∙ sym (ap (λ b. if b then noted a.kind e old v (row_view.rows (k * 65536 + m)) else row_view.rows (k * 65536 + m)) (kept-not-turned k m n few small apart))

    right-turned : (k : ℕ) → 1 ≤ k → is_turned_store n (k * 65536 + n) ≡ true → rows_at T (k * 65536 + n) ≡ turned_rows a.kind (converse n T.triples)
        → rows_at s (k * 65536 + n) ≡ turned_rows a.kind (converse n s.triples) → Right (k * 65536 + n)
    right-turned k some turned new was =
        new ∙ noted-set laws.width laws.pair_width laws.pairs s n a f legal program e entity one v fits
        ∙ ap (noted a.kind e old v) (sym was ∙ sym (kept-row-view k n some))
        ∙ sym (ap (λ b. if b then noted a.kind e old v (row_view.rows (k * 65536 + n)) else row_view.rows (k * 65536 + n)) turned)

    is-index : (n : ℕ) → is_turned_store n (2 * 65536 + n) ≡ true
    is-index n = grind (arith, nat_tests)

    is-inverse : (n : ℕ) → is_turned_store n (3 * 65536 + n) ≡ true
    is-inverse n = grind (arith, nat_tests)

    -- a store of a kind that an attribute keeps
    kept-right : (kind : StoreKind) → 1 ≤ kind_number kind → (keeps kind a ≡ true → Right (store kind n)) → (m : ℕ) → keeps_one kind (attribute s.schema m) ≡ true → Right (store kind m)
    kept-right kind some own m kept =
        either (m == n) (λ _. Right (store kind m))
        (λ k. let is = number-is m n k in subst (λ z. Right (store kind z)) (sym is) (own (sym (ap (keeps_one kind) (ap (attribute s.schema) is ∙ f)) ∙ kept)))
        (λ k. right-other (kind_number kind) m some (kept-number s.schema kind m readable legal.orderly kept) k)

    pub view-noted : (q : ℕ) → IsStoreOf s.schema q → rows_at (attribute_set s n e v) q ≡ set_view.rows q
    view-noted q (inl h) =
        let low : q < 65536 = omega (arith, h, legal.orderly.few_types) in
        extent-rows q low ∙ sym (ap (λ b. if b then noted a.kind e old v (row_view.rows q) else row_view.rows q) (extent-not-turned n q low))
    view-noted q (inr (inl (m, is, kept))) = subst Right (sym is) (kept-right Set (omega arith) (λ k. absurd (true≢false (sym k ∙ one))) m kept)
    view-noted q (inr (inr (inl (m, is, kept)))) =
        subst Right (sym is) (kept-right Index (omega arith) (λ _. right-turned 2 (omega arith) (is-index n) (rows_at-index T n a f small) (rows_at-index s n a f small)) m kept)
    view-noted q (inr (inr (inr (inl (m, is, kept))))) =
        subst Right (sym is) (kept-right Inverse (omega arith) (λ _. right-turned 3 (omega arith) (is-inverse n) (rows_at-inverse T n a f small) (rows_at-inverse s n a f small)) m kept)
    view-noted q (inr (inr (inr (inr (m, is, kept))))) = subst Right (sym is) (kept-right Column (omega arith) (λ k. absurd (true≢false (sym k ∙ in_row))) m kept)
