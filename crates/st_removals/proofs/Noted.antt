-- The rows of a database's stores behind a value that is taken out of an attribute with single values in rows, but for the extent of
-- its entity's type, where any rows stand.
use Rattle.std.proofs.Common.{◌≡◌, ℕ, ◌+◌, ◌*◌, ◌<◌, ◌≤◌, ◌%◌, true, false, Bool, List, ◌∷◌, Some, pos, refl, sym, ap, ◌∙◌, subst, inl, inr, arith, true≢false, if◌then◌else◌}
use Rattle.std.specs.Prelude.{◌==◌, ◌&&◌, not, nat_lt, filter, slice_index_or}
use Rattle.std.proofs.lemmas.Bool.Decides.{nat_tests}
use Rattle.st_values.specs.declared.value.EntityId.{EntityId}
use Rattle.st_values.specs.declared.value.Value.{Value}
use Rattle.st_values.specs.declared.value.Value.TheVariants.{Int, Null}
use Rattle.st_values.specs.Order.{same_entity, same_value}
use Rattle.st_values.proofs.Entities.{same_entity-is, same_entity-itself}
use Rattle.st_values.proofs.Tests.{either, left, never, right}
use Rattle.st_lattice.specs.declared.attribute.Attribute.{Attribute}
use Rattle.st_lattice.specs.declared.stores.StoreKind.{StoreKind}
use Rattle.st_lattice.specs.declared.stores.StoreKind.TheVariants.{Extent, Set, Index, Inverse, Column}
use Rattle.st_lattice.specs.Outline.{attribute}
use Rattle.st_lattice.specs.Lattice.{attributes_in}
use Rattle.st_lattice.specs.Stores.{keeps, keeps_one, kind_number, store}
use Rattle.st_keys.specs.Keys.{Fits, IsEntity}
use Rattle.st_schema_bytes.specs.SchemaBytes.{IsReadable}
use Rattle.st_rows.specs.Rows.{row, row_fields}
use Rattle.st_state.specs.declared.triple.Triple.{Triple}
use Rattle.st_state.specs.State.{State, converse, is_at, member_taken, same_triple, triple_taken, value_at, value_in}
use Rattle.st_state.specs.Legal.{IsNearlyLegal}
use Rattle.st_state.proofs.Changed.{number-is}
use Rattle.st_store.proofs.Embedded.{map-agree}
use Rattle.st_index.specs.Turned.{is_turned_store, noted}
use Rattle.st_database.specs.Database.{View, noted_view, with_rows}
use Rattle.st_standing.specs.Standing.{IsOfProgram, entity_bytes, extent_rows, rows_at, turned_rows, view_of}
use Rattle.st_standing.proofs.Extents.{entities-of-type, of_type, types-apart}
use Rattle.st_standing.proofs.Filtered.{find-agree, find-kept}
use Rattle.st_standing.proofs.Others.{rows_at-extent, rows_at-index, rows_at-inverse, rows_at-others}
use Rattle.st_standing.proofs.RowLaws.{RowLaws}
use Rattle.st_standing.proofs.Turning.{noted-taken}
use Rattle.st_standing.proofs.ValueAt.{taken-others}
use Rattle.st_edits.proofs.Kept.{IsStoreOf, attribute-number, kept-number}

-- ---- numbers of stores

extent-not-turned : (n q : ℕ) → q < 65536 → is_turned_store n q ≡ false
extent-not-turned n q h = grind (arith, nat_tests)

extent-is : (ty q : ℕ) → (q == store Extent ty) ≡ (q == ty)
extent-is ty q = ap (λ (n : ℕ). q == n) (omega arith)

kept-not-extent : (k m ty : ℕ) → 1 ≤ k → ty < 65536 → (k * 65536 + m == ty) ≡ false
kept-not-extent k m ty some small = never (k * 65536 + m == ty) (λ h. let is = number-is (k * 65536 + m) ty h in omega (arith, is, some, small))

kept-high : (k m : ℕ) → 1 ≤ k → nat_lt (k * 65536 + m) 65536 ≡ false
kept-high k m some = never (nat_lt (k * 65536 + m) 65536) (λ h. let less : k * 65536 + m < 65536 = grind (arith, nat_tests, h) in omega (arith, less, some))

kept-apart : (k m n : ℕ) → m < 65536 → (m == n) ≡ false → ((k * 65536 + m) % 65536 == n) ≡ false
kept-apart k m n small apart = ap (λ z. z == n) (omega (arith, small)) ∙ apart

-- a store of another attribute is neither the index nor the inverse of one
kept-not-turned : (k m n : ℕ) → m < 65536 → n < 65536 → (m == n) ≡ false → is_turned_store n (k * 65536 + m) ≡ false
kept-not-turned k m n small few apart =
    never (is_turned_store n (k * 65536 + m)) (λ h. true≢false (sym (same k m n small few h) ∙ apart))
  where
    same : (k m n : ℕ) → m < 65536 → n < 65536 → is_turned_store n (k * 65536 + m) ≡ true → (m == n) ≡ true
    same k m n small few h = grind (arith, nat_tests, h)

is-index : (n : ℕ) → is_turned_store n (2 * 65536 + n) ≡ true
is-index n = grind (arith, nat_tests)

is-inverse : (n : ℕ) → is_turned_store n (3 * 65536 + n) ≡ true
is-inverse n = grind (arith, nat_tests)

-- ---- the rows of other entities

-- a value of another entity stays
value-stays : (n : ℕ) (e : EntityId) (v : Value) (m : ℕ) (x : EntityId) (ts : List Triple) → same_entity e x ≡ false → value_at m x (triple_taken (record { attribute = n; entity = e; value = v }) ts) ≡ value_at m x ts
value-stays n e v m x ts apart =
    let taken : Triple = record { attribute = n; entity = e; value = v } in
    ap value_in (find-kept (λ t. not (same_triple taken t)) (is_at m x) ts
    ∙ find-agree (λ t. not (same_triple taken t) && is_at m x t) (is_at m x) ts (λ t. either (is_at m x t) (λ b. is_at m x t ≡ b → (not (same_triple taken t) && b) ≡ b)
    (λ _ k. ap (λ c. not c && true) (never (same_triple taken t) (λ h.
    let of : e ≡ t.entity = same_entity-is e t.entity (left (same_entity e t.entity) (same_value v t.value) (right (n == t.attribute) (same_entity e t.entity && same_value v t.value) h)) in
    let its : t.entity ≡ x = same_entity-is t.entity x (right (t.attribute == m) (same_entity t.entity x) k) in
    true≢false (sym (same_entity-itself e) ∙ ap (λ (z : EntityId). same_entity e z) (of ∙ its) ∙ apart))))
    (λ _ k. nothing (not (same_triple taken t))) refl))
  where
    nothing : (b : Bool) → (b && false) ≡ false
    nothing true = refl
    nothing false = refl

pub bytes-stay : (s : State) (n : ℕ) (e : EntityId) (v : Value) (x : EntityId) → same_entity e x ≡ false → entity_bytes (member_taken s n e v) x ≡ entity_bytes s x
bytes-stay s n e v x apart =
    ap (λ (cells : List Value). row (row_fields s.schema x.ty) (Int (pos x.serial) ∷ cells))
    (map-agree (λ (a : Attribute). value_at a.number x s.triples) (λ (a : Attribute). value_at a.number x (member_taken s n e v).triples)
    (filter (λ a. not a.many && not a.column) (attributes_in s.schema x.ty)) (λ k d l. value-stays n e v _ x s.triples apart))

-- ---- the view

module _ (laws : RowLaws) (s : State) (legal : IsNearlyLegal s) (program : IsOfProgram s) (readable : IsReadable s.schema) (e : EntityId) (entity : IsEntity e)
    (n : ℕ) (a : Attribute) (f : attribute s.schema n ≡ Some a) (one : a.many ≡ false) (in_row : a.column ≡ false) (v : Value) (fits : Fits a.kind v) (at : ℕ) (is_at : at ≡ store Extent e.ty) (rows : List (List ℕ)) where
  abbrev T : State
  T = member_taken s n e v

  abbrev before : View
  before = with_rows at rows (view_of s)

  abbrev after : View
  after = with_rows at rows (view_of T)

  abbrev behind : View
  behind = noted_view n a.kind e v Null before

  abbrev Right : ℕ → Type 0
  Right q = after.rows q ≡ behind.rows q

  small : n < 65536
  small = attribute-number s.schema n a readable legal.orderly f

  -- the extents of other types stay
  others-stay : (ty : ℕ) → (ty == e.ty) ≡ false → extent_rows T ty ≡ extent_rows s ty
  others-stay ty apart =
      map-agree (entity_bytes s) (entity_bytes T) (of_type ty s.live)
      (λ k d l. let x = slice_index_or (of_type ty s.live) k d in bytes-stay s n e v x (types-apart x e ty (entities-of-type ty s.live program.entities k d l).type_is apart))

  extent-right : (q : ℕ) → q < 65536 → Right q
  extent-right q h =
      either (q == at) (λ b. (if b then rows else rows_at T q) ≡ (if b then rows else rows_at s q)) (λ _. refl)
      (λ k. rows_at-extent T q h ∙ others-stay q (sym (extent-is e.ty q) ∙ sym (ap (λ z. q == z) is_at) ∙ k) ∙ sym (rows_at-extent s q h))
      ∙ sym (ap (λ b. if b then noted a.kind e v Null (before.rows q) else before.rows q) (extent-not-turned n q h))

  kept-not-at : (k m : ℕ) → 1 ≤ k → (k * 65536 + m == at) ≡ false
  kept-not-at k m some = ap (λ z. k * 65536 + m == z) is_at ∙ extent-is e.ty (k * 65536 + m) ∙ kept-not-extent k m e.ty some entity.2

  kept-after : (k m : ℕ) → 1 ≤ k → after.rows (k * 65536 + m) ≡ rows_at T (k * 65536 + m)
  kept-after k m some = ap (λ b. if b then rows else rows_at T (k * 65536 + m)) (kept-not-at k m some)

  kept-before : (k m : ℕ) → 1 ≤ k → before.rows (k * 65536 + m) ≡ rows_at s (k * 65536 + m)
  kept-before k m some = ap (λ b. if b then rows else rows_at s (k * 65536 + m)) (kept-not-at k m some)

  right-other : (k m : ℕ) → 1 ≤ k → m < 65536 → (m == n) ≡ false → Right (k * 65536 + m)
  right-other k m some few apart =
      kept-after k m some
      ∙ rows_at-others s T n refl (λ other h. taken-others n other h s e v) (k * 65536 + m) (kept-high k m some) (kept-apart k m n few apart) ∙ sym (kept-before k m some)
      ∙ sym (ap (λ b. if b then noted a.kind e v Null (before.rows (k * 65536 + m)) else before.rows (k * 65536 + m)) (kept-not-turned k m n few small apart))

  right-turned : (k : ℕ) → 1 ≤ k → is_turned_store n (k * 65536 + n) ≡ true → rows_at T (k * 65536 + n) ≡ turned_rows a.kind (converse n T.triples)
      → rows_at s (k * 65536 + n) ≡ turned_rows a.kind (converse n s.triples) → Right (k * 65536 + n)
  right-turned k some turned new was =
      kept-after k n some ∙ new ∙ noted-taken laws.width laws.pair_width laws.pairs s n a f legal program e entity v fits
      ∙ ap (noted a.kind e v Null) (sym was ∙ sym (kept-before k n some))
      ∙ sym (ap (λ b. if b then noted a.kind e v Null (before.rows (k * 65536 + n)) else before.rows (k * 65536 + n)) turned)

  -- a store of a kind that an attribute keeps
  kept-right : (kind : StoreKind) → 1 ≤ kind_number kind → (keeps kind a ≡ true → Right (store kind n)) → (m : ℕ) → keeps_one kind (attribute s.schema m) ≡ true → Right (store kind m)
  kept-right kind some own m kept =
      either (m == n) (λ _. Right (store kind m))
      (λ k. let is = number-is m n k in subst (λ z. Right (store kind z)) (sym is) (own (sym (ap (keeps_one kind) (ap (attribute s.schema) is ∙ f)) ∙ kept)))
      (λ k. right-other (kind_number kind) m some (kept-number s.schema kind m readable legal.orderly kept) k)

  pub view-taken : (q : ℕ) → IsStoreOf s.schema q → (with_rows at rows (view_of (member_taken s n e v))).rows q ≡ (noted_view n a.kind e v Null (with_rows at rows (view_of s))).rows q
  view-taken q (inl h) = extent-right q (omega (arith, h, legal.orderly.few_types))
  view-taken q (inr (inl (m, is, kept))) = subst Right (sym is) (kept-right Set (omega arith) (λ k. absurd (true≢false (sym k ∙ one))) m kept)
  view-taken q (inr (inr (inl (m, is, kept)))) =
      subst Right (sym is) (kept-right Index (omega arith) (λ _. right-turned 2 (omega arith) (is-index n) (rows_at-index T n a f small) (rows_at-index s n a f small)) m kept)
  view-taken q (inr (inr (inr (inl (m, is, kept))))) =
      subst Right (sym is) (kept-right Inverse (omega arith) (λ _. right-turned 3 (omega arith) (is-inverse n) (rows_at-inverse T n a f small) (rows_at-inverse s n a f small)) m kept)
  view-taken q (inr (inr (inr (inr (m, is, kept))))) = subst Right (sym is) (kept-right Column (omega arith) (λ k. absurd (true≢false (sym k ∙ in_row))) m kept)
