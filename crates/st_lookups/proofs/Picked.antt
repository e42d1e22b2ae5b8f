-- The entities of types in whose rows a value stands, one type after the other.
use Rattle.std.proofs.Common.{◌≡◌, ℕ, ◌+◌, ◌==◌, Bool, true, false, cond, List, [], ◌∷◌, ◌++◌, Option, Some, None, refl, sym, ap, ◌∙◌, subst, arith, true≢false}
use Rattle.std.specs.Prelude.{◌&&◌, ◌||◌, not, filter, length, nat_le, nat_lt, position, slice_index}
use Rattle.std.specs.List.{All}
use Rattle.std.specs.Int.{w32, to_be_bytes}
use Rattle.std.proofs.lemmas.Bool.Decides.{nat_tests}
use Rattle.st_values.specs.declared.value.EntityId.{EntityId}
use Rattle.st_values.specs.declared.value.Kind.{Kind}
use Rattle.st_values.specs.declared.value.Kind.TheVariants as kind
use Rattle.st_values.specs.declared.value.Value.{Value}
use Rattle.st_values.specs.declared.value.Value.TheVariants.{Null, Int, Bool as Truth, Text, Entity}
use Rattle.st_values.specs.Order.{entity_before, same_value}
use Rattle.st_values.proofs.Tests.{both, either, left}
use Rattle.st_lattice.specs.declared.attribute.Attribute.{Attribute}
use Rattle.st_lattice.specs.Outline.{Outline, attribute}
use Rattle.st_lattice.specs.Lattice.{attributes_in, isa}
use Rattle.st_lattice.specs.Stores.{passes}
use Rattle.st_rows.specs.declared.field.Field.{Field}
use Rattle.st_rows.specs.Rows.{AreHeld, row}
use Rattle.st_state.specs.State.{State, value_at}
use Rattle.st_state.specs.Legal.{IsNearlyLegal, can_hold, is_counted}
use Rattle.st_state.specs.Calls.{CanHold}
use Rattle.st_state.proofs.Set.{null}
use Rattle.st_state.specs.Rows.{entity_row}
use Rattle.st_store.specs.Rows.{rows_from}
use Rattle.st_standing.specs.Standing.{IsOfProgram, extent_rows}
use Rattle.st_standing.proofs.Extents.{entities-of-type}
use Rattle.st_standing.proofs.RowLaws.{RowLaws}
use Rattle.st_lookups.specs.Looks.{AreCells, Cells, entities_having, is_cell, taken_from, value_among}
use Rattle.st_lookups.proofs.Holding.{extent-having}
use Rattle.st_lookups.proofs.Listed.{agree, agree-all, from-start, in-front, is-number, lower, other-than, parts, taken-all, up-to}
use Rattle.st_lookups.proofs.Valued.{value-cell}

-- ---- one type after the other

module _ (q : EntityId → Bool) where
  pub none-before : (es : List EntityId) → filter (λ e. nat_lt e.ty 0 && q e) es ≡ []
  none-before [] = refl
  none-before (e ∷ es) = ap (λ (b : Bool). cond (b && q e) (e ∷ filter (λ x. nat_lt x.ty 0 && q x) es) (filter (λ x. nat_lt x.ty 0 && q x) es)) (never-below e.ty) ∙ none-before es
    where
      never-below : (m : ℕ) → nat_lt m 0 ≡ false
      never-below m = grind (arith, nat_tests)

  either-of : (a b : Bool) (c : Bool) → ((a && c) || (b && c)) ≡ ((a || b) && c)
  either-of true true true = refl
  either-of true true false = refl
  either-of true false true = refl
  either-of true false false = refl
  either-of false b c = refl

  -- the entities up to a type that pass a test, and those of that type
  pub type-more : (s : State) (k : ℕ) → IsNearlyLegal s → filter (λ e. nat_lt e.ty k && q e) s.live ++ filter (λ e. (e.ty == k) && q e) s.live ≡ filter (λ e. nat_lt e.ty (k + 1) && q e) s.live
  type-more s k legal =
      parts entity_before (λ e. nat_lt e.ty k && q e) (λ e. (e.ty == k) && q e)
      (λ x y h b. ap (λ (t : Bool). t && q y) (lower x.ty y.ty k (left (x.ty == k) (q x) h) (in-front x y b)))
      (λ x p. ap (λ (t : Bool). t && q x) (other-than x.ty k (left (nat_lt x.ty k) (q x) p))) s.live legal.live_ascends
      ∙ agree (λ e. (nat_lt e.ty k && q e) || ((e.ty == k) && q e)) (λ e. nat_lt e.ty (k + 1) && q e) s.live
      (λ e. either-of (nat_lt e.ty k) (e.ty == k) (q e) ∙ ap (λ (b : Bool). b && q e) (up-to e.ty k))

  -- the entities of all types that pass a test
  pub each-type : (s : State) → IsNearlyLegal s → filter (λ e. nat_lt e.ty (length s.schema.names) && q e) s.live ≡ filter q s.live
  each-type s legal =
      agree-all (is_counted s) (λ e. nat_lt e.ty (length s.schema.names) && q e) q s.live
      (λ e h. ap (λ (b : Bool). b && q e) (left (nat_lt e.ty (length s.schema.names)) (nat_lt 0 e.serial && nat_le e.serial (slice_index s.last e.ty)) h)) legal.counted

-- ---- the entities of one type

-- what passes a test among what passes another one
filter-within : {X : Type 0} (t p r : X → Bool) (xs : List X) → ((x : X) → t x ≡ true → p x ≡ r x) → filter p (filter t xs) ≡ filter (λ x. t x && r x) xs
filter-within t p r [] h = refl
filter-within t p r (x ∷ xs) h =
    let rest = filter-within t p r xs h in
    either (t x) (λ b. filter p (cond b (x ∷ filter t xs) (filter t xs)) ≡ cond (b && r x) (x ∷ filter (λ y. t y && r y) xs) (filter (λ y. t y && r y) xs))
    (λ e. λ i. cond (h x e i) (x ∷ rest i) (rest i)) (λ e. rest)

none-kept : {X : Type 0} (t : X → Bool) (xs : List X) → ((x : X) → t x ≡ false) → filter t xs ≡ []
none-kept t [] h = refl
none-kept t (x ∷ xs) h = ap (λ (b : Bool). cond b (x ∷ filter t xs) (filter t xs)) (h x) ∙ none-kept t xs h

module _ (s : State) (number : ℕ) (a : Attribute) (f : attribute s.schema number ≡ Some a) (v : Value) (k : ℕ) where
  abbrev pub held : EntityId → Bool
  held e = isa s.schema e.ty a.owner && same_value (value_at number e s.triples) v

  -- those of a type that has the attribute, by the cells of their rows
  pub type-having : All (λ (b : Attribute). b.column ≡ false) s.schema.attributes → a.many ≡ false → isa s.schema k a.owner ≡ true
      → filter (λ e. same_value (value_among (position (λ b. b.number == number) (filter is_cell (attributes_in s.schema k))) (entity_row s e).cells) v) (filter (λ e. e.ty == k) s.live)
      ≡ filter (λ e. (e.ty == k) && (isa s.schema e.ty a.owner && same_value (value_at number e s.triples) v)) s.live
  type-having in-rows single of =
      filter-within (λ (e : EntityId). e.ty == k) (λ e. same_value (value_among (position (λ b. b.number == number) (filter is_cell (attributes_in s.schema k))) (entity_row s e).cells) v) held s.live
      (λ e h.
      let type_is : e.ty ≡ k = is-number e.ty k h in
      let here : isa s.schema e.ty a.owner ≡ true = ap (λ (n : ℕ). isa s.schema n a.owner) type_is ∙ of in
      let test : Attribute → Bool = λ b. isa s.schema e.ty b.owner && not b.many in
      let passed : passes test (attribute s.schema number) ≡ true = ap (passes test) f ∙ both (isa s.schema e.ty a.owner) (not a.many) here (ap not single) in
      ap (λ (n : ℕ). same_value (value_among (position (λ (b : Attribute). b.number == number) (filter is_cell (attributes_in s.schema n))) (entity_row s e).cells) v) (sym type_is)
      ∙ ap (λ (w : Value). same_value w v) (value-cell s e number in-rows passed) ∙ sym (ap (λ (b : Bool). b && same_value (value_at number e s.triples) v) here))

  -- and none of a type that lacks it
  pub type-lacking : isa s.schema k a.owner ≡ false → filter (λ e. (e.ty == k) && (isa s.schema e.ty a.owner && same_value (value_at number e s.triples) v)) s.live ≡ []
  type-lacking of =
      none-kept (λ (e : EntityId). (e.ty == k) && held e) s.live
      (λ e. either (e.ty == k) (λ b. (b && held e) ≡ false)
      (λ h. ap (λ (b : Bool). b && same_value (value_at number e s.triples) v) (ap (λ (n : ℕ). isa s.schema n a.owner) (is-number e.ty k h) ∙ of)) (λ h. refl))

-- what is read of all rows of an extent tells its entities in whose cells a value stands
pub exactly-having : (laws : RowLaws) (one_spelling : (fields : List Field) (xs ys : List Value) → AreHeld fields xs → AreHeld fields ys → row fields xs ≡ row fields ys → xs ≡ ys) (s : State) → IsNearlyLegal s → IsOfProgram s → (ty : ℕ) (schema : Outline) → s.schema ≡ schema
    → (width : ℕ) (key : List ℕ) → width ≡ 4 → key ≡ to_be_bytes w32 0 → (number : ℕ) (index : Option ℕ) → index ≡ position (λ a. a.number == number) (filter is_cell (attributes_in schema ty)) → (v : Value) (read : List Cells)
    → AreCells schema ty (taken_from (λ row. true) (rows_from width key (extent_rows s ty))) read
    → entities_having ty index v read ≡ filter (λ e. same_value (value_among (position (λ a. a.number == number) (filter is_cell (attributes_in s.schema ty))) (entity_row s e).cells) v) (filter (λ e. e.ty == ty) s.live)
exactly-having laws one_spelling s legal program ty schema same width key w k number index at v read are =
    let all = entities-of-type ty s.live program.entities in
    let rows : taken_from (λ row. true) (rows_from width key (extent_rows s ty)) ≡ extent_rows s ty =
    taken-all (rows_from width key (extent_rows s ty)) ∙ (λ i. rows_from (w i) (k i) (extent_rows s ty)) ∙ from-start laws s ty (filter (λ e. e.ty == ty) s.live) all in
    let mine : AreCells s.schema ty (extent_rows s ty) read = subst (λ (o : Outline). AreCells o ty (extent_rows s ty) read) (sym same) (subst (λ (l : List (List ℕ)). AreCells schema ty l read) rows are) in
    let place : index ≡ position (λ (a : Attribute). a.number == number) (filter is_cell (attributes_in s.schema ty)) = at ∙ ap (λ (o : Outline). position (λ (a : Attribute). a.number == number) (filter is_cell (attributes_in o ty))) (sym same) in
    ap (λ (o : Option ℕ). entities_having ty o v read) place ∙ extent-having s legal program ty one_spelling (position (λ (a : Attribute). a.number == number) (filter is_cell (attributes_in s.schema ty))) v read
    mine

-- ---- values that aren't null

-- a value that an attribute can hold isn't null
pub not-null : (s : State) (number : ℕ) (v : Value) → CanHold s number v → null v ≡ false
not-null s number v can = by (attribute s.schema number) can
  where
    of-kind : (k : Kind) (w : Value) → can_hold s k w ≡ true → null w ≡ false
    of-kind k (Int i) h = refl
    of-kind k (Truth b) h = refl
    of-kind k (Text t) h = refl
    of-kind k (Entity e) h = refl
    of-kind kind.Int Null h = absurd (true≢false (sym h))
    of-kind kind.Bool Null h = absurd (true≢false (sym h))
    of-kind (kind.Text limit) Null h = absurd (true≢false (sym h))
    of-kind (kind.Entity ty) Null h = absurd (true≢false (sym h))

    by : (o : Option Attribute) → passes (λ a. can_hold s a.kind v) o ≡ true → null v ≡ false
    by None h = absurd (true≢false (sym h))
    by (Some a) h = of-kind a.kind v h
