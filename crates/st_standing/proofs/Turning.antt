-- The rows of an attribute's index and inverse are those of its pairs, and behind a change of a value as they are noted.
use Rattle.std.proofs.Common.{◌≡◌, ◌≤◌, ℕ, Bool, true, false, List, length, take, Some, refl, sym, ap, subst, ◌∙◌, arith}
use Rattle.std.specs.Prelude.{◌==◌, ◌||◌, map, filter, if◌then◌else◌}
use Rattle.std.specs.Cmp.Lexicographic.{slice_cmp}
use Rattle.std.specs.List.{All, list_all}
use Rattle.std.specs.Ordering.{is_lt, nat_cmp}
use Rattle.std.proofs.lemmas.List.{take_all}
use Rattle.std.proofs.lemmas.List.Elements.{All-filter, All-map}
use Rattle.std.proofs.lemmas.List.Sorted.{All-permutation}
use Rattle.st_values.specs.declared.value.EntityId.{EntityId}
use Rattle.st_values.specs.declared.value.Kind.{Kind}
use Rattle.st_values.specs.declared.value.Value.{Value}
use Rattle.st_values.specs.declared.value.Value.TheVariants.{Null, Int, Bool as Truth, Text, Entity}
use Rattle.st_values.specs.Arranged.{arranged, ascends, placed}
use Rattle.st_values.specs.Order.{entity_order, value_order}
use Rattle.st_values.proofs.Placing.{differ}
use Rattle.st_values.proofs.Tests.{ascends-filter}
use Rattle.st_lattice.specs.declared.attribute.Attribute.{Attribute}
use Rattle.st_lattice.specs.Outline.{attribute}
use Rattle.st_keys.specs.Keys.{Fits, IsEntity}
use Rattle.st_rows.specs.declared.field.Field.{Field}
use Rattle.st_rows.specs.Rows.{AreHeld, fields_width, pair_fields, pair_order, pair_values, pair_width, row}
use Rattle.st_image.specs.Grammar.{row_before}
use Rattle.st_state.specs.State.{Pair, State, attribute_set, converse, has_value, member_added, member_taken, pair_before, pair_of, triple_before, turned, value_at}
use Rattle.st_state.specs.Legal.{IsNearlyLegal}
use Rattle.st_state.proofs.Changed.{number-itself}
use Rattle.st_state.proofs.Orders.{before_then}
use Rattle.st_state.proofs.Turned.{converse-ascends, converse-permutation, pair_before-strict, turned-converse}
use Rattle.st_store.specs.Rows.{with_row, without_row}
use Rattle.st_index.specs.Turned.{AreOfPairs, IsOrNull, entities_with, noted, turned_row, with_value, without_value}
use Rattle.st_standing.specs.Standing.{IsOfProgram, attribute_rows, triples_of, turned_rows, value_rows}
use Rattle.st_standing.proofs.Converse.{added-new, added-there, converse-left, converse-set, converse-taken, converse-with, elsewhere, fresh-elsewhere, pairs-other, pairs_with, pairs_without, set-same, taken-none, triple_for, triples_of-added, triples_of-set, triples_of-taken, with-value, without-value}
use Rattle.st_standing.proofs.Fitting.{filled, kept-holds, not-null, or-null, triples-fit, value-at-fits}
use Rattle.st_store.proofs.Embedded.{placed-rows, taken-rows}

-- ---- pairs

no-more : (m n : ℕ) → m ≡ n → m ≤ n
no-more m n e = omega (arith, e)

-- what holds of pairs and of all that is kept of them holds without a value
without-holds : (Q : List Pair → Type 0) (e : EntityId) (v : Value) (pairs : List Pair) → Q pairs → ((p : Pair → Bool) → Q (filter p pairs)) → Q (pairs_without e v pairs)
without-holds Q e Null pairs h k = h
without-holds Q e (Int i) pairs h k = k (differ pair_before (record { value = Int i; entity = e }))
without-holds Q e (Truth b) pairs h k = k (differ pair_before (record { value = Truth b; entity = e }))
without-holds Q e (Text t) pairs h k = k (differ pair_before (record { value = Text t; entity = e }))
without-holds Q e (Entity x) pairs h k = k (differ pair_before (record { value = Entity x; entity = e }))

-- ---- the rows of pairs

-- a pair has a value that fits a kind, and an entity
abbrev pub IsFit : Kind → Pair → Type 0
IsFit k p = Fits k p.value × IsEntity p.entity

abbrev pub pair_row : Kind → Pair → List ℕ
pair_row k p = turned_row k p.value p.entity

-- the pairs of an attribute fit, and the rows of its index and inverse are theirs
module _ (s : State) (n : ℕ) (a : Attribute) (f : attribute s.schema n ≡ Some a) (legal : IsNearlyLegal s) (program : IsOfProgram s) where
  pub fit-pairs : All (IsFit a.kind) (converse n s.triples)
  fit-pairs =
      All-permutation (IsFit a.kind) (map pair_of (filter (λ t. t.attribute == n) s.triples)) (converse n s.triples) (converse-permutation n s.triples legal.triples_ascend)
      (All-map (IsFit a.kind) pair_of (filter (λ t. t.attribute == n) s.triples)
      (kept-holds (λ t. IsFit a.kind (pair_of t)) (λ t. t.attribute == n) s.triples (triples-fit s legal program n a f)))

  pub of-pairs : AreOfPairs a.kind (turned_rows a.kind (converse n s.triples)) (converse n s.triples)
  of-pairs = record { rows_are = refl; fit = λ k d l. (fit-pairs k d l).0; entities = λ k d l. (fit-pairs k d l).1 }

-- the entities of a value are those that the state has
pub entities-turned : (s : State) → IsNearlyLegal s → (n : ℕ) (v : Value) → entities_with v (converse n s.triples) ≡ turned n v s.triples
entities-turned s legal n v = sym (turned-converse n s.triples legal.triples_ascend v)

module _
    (wide : (fields : List Field) (values : List Value) → AreHeld fields values → length (row fields values) ≡ fields_width fields)
    (pair_wide : (k : Kind) (way : Bool) → fields_width (pair_fields k way) ≡ pair_width k)
    (order : (k : Kind) (way : Bool) (a b : Value) (x y : EntityId) → Fits k a → Fits k b → IsEntity x → IsEntity y →
    slice_cmp nat_cmp (row (pair_fields k way) (pair_values way a x)) (row (pair_fields k way) (pair_values way b y)) ≡ pair_order way a x b y) where
  -- all of a row is its key
  row-key : (k : Kind) (p : Pair) → IsFit k p → take (pair_width k) (pair_row k p) ≡ pair_row k p
  row-key k p fit =
      take_all (pair_width k) (pair_row k p)
      (no-more (length (pair_row k p)) (pair_width k) (wide (pair_fields k true) (pair_values true p.value p.entity) (fit.0, (fit.1, tt)) ∙ pair_wide k true))

  -- rows stand as their pairs do
  pub keeps : (k : Kind) (p q : Pair) → IsFit k p → IsFit k q → row_before (pair_width k) (pair_row k p) (pair_row k q) ≡ pair_before p q
  keeps k p q f g =
      (λ i. is_lt (slice_cmp nat_cmp (row-key k p f i) (row-key k q g i)))
      ∙ ap is_lt (order k true p.value q.value p.entity q.entity f.0 g.0 f.1 g.1) ∙ sym (before_then (value_order p.value q.value) (entity_order p.entity q.entity))

  module _ (k : Kind) (e : EntityId) (entity : IsEntity e) (pairs : List Pair) (fit : All (IsFit k) pairs) (up : ascends pair_before pairs ≡ true) where
    rows-without : (v : Value) → IsOrNull k v → map (pair_row k) (pairs_without e v pairs) ≡ without_value k e v (map (pair_row k) pairs)
    rows-without v h = by v h
      where
        one : (w : Value) → Fits k w → map (pair_row k) (filter (differ pair_before (record { value = w; entity = e })) pairs) ≡ without_row (pair_width k) (turned_row k w e) (map (pair_row k) pairs)
        one w fits =
            taken-rows (pair_width k) pair_before pair_before-strict (pair_row k) (IsFit k) (keeps k) (record { value = w; entity = e }) (fits, entity) pairs fit up
            (differ pair_before (record { value = w; entity = e })) (λ i d l. refl)

        by : (w : Value) → IsOrNull k w → map (pair_row k) (pairs_without e w pairs) ≡ without_value k e w (map (pair_row k) pairs)
        by Null n = refl
        by (Int i) n = one (Int i) n
        by (Truth b) n = one (Truth b) n
        by (Text t) n = one (Text t) n
        by (Entity x) n = one (Entity x) n

    rows-with : (v : Value) → IsOrNull k v → list_all (differ pair_before (record { value = v; entity = e })) pairs ≡ true → map (pair_row k) (pairs_with e v pairs) ≡ with_value k e v (map (pair_row k) pairs)
    rows-with v h d = by v h d
      where
        one : (w : Value) → Fits k w → list_all (differ pair_before (record { value = w; entity = e })) pairs ≡ true
            → map (pair_row k) (placed pair_before (record { value = w; entity = e }) pairs) ≡ with_row (pair_width k) (turned_row k w e) (map (pair_row k) pairs)
        one w fits c =
            placed-rows (pair_width k) pair_before pair_before-strict (pair_row k) (IsFit k) (keeps k) (record { value = w; entity = e }) (fits, entity) pairs fit up c

        by : (w : Value) → IsOrNull k w → list_all (differ pair_before (record { value = w; entity = e })) pairs ≡ true → map (pair_row k) (pairs_with e w pairs) ≡ with_value k e w (map (pair_row k) pairs)
        by Null n c = refl
        by (Int i) n c = one (Int i) n c
        by (Truth b) n c = one (Truth b) n c
        by (Text t) n c = one (Text t) n c
        by (Entity x) n c = one (Entity x) n c

  -- ---- the rows of a state

  module _ (s : State) (n : ℕ) (a : Attribute) (f : attribute s.schema n ≡ Some a) (legal : IsNearlyLegal s) (program : IsOfProgram s) (e : EntityId) (entity : IsEntity e) where
    -- a single value is set
    pub noted-set : a.many ≡ false → (v : Value) → IsOrNull a.kind v
        → turned_rows a.kind (converse n (attribute_set s n e v).triples) ≡ noted a.kind e (value_at n e s.triples) v (turned_rows a.kind (converse n s.triples))
    noted-set one v fits =
        let old = value_at n e s.triples in
        let base = filter (elsewhere n e) s.triples in
        let left_is = converse-left n e s.schema a f one s.triples legal.triples_ascend legal.single (filled s legal) in
        let apart : list_all (differ pair_before (record { value = v; entity = e })) (pairs_without e old (converse n s.triples)) ≡ true =
        subst (λ ps. list_all (differ pair_before (record { value = v; entity = e })) ps ≡ true) left_is
        (pairs-other n (triple_for n e v) base (ascends-filter triple_before (elsewhere n e) s.triples legal.triples_ascend) (number-itself n) (fresh-elsewhere n e v s.triples)) in
        ap (map (pair_row a.kind)) (converse-set n e s.schema a f one s.triples legal.triples_ascend legal.single (filled s legal) v)
        ∙ rows-with a.kind e entity (pairs_without e old (converse n s.triples))
        (without-holds (All (IsFit a.kind)) e old (converse n s.triples) (fit-pairs s n a f legal program) (λ p. All-filter p (IsFit a.kind) (converse n s.triples) (fit-pairs s n a f legal program)))
        (without-holds (λ ps. ascends pair_before ps ≡ true) e old (converse n s.triples) (converse-ascends n s.triples legal.triples_ascend) (λ p. ascends-filter pair_before p (converse n s.triples) (converse-ascends n s.triples legal.triples_ascend)))
        v fits apart
        ∙ ap (with_value a.kind e v) (rows-without a.kind e entity (converse n s.triples) (fit-pairs s n a f legal program) (converse-ascends n s.triples legal.triples_ascend) old (value-at-fits s legal program n a f e))

    -- a value is put into a set in which it wasn't, or taken out of one
    pub noted-added : (v : Value) → Fits a.kind v → has_value s n e v ≡ false
        → turned_rows a.kind (converse n (member_added s n e v).triples) ≡ noted a.kind e Null v (turned_rows a.kind (converse n s.triples))
    noted-added v fits new =
        ap (λ ts. map (pair_row a.kind) (converse n ts)) (added-new n (triple_for n e v) s.triples new)
        ∙ ap (map (pair_row a.kind))
        (converse-with n (triple_for n e v) s.triples legal.triples_ascend (number-itself n) new ∙ sym (with-value e v (converse n s.triples) (not-null a.kind v fits)))
        ∙ rows-with a.kind e entity (converse n s.triples) (fit-pairs s n a f legal program) (converse-ascends n s.triples legal.triples_ascend) v (or-null a.kind v fits)
        (pairs-other n (triple_for n e v) s.triples legal.triples_ascend (number-itself n) new)

    pub noted-taken : (v : Value) → Fits a.kind v
        → turned_rows a.kind (converse n (member_taken s n e v).triples) ≡ noted a.kind e v Null (turned_rows a.kind (converse n s.triples))
    noted-taken v fits =
        ap (map (pair_row a.kind))
        (converse-taken n (triple_for n e v) s.triples legal.triples_ascend (number-itself n) ∙ sym (without-value e v (converse n s.triples) (not-null a.kind v fits)))
        ∙ rows-without a.kind e entity (converse n s.triples) (fit-pairs s n a f legal program) (converse-ascends n s.triples legal.triples_ascend) v (or-null a.kind v fits)

-- ---- what changes nothing

pub set-nothing : (s : State) (n : ℕ) (a : Attribute) → attribute s.schema n ≡ Some a → IsNearlyLegal s → a.many ≡ false → (e : EntityId) → attribute_set s n e (value_at n e s.triples) ≡ s
set-nothing s n a f legal one e = λ i. record s { triples = set-same n e s.schema a f one s.triples legal.triples_ascend legal.single (filled s legal) i }

pub added-nothing : (s : State) (n : ℕ) (e : EntityId) (v : Value) → has_value s n e v ≡ true → member_added s n e v ≡ s
added-nothing s n e v h = λ i. record s { triples = added-there n (triple_for n e v) s.triples h i }

pub taken-nothing : (s : State) (n : ℕ) (e : EntityId) (v : Value) → has_value s n e v ≡ false → member_taken s n e v ≡ s
taken-nothing s n e v h = λ i. record s { triples = taken-none n (triple_for n e v) s.triples h i }

-- ---- other attributes keep their rows, in all of their stores

rows-kept : (s t : State) (b : Attribute) → triples_of b.number t.triples ≡ triples_of b.number s.triples → (k : ℕ) → attribute_rows t k (Some b) ≡ attribute_rows s k (Some b)
rows-kept s t b e k = λ i. if (k == 1) || (k == 4) then value_rows b.kind (e i) else turned_rows b.kind (arranged pair_before (map pair_of (e i)))

module _ (s : State) (n : ℕ) (e : EntityId) (v : Value) (b : Attribute) (h : (n == b.number) ≡ false) (k : ℕ) where
  pub set-elsewhere : attribute_rows (attribute_set s n e v) k (Some b) ≡ attribute_rows s k (Some b)
  set-elsewhere = rows-kept s (attribute_set s n e v) b (triples_of-set n e b.number h v s.triples) k

  pub added-elsewhere : attribute_rows (member_added s n e v) k (Some b) ≡ attribute_rows s k (Some b)
  added-elsewhere = rows-kept s (member_added s n e v) b (triples_of-added b.number (triple_for n e v) h s.triples) k

  pub taken-elsewhere : attribute_rows (member_taken s n e v) k (Some b) ≡ attribute_rows s k (Some b)
  taken-elsewhere = rows-kept s (member_taken s n e v) b (triples_of-taken b.number (triple_for n e v) h s.triples) k
