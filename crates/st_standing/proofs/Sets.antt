-- What a change of an attribute's triples leaves of the rows of its set or its column.
use Rattle.std.proofs.Common.{◌≡◌, ℕ, Bool, true, false, cond, List, [], ◌∷◌, ◌++◌, Some, None, take, refl, sym, ap, subst, ◌∙◌, slice_index_or, true≢false}
use Rattle.std.specs.Prelude.{◌==◌, not, map, filter, replicate, if◌then◌else◌}
use Rattle.std.specs.List.{All, list_all, list_any}
use Rattle.std.specs.Ordering.{is_eq, is_lt, nat_cmp, ordering_then}
use Rattle.std.specs.declared.cmp.Ordering.{Ordering}
use Rattle.std.specs.declared.cmp.Ordering.TheVariants.{Less, Equal, Greater}
use Rattle.std.proofs.lemmas.Cmp.{nat_cmp_total, tied_itself}
use Rattle.std.proofs.lemmas.List.{map-append}
use Rattle.std.proofs.lemmas.List.Elements.{All-head, All-tail, filter_passes}
use Rattle.st_values.specs.declared.value.EntityId.{EntityId}
use Rattle.st_values.specs.declared.value.Kind.{Kind}
use Rattle.st_values.specs.declared.value.Value.{Value}
use Rattle.st_values.specs.Order.{entity_before, entity_order, same_entity, value_order}
use Rattle.st_values.specs.Arranged.{ascends, placed}
use Rattle.st_values.proofs.Entities.{entity_before-strict, same_entity-is, same_entity-itself, same_entity-turned}
use Rattle.st_values.proofs.Placing.{differ}
use Rattle.st_values.proofs.Tests.{all-not, ascends-filter, either, left, never, right}
use Rattle.st_lattice.specs.declared.attribute.Attribute.{Attribute}
use Rattle.st_lattice.specs.Outline.{attribute}
use Rattle.st_keys.specs.Keys.{Fits, IsEntity, entity_key, width}
use Rattle.st_image.specs.Grammar.{row_before}
use Rattle.st_rows.specs.Rows.{pair_width}
use Rattle.st_state.specs.declared.triple.Triple.{Triple}
use Rattle.st_state.specs.State.{State, has_value, is_at, member_added, member_taken, same_triple, triple_before, values_at}
use Rattle.st_state.specs.Legal.{IsNearlyLegal}
use Rattle.st_state.proofs.Changed.{number-is, number-itself}
use Rattle.st_state.proofs.Orders.{triple_before-is, triple_before-strict}
use Rattle.st_store.specs.Rows.{row_with, rows_from, with_row, without_row}
use Rattle.st_store.proofs.Embedded.{asymmetric, filter-images, kept-rows, placed-rows, row_with-is, taken-rows}
use Rattle.st_standing.specs.Standing.{IsOfProgram, pair_bytes, triples_of, value_rows}
use Rattle.st_standing.proofs.Filtered.{all-of-kept, all-agree, filter-filter, filter-placed, filter-swap}
use Rattle.st_standing.proofs.OfKind.{IsOfKind, triples-differ, triples-of-kind}
use Rattle.st_standing.proofs.RowLaws.{RowLaws, from-entity, pair-before}

-- the row of a triple
abbrev pub triple_bytes : Kind → Triple → List ℕ
triple_bytes kind t = pair_bytes kind t.value t.entity

abbrev pub triple : ℕ → EntityId → Value → Triple
triple number e v = record { attribute = number; entity = e; value = v }

-- ---- triples of one attribute

-- they stand in the order of their entities, and then of their values
pub of-one : (x y : Triple) → x.attribute ≡ y.attribute → triple_before x y ≡ is_lt (ordering_then (entity_order x.entity y.entity) (value_order x.value y.value))
of-one x y e =
    triple_before-is x y
    ∙ ap (λ (o : Ordering). is_lt (ordering_then o (ordering_then (entity_order x.entity y.entity) (value_order x.value y.value))))
    (ap (nat_cmp x.attribute) (sym e) ∙ tied_itself nat_cmp_total x.attribute)

module _ (laws : RowLaws) (number : ℕ) (kind : Kind) where
  pub set-keeps : (x y : Triple) → IsOfKind number kind x → IsOfKind number kind y → row_before (pair_width kind) (triple_bytes kind x) (triple_bytes kind y) ≡ triple_before x y
  set-keeps x y h k = pair-before laws kind x.value y.value x.entity y.entity h.fits k.fits h.entity k.entity ∙ sym (of-one x y (h.number_is ∙ sym k.number_is))

-- an attribute of an entity has a value where not all its triples differ from that one
pub differ-has : (number : ℕ) (e : EntityId) (v : Value) (ts : List Triple) → list_all (differ triple_before (triple number e v)) (triples_of number ts) ≡ not (list_any (same_triple (triple number e v)) ts)
differ-has number e v ts =
    all-of-kept (differ triple_before (triple number e v)) (λ t. t.attribute == number) ts (λ t h. triples-differ (triple number e v) t ∙ ap not (unlike t h))
    ∙ all-agree (differ triple_before (triple number e v)) (λ t. not (same_triple (triple number e v) t)) ts (triples-differ (triple number e v))
    ∙ all-not (same_triple (triple number e v)) ts
  where
    unlike : (t : Triple) → (t.attribute == number) ≡ false → same_triple (triple number e v) t ≡ false
    unlike t h =
        never (same_triple (triple number e v) t) (λ k.
        let same : number ≡ t.attribute = number-is number t.attribute (left (number == t.attribute) _ k) in
        true≢false (sym (number-itself number) ∙ ap (λ z. z == number) same ∙ h))

-- ---- the triples of an entity among those of an attribute

pub decided : (a b : Ordering) → is_lt (ordering_then a b) ≡ true → is_eq a ≡ false → is_lt a ≡ true
decided Less b h k = refl
decided Equal b h k = absurd (true≢false k)
decided Greater b h k = h

unequal : (a : Ordering) → is_lt a ≡ true → is_eq a ≡ false
unequal Less h = refl
unequal Equal h = absurd (true≢false (sym h))
unequal Greater h = refl

module _ (number : ℕ) (kind : Kind) (e : EntityId) where
  abbrev own : List Triple → List Triple
  own ts = filter (λ t. same_entity t.entity e) ts

  abbrev behind : List Triple → List Triple
  behind ts = filter (λ t. entity_before e t.entity) ts

  -- where an entity stands behind one, all those do that follow it
  still-behind : (t u : Triple) → IsOfKind number kind t → IsOfKind number kind u → triple_before t u ≡ true → entity_before e t.entity ≡ true → entity_before e u.entity ≡ true
  still-behind t u h k b m =
      either (same_entity t.entity u.entity) (λ _. entity_before e u.entity ≡ true)
      (λ same. subst (λ z. entity_before e z ≡ true) (same_entity-is t.entity u.entity same) m)
      (λ other. entity_before-strict.chain e t.entity u.entity m
      (decided (entity_order t.entity u.entity) (value_order t.value u.value) (sym (of-one t u (h.number_is ∙ sym k.number_is)) ∙ b) other))

  not-same : (x : EntityId) → entity_before e x ≡ true → same_entity x e ≡ false
  not-same x h = same_entity-turned x e ∙ unequal (entity_order e x) h

  none-own : (t : Triple) → IsOfKind number kind t → entity_before e t.entity ≡ true → (us : List Triple) → All (IsOfKind number kind) us → list_all (triple_before t) us ≡ true → own us ≡ []
  none-own t h m [] all b = refl
  none-own t h m (u ∷ us) all b =
      ap (λ c. cond c (u ∷ own us) (own us))
      (not-same u.entity (still-behind t u h (All-head (IsOfKind number kind) u us all) (left (triple_before t u) (list_all (triple_before t) us) b) m))
      ∙ none-own t h m us (All-tail (IsOfKind number kind) u us all) (right (triple_before t u) (list_all (triple_before t) us) b)

  -- those that don't stand before an entity: its own ones, and those behind it
  pub own-first : (ts : List Triple) → All (IsOfKind number kind) ts → ascends triple_before ts ≡ true → filter (λ t. not (entity_before t.entity e)) ts ≡ own ts ++ behind ts
  own-first [] all a = refl
  own-first (t ∷ ts) all a =
      by (entity_before t.entity e) (same_entity t.entity e) (entity_before e t.entity) refl refl refl
      (own-first ts (All-tail (IsOfKind number kind) t ts all) (right (list_all (triple_before t) ts) (ascends triple_before ts) a))
    where
      from : List Triple → List Triple
      from us = filter (λ u. not (entity_before u.entity e)) us

      by : (b c d : Bool) → entity_before t.entity e ≡ b → same_entity t.entity e ≡ c → entity_before e t.entity ≡ d → from ts ≡ own ts ++ behind ts → from (t ∷ ts) ≡ own (t ∷ ts) ++ behind (t ∷ ts)
      by true c d h k m later =
          (λ i. cond (not (h i)) (t ∷ from ts) (from ts)) ∙ later
          ∙ (λ i. cond (sym (unequal (entity_order t.entity e) h) i) (t ∷ own ts) (own ts) ++ cond (sym (asymmetric entity_before entity_before-strict t.entity e h) i) (t ∷ behind ts) (behind ts))
      by false true d h k m later =
          (λ i. cond (not (h i)) (t ∷ from ts) (from ts)) ∙ ap (λ (l : List Triple). t ∷ l) later
          ∙ (λ i. cond (sym k i) (t ∷ own ts) (own ts)
          ++ cond (sym (ap (λ z. entity_before e z) (same_entity-is t.entity e k) ∙ entity_before-strict.itself e) i) (t ∷ behind ts) (behind ts))
      by false false true h k m later =
          let none : own ts ≡ [] = none-own t (All-head (IsOfKind number kind) t ts all) m ts (All-tail (IsOfKind number kind) t ts all) (left (list_all (triple_before t) ts) (ascends triple_before ts) a) in
          (λ i. cond (not (h i)) (t ∷ from ts) (from ts)) ∙ ap (λ (l : List Triple). t ∷ l) (later ∙ ap (λ (l : List Triple). l ++ behind ts) none)
          ∙ ap (λ (l : List Triple). l ++ t ∷ behind ts) (sym none)
          ∙ (λ i. cond (sym k i) (t ∷ own ts) (own ts) ++ cond (sym m i) (t ∷ behind ts) (behind ts))
      by false false false h k m later = absurd (true≢false (sym (same_entity-itself e) ∙ ap (λ z. same_entity z e) (sym (entity_before-strict.tie t.entity e h m)) ∙ k))

  -- the rows of an entity's triples are those of its values
  pub own-rows : (us : List Triple) → All (λ (t : Triple). t.entity ≡ e) us → map (triple_bytes kind) us ≡ map (λ v. pair_bytes kind v e) (map (λ t. t.value) us)
  own-rows [] all = refl
  own-rows (u ∷ us) all = λ i. pair_bytes kind u.value (All-head (λ (t : Triple). t.entity ≡ e) u us all i) ∷ own-rows us (All-tail (λ (t : Triple). t.entity ≡ e) u us all) i

-- ---- the rows of a set

module _ (laws : RowLaws) (s : State) (number : ℕ) (a : Attribute) (f : attribute s.schema number ≡ Some a) (n : IsNearlyLegal s) (p : IsOfProgram s) where
  abbrev pub of_number : List Triple
  of_number = triples_of number s.triples

  pub of-kind : All (IsOfKind number a.kind) of_number
  of-kind = triples-of-kind s n p number a f

  pub in-order : ascends triple_before of_number ≡ true
  in-order = ascends-filter triple_before (λ t. t.attribute == number) s.triples n.triples_ascend

  module _ (e : EntityId) (v : Value) (fits : Fits a.kind v) (entity : IsEntity e) where
    abbrev new : Triple
    new = triple number e v

    new-of-kind : IsOfKind number a.kind new
    new-of-kind = record { number_is = refl; fits = fits; entity = entity }

    -- a value more
    pub value_rows-added : value_rows a.kind (triples_of number (member_added s number e v).triples) ≡ with_row (pair_width a.kind) (pair_bytes a.kind v e) (value_rows a.kind (triples_of number s.triples))
    value_rows-added =
        either (list_any (same_triple new) s.triples)
        (λ b. value_rows a.kind (triples_of number (if b then s.triples else placed triple_before new s.triples)) ≡ with_row (pair_width a.kind) (pair_bytes a.kind v e) (value_rows a.kind of_number))
        (λ k. sym (kept-rows (pair_width a.kind) triple_before triple_before-strict (triple_bytes a.kind) (IsOfKind number a.kind) (set-keeps laws number a.kind) new new-of-kind of_number of-kind in-order
        (differ-has number e v s.triples ∙ ap not k)))
        (λ k. ap (value_rows a.kind) (filter-placed triple_before triple_before-strict (λ t. t.attribute == number) new s.triples (number-itself number) n.triples_ascend)
        ∙ placed-rows (pair_width a.kind) triple_before triple_before-strict (triple_bytes a.kind) (IsOfKind number a.kind) (set-keeps laws number a.kind) new new-of-kind of_number of-kind in-order
        (differ-has number e v s.triples ∙ ap not k))

    -- a value less
    pub value_rows-taken : value_rows a.kind (triples_of number (member_taken s number e v).triples) ≡ without_row (pair_width a.kind) (pair_bytes a.kind v e) (value_rows a.kind (triples_of number s.triples))
    value_rows-taken =
        ap (value_rows a.kind) (filter-swap (λ other. not (same_triple new other)) (λ t. t.attribute == number) s.triples)
        ∙ taken-rows (pair_width a.kind) triple_before triple_before-strict (triple_bytes a.kind) (IsOfKind number a.kind) (set-keeps laws number a.kind) new new-of-kind of_number of-kind in-order
        (λ other. not (same_triple new other)) (λ k d l. sym (triples-differ new (slice_index_or of_number k d)))

    -- whether a value is there
    pub row_with-member : row_with (pair_width a.kind) (pair_bytes a.kind v e) (value_rows a.kind (triples_of number s.triples)) ≡ (if has_value s number e v then Some (pair_bytes a.kind v e) else None)
    row_with-member =
        row_with-is (pair_width a.kind) triple_before triple_before-strict (triple_bytes a.kind) (IsOfKind number a.kind) (set-keeps laws number a.kind) new new-of-kind of_number of-kind
        ∙ ap (λ b. cond b None (Some (pair_bytes a.kind v e))) (differ-has number e v s.triples)
        ∙ either (has_value s number e v) (λ b. cond (not b) None (Some (pair_bytes a.kind v e)) ≡ (if b then Some (pair_bytes a.kind v e) else None)) (λ _. refl) (λ _. refl)

  -- the rows from an entity on: those of its own values, and those of the entities behind it
  module _ (e : EntityId) (entity : IsEntity e) (row : List ℕ) (zeros : take (pair_width a.kind) row ≡ entity_key e ++ replicate (width a.kind) 0) where
    pub rows_from-entity : rows_from (pair_width a.kind) row (value_rows a.kind (triples_of number s.triples)) ≡ value_rows a.kind (filter (λ t. not (entity_before t.entity e)) (triples_of number s.triples))
    rows_from-entity =
        filter-images (triple_bytes a.kind) (λ other. not (row_before (pair_width a.kind) other row)) (λ t. not (entity_before t.entity e)) of_number
        (λ k d l. let t = slice_index_or of_number k d in ap not (from-entity laws a.kind t.value t.entity e row (of-kind k d l).fits (of-kind k d l).entity entity zeros))

    pub values-first : rows_from (pair_width a.kind) row (value_rows a.kind (triples_of number s.triples))
        ≡ map (λ v. pair_bytes a.kind v e) (values_at number e s.triples) ++ value_rows a.kind (filter (λ t. entity_before e t.entity) (triples_of number s.triples))
    values-first =
        rows_from-entity
        ∙ ap (value_rows a.kind) (own-first number a.kind e of_number of-kind in-order)
        ∙ map-append (triple_bytes a.kind) (filter (λ t. same_entity t.entity e) of_number) (filter (λ t. entity_before e t.entity) of_number)
        ∙ ap (λ (l : List (List ℕ)). l ++ value_rows a.kind (filter (λ t. entity_before e t.entity) of_number))
        (ap (value_rows a.kind) (filter-filter (λ t. t.attribute == number) (λ t. same_entity t.entity e) s.triples)
        ∙ own-rows number a.kind e (filter (is_at number e) s.triples)
        (λ k d l. let t = slice_index_or (filter (is_at number e) s.triples) k d in same_entity-is t.entity e (right (t.attribute == number) (same_entity t.entity e) (filter_passes (is_at number e) s.triples k d l))))
