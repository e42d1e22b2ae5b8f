-- What a change of an attribute's triples leaves of the rows of its column.
use Rattle.std.proofs.Common.{◌≡◌, ℕ, Bool, true, false, cond, List, [], ◌∷◌, Option, Some, None, take, refl, sym, ap, subst, ◌∙◌, slice_index_or, true≢false}
use Rattle.std.specs.Prelude.{◌==◌, ◌&&◌, not, filter, find}
use Rattle.std.specs.List.{All, list_all}
use Rattle.std.specs.Option.{option_map}
use Rattle.std.specs.declared.cmp.Ordering.{Ordering}
use Rattle.std.specs.declared.cmp.Ordering.TheVariants.{Less, Equal, Greater}
use Rattle.std.specs.Ordering.{is_eq, is_lt, ordering_then}
use Rattle.std.specs.Str.{bytes_eq}
use Rattle.std.proofs.lemmas.List.Elements.{All-filter, All-head, All-tail, filter_passes}
use Rattle.st_values.specs.declared.value.EntityId.{EntityId}
use Rattle.st_values.specs.declared.value.Kind.{Kind}
use Rattle.st_values.specs.declared.value.Value.{Value}
use Rattle.st_values.specs.declared.value.Value.TheVariants.{Null, Int, Bool as Truth, Text, Entity}
use Rattle.st_values.specs.Order.{entity_before, entity_order, same_entity, value_order}
use Rattle.st_values.specs.Arranged.{ascends, each_pair, placed}
use Rattle.st_values.proofs.Entities.{entity_before-strict, same_entity-is, same_entity-turned}
use Rattle.st_values.proofs.Tests.{ascends-filter, both, left, never, not-true, other-of, right}
use Rattle.st_lattice.specs.declared.attribute.Attribute.{Attribute}
use Rattle.st_lattice.specs.Outline.{attribute}
use Rattle.st_lattice.specs.Stores.{passes}
use Rattle.st_keys.specs.Keys.{Fits, IsEntity, entity_key}
use Rattle.st_image.specs.Grammar.{row_before}
use Rattle.st_state.specs.declared.triple.Triple.{Triple}
use Rattle.st_state.specs.State.{State, attribute_set, is_at, triple_before, value_at, value_in, with_value}
use Rattle.st_state.specs.Legal.{IsNearlyLegal, apart_at_entity}
use Rattle.st_state.proofs.Changed.{number-itself}
use Rattle.st_state.proofs.Orders.{triple_before-strict}
use Rattle.st_state.proofs.Set.{null}
use Rattle.st_store.specs.Rows.{row_with, with_row, without_row}
use Rattle.st_store.proofs.Embedded.{all-images, all-passed, filter-images, find-images, one-way, placed-images, with-without, without-others}
use Rattle.st_standing.specs.Standing.{IsOfProgram, pair_bytes, triples_of, value_rows}
use Rattle.st_standing.proofs.Filtered.{filter-placed, filter-swap, find-kept, found-has, passed-all}
use Rattle.st_standing.proofs.OfKind.{IsOfKind, entities-differ, fits-value}
use Rattle.st_standing.proofs.RowLaws.{RowLaws, entity-key-before, entity-key-same}
use Rattle.st_standing.proofs.Sets.{decided, in-order, of-kind, of-one, triple, triple_bytes}

-- a value that isn't null, in its triple
pub with-new : (number : ℕ) (e : EntityId) (v : Value) (ts : List Triple) → null v ≡ false → with_value number e v ts ≡ placed triple_before (triple number e v) ts
with-new number e Null ts h = absurd (true≢false h)
with-new number e (Int i) ts h = refl
with-new number e (Truth b) ts h = refl
with-new number e (Text t) ts h = refl
with-new number e (Entity x) ts h = refl

abbrev by_entity : Triple → Triple → Bool
by_entity t u = entity_before t.entity u.entity

-- triples of an attribute with single values stand in the order of their entities alone
module _ (s : State) (number : ℕ) (a : Attribute) (f : attribute s.schema number ≡ Some a) (single : a.many ≡ false) where
  entity-decides : (t u : Triple) → IsOfKind number a.kind t → IsOfKind number a.kind u → triple_before t u ≡ true → apart_at_entity s.schema t u ≡ true → by_entity t u ≡ true
  entity-decides t u h k b apart =
      decided (entity_order t.entity u.entity) (value_order t.value u.value) (sym (of-one t u (h.number_is ∙ sym k.number_is)) ∙ b)
      (never (same_entity t.entity u.entity) (λ m.
      let not_many : passes (λ x. x.many) (attribute s.schema t.attribute) ≡ false = ap (λ z. passes (λ x. x.many) (attribute s.schema z)) h.number_is ∙ ap (passes (λ x. x.many)) f ∙ single in
      let at : is_at t.attribute t.entity u ≡ true =
      both (u.attribute == t.attribute) (same_entity u.entity t.entity) (ap (λ z. z == t.attribute) (k.number_is ∙ sym h.number_is) ∙ number-itself t.attribute) (same_entity-turned u.entity t.entity ∙ m) in
      true≢false (sym (other-of (passes (λ x. x.many) (attribute s.schema t.attribute)) (not (is_at t.attribute t.entity u)) apart not_many) ∙ ap not at)))

  pub entities-ascend : (ts : List Triple) → All (IsOfKind number a.kind) ts → ascends triple_before ts ≡ true → each_pair (apart_at_entity s.schema) ts ≡ true → ascends by_entity ts ≡ true
  entities-ascend [] all b c = refl
  entities-ascend (t ∷ ts) all b c =
      both (list_all (by_entity t) ts) (ascends by_entity ts)
      (passed-all (by_entity t) ts (λ k d l. entity-decides t (slice_index_or ts k d) (All-head (IsOfKind number a.kind) t ts all) (All-tail (IsOfKind number a.kind) t ts all k d l)
      (all-passed (triple_before t) ts (left (list_all (triple_before t) ts) (ascends triple_before ts) b) k d l)
      (all-passed (apart_at_entity s.schema t) ts (left (list_all (apart_at_entity s.schema t) ts) (each_pair (apart_at_entity s.schema) ts) c) k d l)))
      (entities-ascend ts (All-tail (IsOfKind number a.kind) t ts all) (right (list_all (triple_before t) ts) (ascends triple_before ts) b)
      (right (list_all (apart_at_entity s.schema t) ts) (each_pair (apart_at_entity s.schema) ts) c))

-- rows of triples in the order of their entities
module _ (laws : RowLaws) (number : ℕ) (kind : Kind) where
  pub column-ascends : (ts : List Triple) → All (IsOfKind number kind) ts → ascends by_entity ts ≡ true → ascends (row_before 6) (value_rows kind ts) ≡ true
  column-ascends [] all b = refl
  column-ascends (t ∷ ts) all b =
      both (list_all (row_before 6 (triple_bytes kind t)) (value_rows kind ts)) (ascends (row_before 6) (value_rows kind ts))
      (all-images (triple_bytes kind) (row_before 6 (triple_bytes kind t)) (by_entity t) ts
      (λ k d l. let u = slice_index_or ts k d in entity-key-before laws kind kind t.value u.value t.entity u.entity (All-head (IsOfKind number kind) t ts all).entity (All-tail (IsOfKind number kind) t ts all k d l).entity)
      ∙ left (list_all (by_entity t) ts) (ascends by_entity ts) b)
      (column-ascends ts (All-tail (IsOfKind number kind) t ts all) (right (list_all (by_entity t) ts) (ascends by_entity ts) b))

-- ---- the rows of a column

module _ (laws : RowLaws) (s : State) (number : ℕ) (a : Attribute) (f : attribute s.schema number ≡ Some a) (n : IsNearlyLegal s) (p : IsOfProgram s) where
  abbrev of_number : List Triple
  of_number = triples_of number s.triples

  kinds : All (IsOfKind number a.kind) of_number
  kinds = of-kind laws s number a f n p

  abbrev elsewhere : EntityId → Triple → Bool
  elsewhere e t = not (is_at number e t)

  module _ (e : EntityId) (entity : IsEntity e) where
    -- which row has an entity's key: that of its value, where it has one
    module _ (row : List ℕ) (its : take 6 row ≡ entity_key e) where
      same-key-of : (t : Triple) → IsEntity t.entity → bytes_eq (take 6 (triple_bytes a.kind t)) (take 6 row) ≡ same_entity t.entity e
      same-key-of t h = ap (bytes_eq (entity_key t.entity)) its ∙ entity-key-same laws t.entity e h entity

      pub row_with-column : row_with 6 row (value_rows a.kind (triples_of number s.triples)) ≡ cond (null (value_at number e s.triples)) None (Some (pair_bytes a.kind (value_at number e s.triples) e))
      row_with-column =
          find-images (triple_bytes a.kind) (λ other. bytes_eq (take 6 other) (take 6 row)) (λ t. same_entity t.entity e) of_number
          (λ k d l. same-key-of (slice_index_or of_number k d) (kinds k d l).entity)
          ∙ told (find (λ t. same_entity t.entity e) of_number) refl
          ∙ ap (λ (o : Option Triple). cond (null (value_in o)) None (Some (pair_bytes a.kind (value_in o) e))) (find-kept (λ t. t.attribute == number) (λ t. same_entity t.entity e) s.triples)
        where
          told : (o : Option Triple) → find (λ t. same_entity t.entity e) of_number ≡ o → option_map (triple_bytes a.kind) o ≡ cond (null (value_in o)) None (Some (pair_bytes a.kind (value_in o) e))
          told None h = refl
          told (Some t) h =
              let has = found-has (IsOfKind number a.kind) (λ t. same_entity t.entity e) of_number kinds t h in
              ap (λ z. Some (pair_bytes a.kind t.value z)) (same_entity-is t.entity e has.1) ∙ ap (λ b. cond b None (Some (pair_bytes a.kind t.value e))) (sym (fits-value a.kind t.value has.0.fits))

      module _ (single : a.many ≡ false) where
        rows-in-order : ascends (row_before 6) (value_rows a.kind of_number) ≡ true
        rows-in-order =
            column-ascends laws number a.kind of_number kinds
            (entities-ascend s number a f single of_number kinds (in-order laws s number a f n p) (ascends-filter (apart_at_entity s.schema) (λ t. t.attribute == number) s.triples n.single))

        -- an entity without its value
        value_rows-elsewhere : value_rows a.kind (triples_of number (filter (elsewhere e) s.triples)) ≡ without_row 6 row (value_rows a.kind (triples_of number s.triples))
        value_rows-elsewhere =
            ap (value_rows a.kind) (filter-swap (elsewhere e) (λ t. t.attribute == number) s.triples)
            ∙ sym (filter-images (triple_bytes a.kind) (λ other. not (bytes_eq (take 6 other) (take 6 row))) (elsewhere e) of_number
            (λ k d l. let t = slice_index_or of_number k d in
            ap not (same-key-of t (kinds k d l).entity ∙ ap (λ b. b && same_entity t.entity e) (sym (ap (λ z. z == number) (kinds k d l).number_is ∙ number-itself number)))))
            ∙ sym (without-others 6 row (value_rows a.kind of_number) rows-in-order)

        -- an entity set to null
        pub value_rows-null : value_rows a.kind (triples_of number (attribute_set s number e Null).triples) ≡ without_row 6 row (value_rows a.kind (triples_of number s.triples))
        value_rows-null = value_rows-elsewhere

    -- an entity with another value, or its first one
    module _ (single : a.many ≡ false) (v : Value) (fits : Fits a.kind v) where
      abbrev new : Triple
      new = triple number e v

      abbrev rest : List Triple
      rest = triples_of number (filter (elsewhere e) s.triples)

      rest-kinds : All (IsOfKind number a.kind) rest
      rest-kinds = subst (All (IsOfKind number a.kind)) (filter-swap (λ t. t.attribute == number) (elsewhere e) s.triples) (All-filter (elsewhere e) (IsOfKind number a.kind) of_number kinds)

      -- all others are of other entities
      rest-elsewhere : All (λ t. same_entity t.entity e ≡ false) rest
      rest-elsewhere k d l =
          let t = slice_index_or rest k d in
          let away : elsewhere e t ≡ true = All-filter (λ u. u.attribute == number) (λ u. elsewhere e u ≡ true) (filter (elsewhere e) s.triples) (filter_passes (elsewhere e) s.triples) k d l in
          never (same_entity t.entity e) (λ m.
          true≢false (sym (both (t.attribute == number) (same_entity t.entity e) (filter_passes (λ u. u.attribute == number) (filter (elsewhere e) s.triples) k d l) m) ∙ not-true (is_at number e t) away))

      -- among them the new one has the place of its entity
      new-place : (t : Triple) → IsOfKind number a.kind t → same_entity t.entity e ≡ false → triple_before t new ≡ entity_before t.entity e
      new-place t h other = of-one t new h.number_is ∙ first (entity_order t.entity e) (value_order t.value v) other
        where
          first : (o r : Ordering) → is_eq o ≡ false → is_lt (ordering_then o r) ≡ is_lt o
          first Less r k = refl
          first Equal r k = absurd (true≢false k)
          first Greater r k = refl

      pub value_rows-set : value_rows a.kind (triples_of number (attribute_set s number e v).triples) ≡ with_row 6 (pair_bytes a.kind v e) (value_rows a.kind (triples_of number s.triples))
      value_rows-set =
          ap (λ (ts : List Triple). value_rows a.kind (triples_of number ts)) (with-new number e v (filter (elsewhere e) s.triples) (fits-value a.kind v fits))
          ∙ ap (value_rows a.kind) (filter-placed triple_before triple_before-strict (λ t. t.attribute == number) new (filter (elsewhere e) s.triples) (number-itself number) (ascends-filter triple_before (elsewhere e) s.triples n.triples_ascend))
          ∙ placed-images 6 triple_before (triple_bytes a.kind) new rest
          (column-ascends laws number a.kind rest rest-kinds
          (entities-ascend s number a f single rest rest-kinds (ascends-filter triple_before (λ t. t.attribute == number) (filter (elsewhere e) s.triples) (ascends-filter triple_before (elsewhere e) s.triples n.triples_ascend))
          (ascends-filter (apart_at_entity s.schema) (λ t. t.attribute == number) (filter (elsewhere e) s.triples) (ascends-filter (apart_at_entity s.schema) (elsewhere e) s.triples n.single))))
          (λ k d l. let t = slice_index_or rest k d in entity-key-before laws a.kind a.kind t.value v t.entity e (rest-kinds k d l).entity entity ∙ sym (new-place t (rest-kinds k d l) (rest-elsewhere k d l)))
          (λ k d l. let t = slice_index_or rest k d in
          entity-key-before laws a.kind a.kind v t.value e t.entity entity (rest-kinds k d l).entity
          ∙ one-way entity_before entity_before-strict e t.entity (entities-differ e t.entity ∙ ap not (same_entity-turned e t.entity ∙ rest-elsewhere k d l))
          ∙ ap not (sym (new-place t (rest-kinds k d l) (rest-elsewhere k d l))))
          ∙ ap (with_row 6 (pair_bytes a.kind v e)) (value_rows-elsewhere (pair_bytes a.kind v e) refl single)
          ∙ with-without 6 (pair_bytes a.kind v e) (value_rows a.kind of_number)
