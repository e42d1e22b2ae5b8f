-- What changes of a state leave of the rows of its extents.
use Rattle.std.proofs.Common.{◌≡◌, ℕ, zero, suc, ◌<◌, ◌^◌, ◌/◌, ◌%◌, Bool, true, false, cond, List, [], ◌∷◌, length, Option, Some, None, pos, take, refl, sym, ap, subst, ◌∙◌, arith, slice_index_or, true≢false}
use Rattle.std.specs.Prelude.{◌==◌, ◌&&◌, ◌||◌, not, nat_lt, map, filter, slice_get, slice_set, if◌then◌else◌}
use Rattle.std.specs.List.{All, list_all}
use Rattle.std.specs.declared.cmp.Ordering.{Ordering}
use Rattle.std.specs.Int.{w32, to_be_bytes}
use Rattle.std.specs.Ordering.{is_lt, nat_cmp, ordering_then}
use Rattle.std.proofs.lemmas.Cmp.{nat_cmp_total, tied_itself}
use Rattle.std.proofs.lemmas.List.Elements.{All-filter, filter_passes}
use Rattle.st_values.specs.declared.value.EntityId.{EntityId}
use Rattle.st_values.specs.declared.value.Value.{Value}
use Rattle.st_values.specs.declared.value.Value.TheVariants.{Null, Int}
use Rattle.st_values.specs.Order.{entity_before, same_entity}
use Rattle.st_values.specs.Arranged.{ascends, each_pair}
use Rattle.st_values.proofs.Entities.{entity_before-strict, same_entity-is, same_entity-turned}
use Rattle.st_values.proofs.Placing.{differ}
use Rattle.st_values.proofs.Tests.{all-filter, all-kept, all-not, all-weaken, ascends-filter, either, left, never, not-true, right}
use Rattle.st_lattice.specs.declared.attribute.Attribute.{Attribute}
use Rattle.st_lattice.specs.Outline.{Outline, attribute}
use Rattle.st_lattice.specs.Lattice.{attributes_in, isa}
use Rattle.st_lattice.specs.Stores.{passes}
use Rattle.st_keys.specs.Keys.{IsEntity}
use Rattle.st_image.specs.Grammar.{row_before}
use Rattle.st_rows.specs.Rows.{row, row_fields}
use Rattle.st_pages.proofs.Searched.{find-none}
use Rattle.st_state.specs.declared.triple.Triple.{Triple}
use Rattle.st_state.specs.State.{State, attribute_set, entity_made, is_at, is_live, next_entity, value_at, value_in}
use Rattle.st_state.specs.Legal.{IsNearlyLegal, can_hold, is_counted, is_sound}
use Rattle.st_state.specs.Rows.{entity_row}
use Rattle.st_state.proofs.Changed.{found-only, number-is, number-itself, other_number}
use Rattle.st_state.proofs.Made.{unlike}
use Rattle.st_state.proofs.Members.{some-is}
use Rattle.st_store.specs.Rows.{row_with, with_row, without_row}
use Rattle.st_store.proofs.Embedded.{all-passed, map-agree, placed-rows, replaced-rows, row_with-is, taken-rows}
use Rattle.st_store.proofs.Ordering.{row_with-same-key}
use Rattle.st_standing.specs.Standing.{IsOfProgram, attribute_rows, entity_bytes, extent_rows, rows_at, triples_of}
use Rattle.st_standing.proofs.Filtered.{all-agree, all-of-kept, filter-first, filter-placed, filter-placed-other, filter-swap}
use Rattle.st_standing.proofs.OfKind.{entities-differ, live-entity}
use Rattle.st_standing.proofs.RowLaws.{RowLaws, serial-before}
use Rattle.st_standing.proofs.ValueAt.{value_at-other-entity, value_at-same, value_at-set}

-- ---- the entities of a type

abbrev pub of_type : ℕ → List EntityId → List EntityId
of_type ty entities = filter (λ e. e.ty == ty) entities

-- an entity of exactly a type
pub record IsOfType (ty : ℕ) (e : EntityId) : Type 0 where
  pub entity : IsEntity e
  pub type_is : e.ty ≡ ty

-- all that are kept are of the type
pub entities-of-type : (ty : ℕ) (entities : List EntityId) → All IsEntity entities → All (IsOfType ty) (of_type ty entities)
entities-of-type ty entities all k d l =
    record {
      entity = All-filter (λ e. e.ty == ty) IsEntity entities all k d l;
      type_is = number-is (slice_index_or (of_type ty entities) k d).ty ty (filter_passes (λ e. e.ty == ty) entities k d l);
    }

-- the rows of a type's entities stand in the order of the entities
pub extent-keeps : RowLaws → (s : State) (ty : ℕ) (x y : EntityId) → IsOfType ty x → IsOfType ty y → row_before 4 (entity_bytes s x) (entity_bytes s y) ≡ entity_before x y
extent-keeps laws s ty x y h k =
    serial-before laws s x y h.entity k.entity
    ∙ ap (λ (o : Ordering). is_lt (ordering_then o (nat_cmp x.serial y.serial))) (sym (ap (nat_cmp x.ty) (k.type_is ∙ sym h.type_is) ∙ tied_itself nat_cmp_total x.ty))

-- entities of two types aren't the same
pub types-apart : (x y : EntityId) (ty : ℕ) → x.ty ≡ ty → (ty == y.ty) ≡ false → same_entity y x ≡ false
types-apart x y ty h apart =
    never (same_entity y x) (λ k. true≢false (sym (number-itself ty) ∙ ap (λ z. ty == z) (sym h ∙ sym (ap (λ (z : EntityId). z.ty) (same_entity-is y x k))) ∙ apart))

-- an entity is live where not all of its type differ from it
pub differ-live : (s : State) (e : EntityId) → list_all (differ entity_before e) (of_type e.ty s.live) ≡ not (is_live s e)
differ-live s e =
    all-of-kept (differ entity_before e) (λ x. x.ty == e.ty) s.live (λ x h. entities-differ e x ∙ ap not (types-apart x e x.ty refl h))
    ∙ all-agree (differ entity_before e) (λ x. not (same_entity e x)) s.live (entities-differ e) ∙ all-not (same_entity e) s.live

-- the rows of attributes depend on a state's triples alone
pub attribute_rows-same : (s t : State) → t.triples ≡ s.triples → (k : ℕ) (o : Option Attribute) → attribute_rows t k o ≡ attribute_rows s k o
attribute_rows-same s t h k None = refl
attribute_rows-same s t h k (Some a) = ap (λ (ts : List Triple). attribute_rows (record s { triples = ts }) k (Some a)) h

module _ (laws : RowLaws) (s : State) (n : IsNearlyLegal s) (p : IsOfProgram s) where
  kinds : (ty : ℕ) → All (IsOfType ty) (of_type ty s.live)
  kinds ty = entities-of-type ty s.live p.entities

  in-order : (ty : ℕ) → ascends entity_before (of_type ty s.live) ≡ true
  in-order ty = ascends-filter entity_before (λ e. e.ty == ty) s.live n.live_ascends

  -- ---- one entity

  -- which row has an entity's serial: its own, where it is live
  pub live-row : (e : EntityId) → IsEntity e → (row : List ℕ) → take 4 row ≡ to_be_bytes w32 e.serial → row_with 4 row (extent_rows s e.ty) ≡ (if is_live s e then Some (entity_bytes s e) else None)
  live-row e entity row its =
      row_with-same-key 4 row (entity_bytes s e) its (extent_rows s e.ty)
      ∙ row_with-is 4 entity_before entity_before-strict (entity_bytes s) (IsOfType e.ty) (extent-keeps laws s e.ty) e (record { entity = entity; type_is = refl }) (of_type e.ty s.live) (kinds e.ty)
      ∙ ap (λ b. cond b None (Some (entity_bytes s e))) (differ-live s e)
      ∙ either (is_live s e) (λ b. cond (not b) None (Some (entity_bytes s e)) ≡ (if b then Some (entity_bytes s e) else None)) (λ _. refl) (λ _. refl)

  -- ---- a new entity

  module _ (ty : ℕ) (there : ty < length s.schema.names) where
    abbrev new : EntityId
    new = next_entity s ty

    all-differ : list_all (differ entity_before new) s.live ≡ true
    all-differ = all-weaken (is_counted s) (differ entity_before new) (unlike s ty n there) s.live n.counted

    not-live : is_live s new ≡ false
    not-live =
        not-true (is_live s new) (sym (all-not (same_entity new) s.live) ∙ sym (all-agree (differ entity_before new) (λ x. not (same_entity new x)) s.live (entities-differ new)) ∙ all-differ)

    -- it has no values
    pub no-values : (number : ℕ) → value_at number new s.triples ≡ Null
    no-values number =
        ap value_in (find-none (is_at number new) s.triples
        (all-weaken (is_sound s) (λ t. not (is_at number new t))
        (λ t h. ap not (never (is_at number new t) (λ k.
        let is : t.entity ≡ new = same_entity-is t.entity new (right (t.attribute == number) (same_entity t.entity new) k) in
        true≢false (sym (left (is_live s t.entity) (passes (λ a. isa s.schema t.entity.ty a.owner && can_hold s a.kind t.value) (attribute s.schema t.attribute)) h) ∙ ap (is_live s) is ∙ not-live))))
        s.triples n.sound))

    -- all cells of its row are null
    pub made-cells : (entity_row (entity_made s ty) (next_entity s ty)).cells ≡ map (λ _. Null) (filter (λ a. not a.many && not a.column) (attributes_in s.schema ty))
    made-cells = map-agree (λ _. Null) (λ (a : Attribute). value_at a.number new s.triples) (filter (λ a. not a.many && not a.column) (attributes_in s.schema ty)) (λ k d l. no-values _)

    -- it has the row of its serial
    pub made-rows : (next_entity s ty).serial < 2 ^ 32 → extent_rows (entity_made s ty) ty ≡ with_row 4 (entity_bytes (entity_made s ty) (next_entity s ty)) (extent_rows s ty)
    made-rows small =
        let entity : IsEntity new = (omega arith, small, omega (arith, there, n.orderly.few_types)) in
        ap (map (entity_bytes s)) (filter-placed entity_before entity_before-strict (λ e. e.ty == ty) new s.live (number-itself ty) n.live_ascends)
        ∙ placed-rows 4 entity_before entity_before-strict (entity_bytes s) (IsOfType ty) (extent-keeps laws s ty) new (record { entity = entity; type_is = refl }) (of_type ty s.live) (kinds ty) (in-order ty)
        (all-filter (differ entity_before new) (λ e. e.ty == ty) s.live all-differ)

    -- the extents of other types stay
    pub made-extents : (other : ℕ) → (ty == other) ≡ false → extent_rows (entity_made s ty) other ≡ extent_rows s other
    made-extents other apart = ap (map (entity_bytes s)) (filter-placed-other entity_before (λ e. e.ty == other) new s.live apart)

    -- all other stores stay
    pub made-others : (at : ℕ) → (ty == at) ≡ false → rows_at (entity_made s ty) at ≡ rows_at s at
    made-others at apart =
        λ i. if nat_lt at 65536 then made-extents at apart i else attribute_rows-same s (entity_made s ty) refl (at / 65536) (attribute s.schema (at % 65536)) i

  -- ---- a live entity of which a value is set

  module _ (e : EntityId) (live : is_live s e ≡ true) where
    its-type : IsOfType e.ty e
    its-type = record { entity = live-entity s p.entities e live; type_is = refl }

    among : list_all (differ entity_before e) (of_type e.ty s.live) ≡ false
    among = differ-live s e ∙ ap not live

    module _ (number : ℕ) (v : Value) where
      -- the rows of all others stay
      pub bytes-elsewhere : (x : EntityId) → same_entity e x ≡ false → entity_bytes (attribute_set s number e v) x ≡ entity_bytes s x
      bytes-elsewhere x apart =
          ap (λ (cells : List Value). row (row_fields s.schema x.ty) (Int (pos x.serial) ∷ cells))
          (map-agree (λ (a : Attribute). value_at a.number x s.triples) (λ (a : Attribute). value_at a.number x (attribute_set s number e v).triples)
          (filter (λ a. not a.many && not a.column) (attributes_in s.schema x.ty)) (λ k d l. value_at-other-entity number e v s.triples _ x apart))

      -- its own row is another one
      pub set-rows : extent_rows (attribute_set s number e v) e.ty ≡ with_row 4 (entity_bytes (attribute_set s number e v) e) (extent_rows s e.ty)
      set-rows =
          replaced-rows 4 entity_before entity_before-strict (entity_bytes s) (IsOfType e.ty) (extent-keeps laws s e.ty) e its-type (of_type e.ty s.live) (kinds e.ty) (in-order e.ty)
          (entity_bytes (attribute_set s number e v)) (λ k d l differs. let x = slice_index_or (of_type e.ty s.live) k d in bytes-elsewhere x (not-true (same_entity e x) (sym (entities-differ e x) ∙ differs)))
          refl among

      -- the extents of other types stay
      pub set-extents : (other : ℕ) → (other == e.ty) ≡ false → extent_rows (attribute_set s number e v) other ≡ extent_rows s other
      set-extents other apart =
          map-agree (entity_bytes s) (entity_bytes (attribute_set s number e v)) (of_type other s.live)
          (λ k d l. let x = slice_index_or (of_type other s.live) k d in bytes-elsewhere x (types-apart x e other (kinds other k d l).type_is apart))

    -- ---- a live entity that goes

    abbrev gone : State
    gone = record s { live = filter (λ other. not (same_entity other e)) s.live }

    -- its row goes
    pub gone-rows : extent_rows (record s { live = filter (λ other. not (same_entity other e)) s.live }) e.ty ≡ without_row 4 (entity_bytes s e) (extent_rows s e.ty)
    gone-rows =
        ap (map (entity_bytes s)) (filter-swap (λ other. not (same_entity other e)) (λ x. x.ty == e.ty) s.live)
        ∙ taken-rows 4 entity_before entity_before-strict (entity_bytes s) (IsOfType e.ty) (extent-keeps laws s e.ty) e its-type (of_type e.ty s.live) (kinds e.ty) (in-order e.ty)
        (λ other. not (same_entity other e)) (λ k d l. let x = slice_index_or (of_type e.ty s.live) k d in ap not (same_entity-turned x e) ∙ sym (entities-differ e x))

    -- the extents of other types stay
    pub gone-extents : (other : ℕ) → (other == e.ty) ≡ false → extent_rows gone other ≡ extent_rows s other
    gone-extents other apart =
        ap (map (entity_bytes s)) (filter-first (λ x. x.ty == other) (λ x. not (same_entity x e)) s.live
        (λ x h. ap not (same_entity-turned x e ∙ types-apart x e other (number-is x.ty other h) apart)))

    -- all other stores stay
    pub gone-others : (at : ℕ) → (at == e.ty) ≡ false → rows_at (record s { live = filter (λ other. not (same_entity other e)) s.live }) at ≡ rows_at s at
    gone-others at apart =
        λ i. if nat_lt at 65536 then gone-extents at apart i else attribute_rows-same s gone refl (at / 65536) (attribute s.schema (at % 65536)) i

-- ---- the cells of an entity

module _ (s : State) (number : ℕ) (e : EntityId) (v : Value) where
  abbrev pub in_row : List Attribute
  in_row = filter (λ a. not a.many && not a.column) (attributes_in s.schema e.ty)

  -- a value that was set stands at the place of its attribute
  pub set-cells : (entity_row (attribute_set s number e v) e).cells
      ≡ map (λ a. if a.number == number then v else value_at a.number e s.triples) (filter (λ a. not a.many && not a.column) (attributes_in s.schema e.ty))
  set-cells =
      map-agree (λ (a : Attribute). if a.number == number then v else value_at a.number e s.triples) (λ (a : Attribute). value_at a.number e (attribute_set s number e v).triples) in_row
      (λ k d l. value_at-set number e v s.triples _)

  -- the same by the place
  pub set-cells-at : each_pair other_number s.schema.attributes ≡ true → (place : ℕ) (a : Attribute)
      → slice_get (filter (λ a. not a.many && not a.column) (attributes_in s.schema e.ty)) place ≡ Some a → a.number ≡ number
      → (entity_row (attribute_set s number e v) e).cells ≡ slice_set (entity_row s e).cells place v
  set-cells-at apart place a there its =
      set-cells ∙ by in_row place (ascends-filter other_number (λ b. not b.many && not b.column) (attributes_in s.schema e.ty) (ascends-filter other_number (λ b. isa s.schema e.ty b.owner) s.schema.attributes apart)) there
    where
      old : Attribute → Value
      old b = value_at b.number e s.triples

      now : Attribute → Value
      now b = if b.number == number then v else old b

      stays : (b : Attribute) → (b.number == number) ≡ false → now b ≡ old b
      stays b h = ap (λ c. if c then v else old b) h

      all-stay : (bs : List Attribute) → list_all (λ b. not (b.number == number)) bs ≡ true → map now bs ≡ map old bs
      all-stay [] h = refl
      all-stay (b ∷ bs) h =
          λ i. stays b (not-true (b.number == number) (left (not (b.number == number)) (list_all (λ c. not (c.number == number)) bs) h)) i
          ∷ all-stay bs (right (not (b.number == number)) (list_all (λ c. not (c.number == number)) bs) h) i

      -- what all have that follow has the one at a place
      at-place : (q : Attribute → Bool) (bs : List Attribute) (k : ℕ) → list_all q bs ≡ true → slice_get bs k ≡ Some a → q a ≡ true
      at-place q [] k h g = cc
      at-place q (b ∷ bs) zero h g = subst (λ z. q z ≡ true) (some-is b a g) (left (q b) (list_all q bs) h)
      at-place q (b ∷ bs) (suc k) h g = at-place q bs k (right (q b) (list_all q bs) h) g

      by : (bs : List Attribute) (k : ℕ) → each_pair other_number bs ≡ true → slice_get bs k ≡ Some a → map now bs ≡ slice_set (map old bs) k v
      by [] k h g = refl
      by (b ∷ bs) zero h g =
          let is : b.number ≡ number = ap (λ (z : Attribute). z.number) (some-is b a g) ∙ its in
          λ i. ap (λ c. if c then v else old b) (ap (λ z. z == number) is ∙ number-itself number) i
          ∷ all-stay bs (subst (λ z. list_all (λ c. not (c.number == z)) bs ≡ true) is (left (list_all (other_number b) bs) (each_pair other_number bs) h)) i
      by (b ∷ bs) (suc k) h g =
          let apart_a : not (a.number == b.number) ≡ true = at-place (other_number b) bs k (left (list_all (other_number b) bs) (each_pair other_number bs) h) g in
          let not_here : (b.number == number) ≡ false =
          never (b.number == number) (λ m. true≢false (sym (number-itself b.number) ∙ ap (λ z. z == b.number) (number-is b.number number m ∙ sym its) ∙ not-true (a.number == b.number) apart_a)) in
          λ i. stays b not_here i ∷ by bs k (right (list_all (other_number b) bs) (each_pair other_number bs) h) g i

-- ---- changes apart from the rows

-- the row of an entity, by a schema and triples
abbrev bytes_by : Outline → List Triple → EntityId → List ℕ
bytes_by schema triples e =
    row (row_fields schema e.ty) (Int (pos e.serial) ∷ map (λ a. value_at a.number e triples) (filter (λ a. not a.many && not a.column) (attributes_in schema e.ty)))

-- extents stay where only triples of an attribute with sets or a column differ
module _ (s t : State) (number : ℕ) (a : Attribute) (f : attribute s.schema number ≡ Some a) (aside : (a.many || a.column) ≡ true) (numbers : each_pair other_number s.schema.attributes ≡ true)
    (schema : t.schema ≡ s.schema) (live : t.live ≡ s.live) (others : (other : ℕ) → (other == number) ≡ false → triples_of other t.triples ≡ triples_of other s.triples) where
  -- no attribute that is in a row has the number
  none-in-row : (ty : ℕ) → list_all (λ b. not (b.number == number)) (filter (λ b. not b.many && not b.column) (attributes_in s.schema ty)) ≡ true
  none-in-row ty =
      all-kept (λ b. not (b.number == number) || (b.many || b.column)) (λ b. not b.many && not b.column) (λ b. not (b.number == number)) (attributes_in s.schema ty)
      (λ b h k. by (b.number == number) b.many b.column h k)
      (all-filter (λ b. not (b.number == number) || (b.many || b.column)) (λ b. isa s.schema ty b.owner) s.schema.attributes
      (found-only (λ b. b.many || b.column) number a s.schema.attributes numbers f aside))
    where
      by : (same many column : Bool) → (not same || (many || column)) ≡ true → (not many && not column) ≡ true → not same ≡ true
      by false many column h k = refl
      by true true column h k = k
      by true false true h k = k
      by true false false h k = h

  -- each entity has the row that it had
  pub apart-bytes : (x : EntityId) → entity_bytes t x ≡ entity_bytes s x
  apart-bytes x =
      ap (λ (o : Outline). bytes_by o t.triples x) schema
      ∙ ap (λ (cells : List Value). row (row_fields s.schema x.ty) (Int (pos x.serial) ∷ cells))
      (map-agree (λ (b : Attribute). value_at b.number x s.triples) (λ (b : Attribute). value_at b.number x t.triples) (filter (λ b. not b.many && not b.column) (attributes_in s.schema x.ty))
      (λ k d l.
      let b = slice_index_or (filter (λ b. not b.many && not b.column) (attributes_in s.schema x.ty)) k d in
      value_at-same b.number x s.triples t.triples
      (others b.number (not-true (b.number == number) (all-passed (λ c. not (c.number == number)) (filter (λ b. not b.many && not b.column) (attributes_in s.schema x.ty)) (none-in-row x.ty) k d l)))))

  -- so has each type's extent
  pub apart-rows : (ty : ℕ) → extent_rows t ty ≡ extent_rows s ty
  apart-rows ty =
      ap (λ (xs : List EntityId). map (entity_bytes t) (of_type ty xs)) live ∙ map-agree (entity_bytes s) (entity_bytes t) (of_type ty s.live) (λ k d l. apart-bytes (slice_index_or (of_type ty s.live) k d))
