-- The rows of a state where the single values of one entity that are another one are gone: of its own row alone others are left.
use Rattle.std.proofs.Common.{◌≡◌, ℕ, ◌≤◌, Bool, true, false, List, ◌∷◌, Option, Some, None, pos, take, refl, sym, ap, ◌∙◌, arith, if◌then◌else◌}
use Rattle.std.specs.Prelude.{◌==◌, ◌&&◌, not, filter, map, is_some, slice_index_or}
use Rattle.std.specs.List.{All, list_all}
use Rattle.std.proofs.lemmas.List.Elements.{All-filter}
use Rattle.st_values.specs.declared.value.EntityId.{EntityId}
use Rattle.st_values.specs.declared.value.Value.{Value}
use Rattle.st_values.specs.declared.value.Value.TheVariants.{Entity, Int}
use Rattle.st_values.specs.Order.{entity_before, same_entity, same_value}
use Rattle.st_values.proofs.Entities.{entity_before-strict, same_entity-turned}
use Rattle.st_values.proofs.Tests.{all-filtered, all-filter, ascends-filter, either, not-true, or-right}
use Rattle.st_lattice.specs.declared.attribute.Attribute.{Attribute}
use Rattle.st_lattice.specs.declared.stores.StoreKind.TheVariants.{Extent}
use Rattle.st_lattice.specs.Lattice.{attributes_in}
use Rattle.st_lattice.specs.Stores.{store}
use Rattle.st_keys.specs.Keys.{IsEntity}
use Rattle.st_rows.specs.Rows.{row, row_fields}
use Rattle.st_state.specs.State.{State, is_live, speaks_of, value_at}
use Rattle.st_state.specs.Legal.{IsNearlyLegal}
use Rattle.st_state.specs.Rows.{entity_row}
use Rattle.st_state.proofs.Changed.{number-is}
use Rattle.st_state.proofs.Kept.{filter-nearly}
use Rattle.st_store.specs.Rows.{row_with, with_row}
use Rattle.st_store.proofs.Embedded.{map-agree, replaced-rows}
use Rattle.st_database.specs.Database.{with_rows}
use Rattle.st_database.specs.Touches.{added_by, changed_by, is_row}
use Rattle.st_standing.specs.Standing.{FitsOne, IsOfProgram, entity_bytes, extent_rows, rows_at, view_of}
use Rattle.st_standing.proofs.Extents.{IsOfType, differ-live, entities-of-type, extent-keeps, live-row, of_type}
use Rattle.st_standing.proofs.Filtered.{filter-first}
use Rattle.st_standing.proofs.OfKind.{entities-differ, live-entity}
use Rattle.st_standing.proofs.RowLaws.{RowLaws, take-serial}
use Rattle.st_lookups.specs.Looks.{is_cell}
use Rattle.st_lookups.proofs.Lived.{rows-extent}
use Rattle.st_edits.specs.Values.{its_row, put_view}
use Rattle.st_removals.specs.Clears.{IsLess}
use Rattle.st_removals.specs.Taken.{is_single, is_unreferring, left_of}
use Rattle.st_removals.proofs.Gone.{map-twice}
use Rattle.st_removals.proofs.Cleared.{all-columns, value-elsewhere, value-left}

added-none : (key : ℕ) (row other : List ℕ) (rows : List (List ℕ)) → row_with key row rows ≡ Some other → added_by key row rows ≡ 0
added-none key row other rows h = ap (λ (o : Option (List ℕ)). if is_some o then 0 else 1) h

pub changed-one : (key : ℕ) (row : List ℕ) (rows : List (List ℕ)) → changed_by key row rows ≤ 1
changed-one key row rows = by (is_row row (row_with key row rows))
  where
    by : (b : Bool) → (if b then 0 else 1) ≤ 1
    by true = omega arith
    by false = omega arith

module _ (s : State) (other entity : EntityId) where
  -- the state without them
  abbrev pub cleared : State
  cleared = record s { triples = filter (is_unreferring s.schema other entity) s.triples }

  -- some triples that speak of the other one may be gone
  pub less-cleared : IsLess entity s cleared
  less-cleared = record {
    schema = refl;
    live = refl;
    last = refl;
    deleted = λ i. record s {
      live = filter (λ x. not (same_entity x entity)) s.live;
      triples = filter-first (λ t. not (speaks_of entity t)) (is_unreferring s.schema other entity) s.triples
          (λ t h. kept (same_entity t.entity other) (is_single s.schema t) (same_value t.value (Entity entity)) (or-right (same_entity t.entity entity) (same_value t.value (Entity entity)) (not-true (speaks_of entity t) h))) i;
    };
    fewer = λ test a. all-filter test (is_unreferring s.schema other entity) s.triples a;
  }
    where
      kept : (x y z : Bool) → z ≡ false → not (x && (z && y)) ≡ true
      kept true y z k = ap (λ b. not (b && y)) k
      kept false y z k = refl

  -- the one doesn't refer to the other one
  pub none-refers : list_all (is_unreferring s.schema other entity) (cleared).triples ≡ true
  none-refers = all-filtered (is_unreferring s.schema other entity) (is_unreferring s.schema other entity) s.triples (λ t h. h)

  pub cleared-nearly : IsNearlyLegal s → IsNearlyLegal cleared
  cleared-nearly legal = filter-nearly s (is_unreferring s.schema other entity) legal

  pub cleared-program : IsOfProgram s → IsOfProgram cleared
  cleared-program program = record {
    entities = program.entities;
    values = All-filter (is_unreferring s.schema other entity) (FitsOne s.schema) s.triples program.values;
    serials = program.serials;
  }

module _ (laws : RowLaws) (s : State) (legal : IsNearlyLegal s) (program : IsOfProgram s) (in_rows : All (λ b. b.column ≡ false) s.schema.attributes) (other entity : EntityId) (live : is_live s other ≡ true) where
  abbrev T : State
  T = record s { triples = filter (is_unreferring s.schema other entity) s.triples }

  -- ---- the row of the one

  pub left-cells : map (left_of (Some entity)) (entity_row s other).cells ≡ (entity_row (record s { triples = filter (is_unreferring s.schema other entity) s.triples }) other).cells
  left-cells =
      let columns = filter is_cell (attributes_in s.schema other.ty) in
      map-twice (left_of (Some entity)) (λ (a : Attribute). value_at a.number other s.triples) columns
      ∙ map-agree (λ (a : Attribute). value_at a.number other T.triples) (λ (a : Attribute). left_of (Some entity) (value_at a.number other s.triples)) columns
      (λ k d l.
      let column = all-columns s legal in_rows other entity k d l in
      let a = slice_index_or columns k d in
      sym (value-left s legal in_rows other entity a.number a column.found column.single))

  module _ (left : List Value) (is_left : left ≡ map (left_of (Some entity)) (entity_row s other).cells) where
    row-left : its_row s.schema other left ≡ entity_bytes T other
    row-left = ap (its_row s.schema other) (is_left ∙ left-cells)

  -- ---- the rows of all entities

  bytes-elsewhere : (x : EntityId) → same_entity other x ≡ false → entity_bytes T x ≡ entity_bytes s x
  bytes-elsewhere x apart =
      ap (λ (f : ℕ → Value). row (row_fields s.schema x.ty) (Int (pos x.serial) ∷ map (λ a. f a.number) (filter (λ a. not a.many && not a.column) (attributes_in s.schema x.ty))))
      (λ i number. value-elsewhere s legal in_rows other entity x (same_entity-turned x other ∙ apart) number i)

  is_entity : IsEntity other
  is_entity = live-entity s program.entities other live

  its-type : IsOfType other.ty other
  its-type = record { entity = is_entity; type_is = refl }

  pub rows-left : extent_rows (record s { triples = filter (is_unreferring s.schema other entity) s.triples }) other.ty
      ≡ with_row 4 (entity_bytes (record s { triples = filter (is_unreferring s.schema other entity) s.triples }) other) (extent_rows s other.ty)
  rows-left =
      replaced-rows 4 entity_before entity_before-strict (entity_bytes s) (IsOfType other.ty) (extent-keeps laws s other.ty) other its-type (of_type other.ty s.live) (entities-of-type other.ty s.live program.entities)
      (ascends-filter entity_before (λ x. x.ty == other.ty) s.live legal.live_ascends) (entity_bytes T)
      (λ k d l differs. let x = slice_index_or (of_type other.ty s.live) k d in bytes-elsewhere x (not-true (same_entity other x) (sym (entities-differ other x) ∙ differs))) refl
      (differ-live s other ∙ ap not live)

  -- ---- the view

  module _ (at : ℕ) (is : at ≡ store Extent other.ty) (left : List Value) (is_left : left ≡ map (left_of (Some entity)) (entity_row s other).cells) where
    rows-are : rows_at s at ≡ extent_rows s other.ty
    rows-are = rows-extent s other.ty at is_entity.2 is

    -- what is put
    pub put-left : put_view s.schema at other left (view_of s) ≡ with_rows at (extent_rows (record s { triples = filter (is_unreferring s.schema other entity) s.triples }) other.ty) (view_of s)
    put-left = ap (λ (rows : List (List ℕ)). with_rows at rows (view_of s)) ((λ i. with_row 4 (row-left left is_left i) (rows-are i)) ∙ sym rows-left)

    -- no row is added by it
    pub put-adds : added_by 4 (its_row s.schema other left) (rows_at s at) ≡ 0
    put-adds =
        added-none 4 (its_row s.schema other left) (entity_bytes s other) (rows_at s at)
        (ap (row_with 4 (its_row s.schema other left)) rows-are
        ∙ live-row laws s legal program other is_entity (its_row s.schema other left) (ap (take 4) (row-left left is_left) ∙ take-serial T other)
        ∙ ap (λ (b : Bool). if b then Some (entity_bytes s other) else None) live)

    -- with the rows of the extent it is the state's
    pub view-left : with_rows at (extent_rows (record s { triples = filter (is_unreferring s.schema other entity) s.triples }) other.ty) (view_of (record s { triples = filter (is_unreferring s.schema other entity) s.triples }))
        ≡ view_of (record s { triples = filter (is_unreferring s.schema other entity) s.triples })
    view-left = λ i. record { rows = λ q. same q i; last = (view_of T).last }
      where
        same : (q : ℕ) → (if q == at then extent_rows T other.ty else rows_at T q) ≡ rows_at T q
        same q =
            either (q == at) (λ b. (if b then extent_rows T other.ty else rows_at T q) ≡ rows_at T q)
            (λ k. sym (rows-extent T other.ty q is_entity.2 (number-is q at k ∙ is))) (λ _. refl)
