-- A state without an entity of which only the cells of its own row speak: the triples of the cells are gone, and its row is.
use Rattle.std.proofs.Common.{◌≡◌, ℕ, true, false, List, [], ◌∷◌, ◌++◌, Option, Some, None, take, refl, sym, ap, ◌∙◌, subst, arith, true≢false, if◌then◌else◌}
use Rattle.std.specs.Prelude.{◌==◌, ◌&&◌, ◌||◌, not, filter, map, slice_index_or}
use Rattle.std.specs.Int.{w32, to_be_bytes}
use Rattle.std.specs.List.{All, list_all}
use Rattle.std.specs.Ordering.{is_lt, nat_cmp}
use Rattle.std.specs.Cmp.Lexicographic.{slice_cmp}
use Rattle.std.proofs.lemmas.List.Elements.{All-filter, filter_passes}
use Rattle.st_values.specs.declared.value.EntityId.{EntityId}
use Rattle.st_values.specs.declared.value.Value.{Value}
use Rattle.st_values.specs.declared.value.Value.TheVariants.{Entity, Null}
use Rattle.st_values.specs.Order.{same_entity, same_value}
use Rattle.st_values.proofs.Entities.{same_entity-is, same_entity-itself, same_entity-turned, same_value-is}
use Rattle.st_values.proofs.Tests.{both, either, first-of, left, never, not-true, other-of, right}
use Rattle.st_lattice.specs.declared.attribute.Attribute.{Attribute}
use Rattle.st_lattice.specs.declared.stores.StoreKind.TheVariants.{Extent}
use Rattle.st_lattice.specs.Lattice.{attributes_in, isa}
use Rattle.st_lattice.specs.Outline.{attribute}
use Rattle.st_lattice.specs.Stores.{passes, store}
use Rattle.st_keys.specs.Keys.{IsEntity}
use Rattle.st_rows.specs.Rows.{row}
use Rattle.st_state.specs.declared.triple.Triple.{Triple}
use Rattle.st_state.specs.State.{State, entity_deleted, is_at, is_live, member_taken, same_triple, speaks_of, value_at}
use Rattle.st_state.specs.Legal.{IsNearlyLegal, can_hold, is_sound}
use Rattle.st_state.specs.Rows.{entity_row}
use Rattle.st_state.proofs.Changed.{number-is, number-itself}
use Rattle.st_state.proofs.Kept.{filter-nearly}
use Rattle.st_state.proofs.Members.{Member, filter-member, find-member, find-passes}
use Rattle.st_state.proofs.Set.{null}
use Rattle.st_counts.proofs.Tallies.{any-member}
use Rattle.st_store.specs.Rows.{without_row}
use Rattle.st_store.proofs.Embedded.{map-agree}
use Rattle.st_database.specs.Database.{with_rows}
use Rattle.st_standing.specs.Standing.{FitsOne, IsOfProgram, entity_bytes, extent_rows, rows_at, view_of}
use Rattle.st_standing.proofs.Extents.{gone-others, gone-rows, of_type}
use Rattle.st_standing.proofs.Fitting.{found-holds, no-null}
use Rattle.st_standing.proofs.OfKind.{live-entity, same_triple-is, same_triple-itself}
use Rattle.st_standing.proofs.RowLaws.{RowLaws}
use Rattle.st_lookups.specs.Looks.{is_cell}
use Rattle.st_lookups.proofs.Lived.{rows-extent}
use Rattle.st_removals.specs.Taken.{goes, gone_among, gone_cells, is_own_or_strange, is_single, taken_all}
use Rattle.st_removals.proofs.Gone.{any-images, cell_triple, filter-members, gone-is, is_one, same-truth, taken_all-is}
use Rattle.st_removals.proofs.Cleared.{value-is}
use Rattle.st_removals.proofs.Noted.{bytes-stay}

-- ---- triples of one entity

-- cells that go are the entity's
all-its : (e : EntityId) (which : Option EntityId) (xs : List Attribute) (vs : List Value) → list_all (λ t. same_entity t.entity e) (gone_among e which xs vs) ≡ true
all-its e which [] vs = refl
all-its e which (x ∷ xs) [] = refl
all-its e which (x ∷ xs) (v ∷ vs) =
    let t : Triple = record { attribute = x.number; entity = e; value = v } in
    let rest = all-its e which xs vs in
    either (goes which v) (λ b. list_all (λ u. same_entity u.entity e) (if b then t ∷ gone_among e which xs vs else gone_among e which xs vs) ≡ true)
    (λ _. both (same_entity e e) (list_all (λ u. same_entity u.entity e) (gone_among e which xs vs)) (same_entity-itself e) rest) (λ _. rest)

one-its : (e : EntityId) (gone : List Triple) (t : Triple) → list_all (λ u. same_entity u.entity e) gone ≡ true → is_one gone t ≡ true → same_entity t.entity e ≡ true
one-its e [] t h k = absurd (true≢false (sym k))
one-its e (g ∷ gs) t h k =
    either (same_triple g t) (λ b. same_triple g t ≡ b → (b || is_one gs t) ≡ true → same_entity t.entity e ≡ true)
    (λ _ m _. subst (λ (u : Triple). same_entity u.entity e ≡ true) (same_triple-is g t m) (left (same_entity g.entity e) (list_all (λ u. same_entity u.entity e) gs) h))
    (λ _ _ m. one-its e gs t (right (same_entity g.entity e) (list_all (λ u. same_entity u.entity e) gs) h) m) refl k

-- without them the rows of others stay
rows-stay : (e : EntityId) (gone : List Triple) (s : State) (x : EntityId) → list_all (λ u. same_entity u.entity e) gone ≡ true → same_entity e x ≡ false → entity_bytes (taken_all gone s) x ≡ entity_bytes s x
rows-stay e [] s x h apart = refl
rows-stay e (g ∷ gs) s x h apart =
    let its : g.entity ≡ e = same_entity-is g.entity e (left (same_entity g.entity e) (list_all (λ u. same_entity u.entity e) gs) h) in
    rows-stay e gs (member_taken s g.attribute g.entity g.value) x (right (same_entity g.entity e) (list_all (λ u. same_entity u.entity e) gs) h) apart
    ∙ bytes-stay s g.attribute g.entity g.value x (ap (λ (y : EntityId). same_entity y x) its ∙ apart)

-- ---- keys

-- rows without one, by the first bytes of a row
without-by-key : (row other : List ℕ) (rows : List (List ℕ)) → take 4 row ≡ take 4 other → without_row 4 row rows ≡ without_row 4 other rows
without-by-key row other rows e = ap (λ (t : List ℕ). filter (λ r. is_lt (slice_cmp nat_cmp (take 4 r) t)) rows ++ filter (λ r. is_lt (slice_cmp nat_cmp t (take 4 r))) rows) e

-- ---- the state

not-null : (v : Value) → null v ≡ false → goes None v ≡ true
not-null v h = ap not (never (same_value v Null) (λ k. true≢false (ap null (sym (same_value-is v Null k)) ∙ h)))

module _ (s : State) (legal : IsNearlyLegal s) (in_rows : All (λ b. b.column ≡ false) s.schema.attributes) (e : EntityId) (own : list_all (is_own_or_strange s.schema e) s.triples ≡ true) where
  abbrev value : Attribute → Value
  value a = value_at a.number e s.triples

  abbrev columns : List Attribute
  columns = filter is_cell (attributes_in s.schema e.ty)

  abbrev gone : List Triple
  gone = gone_cells s.schema e None (entity_row s e).cells

  its-all : list_all (λ u. same_entity u.entity e) gone ≡ true
  its-all = all-its e None columns (entity_row s e).cells

  gone-are : gone ≡ map (cell_triple e value) (filter (λ a. goes None (value a)) columns)
  gone-are = gone-is e None value columns

  one-speaks : (t : Triple) → is_one gone t ≡ true → speaks_of e t ≡ true
  one-speaks t h = first-of (same_entity t.entity e) (same_value t.value (Entity e)) (one-its e gone t its-all h)

  speaks-one : (t : Triple) → Member t s.triples → speaks_of e t ≡ true → is_one gone t ≡ true
  speaks-one t m h =
      let its : (same_entity t.entity e && is_single s.schema t) ≡ true = other-of (not (speaks_of e t)) (same_entity t.entity e && is_single s.schema t) (m (is_own_or_strange s.schema e) own) (ap not h) in
      let of : t.entity ≡ e = same_entity-is t.entity e (left (same_entity t.entity e) (is_single s.schema t) its) in
      let sound = m (is_sound s) legal.sound in
      by (attribute s.schema t.attribute) refl of (right (same_entity t.entity e) (is_single s.schema t) its)
      (right (is_live s t.entity) (passes (λ a. isa s.schema t.entity.ty a.owner && can_hold s a.kind t.value) (attribute s.schema t.attribute)) sound) (not-null t.value (no-null s legal t sound))
    where
      by : (o : Option Attribute) → attribute s.schema t.attribute ≡ o → t.entity ≡ e → passes (λ a. not a.many) o ≡ true
          → passes (λ a. isa s.schema t.entity.ty a.owner && can_hold s a.kind t.value) o ≡ true → goes None t.value ≡ true → is_one gone t ≡ true
      by None f of one sound going = absurd (true≢false (sym one))
      by (Some a) f of one sound going =
          let number : a.number ≡ t.attribute = number-is a.number t.attribute (find-passes (λ b. b.number == t.attribute) a s.schema.attributes f) in
          let in_row : a.column ≡ false = found-holds (λ b. b.column ≡ false) (λ b. b.number == t.attribute) s.schema.attributes a in_rows f in
          let owner : isa s.schema e.ty a.owner ≡ true = subst (λ (x : EntityId). isa s.schema x.ty a.owner ≡ true) of (left (isa s.schema t.entity.ty a.owner) (can_hold s a.kind t.value) sound) in
          let inside : Member a columns =
          filter-member is_cell a (attributes_in s.schema e.ty)
          (filter-member (λ b. isa s.schema e.ty b.owner) a s.schema.attributes (find-member (λ b. b.number == t.attribute) a s.schema.attributes f) owner)
          (both (not a.many) (not a.column) one (ap not in_row)) in
          let here : is_at t.attribute e t ≡ true =
          both (t.attribute == t.attribute) (same_entity t.entity e) (number-itself t.attribute) (ap (λ (x : EntityId). same_entity x e) of ∙ same_entity-itself e) in
          let its : value a ≡ t.value = ap (λ (n : ℕ). value_at n e s.triples) number ∙ value-is s legal t.attribute a f (not-true a.many one) e t m here in
          let same : cell_triple e value a ≡ t = λ i. record { attribute = number i; entity = sym of i; value = its i } in
          let passed : same_triple (cell_triple e value a) t ≡ true = ap (λ (u : Triple). same_triple u t) same ∙ same_triple-itself t in
          ap (λ (l : List Triple). is_one l t) gone-are ∙ any-images (λ g. same_triple g t) (cell_triple e value) (filter (λ b. goes None (value b)) columns)
          ∙ any-member (λ b. same_triple (cell_triple e value b) t) a (filter (λ b. goes None (value b)) columns)
          (filter-member (λ b. goes None (value b)) a columns inside (ap (goes None) its ∙ going)) passed

  -- the state without the triples that speak of it
  abbrev T : State
  T = record s { triples = filter (λ t. not (speaks_of e t)) s.triples }

  pub taken-own : taken_all (gone_cells s.schema e None (entity_row s e).cells) s ≡ record s { triples = filter (λ t. not (speaks_of e t)) s.triples }
  taken-own =
      taken_all-is gone s
      ∙ ap (λ (ts : List Triple). record s { triples = ts })
      (filter-members (λ t. not (is_one gone t)) (λ t. not (speaks_of e t)) s.triples (λ t m. ap not (same-truth (is_one gone t) (speaks_of e t) (λ h. one-speaks t h) (λ h. speaks-one t m h))))

  module _ (laws : RowLaws) (program : IsOfProgram s) (live : is_live s e ≡ true) where
    pub program-deleted : IsOfProgram (entity_deleted s e)
    program-deleted = record {
      entities = All-filter (λ other. not (same_entity other e)) IsEntity s.live program.entities;
      values = All-filter (λ t. not (speaks_of e t)) (FitsOne s.schema) s.triples program.values;
      serials = program.serials;
    }

    program-left : IsOfProgram T
    program-left = record { entities = program.entities; values = All-filter (λ t. not (speaks_of e t)) (FitsOne s.schema) s.triples program.values; serials = program.serials }

    entity : IsEntity e
    entity = live-entity s program.entities e live

    -- all other entities have the rows that they had
    bytes-left : (x : EntityId) → same_entity x e ≡ false → entity_bytes T x ≡ entity_bytes s x
    bytes-left x apart = ap (λ (t : State). entity_bytes t x) (sym taken-own) ∙ rows-stay e gone s x its-all (same_entity-turned e x ∙ apart)

    rows-left : extent_rows (entity_deleted s e) e.ty ≡ without_row 4 (to_be_bytes w32 e.serial) (extent_rows s e.ty)
    rows-left =
        map-agree (entity_bytes s) (entity_bytes T) (of_type e.ty (filter (λ other. not (same_entity other e)) s.live))
        (λ k d l. bytes-left (slice_index_or (of_type e.ty (filter (λ other. not (same_entity other e)) s.live)) k d)
        (not-true (same_entity (slice_index_or (of_type e.ty (filter (λ other. not (same_entity other e)) s.live)) k d) e)
        (All-filter (λ x. x.ty == e.ty) (λ x. not (same_entity x e) ≡ true) (filter (λ other. not (same_entity other e)) s.live) (filter_passes (λ other. not (same_entity other e)) s.live) k d l)))
        ∙ gone-rows laws s legal program e live
        ∙ without-by-key (entity_bytes s e) (to_be_bytes w32 e.serial) (extent_rows s e.ty) refl

    module _ (at : ℕ) (is : at ≡ store Extent e.ty) where
      -- what stands in a store
      pub view-deleted : (q : ℕ) → rows_at (entity_deleted s e) q ≡ (with_rows at (without_row 4 (to_be_bytes w32 e.serial) (rows_at s at)) (view_of (taken_all (gone_cells s.schema e None (entity_row s e).cells) s))).rows q
      view-deleted q =
          either (q == at) (λ b. rows_at (entity_deleted s e) q ≡ (if b then without_row 4 (to_be_bytes w32 e.serial) (rows_at s at) else rows_at (taken_all gone s) q))
          (λ k.
          rows-extent (entity_deleted s e) e.ty q entity.2 (number-is q at k ∙ is) ∙ rows-left
          ∙ ap (without_row 4 (to_be_bytes w32 e.serial)) (sym (rows-extent s e.ty at entity.2 is)))
          (λ k.
          gone-others laws T (filter-nearly s (λ t. not (speaks_of e t)) legal) program-left e live q (sym (ap (λ z. q == z) (is ∙ number e.ty)) ∙ k)
          ∙ ap (λ (t : State). rows_at t q) (sym taken-own))
        where
          number : (ty : ℕ) → store Extent ty ≡ ty
          number ty = omega arith
