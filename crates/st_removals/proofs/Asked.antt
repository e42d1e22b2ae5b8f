-- The stores in which references to an entity stand are among those of its deletion.
use Rattle.std.proofs.Common.{◌≡◌, ℕ, ◌<◌, Bool, true, false, List, [], ◌∷◌, ◌++◌, length, Option, Some, None, IsTrue, refl, sym, ap, ◌∙◌, subst, arith, true≢false, zero-add}
use Rattle.std.specs.Prelude.{◌==◌, ◌&&◌, ◌||◌, filter, find, flat_map, nat_lt}
use Rattle.std.specs.List.{All, list_any, range_with_len}
use Rattle.std.proofs.lemmas.List.Folds.{list_all_at}
use Rattle.std.proofs.lemmas.List.FromFn.{get_or-range_with_len, length-range_with_len}
use Rattle.st_values.specs.declared.value.EntityId.{EntityId}
use Rattle.st_values.specs.declared.value.Kind.{Kind}
use Rattle.st_values.specs.declared.value.Kind.TheVariants as kind
use Rattle.st_values.specs.declared.value.Value.{Value}
use Rattle.st_values.specs.declared.value.Value.TheVariants.{Entity}
use Rattle.st_values.specs.Order.{same_entity, same_value}
use Rattle.st_values.proofs.Entities.{same_value-is}
use Rattle.st_values.proofs.Tests.{either, first-of, left, one-of, right}
use Rattle.st_lattice.specs.declared.attribute.Attribute.{Attribute}
use Rattle.st_lattice.specs.declared.stores.StoreKind.TheVariants.{Extent, Index, Inverse}
use Rattle.st_lattice.specs.Lattice.{attributes_in, below, descendants, isa}
use Rattle.st_lattice.specs.Outline.{Outline, attribute}
use Rattle.st_lattice.specs.Stores.{aside, cell, deleted, extents, index_of, inverse_of, kind_types, may_refer, passes, store, values_of, whole}
use Rattle.st_state.specs.declared.triple.Triple.{Triple}
use Rattle.st_state.specs.State.{State, is_at, is_live, value_at, value_in}
use Rattle.st_state.specs.Legal.{IsNearlyLegal, can_hold, is_counted, is_sound}
use Rattle.st_state.specs.Rows.{entity_row}
use Rattle.st_state.proofs.Changed.{number-is, number-itself}
use Rattle.st_state.proofs.Members.{Member, filter-member, find-member, find-passes}
use Rattle.st_store.specs.Stores.{among}
use Rattle.st_counts.proofs.Entities.{live-member}
use Rattle.st_counts.proofs.Tallies.{any-member}
use Rattle.st_database.proofs.Listed.{among-flat}
use Rattle.st_database.proofs.Touching.{AreAmong, among-first, among-second}
use Rattle.st_standing.proofs.Filtered.{some-passes}
use Rattle.st_lookups.specs.Looks.{is_cell}
use Rattle.st_removals.specs.Taken.{gone_cells, gone_stores, goes}
use Rattle.st_removals.proofs.Gone.{any-images, cell_triple}
use Rattle.st_removals.proofs.Cleared.{IsColumn, IsReferring, all-columns, all-referring, gone-cells}

-- ---- types

below-member : (n t : ℕ) → t < n → Member t (below n)
below-member n t h q a =
    either (q t) (λ b. q t ≡ b → b ≡ true) (λ _ _. refl)
    (λ _ k. absurd (true≢false (sym a ∙ list_all_at q (range_with_len 0 n) t 0 (omega (arith, length-range_with_len 0 n)) (ap q (get_or-range_with_len 0 n t 0 h ∙ zero-add t) ∙ k)))) refl

module _ (s : State) (legal : IsNearlyLegal s) (x : EntityId) (live : is_live s x ≡ true) where
  -- the type of a live entity is there
  type-there : x.ty < length s.schema.names
  type-there = less x.ty (length s.schema.names) (left (nat_lt x.ty (length s.schema.names)) _ (live-member x s.live live (is_counted s) legal.counted))
    where
      less : (m n : ℕ) → nat_lt m n ≡ true → m < n
      less m n h = grind (arith, h)

  -- and it is one of those that descend from each type that it is of
  type-among : (ty : ℕ) → isa s.schema x.ty ty ≡ true → list_any (λ t. t == x.ty) (descendants s.schema ty) ≡ true
  type-among ty h =
      any-member (λ t. t == x.ty) x.ty (descendants s.schema ty)
      (filter-member (λ t. isa s.schema t ty) x.ty (below (length s.schema.names)) (below-member (length s.schema.names) x.ty type-there) h) (number-itself x.ty)

  -- its extent is among those of the type
  pub extent-among : (ty : ℕ) → isa s.schema x.ty ty ≡ true → IsTrue (among (extents s.schema ty) (store Extent x.ty))
  extent-among ty h =
      any-images (λ n. n == store Extent x.ty) (store Extent) (descendants s.schema ty)
      ∙ any-member (λ t. store Extent t == store Extent x.ty) x.ty (descendants s.schema ty)
      (filter-member (λ t. isa s.schema t ty) x.ty (below (length s.schema.names)) (below-member (length s.schema.names) x.ty type-there) h) (number-itself (store Extent x.ty))

  -- a kind that can hold it may refer to its type
  pub kind-may : (k : Kind) → can_hold s k (Entity x) ≡ true → list_any (λ t. t == x.ty) (kind_types s.schema k) ≡ true
  kind-may (kind.Entity ty) h = type-among ty (left (isa s.schema x.ty ty) (is_live s x) h)
  kind-may kind.Int h = absurd (true≢false (sym h))
  kind-may kind.Bool h = absurd (true≢false (sym h))
  kind-may (kind.Text limit) h = absurd (true≢false (sym h))

-- ---- stores

module _ (schema : Outline) (a : Attribute) where
  pub extents-whole : AreAmong (extents schema a.owner) (whole schema a)
  extents-whole q h =
      among-first (cell schema a ++ index_of a) (inverse_of a) q (among-first (cell schema a) (index_of a) q (among-first (extents schema a.owner) (values_of a) q h))

  pub turned-whole : AreAmong (store Index a.number ∷ store Inverse a.number ∷ []) (whole schema a)
  turned-whole q h =
      either (store Index a.number == q) (λ b. (b || ((store Inverse a.number == q) || false)) ≡ true → among (whole schema a) q ≡ true)
      (λ k _. among-first (cell schema a ++ index_of a) (inverse_of a) q (among-second (cell schema a) (index_of a) q (first-of (store Index a.number == q) false k)))
      (λ _ m. among-second (cell schema a ++ index_of a) (inverse_of a) q m) h

  -- all of an attribute that may refer to a type is among what a deletion there asks for
  pub whole-among : (number ty : ℕ) → attribute schema number ≡ Some a → may_refer schema ty a ≡ true → AreAmong (whole schema a) (deleted schema ty)
  whole-among number ty f may q h =
      let aside_all = flat_map aside (attributes_in schema ty) in
      let referring = filter (may_refer schema ty) schema.attributes in
      let inside : Member a referring = filter-member (may_refer schema ty) a schema.attributes (find-member (λ b. b.number == number) a schema.attributes f) may in
      one-of (store Extent ty == q) (among (aside_all ++ flat_map (whole schema) referring) q)
      (among-second aside_all (flat_map (whole schema) referring) q
      (among-flat (whole schema) referring q ∙ any-member (λ b. among (whole schema b) q) a referring inside h))

-- ---- the stores of references

module _ (s : State) (legal : IsNearlyLegal s) (in_rows : All (λ b. b.column ≡ false) s.schema.attributes) (other entity : EntityId) (live : is_live s entity ≡ true) where
  -- an attribute whose value it is may refer to it
  pub value-may : (a : Attribute) → attribute s.schema a.number ≡ Some a → same_value (value_at a.number other s.triples) (Entity entity) ≡ true → may_refer s.schema entity.ty a ≡ true
  value-may a f h = by (find (is_at a.number other) s.triples) refl h
    where
      by : (o : Option Triple) → find (is_at a.number other) s.triples ≡ o → same_value (value_in o) (Entity entity) ≡ true → may_refer s.schema entity.ty a ≡ true
      by None g k = absurd (true≢false (sym k))
      by (Some u) g k =
          let number : u.attribute ≡ a.number = number-is u.attribute a.number (left (u.attribute == a.number) (same_entity u.entity other) (find-passes (is_at a.number other) u s.triples g)) in
          let sound = right (is_live s u.entity) (passes (λ b. isa s.schema u.entity.ty b.owner && can_hold s b.kind u.value) (attribute s.schema u.attribute)) (find-member (is_at a.number other) u s.triples g (is_sound s) legal.sound) in
          let here : (isa s.schema u.entity.ty a.owner && can_hold s a.kind u.value) ≡ true =
          sym (ap (passes (λ b. isa s.schema u.entity.ty b.owner && can_hold s b.kind u.value)) (ap (attribute s.schema) number ∙ f)) ∙ sound in
          kind-may s legal entity live a.kind
          (subst (λ (v : Value). can_hold s a.kind v ≡ true) (same_value-is u.value (Entity entity) k) (right (isa s.schema u.entity.ty a.owner) (can_hold s a.kind u.value) here))

  referring-whole : (a : Attribute) → IsReferring s legal in_rows other entity a → AreAmong (whole s.schema a) (deleted s.schema entity.ty)
  referring-whole a r = whole-among s.schema a a.number entity.ty r.column.found (value-may a r.column.found r.refers)

  -- those of the one's row, and of the indexes and inverses of its references
  pub asked-among : (at : ℕ) → at ≡ store Extent other.ty → is_live s other ≡ true → list_any (goes (Some entity)) (entity_row s other).cells ≡ true
      → AreAmong (at ∷ gone_stores (gone_cells s.schema other (Some entity) (entity_row s other).cells)) (deleted s.schema entity.ty)
  asked-among at is living has q h =
      let columns = filter is_cell (attributes_in s.schema other.ty) in
      let value : Attribute → Value = λ a. value_at a.number other s.triples in
      let refers : Attribute → Bool = λ a. same_value (value_at a.number other s.triples) (Entity entity) in
      let stores : Triple → List ℕ = λ t. store Index t.attribute ∷ store Inverse t.attribute ∷ [] in
      let gone = gone_cells s.schema other (Some entity) (entity_row s other).cells in
      let some = some-passes (IsColumn s legal in_rows other entity) refers columns (all-columns s legal in_rows other entity) (sym (any-images (goes (Some entity)) value columns) ∙ has) in
      either (at == q) (λ b. (b || among (gone_stores gone) q) ≡ true → IsTrue (among (deleted s.schema entity.ty) q))
      (λ k _.
      subst (λ (n : ℕ). IsTrue (among (deleted s.schema entity.ty) n)) (sym is ∙ number-is at q k)
      (referring-whole some.0 (record { column = some.1; refers = some.2 }) (store Extent other.ty)
      (extents-whole s.schema some.0 (store Extent other.ty) (extent-among s legal other living some.0.owner some.1.owner))))
      (λ _ m.
      let found =
      some-passes (IsReferring s legal in_rows other entity) (λ a. among (stores (cell_triple other value a)) q) (filter refers columns) (all-referring s legal in_rows other entity)
      (sym (any-images (λ t. among (stores t) q) (cell_triple other value) (filter refers columns))
      ∙ sym (ap (list_any (λ t. among (stores t) q)) (gone-cells s legal in_rows other entity)) ∙ sym (among-flat stores gone q) ∙ m) in
      referring-whole found.0 found.1 q (turned-whole s.schema found.0 q found.2)) h
