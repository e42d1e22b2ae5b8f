-- Which stores are those of a deletion.
use Rattle.std.proofs.Common.{◌≡◌, ℕ, ◌<◌, inl, inr, true, false, List, [], ◌∷◌, ◌++◌, length, Option, Some, None, IsTrue, refl, sym, ap, subst, ◌∙◌, arith, true≢false, zero-add}
use Rattle.std.specs.Prelude.{◌==◌, ◌&&◌, nat_lt, nat_le, filter, find, flat_map, slice_index, if◌then◌else◌}
use Rattle.std.specs.List.{list_all, list_any, range_with_len}
use Rattle.std.proofs.lemmas.Bool.Decides.{nat_tests}
use Rattle.std.proofs.lemmas.List.Folds.{list_all_at, list_any-append}
use Rattle.std.proofs.lemmas.List.FromFn.{length-range_with_len, get_or-range_with_len}
use Rattle.st_values.specs.declared.value.EntityId.{EntityId}
use Rattle.st_values.specs.declared.value.Kind.{Kind}
use Rattle.st_values.specs.declared.value.Kind.TheVariants as kind
use Rattle.st_values.specs.declared.value.Value.{Value}
use Rattle.st_values.specs.declared.value.Value.TheVariants.{Entity}
use Rattle.st_values.specs.Order.{same_entity, same_value}
use Rattle.st_values.proofs.Entities.{same_entity-is, same_value-is}
use Rattle.st_values.proofs.Tests.{either, first-of, left, one-of, right}
use Rattle.st_lattice.specs.declared.attribute.Attribute.{Attribute}
use Rattle.st_lattice.specs.declared.stores.StoreKind.TheVariants.{Extent, Index, Inverse}
use Rattle.st_lattice.specs.Outline.{Outline, attribute}
use Rattle.st_lattice.specs.Lattice.{attributes_in, below, descendants, isa}
use Rattle.st_lattice.specs.Stores.{aside, cell, deleted, extents, index_of, inverse_of, kind_types, may_refer, passes, store, values_of, whole}
use Rattle.st_store.specs.Stores.{among}
use Rattle.st_index.proofs.Counted.{or-cases}
use Rattle.st_state.specs.declared.triple.Triple.{Triple}
use Rattle.st_state.specs.State.{State, is_at, is_live, speaks_of, value_at, value_in}
use Rattle.st_state.specs.Calls.{Admits, Take, changed_stores, stores_by}
use Rattle.st_state.specs.Legal.{IsNearlyLegal, can_hold, is_counted, is_sound}
use Rattle.st_state.proofs.Changed.{number-is, number-itself}
use Rattle.st_state.proofs.Members.{Member, filter-member, find-member, find-passes, member-filter, member-passes}
use Rattle.st_counts.proofs.Entities.{live-member}
use Rattle.st_counts.proofs.Tallies.{any-member}
use Rattle.st_database.proofs.Listed.{among-flat}
use Rattle.st_database.proofs.Touching.{AreAmong, among-first, among-second}
use Rattle.st_lookups.specs.Looks.{is_cell}
use Rattle.st_lookups.proofs.Listed.{extent-among}
use Rattle.st_removals.specs.Taken.{gone_among, gone_cells, gone_stores, goes}

-- ---- stores of one of several

-- what an element stands for is among what all stand for
flat-among : {X : Type 0} (f : X → List ℕ) (x : X) (xs : List X) → Member x xs → AreAmong (f x) (flat_map f xs)
flat-among f x xs m n h = among-flat f xs n ∙ any-member (λ y. among (f y) n) x xs m h

-- ---- the stores of a deletion

pub own-extent : (schema : Outline) (ty : ℕ) → IsTrue (among (deleted schema ty) (store Extent ty))
own-extent schema ty =
    first-of (store Extent ty == store Extent ty) (among (flat_map aside (attributes_in schema ty) ++ flat_map (whole schema) (filter (may_refer schema ty) schema.attributes)) (store Extent ty)) (number-itself (store Extent ty))

-- what an attribute of the type has beside the extents
pub own-among : (schema : Outline) (ty : ℕ) (a : Attribute) → Member a schema.attributes → isa schema ty a.owner ≡ true → AreAmong (aside a) (deleted schema ty)
own-among schema ty a m is n h =
    let own = flat_map aside (attributes_in schema ty) in
    let others = flat_map (whole schema) (filter (may_refer schema ty) schema.attributes) in
    one-of (store Extent ty == n) (among (own ++ others) n)
    (among-first own others n (flat-among aside a (attributes_in schema ty) (filter-member (λ b. isa schema ty b.owner) a schema.attributes m is) n h))

-- all of an attribute that may refer to the type
pub referring-among : (schema : Outline) (ty : ℕ) (a : Attribute) → Member a schema.attributes → may_refer schema ty a ≡ true → AreAmong (whole schema a) (deleted schema ty)
referring-among schema ty a m refers n h =
    let own = flat_map aside (attributes_in schema ty) in
    let others = flat_map (whole schema) (filter (may_refer schema ty) schema.attributes) in
    one-of (store Extent ty == n) (among (own ++ others) n)
    (among-second own others n (flat-among (whole schema) a (filter (may_refer schema ty) schema.attributes) (filter-member (may_refer schema ty) a schema.attributes m refers) n h))

-- the extents of the types that have it
pub referring-extent : (schema : Outline) (ty : ℕ) (a : Attribute) (other : ℕ) → Member a schema.attributes → may_refer schema ty a ≡ true → isa schema other a.owner ≡ true → other < length schema.names
    → IsTrue (among (deleted schema ty) (store Extent other))
referring-extent schema ty a other m refers is less =
    let st = store Extent other in
    referring-among schema ty a m refers st
    (among-first (cell schema a ++ index_of a) (inverse_of a) st
    (among-first (cell schema a) (index_of a) st
    (among-first (extents schema a.owner) (values_of a) st (extent-among schema a.owner other less is st (first-of (st == st) false (number-itself st))))))

-- what it has beside the extents
aside-whole : (schema : Outline) (a : Attribute) → AreAmong (aside a) (whole schema a)
aside-whole schema a n h =
    elim (or-cases (among (values_of a ++ index_of a) n) (among (inverse_of a) n) (sym (list_any-append (λ k. k == n) (values_of a ++ index_of a) (inverse_of a)) ∙ h)) [
      | inl k ↦ among-first (cell schema a ++ index_of a) (inverse_of a) n (elim (or-cases (among (values_of a) n) (among (index_of a) n) (sym (list_any-append (λ k. k == n) (values_of a) (index_of a)) ∙ k)) [
        | inl l ↦ among-first (cell schema a) (index_of a) n (among-second (extents schema a.owner) (values_of a) n l)
        | inr l ↦ among-second (cell schema a) (index_of a) n l
      ])
      | inr k ↦ among-second (cell schema a ++ index_of a) (inverse_of a) n k
    ]

-- ---- which attributes may refer to an entity

below-member : (n t : ℕ) → t < n → Member t (below n)
below-member n t h q a =
    either (q t) (λ b. q t ≡ b → b ≡ true) (λ _ _. refl)
    (λ _ k. absurd (true≢false (sym a ∙ list_all_at q (range_with_len 0 n) t 0 (omega (arith, length-range_with_len 0 n)) (ap q (get_or-range_with_len 0 n t 0 h ∙ zero-add t) ∙ k)))) refl

lower : (m n : ℕ) → nat_lt m n ≡ true → m < n
lower m n h = grind (arith, nat_tests)

pub live-known : (s : State) (e : EntityId) → IsNearlyLegal s → is_live s e ≡ true → e.ty < length s.schema.names
live-known s e n live =
    lower e.ty (length s.schema.names)
    (left (nat_lt e.ty (length s.schema.names)) (nat_lt 0 e.serial && nat_le e.serial (slice_index s.last e.ty)) (live-member e s.live live (is_counted s) n.counted))

pub can-hold-may : (s : State) (a : Attribute) (e : EntityId) → IsNearlyLegal s → can_hold s a.kind (Entity e) ≡ true → may_refer s.schema e.ty a ≡ true
can-hold-may s a e n h = of-kind a.kind h
  where
    of-kind : (k : Kind) → can_hold s k (Entity e) ≡ true → list_any (λ t. t == e.ty) (kind_types s.schema k) ≡ true
    of-kind kind.Int c = absurd (true≢false (sym c))
    of-kind kind.Bool c = absurd (true≢false (sym c))
    of-kind (kind.Text limit) c = absurd (true≢false (sym c))
    of-kind (kind.Entity ty) c =
        let known = live-known s e n (right (isa s.schema e.ty ty) (is_live s e) c) in
        any-member (λ t. t == e.ty) e.ty (descendants s.schema ty)
        (filter-member (λ t. isa s.schema t ty) e.ty (below (length s.schema.names)) (below-member (length s.schema.names) e.ty known) (left (isa s.schema e.ty ty) (is_live s e) c)) (number-itself e.ty)

-- of a triple of the state
pub holds-may : (s : State) (t : Triple) (a : Attribute) (e : EntityId) → IsNearlyLegal s → Member t s.triples → attribute s.schema t.attribute ≡ Some a → same_value t.value (Entity e) ≡ true → may_refer s.schema e.ty a ≡ true
holds-may s t a e n m f v =
    let sound = m (is_sound s) n.sound in
    let fits : passes (λ b. isa s.schema t.entity.ty b.owner && can_hold s b.kind t.value) (Some a) ≡ true = subst (λ o. passes (λ b. isa s.schema t.entity.ty b.owner && can_hold s b.kind t.value) o ≡ true) f
    (right (is_live s t.entity) (passes (λ b. isa s.schema t.entity.ty b.owner && can_hold s b.kind t.value) (attribute s.schema t.attribute)) sound) in
    can-hold-may s a e n (subst (λ w. can_hold s a.kind w ≡ true) (same_value-is t.value (Entity e) v) (right (isa s.schema t.entity.ty a.owner) (can_hold s a.kind t.value) fits))

-- of a cell of a row
pub cell-may : (s : State) (number : ℕ) (a : Attribute) (other e : EntityId) → IsNearlyLegal s → attribute s.schema number ≡ Some a → same_value (value_at number other s.triples) (Entity e) ≡ true → may_refer s.schema e.ty a ≡ true
cell-may s number a other e n f v = by (find (is_at number other) s.triples) refl
  where
    by : (o : Option Triple) → find (is_at number other) s.triples ≡ o → may_refer s.schema e.ty a ≡ true
    by None k = absurd (true≢false (sym v ∙ ap (λ p. same_value (value_in p) (Entity e)) k))
    by (Some t) k =
        let at = number-is t.attribute number (left (t.attribute == number) (same_entity t.entity other) (find-passes (is_at number other) t s.triples k)) in
        holds-may s t a e n (find-member (is_at number other) t s.triples k) (ap (attribute s.schema) at ∙ f) (ap (λ p. same_value (value_in p) (Entity e)) (sym k) ∙ v)

-- ---- what a value's change may touch that speaks of the entity

pub changed-among : (s : State) (h : EntityId) (number : ℕ) (v : Value) (e : EntityId) → IsNearlyLegal s → Admits s (Take h number v) → speaks_of e (record { attribute = number; entity = h; value = v }) ≡ true
    → AreAmong (changed_stores s.schema h number) (deleted s.schema e.ty)
changed-among s h number v e n admits speaks = by (attribute s.schema number) refl admits.0.many admits.1
  where
    by : (o : Option Attribute) → attribute s.schema number ≡ o → passes (λ a. isa s.schema h.ty a.owner && a.many) o ≡ true → passes (λ a. can_hold s a.kind v) o ≡ true
        → AreAmong (store Extent h.ty ∷ stores_by aside o) (deleted s.schema e.ty)
    by None f many holds = absurd (true≢false (sym holds))
    by (Some a) f many holds =
        let is = left (isa s.schema h.ty a.owner) a.many many in
        let there = find-member (λ b. b.number == number) a s.schema.attributes f in
        elim (or-cases (same_entity h e) (same_value v (Entity e)) speaks) [
          | inl k ↦
              let same = same_entity-is h e k in
              λ st m. elim (or-cases (store Extent h.ty == st) (among (aside a) st) m) [
                | inl l ↦ subst (λ x. among (deleted s.schema e.ty) x ≡ true) (ap (λ (x : EntityId). store Extent x.ty) (sym same) ∙ number-is (store Extent h.ty) st l) (own-extent s.schema e.ty)
                | inr l ↦ own-among s.schema e.ty a there (subst (λ (x : EntityId). isa s.schema x.ty a.owner ≡ true) same is) st l
              ]
          | inr k ↦
              let refers = can-hold-may s a e n (subst (λ w. can_hold s a.kind w ≡ true) (same_value-is v (Entity e) k) holds) in
              λ st m. elim (or-cases (store Extent h.ty == st) (among (aside a) st) m) [
                | inl l ↦ subst (λ x. among (deleted s.schema e.ty) x ≡ true) (number-is (store Extent h.ty) st l) (referring-extent s.schema e.ty a h.ty there refers is (live-known s h n admits.0.live))
                | inr l ↦ referring-among s.schema e.ty a there refers st (aside-whole s.schema a st l)
              ]
        ]

-- ---- the cells of the entity's own row

-- of each attribute of a row all that stands turned round is there
gone-within : (stores : List ℕ) (entity : EntityId) (which : Option EntityId) (xs : List Attribute) (cells : List Value) → ((a : Attribute) → Member a xs → AreAmong (aside a) stores)
    → AreAmong (gone_stores (gone_among entity which xs cells)) stores
gone-within stores entity which [] cells more n h = absurd (true≢false (sym h))
gone-within stores entity which (a ∷ xs) [] more n h = absurd (true≢false (sym h))
gone-within stores entity which (a ∷ xs) (v ∷ vs) more n h =
    let gone = gone_among entity which xs vs in
    let later = gone-within stores entity which xs vs (λ b m. more b (λ q k. m q (right (q a) (list_all q xs) k))) n in
    either (goes which v) (λ b. among (gone_stores (if b then record { attribute = a.number; entity = entity; value = v } ∷ gone else gone)) n ≡ true → among stores n ≡ true)
    (λ _ k.
    elim (or-cases (among (store Index a.number ∷ store Inverse a.number ∷ []) n) (among (gone_stores gone) n)
    (sym (list_any-append (λ t. t == n) (store Index a.number ∷ store Inverse a.number ∷ []) (gone_stores gone)) ∙ k)) [
      | inl l ↦ more a (λ q m. left (q a) (list_all q xs) m) n (among-second (values_of a) (index_of a ++ inverse_of a) n l)
      | inr l ↦ later l
    ])
    (λ _ k. later k) h

pub own-gone-among : (schema : Outline) (e : EntityId) (which : Option EntityId) (cells : List Value) → AreAmong (gone_stores (gone_cells schema e which cells)) (deleted schema e.ty)
own-gone-among schema e which cells =
    gone-within (deleted schema e.ty) e which (filter is_cell (attributes_in schema e.ty)) cells
    (λ a m.
    let has = member-filter is_cell a (attributes_in schema e.ty) m in
    own-among schema e.ty a (member-filter (λ b. isa schema e.ty b.owner) a schema.attributes has) (member-passes (λ b. isa schema e.ty b.owner) a schema.attributes has))
