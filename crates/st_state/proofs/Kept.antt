-- What keeps a state legal, or nearly legal.
use Rattle.std.proofs.Common.{◌≡◌, ℕ, Bool, true, false, List, Option, Some, None, refl, sym, ap, subst, ◌∙◌, true≢false}
use Rattle.std.specs.Prelude.{◌==◌, not, ◌&&◌, ◌||◌, filter, find, is_none}
use Rattle.std.specs.List.{list_all, list_any}
use Rattle.st_values.specs.declared.value.EntityId.{EntityId}
use Rattle.st_values.specs.declared.value.Kind.{Kind}
use Rattle.st_values.specs.declared.value.Kind.TheVariants as kind
use Rattle.st_values.specs.declared.value.Value.{Value}
use Rattle.st_values.specs.declared.value.Value.TheVariants.{Null, Int, Bool as Truth, Text, Entity}
use Rattle.st_values.specs.Order.{same_value, same_entity, entity_before}
use Rattle.st_values.proofs.Entities.{same_entity-is, same_entity-itself, same_value-itself}
use Rattle.st_values.proofs.Tests.{not-true, or-left, or-right, one-of, first-of, other-of, never, all-each, all-two, all-kept, any-kept, none-found, both, left, right, either, all-weaken, all-filter, ascends-filter}
use Rattle.st_lattice.specs.declared.attribute.Attribute.{Attribute}
use Rattle.st_lattice.specs.Outline.{attribute}
use Rattle.st_lattice.specs.Lattice.{isa, attributes_in}
use Rattle.st_lattice.specs.Stores.{passes}
use Rattle.st_state.specs.declared.triple.Triple.{Triple}
use Rattle.st_state.specs.State.{State, is_live, triple_before, is_at, turned, speaks_of, entity_deleted}
use Rattle.st_state.specs.Legal.{can_hold, is_counted, is_sound, apart_at_entity, apart_in_value, is_filled, IsNearlyLegal, IsLegal}

pub passes-weaken : (f g : Attribute → Bool) (o : Option Attribute) → ((a : Attribute) → f a ≡ true → g a ≡ true) → passes f o ≡ true → passes g o ≡ true
passes-weaken f g None h e = e
passes-weaken f g (Some a) h e = h a e

-- ---- other lists in place of a state's

module _ (s : State) (l : List EntityId) (ts : List Triple) (k : List ℕ) where
  abbrev moved : State
  moved = record s { live = l; triples = ts; last = k }

  pub can_hold-moved : (kd : Kind) (v : Value) → ((x : EntityId) → v ≡ Entity x → is_live s x ≡ true → is_live moved x ≡ true) → can_hold s kd v ≡ true → can_hold moved kd v ≡ true
  can_hold-moved kind.Int v h e = e
  can_hold-moved kind.Bool v h e = e
  can_hold-moved (kind.Text limit) v h e = e
  can_hold-moved (kind.Entity ty) (Entity x) h e =
      both (isa s.schema x.ty ty) (is_live moved x) (left (isa s.schema x.ty ty) (is_live s x) e) (h x refl (right (isa s.schema x.ty ty) (is_live s x) e))
  can_hold-moved (kind.Entity ty) Null h e = e
  can_hold-moved (kind.Entity ty) (Int _) h e = e
  can_hold-moved (kind.Entity ty) (Truth _) h e = e
  can_hold-moved (kind.Entity ty) (Text _) h e = e

  pub is_sound-moved : (t : Triple) → (is_live s t.entity ≡ true → is_live moved t.entity ≡ true)
      → ((x : EntityId) → t.value ≡ Entity x → is_live s x ≡ true → is_live moved x ≡ true) → is_sound s t ≡ true → is_sound moved t ≡ true
  is_sound-moved t h g e =
      let here = left (is_live s t.entity) (passes (λ a. isa s.schema t.entity.ty a.owner && can_hold s a.kind t.value) (attribute s.schema t.attribute)) e in
      let held = right (is_live s t.entity) (passes (λ a. isa s.schema t.entity.ty a.owner && can_hold s a.kind t.value) (attribute s.schema t.attribute)) e in
      both (is_live moved t.entity) (passes (λ a. isa s.schema t.entity.ty a.owner && can_hold moved a.kind t.value) (attribute s.schema t.attribute)) (h here)
      (passes-weaken (λ a. isa s.schema t.entity.ty a.owner && can_hold s a.kind t.value) (λ a. isa s.schema t.entity.ty a.owner && can_hold moved a.kind t.value) (attribute s.schema t.attribute)
      (λ a k. both (isa s.schema t.entity.ty a.owner) (can_hold moved a.kind t.value) (left (isa s.schema t.entity.ty a.owner) (can_hold s a.kind t.value) k)
      (can_hold-moved a.kind t.value g (right (isa s.schema t.entity.ty a.owner) (can_hold s a.kind t.value) k))) held)

-- ---- fewer triples

pub filter-nearly : (s : State) (q : Triple → Bool) → IsNearlyLegal s → IsNearlyLegal (record s { triples = filter q s.triples })
filter-nearly s q n = record {
  orderly = n.orderly;
  consistent = n.consistent;
  counts = n.counts;
  live_ascends = n.live_ascends;
  triples_ascend = ascends-filter triple_before q s.triples n.triples_ascend;
  counted = n.counted;
  sound = all-filter (is_sound s) q s.triples n.sound;
  single = ascends-filter (apart_at_entity s.schema) q s.triples n.single;
  unique = ascends-filter (apart_in_value s.schema) q s.triples n.unique;
}

-- ---- an entity deleted

module _ (s : State) (e : EntityId) where
  abbrev kept : EntityId → Bool
  kept other = not (same_entity other e)

  stays : (x : EntityId) → same_entity x e ≡ false → is_live s x ≡ true → is_live (entity_deleted s e) x ≡ true
  stays x h a =
      any-kept (same_entity x) kept s.live a
      (all-each (λ o. not (same_entity x o) || kept o) s.live
      (λ o. either (same_entity x o) (λ b. (not b || kept o) ≡ true)
      (λ k. subst (λ z. not (same_entity z e) ≡ true) (same_entity-is x o k) (ap not h)) (λ _. refl)))

  abbrev unsaid : Triple → Bool
  unsaid t = not (speaks_of e t)

  -- a triple that stays is not of the entity, and doesn't refer to it
  of_others : (t : Triple) → unsaid t ≡ true → same_entity t.entity e ≡ false
  of_others t h = or-left (same_entity t.entity e) (same_value t.value (Entity e)) (not-true (speaks_of e t) h)

  to_others : (t : Triple) → unsaid t ≡ true → (x : EntityId) → t.value ≡ Entity x → same_entity x e ≡ false
  to_others t h x v =
      never (same_entity x e) (λ k.
      let x_is : x ≡ e = same_entity-is x e k in
      true≢false (sym (same_value-itself (Entity e)) ∙ ap (λ z. same_value (Entity z) (Entity e)) (sym x_is) ∙ ap (λ z. same_value z (Entity e)) (sym v)
      ∙ or-right (same_entity t.entity e) (same_value t.value (Entity e)) (not-true (speaks_of e t) h)))

  pub deleted-nearly : IsNearlyLegal s → IsNearlyLegal (entity_deleted s e)
  deleted-nearly n = record {
    orderly = n.orderly;
    consistent = n.consistent;
    counts = n.counts;
    live_ascends = ascends-filter entity_before kept s.live n.live_ascends;
    triples_ascend = ascends-filter triple_before unsaid s.triples n.triples_ascend;
    counted = all-filter (is_counted s) kept s.live n.counted;
    sound = all-kept (is_sound s) unsaid (is_sound (entity_deleted s e)) s.triples
        (λ t h k. is_sound-moved s (entity_deleted s e).live (entity_deleted s e).triples s.last t (stays t.entity (of_others t k)) (λ x v. stays x (to_others t k x v)) h) n.sound;
    single = ascends-filter (apart_at_entity s.schema) unsaid s.triples n.single;
    unique = ascends-filter (apart_in_value s.schema) unsaid s.triples n.unique;
  }

  -- no other entity needs it: none refers to it by an attribute that admits no null
  abbrev pub unneeded : Attribute → Bool
  unneeded a = not a.no_nulls || is_none (find (λ other. not (same_entity e other)) (turned a.number (Entity e) s.triples))

  is_none-is : {A : Type 0} (o : Option A) → is_none o ≡ true → o ≡ None
  is_none-is None h = refl
  is_none-is (Some a) h = cc

  filled-still : (x : EntityId) (a : Attribute) → same_entity x e ≡ false → (not a.no_nulls || list_any (is_at a.number x) s.triples) ≡ true → unneeded a ≡ true
      → (not a.no_nulls || list_any (is_at a.number x) (entity_deleted s e).triples) ≡ true
  filled-still x a h f u =
      either a.no_nulls (λ _. (not a.no_nulls || list_any (is_at a.number x) (entity_deleted s e).triples) ≡ true)
      (λ k.
      let has = other-of (not a.no_nulls) (list_any (is_at a.number x) s.triples) f (ap not k) in
      let lone = is_none-is (find (λ other. not (same_entity e other)) (turned a.number (Entity e) s.triples))
      (other-of (not a.no_nulls) (is_none (find (λ other. not (same_entity e other)) (turned a.number (Entity e) s.triples))) u (ap not k)) in
      let none = none-found (λ other. not (same_entity e other)) (λ (t : Triple). t.entity) (λ (t : Triple). (t.attribute == a.number) && same_value t.value (Entity e)) s.triples lone in
      one-of (not a.no_nulls) (list_any (is_at a.number x) (entity_deleted s e).triples)
      (any-kept (is_at a.number x) unsaid s.triples has (all-weaken _ _ (λ t m. still t m) s.triples none)))
      (λ k. first-of (not a.no_nulls) (list_any (is_at a.number x) (entity_deleted s e).triples) (ap not k))
    where
      still : (t : Triple) → (not ((t.attribute == a.number) && same_value t.value (Entity e)) || not (not (same_entity e t.entity))) ≡ true → (not (is_at a.number x t) || unsaid t) ≡ true
      still t m =
          either (is_at a.number x t) (λ b. (not b || unsaid t) ≡ true)
          (λ k.
          let number = left (t.attribute == a.number) (same_entity t.entity x) k in
          let x_is : t.entity ≡ x = same_entity-is t.entity x (right (t.attribute == a.number) (same_entity t.entity x) k) in
          let apart : same_entity t.entity e ≡ false = ap (λ z. same_entity z e) x_is ∙ h in
          let unlike : same_entity e t.entity ≡ false = never (same_entity e t.entity) (λ z. true≢false (sym (same_entity-itself e) ∙ ap (λ w. same_entity w e) (same_entity-is e t.entity z) ∙ apart)) in
          let value : same_value t.value (Entity e) ≡ false =
          never (same_value t.value (Entity e)) (λ z.
          true≢false (sym (other-of (not ((t.attribute == a.number) && same_value t.value (Entity e))) (not (not (same_entity e t.entity))) m
          (ap not (both (t.attribute == a.number) (same_value t.value (Entity e)) number z))) ∙ ap (λ b. not (not b)) unlike)) in
          ap not (ap (λ b. b || same_value t.value (Entity e)) apart ∙ value))
          (λ _. refl)

  pub deleted-legal : IsLegal s → list_all unneeded s.schema.attributes ≡ true → IsLegal (entity_deleted s e)
  deleted-legal g u = record {
    nearly = deleted-nearly g.nearly;
    filled = all-kept (is_filled s) kept (is_filled (entity_deleted s e)) s.live
        (λ x f k. all-two (λ a. not a.no_nulls || list_any (is_at a.number x) s.triples) unneeded (λ a. not a.no_nulls || list_any (is_at a.number x) (entity_deleted s e).triples)
        (attributes_in s.schema x.ty) (λ a m n. filled-still x a (not-true (same_entity x e) k) m n) f (all-filter unneeded (λ a. isa s.schema x.ty a.owner) s.schema.attributes u)) g.filled;
  }
