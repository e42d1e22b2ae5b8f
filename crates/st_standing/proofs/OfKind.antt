-- What the triples of an attribute and the live entities are: of one kind, and such as the program has.
use Rattle.std.proofs.Common.{◌≡◌, ℕ, Bool, true, false, Some, refl, sym, ap, subst, ◌∙◌, slice_index_or, true≢false}
use Rattle.std.specs.Prelude.{◌==◌, ◌&&◌, not}
use Rattle.std.specs.List.{All}
use Rattle.std.proofs.lemmas.List.Elements.{All-filter, filter_passes}
use Rattle.st_values.specs.declared.value.EntityId.{EntityId}
use Rattle.st_values.specs.declared.value.Kind.{Kind}
use Rattle.st_values.specs.declared.value.Kind.TheVariants as kind
use Rattle.st_values.specs.declared.value.Value.{Value}
use Rattle.st_values.specs.declared.value.Value.TheVariants.{Null, Int, Bool as Truth, Text, Entity}
use Rattle.st_values.specs.Order.{entity_before, same_entity, same_value}
use Rattle.st_values.proofs.Entities.{entity_before-strict, same_entity-is, same_entity-itself, same_value-is, same_value-itself}
use Rattle.st_values.proofs.Placing.{IsStrict, differ}
use Rattle.st_values.proofs.Tests.{both, either, left, right}
use Rattle.st_lattice.specs.declared.attribute.Attribute.{Attribute}
use Rattle.st_lattice.specs.Outline.{attribute}
use Rattle.st_lattice.specs.Lattice.{isa}
use Rattle.st_lattice.specs.Stores.{passes}
use Rattle.st_keys.specs.Keys.{Fits, IsEntity}
use Rattle.st_state.specs.declared.triple.Triple.{Triple}
use Rattle.st_state.specs.State.{State, is_live, same_triple, triple_before}
use Rattle.st_state.specs.Legal.{IsNearlyLegal, can_hold, is_sound}
use Rattle.st_state.proofs.Changed.{number-is, number-itself}
use Rattle.st_state.proofs.Orders.{triple_before-strict}
use Rattle.st_state.proofs.Set.{null}
use Rattle.st_store.proofs.Embedded.{all-passed, differ-itself, differ-not}
use Rattle.st_standing.specs.Standing.{FitsOne, IsOfProgram, triples_of}
use Rattle.st_standing.proofs.Filtered.{some-passes}

-- ---- what differs is not the same

module _ {X : Type 0} (before : X → X → Bool) (strict : IsStrict before) (same : X → X → Bool) (is : (x y : X) → same x y ≡ true → x ≡ y) (itself : (x : X) → same x x ≡ true) where
  differ-same : (x y : X) → differ before x y ≡ not (same x y)
  differ-same x y =
      either (same x y) (λ b. differ before x y ≡ not b) (λ k. ap (λ z. differ before x z) (sym (is x y k)) ∙ differ-itself before strict x)
      (λ k. either (differ before x y) (λ b. b ≡ true) (λ _. refl) (λ m. absurd (true≢false (sym (itself x) ∙ ap (λ z. same x z) (differ-not before strict x y m) ∙ k))))

pub entities-differ : (x y : EntityId) → differ entity_before x y ≡ not (same_entity x y)
entities-differ x y = differ-same entity_before entity_before-strict same_entity same_entity-is same_entity-itself x y

pub same_triple-is : (x y : Triple) → same_triple x y ≡ true → x ≡ y
same_triple-is x y h =
    let values = right (x.attribute == y.attribute) (same_entity x.entity y.entity && same_value x.value y.value) h in
    λ i. record {
      attribute = number-is x.attribute y.attribute (left (x.attribute == y.attribute) (same_entity x.entity y.entity && same_value x.value y.value) h) i;
      entity = same_entity-is x.entity y.entity (left (same_entity x.entity y.entity) (same_value x.value y.value) values) i;
      value = same_value-is x.value y.value (right (same_entity x.entity y.entity) (same_value x.value y.value) values) i;
    }

pub same_triple-itself : (x : Triple) → same_triple x x ≡ true
same_triple-itself x =
    both (x.attribute == x.attribute) (same_entity x.entity x.entity && same_value x.value x.value) (number-itself x.attribute)
    (both (same_entity x.entity x.entity) (same_value x.value x.value) (same_entity-itself x.entity) (same_value-itself x.value))

pub triples-differ : (x y : Triple) → differ triple_before x y ≡ not (same_triple x y)
triples-differ x y = differ-same triple_before triple_before-strict same_triple same_triple-is same_triple-itself x y

-- ---- values that fit a kind aren't null

pub fits-value : (k : Kind) (v : Value) → Fits k v → null v ≡ false
fits-value kind.Int Null h = absurd h
fits-value kind.Bool Null h = absurd h
fits-value (kind.Text limit) Null h = absurd h
fits-value (kind.Entity ty) Null h = absurd h
fits-value k (Int i) h = refl
fits-value k (Truth b) h = refl
fits-value k (Text t) h = refl
fits-value k (Entity x) h = refl

-- ---- live entities, and triples of one attribute

pub live-entity : (s : State) → All IsEntity s.live → (e : EntityId) → is_live s e ≡ true → IsEntity e
live-entity s all e h =
    let some = some-passes IsEntity (same_entity e) s.live all h in
    subst IsEntity (sym (same_entity-is e some.0 some.2)) some.1

-- a triple of an attribute, with a value of its kind
pub record IsOfKind (number : ℕ) (kind : Kind) (t : Triple) : Type 0 where
  pub number_is : t.attribute ≡ number
  pub fits : Fits kind t.value
  pub entity : IsEntity t.entity

module _ (s : State) (n : IsNearlyLegal s) (p : IsOfProgram s) where
  -- the entity of a triple is one
  pub entities-of : All (λ (t : Triple). IsEntity t.entity) s.triples
  entities-of k d l =
      let t = at d in
      live-entity s p.entities t.entity
      (left (is_live s t.entity) (passes (λ a. isa s.schema t.entity.ty a.owner && can_hold s a.kind t.value) (attribute s.schema t.attribute)) (all-passed (is_sound s) s.triples n.sound k d l))
    where
      at : Triple → Triple
      at d = slice_index_or s.triples k d

  pub triples-of-kind : (number : ℕ) (a : Attribute) → attribute s.schema number ≡ Some a → All (IsOfKind number a.kind) (triples_of number s.triples)
  triples-of-kind number a f k d l =
      let t = slice_index_or (triples_of number s.triples) k d in
      let is : t.attribute ≡ number = number-is t.attribute number (filter_passes (λ t. t.attribute == number) s.triples k d l) in
      record {
        number_is = is;
        fits = All-filter (λ t. t.attribute == number) (FitsOne s.schema) s.triples p.values k d l a (ap (attribute s.schema) is ∙ f);
        entity = All-filter (λ t. t.attribute == number) (λ t. IsEntity t.entity) s.triples entities-of k d l;
      }
