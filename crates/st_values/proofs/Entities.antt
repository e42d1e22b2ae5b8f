-- Entities and values that are the same, and the strict order of entities.
use Rattle.std.proofs.Common.{◌≡◌, true, false, refl, ap}
use Rattle.std.specs.declared.cmp.Ordering.{Ordering}
use Rattle.std.specs.declared.cmp.Ordering.TheVariants.{Less, Equal, Greater}
use Rattle.std.specs.Ordering.{is_lt, is_eq, ordering_reverse}
use Rattle.std.specs.Cmp.{IsTotalOrder, tied_itself}
use Rattle.st_values.specs.declared.value.EntityId.{EntityId}
use Rattle.st_values.specs.declared.value.Value.{Value}
use Rattle.st_values.specs.Order.{entity_order, entity_before, same_entity, value_order, same_value}
use Rattle.st_values.proofs.Total.{entity_order_total, value_order_total}
use Rattle.st_values.proofs.Exact.{exact_entities, exact_values}
use Rattle.st_values.proofs.Placing.{IsStrict}

is-equal : (o : Ordering) → is_eq o ≡ true → o ≡ Equal
is-equal Less e = cc
is-equal Equal e = refl
is-equal Greater e = cc

pub entity_ties : (a b : EntityId) → same_entity a b ≡ is_eq (entity_order a b)
entity_ties a b = refl

pub same_entity-is : (a b : EntityId) → same_entity a b ≡ true → a ≡ b
same_entity-is a b h = exact_entities a b (is-equal (entity_order a b) h)

pub same_entity-itself : (a : EntityId) → same_entity a a ≡ true
same_entity-itself a = ap is_eq (tied_itself entity_order_total a)

turned : (a b : Ordering) → a ≡ ordering_reverse b → is_eq a ≡ is_eq b
turned a Less e = ap is_eq e
turned a Equal e = ap is_eq e
turned a Greater e = ap is_eq e

pub same_entity-turned : (a b : EntityId) → same_entity a b ≡ same_entity b a
same_entity-turned a b = turned (entity_order a b) (entity_order b a) (entity_order_total.antisymm a b)

pub same_value-is : (a b : Value) → same_value a b ≡ true → a ≡ b
same_value-is a b h = exact_values a b (is-equal (value_order a b) h)

pub same_value-itself : (a : Value) → same_value a a ≡ true
same_value-itself a = ap is_eq (tied_itself value_order_total a)

pub entity_before-is : (a b : EntityId) → entity_before a b ≡ is_lt (entity_order a b)
entity_before-is a b = refl

module _ {X : Type 0} (R : X → X → Ordering) (o : IsTotalOrder R) (exact : (a b : X) → R a b ≡ Equal → a ≡ b) where
  is-less : (r : Ordering) → is_lt r ≡ true → r ≡ Less
  is-less Less e = refl
  is-less Equal e = cc
  is-less Greater e = cc

  level : (r s : Ordering) → r ≡ ordering_reverse s → is_lt r ≡ false → is_lt s ≡ false → r ≡ Equal
  level Less s e f g = cc
  level Equal s e f g = refl
  level Greater Less e f g = cc
  level Greater Equal e f g = cc
  level Greater Greater e f g = cc

  -- a total order that tells apart what differs is a strict test
  pub strict : IsStrict (λ a b. is_lt (R a b))
  strict = record {
    itself = λ a. ap is_lt (tied_itself o a);
    chain = λ a b c h k. ap is_lt (o.trans a b c (is-less (R a b) h) (is-less (R b c) k));
    tie = λ a b h k. exact a b (level (R a b) (R b a) (o.antisymm a b) h k);
  }

pub entity_before-strict : IsStrict entity_before
entity_before-strict = strict entity_order entity_order_total exact_entities
