-- The order of triples, as a strict test.
use Rattle.std.proofs.Common.{◌≡◌, ℕ, refl, sym, ap, subst, ◌∙◌, arith}
use Rattle.std.specs.Prelude.{◌==◌, ◌&&◌, ◌||◌, nat_lt}
use Rattle.std.specs.declared.cmp.Ordering.{Ordering}
use Rattle.std.specs.declared.cmp.Ordering.TheVariants.{Less, Equal, Greater}
use Rattle.std.specs.Ordering.{is_lt, is_eq, ordering_then, nat_cmp}
use Rattle.std.specs.Cmp.{IsTotalOrder, nat_cmp_total, then_total, on_total}
use Rattle.std.proofs.lemmas.Map.Lookups.{exact_unsigned}
use Rattle.st_values.specs.Order.{entity_order, value_order}
use Rattle.st_values.proofs.Total.{entity_order_total, value_order_total}
use Rattle.st_values.proofs.Exact.{both_equal, exact_entities, exact_values}
use Rattle.st_values.proofs.Placing.{IsStrict}
use Rattle.st_values.proofs.Entities.{strict}
use Rattle.st_state.specs.declared.triple.Triple.{Triple}
use Rattle.st_state.specs.State.{triple_before}

chosen : (x y : ℕ) (o : Ordering) → (nat_lt x y || ((x == y) && is_lt o)) ≡ is_lt (ordering_then (nat_cmp x y) o)
chosen x y Less = grind arith
chosen x y Equal = grind arith
chosen x y Greater = grind arith

abbrev pub triple_order : Triple → Triple → Ordering
triple_order a b = ordering_then (nat_cmp a.attribute b.attribute) (ordering_then (entity_order a.entity b.entity) (value_order a.value b.value))

-- one order, and where it ties another one
pub before_then : (p q : Ordering) → (is_lt p || (is_eq p && is_lt q)) ≡ is_lt (ordering_then p q)
before_then Less q = refl
before_then Equal q = refl
before_then Greater q = refl

pub triple_before-is : (a b : Triple) → triple_before a b ≡ is_lt (triple_order a b)
triple_before-is a b =
    ap (λ c. nat_lt a.attribute b.attribute || ((a.attribute == b.attribute) && c)) (before_then (entity_order a.entity b.entity) (value_order a.value b.value))
    ∙ chosen a.attribute b.attribute (ordering_then (entity_order a.entity b.entity) (value_order a.value b.value))

triple_order_total : IsTotalOrder triple_order
triple_order_total =
    then_total (on_total (λ (t : Triple). t.attribute) nat_cmp_total)
    (then_total (on_total (λ (t : Triple). t.entity) entity_order_total) (on_total (λ (t : Triple). t.value) value_order_total))

triple_order_exact : (a b : Triple) → triple_order a b ≡ Equal → a ≡ b
triple_order_exact a b e =
    let k = both_equal (nat_cmp a.attribute b.attribute) _ e in
    let m = both_equal (entity_order a.entity b.entity) (value_order a.value b.value) k.1 in
    λ i. record { attribute = exact_unsigned a.attribute b.attribute k.0 i; entity = exact_entities a.entity b.entity m.0 i; value = exact_values a.value b.value m.1 i }

pub triple_before-strict : IsStrict triple_before
triple_before-strict = subst IsStrict (λ i a b. sym (triple_before-is a b) i) (strict triple_order triple_order_total triple_order_exact)
