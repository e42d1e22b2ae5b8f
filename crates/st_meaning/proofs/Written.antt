-- The written order is total, tells entities apart, and arranges a selection in one way.
use Rattle.std.proofs.Common.{◌≡◌, ℕ, Bool, true, false, List, [], ◌∷◌, refl, sym, subst, ◌∙◌, true≢false}
use Rattle.std.specs.Prelude.{◌||◌, IsPermutation, IsTrue, Option, Some, None}
use Rattle.std.specs.List.{list_all}
use Rattle.std.specs.declared.cmp.Ordering.{Ordering}
use Rattle.std.specs.declared.cmp.Ordering.TheVariants.{Equal}
use Rattle.std.specs.Ordering.{ordering_reverse, nat_cmp, on, then_cmp}
use Rattle.std.specs.Cmp.{IsTotalOrder, nat_cmp_total, then_total, on_total, back_total}
use Rattle.st_values.specs.declared.value.EntityId.{EntityId}
use Rattle.st_values.specs.declared.value.Value.{Value}
use Rattle.st_values.specs.declared.value.Value.TheVariants.{Null, Int, Bool as Truth, Text, Entity}
use Rattle.st_values.specs.Order.{value_order, entity_before}
use Rattle.st_values.specs.Arranged.{ascends}
use Rattle.st_values.proofs.Total.{entity_order_total, value_order_total}
use Rattle.st_values.proofs.Exact.{both_equal, exact_entities}
use Rattle.st_values.proofs.Placing.{IsStrict, differ, ascends-arranged, arranged-permutation, arranged-unique}
use Rattle.st_values.proofs.Tests.{ascends-filter, ascends-weaken}
use Rattle.st_values.proofs.Entities.{strict, entity_before-strict}
use Rattle.st_lattice.specs.Outline.{type_named}
use Rattle.st_lattice.specs.Lattice.{isa}
use Rattle.st_query.specs.declared.query.Key.{Key}
use Rattle.st_query.specs.declared.query.Query.{Query}
use Rattle.st_query.specs.declared.term.Variable.{Variable}
use Rattle.st_state.specs.State.{State}
use Rattle.st_meaning.specs.Terms.{term_value}
use Rattle.st_meaning.specs.Selection.{holds, directed, key_order, keys_order, written_order, written_before, variables_at, entities_in, selects, selected}

-- null has the first place, and all other values have the second
abbrev place : Value → ℕ
place Null = 0
place _ = 1

-- the order of values, or the same turned round
abbrev towards : Bool → Value → Value → Ordering
towards false a b = value_order a b
towards true a b = ordering_reverse (value_order a b)

towards_total : (descending : Bool) → IsTotalOrder (towards descending)
towards_total false = value_order_total
towards_total true = subst IsTotalOrder (λ i a b. value_order_total.antisymm b a i) (back_total value_order_total)

abbrev by_place : Bool → Value → Value → Ordering
by_place descending = then_cmp (on place nat_cmp) (towards descending)

each : (descending : Bool) (a b : Value) → directed descending a b ≡ by_place descending a b
each false Null Null = refl
each false Null (Int b) = refl
each false Null (Truth b) = refl
each false Null (Text b) = refl
each false Null (Entity b) = refl
each false (Int a) Null = refl
each false (Int a) (Int b) = refl
each false (Int a) (Truth b) = refl
each false (Int a) (Text b) = refl
each false (Int a) (Entity b) = refl
each false (Truth a) Null = refl
each false (Truth a) (Int b) = refl
each false (Truth a) (Truth b) = refl
each false (Truth a) (Text b) = refl
each false (Truth a) (Entity b) = refl
each false (Text a) Null = refl
each false (Text a) (Int b) = refl
each false (Text a) (Truth b) = refl
each false (Text a) (Text b) = refl
each false (Text a) (Entity b) = refl
each false (Entity a) Null = refl
each false (Entity a) (Int b) = refl
each false (Entity a) (Truth b) = refl
each false (Entity a) (Text b) = refl
each false (Entity a) (Entity b) = refl
each true Null Null = refl
each true Null (Int b) = refl
each true Null (Truth b) = refl
each true Null (Text b) = refl
each true Null (Entity b) = refl
each true (Int a) Null = refl
each true (Int a) (Int b) = refl
each true (Int a) (Truth b) = refl
each true (Int a) (Text b) = refl
each true (Int a) (Entity b) = refl
each true (Truth a) Null = refl
each true (Truth a) (Int b) = refl
each true (Truth a) (Truth b) = refl
each true (Truth a) (Text b) = refl
each true (Truth a) (Entity b) = refl
each true (Text a) Null = refl
each true (Text a) (Int b) = refl
each true (Text a) (Truth b) = refl
each true (Text a) (Text b) = refl
each true (Text a) (Entity b) = refl
each true (Entity a) Null = refl
each true (Entity a) (Int b) = refl
each true (Entity a) (Truth b) = refl
each true (Entity a) (Text b) = refl
each true (Entity a) (Entity b) = refl

directed_total : (descending : Bool) → IsTotalOrder (directed descending)
directed_total descending = subst IsTotalOrder (λ i a b. sym (each descending a b) i) (then_total (on_total place nat_cmp_total) (towards_total descending))

module _ (state : State) (variables : List Variable) (query : Query) where
  key_total : (key : Key) → IsTotalOrder (key_order state variables query key)
  key_total key = on_total (λ (e : EntityId). term_value state (variables_at variables query e) key.term) (directed_total key.descending)

  keys_total : (keys : List Key) → IsTotalOrder (keys_order state variables query keys)
  keys_total [] = entity_order_total
  keys_total (key ∷ keys) = then_total (key_total key) (keys_total keys)

  pub written_total : IsTotalOrder (written_order state variables query)
  written_total = keys_total query.keys

  keys_exact : (keys : List Key) (a b : EntityId) → keys_order state variables query keys a b ≡ Equal → a ≡ b
  keys_exact [] a b e = exact_entities a b e
  keys_exact (key ∷ keys) a b e = keys_exact keys a b (both_equal (key_order state variables query key a b) (keys_order state variables query keys a b) e).1

  pub written_exact : (a b : EntityId) → written_order state variables query a b ≡ Equal → a ≡ b
  written_exact = keys_exact query.keys

-- entities that stand before each other are told apart by each strict test
entity_before-irreflexive : (a : EntityId) → entity_before a a ≡ true → ⊥
entity_before-irreflexive a e = true≢false (sym e ∙ entity_before-strict.itself a)

module _ {before : EntityId → EntityId → Bool} (o : IsStrict before) where
  told_apart : (a b : EntityId) → entity_before a b ≡ true → differ before a b ≡ true
  told_apart a b h = by (before a b) (before b a) refl refl
    where
      by : (s t : Bool) → before a b ≡ s → before b a ≡ t → (s || t) ≡ true
      by true t e f = refl
      by false true e f = refl
      by false false e f = absurd (entity_before-irreflexive a (subst (λ z. entity_before a z ≡ true) (sym (o.tie a b e f)) h))

-- a selection has no entity twice
selects-ascends : (state : State) (variables : List Variable) (query : Query) → ascends entity_before state.live ≡ true → ascends entity_before (selects state variables query) ≡ true
selects-ascends state variables query h =
    ascends-filter entity_before (λ e. list_all (holds state (variables_at variables query e)) query.conditions) (entities_in state (type_named state.schema query.ty))
    (known-ascends (type_named state.schema query.ty))
  where
    known-ascends : (ty : Option ℕ) → ascends entity_before (entities_in state ty) ≡ true
    known-ascends None = refl
    known-ascends (Some ty) = ascends-filter entity_before (λ e. isa state.schema e.ty ty) state.live h

pub selected-permutation : (state : State) (variables : List Variable) (query : Query) → IsPermutation (selects state variables query) (selected state variables query)
selected-permutation state variables query = arranged-permutation (written_before state variables query) (selects state variables query)

module _ (state : State) (variables : List Variable) (query : Query) (h : IsTrue (ascends entity_before state.live)) where
  written_strict : IsStrict (written_before state variables query)
  written_strict = strict (written_order state variables query) (written_total state variables query) (written_exact state variables query)

  apart : ascends (differ (written_before state variables query)) (selects state variables query) ≡ true
  apart = ascends-weaken entity_before (differ (written_before state variables query)) (told_apart written_strict) (selects state variables query) (selects-ascends state variables query h)

  pub selected-ascends : IsTrue (ascends (written_before state variables query) (selected state variables query))
  selected-ascends = ascends-arranged (written_before state variables query) written_strict (selects state variables query) apart

  pub selected-unique : (ys : List EntityId) → IsPermutation (selects state variables query) ys → IsTrue (ascends (written_before state variables query) ys) → ys ≡ selected state variables query
  selected-unique ys p a = arranged-unique (written_before state variables query) written_strict (selects state variables query) ys apart p a
