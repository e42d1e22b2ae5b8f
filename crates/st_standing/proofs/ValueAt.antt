-- What a change of an attribute's triples leaves of the values of entities, and of the triples of other attributes.
use Rattle.std.proofs.Common.{◌≡◌, ℕ, Bool, true, false, List, refl, sym, ap, ◌∙◌, arith, true≢false}
use Rattle.std.specs.Prelude.{◌==◌, ◌&&◌, not, filter, find, if◌then◌else◌}
use Rattle.std.specs.List.{list_all, list_any}
use Rattle.st_values.specs.declared.value.EntityId.{EntityId}
use Rattle.st_values.specs.declared.value.Value.{Value}
use Rattle.st_values.specs.declared.value.Value.TheVariants.{Null, Int, Bool as Truth, Text, Entity}
use Rattle.st_values.specs.Order.{same_entity, same_value}
use Rattle.st_values.specs.Arranged.{placed}
use Rattle.st_values.proofs.Entities.{same_entity-is, same_entity-itself}
use Rattle.st_values.proofs.Tests.{all-filtered, both, either, left, never, right}
use Rattle.st_pages.proofs.Searched.{find-none}
use Rattle.st_state.specs.declared.triple.Triple.{Triple}
use Rattle.st_state.specs.State.{State, attribute_set, is_at, member_added, member_taken, same_triple, triple_before, value_at, value_in, value_set, with_value}
use Rattle.st_state.proofs.Changed.{number-is, number-itself}
use Rattle.st_state.proofs.Set.{null}
use Rattle.st_standing.specs.Standing.{triples_of}
use Rattle.st_standing.proofs.Filtered.{filter-first, filter-placed-other, find-agree, find-kept, find-placed-only, find-placed-other}
use Rattle.st_standing.proofs.Columns.{with-new}
use Rattle.st_standing.proofs.Sets.{triple}

-- only null is null
pub null-is : (v : Value) → null v ≡ true → v ≡ Null
null-is Null h = refl
null-is (Int i) h = absurd (true≢false (sym h))
null-is (Truth b) h = absurd (true≢false (sym h))
null-is (Text t) h = absurd (true≢false (sym h))
null-is (Entity x) h = absurd (true≢false (sym h))

-- a value depends on the triples of its attribute alone
pub value_at-of : (number : ℕ) (e : EntityId) (ts : List Triple) → value_at number e ts ≡ value_in (find (λ t. same_entity t.entity e) (triples_of number ts))
value_at-of number e ts = ap value_in (sym (find-kept (λ t. t.attribute == number) (λ t. same_entity t.entity e) ts))

-- so it stays where these do
pub value_at-same : (number : ℕ) (e : EntityId) (ts us : List Triple) → triples_of number us ≡ triples_of number ts → value_at number e us ≡ value_at number e ts
value_at-same number e ts us h = value_at-of number e us ∙ ap (λ (xs : List Triple). value_in (find (λ t. same_entity t.entity e) xs)) h ∙ sym (value_at-of number e ts)

-- ---- the triples of other attributes

other-turned : (m n : ℕ) → (m == n) ≡ false → (n == m) ≡ false
other-turned m n h = grind (arith, h)

module _ (number other : ℕ) (apart : (other == number) ≡ false) where
  -- a test that triples of the other attribute pass keeps them all
  kept-others : (q : Triple → Bool) (ts : List Triple) → ((t : Triple) → (t.attribute == other) ≡ true → q t ≡ true) → triples_of other (filter q ts) ≡ triples_of other ts
  kept-others q ts h = filter-first (λ t. t.attribute == other) q ts h

  not-number : (t : Triple) → (t.attribute == other) ≡ true → (t.attribute == number) ≡ false
  not-number t h = ap (λ z. z == number) (number-is t.attribute other h) ∙ apart

  module _ (s : State) (e : EntityId) (v : Value) where
    -- a value put into a set
    pub added-others : triples_of other (member_added s number e v).triples ≡ triples_of other s.triples
    added-others =
        either (list_any (same_triple (triple number e v)) s.triples) (λ b. triples_of other (member_added s number e v).triples ≡ triples_of other s.triples)
        (λ k. ap (λ b. triples_of other (if b then s.triples else placed-new)) k)
        (λ k. ap (λ b. triples_of other (if b then s.triples else placed-new)) k ∙ filter-placed-other triple_before (λ t. t.attribute == other) (triple number e v) s.triples (other-turned other number apart))
      where
        placed-new : List Triple
        placed-new = placed triple_before (triple number e v) s.triples

    -- a value taken out of a set
    pub taken-others : triples_of other (member_taken s number e v).triples ≡ triples_of other s.triples
    taken-others =
        kept-others (λ t. not (same_triple (triple number e v) t)) s.triples
        (λ t h. ap not (never (same_triple (triple number e v) t) (λ k.
        let is : number ≡ t.attribute = number-is number t.attribute (left (number == t.attribute) (same_entity e t.entity && same_value v t.value) k) in
        true≢false (sym (number-itself number) ∙ ap (λ z. z == number) is ∙ not-number t h))))

    elsewhere-others : triples_of other (filter (λ t. not (is_at number e t)) s.triples) ≡ triples_of other s.triples
    elsewhere-others = kept-others (λ t. not (is_at number e t)) s.triples (λ t h. ap not (ap (λ b. b && same_entity t.entity e) (not-number t h)))

    -- a single value that is set
    pub set-others : triples_of other (attribute_set s number e v).triples ≡ triples_of other s.triples
    set-others =
        either (null v) (λ _. triples_of other (with_value number e v (filter (λ t. not (is_at number e t)) s.triples)) ≡ triples_of other s.triples)
        (λ k. ap (λ w. triples_of other (with_value number e w (filter (λ t. not (is_at number e t)) s.triples))) (null-is v k) ∙ elsewhere-others)
        (λ k. ap (triples_of other) (with-new number e v (filter (λ t. not (is_at number e t)) s.triples) k)
        ∙ filter-placed-other triple_before (λ t. t.attribute == other) (triple number e v) (filter (λ t. not (is_at number e t)) s.triples) (other-turned other number apart) ∙ elsewhere-others)

-- ---- a value that is set

module _ (number : ℕ) (e : EntityId) (v : Value) (ts : List Triple) where
  abbrev base : List Triple
  base = filter (λ t. not (is_at number e t)) ts

  base-none : list_all (λ t. not (is_at number e t)) base ≡ true
  base-none = all-filtered (λ t. not (is_at number e t)) (λ t. not (is_at number e t)) ts (λ t h. h)

  -- it is the one that its attribute has
  pub value_at-here : value_at number e (value_set number e v ts) ≡ v
  value_at-here =
      either (null v) (λ _. value_at number e (with_value number e v base) ≡ v)
      (λ k. ap (λ w. value_at number e (with_value number e w base)) (null-is v k) ∙ ap value_in (find-none (is_at number e) base base-none) ∙ sym (null-is v k))
      (λ k. ap (value_at number e) (with-new number e v base k)
      ∙ ap value_in (find-placed-only triple_before (is_at number e) (triple number e v) base (both (number == number) (same_entity e e) (number-itself number) (same_entity-itself e)) base-none))

  -- of other entities all values stay, and of other attributes
  pub value_at-elsewhere : (other : ℕ) (x : EntityId) → is_at other x (triple number e v) ≡ false → value_at other x (value_set number e v ts) ≡ value_at other x ts
  value_at-elsewhere other x apart =
      either (null v) (λ _. value_at other x (with_value number e v base) ≡ value_at other x ts)
      (λ k. ap (λ w. value_at other x (with_value number e w base)) (null-is v k) ∙ stays)
      (λ k. ap (value_at other x) (with-new number e v base k) ∙ ap value_in (find-placed-other triple_before (is_at other x) (triple number e v) base apart) ∙ stays)
    where
      away : (t : Triple) → is_at other x t ≡ true → not (is_at number e t) ≡ true
      away t h =
          ap not (never (is_at number e t) (λ k.
          let here : t.attribute ≡ other = number-is t.attribute other (left (t.attribute == other) (same_entity t.entity x) h) in
          let there : t.attribute ≡ number = number-is t.attribute number (left (t.attribute == number) (same_entity t.entity e) k) in
          let of : t.entity ≡ x = same_entity-is t.entity x (right (t.attribute == other) (same_entity t.entity x) h) in
          let its : t.entity ≡ e = same_entity-is t.entity e (right (t.attribute == number) (same_entity t.entity e) k) in
          true≢false (sym (both (number == other) (same_entity e x) (ap (λ z. z == other) (sym there ∙ here) ∙ number-itself other) (ap (λ z. same_entity z x) (sym its ∙ of) ∙ same_entity-itself x)) ∙ apart)))

      stays : value_at other x base ≡ value_at other x ts
      stays =
          ap value_in (find-kept (λ t. not (is_at number e t)) (is_at other x) ts
          ∙ find-agree (λ t. not (is_at number e t) && is_at other x t) (is_at other x) ts (λ t. either (is_at other x t) (λ b. is_at other x t ≡ b → (not (is_at number e t) && b) ≡ b)
          (λ k _. ap (λ c. c && true) (away t k)) (λ k _. none (not (is_at number e t))) refl))
        where
          none : (b : Bool) → (b && false) ≡ false
          none true = refl
          none false = refl

  -- of another entity
  pub value_at-other-entity : (other : ℕ) (x : EntityId) → same_entity e x ≡ false → value_at other x (value_set number e v ts) ≡ value_at other x ts
  value_at-other-entity other x h = value_at-elsewhere other x (never (is_at other x (triple number e v)) (λ k. true≢false (sym (right (number == other) (same_entity e x) k) ∙ h)))

  -- of another attribute
  pub value_at-other-number : (other : ℕ) (x : EntityId) → (other == number) ≡ false → value_at other x (value_set number e v ts) ≡ value_at other x ts
  value_at-other-number other x h = value_at-elsewhere other x (ap (λ b. b && same_entity e x) (other-turned other number h))

  -- the values of the entity, by their attributes
  pub value_at-set : (other : ℕ) → value_at other e (value_set number e v ts) ≡ (if other == number then v else value_at other e ts)
  value_at-set other =
      either (other == number) (λ b. value_at other e (value_set number e v ts) ≡ (if b then v else value_at other e ts))
      (λ k. ap (λ z. value_at z e (value_set number e v ts)) (number-is other number k) ∙ value_at-here) (λ k. value_at-other-number other e k)
