-- Triples of an attribute and an entity in the order of triples: they stand together, behind where null would stand.
use Rattle.std.proofs.Common.{◌≡◌, ℕ, true, false, refl, sym, ap, ◌∙◌, arith, true≢false}
use Rattle.std.specs.Prelude.{◌==◌, not, ◌&&◌, ◌||◌, nat_lt}
use Rattle.st_values.specs.declared.value.EntityId.{EntityId}
use Rattle.st_values.specs.declared.value.Value.{Value}
use Rattle.st_values.specs.declared.value.Value.TheVariants.{Null, Int, Bool as Truth, Text, Entity}
use Rattle.st_values.specs.Order.{entity_before, same_entity, value_before, same_value}
use Rattle.st_values.proofs.Placing.{differ}
use Rattle.st_values.proofs.Entities.{same_entity-is, same_entity-itself, same_value-is, same_value-itself, entity_before-strict}
use Rattle.st_values.proofs.Tests.{both, left, right, either, never}
use Rattle.st_state.specs.declared.triple.Triple.{Triple}
use Rattle.st_state.specs.State.{triple_before, same_triple, is_at}
use Rattle.st_state.proofs.Orders.{triple_before-strict}
use Rattle.st_state.proofs.Changed.{number-is, number-itself}
use Rattle.st_triples.specs.Marked.{triple_of}

pub number-not-below : (x : ℕ) → nat_lt x x ≡ false
number-not-below x = grind arith

-- ---- an attribute of an entity

pub at-is : (a : ℕ) (e : EntityId) (t : Triple) → is_at a e t ≡ true → t ≡ triple_of a e t.value
at-is a e t h =
    let n : t.attribute ≡ a = number-is t.attribute a (left (t.attribute == a) (same_entity t.entity e) h) in
    let s : t.entity ≡ e = same_entity-is t.entity e (right (t.attribute == a) (same_entity t.entity e) h) in
    λ i. record { attribute = n i; entity = s i; value = t.value }

pub at-itself : (a : ℕ) (e : EntityId) (v : Value) → is_at a e (triple_of a e v) ≡ true
at-itself a e v = both (a == a) (same_entity e e) (number-itself a) (same_entity-itself e)

before-null : (v : Value) → value_before v Null ≡ false
before-null Null = refl
before-null (Int _) = refl
before-null (Truth _) = refl
before-null (Text _) = refl
before-null (Entity _) = refl

-- null would stand in front of all values
null-first : (a : ℕ) (e : EntityId) (v : Value) → triple_before (triple_of a e v) (triple_of a e Null) ≡ false
null-first a e v =
    ap (λ b. b || ((a == a) && (entity_before e e || (same_entity e e && value_before v Null)))) (number-not-below a)
    ∙ ap (λ b. b && (entity_before e e || (same_entity e e && value_before v Null))) (number-itself a)
    ∙ ap (λ b. b || (same_entity e e && value_before v Null)) (entity_before-strict.itself e)
    ∙ ap (λ b. b && value_before v Null) (same_entity-itself e) ∙ before-null v

pub before-null-apart : (a : ℕ) (e : EntityId) (t : Triple) → triple_before t (triple_of a e Null) ≡ true → is_at a e t ≡ false
before-null-apart a e t h =
    never (is_at a e t) (λ k. true≢false (sym h ∙ ap (λ z. triple_before z (triple_of a e Null)) (at-is a e t k) ∙ null-first a e t.value))

-- a triple of another attribute or entity stands before all of this one's, or before none
pub others-before : (a : ℕ) (e : EntityId) (t : Triple) (v w : Value) → is_at a e t ≡ false → triple_before t (triple_of a e v) ≡ triple_before t (triple_of a e w)
others-before a e t v w h =
    either (t.attribute == a)
    (λ b. (b && same_entity t.entity e) ≡ false → (nat_lt t.attribute a || (b && (entity_before t.entity e || (same_entity t.entity e && value_before t.value v))))
    ≡ (nat_lt t.attribute a || (b && (entity_before t.entity e || (same_entity t.entity e && value_before t.value w)))))
    (λ _ k.
    ap (λ b. nat_lt t.attribute a || (entity_before t.entity e || (b && value_before t.value v))) k
    ∙ sym (ap (λ b. nat_lt t.attribute a || (entity_before t.entity e || (b && value_before t.value w))) k))
    (λ _ _. refl) h

pub at-closed : (a : ℕ) (e : EntityId) (s t : Triple) → not (triple_before s (triple_of a e Null)) ≡ true → triple_before s t ≡ true → is_at a e t ≡ true → is_at a e s ≡ true
at-closed a e s t h b k =
    either (is_at a e s) (λ c. c ≡ true) (λ _. refl)
    (λ m. absurd (true≢false (sym h ∙ ap not (sym (ap (triple_before s) (at-is a e t k) ∙ others-before a e s t.value Null m) ∙ b))))

-- ---- one triple

pub same-is : (t u : Triple) → same_triple t u ≡ true → t ≡ u
same-is t u h =
    let n : t.attribute ≡ u.attribute = number-is t.attribute u.attribute (left (t.attribute == u.attribute) (same_entity t.entity u.entity && same_value t.value u.value) h) in
    let k = right (t.attribute == u.attribute) (same_entity t.entity u.entity && same_value t.value u.value) h in
    let e : t.entity ≡ u.entity = same_entity-is t.entity u.entity (left (same_entity t.entity u.entity) (same_value t.value u.value) k) in
    let v : t.value ≡ u.value = same_value-is t.value u.value (right (same_entity t.entity u.entity) (same_value t.value u.value) k) in
    λ i. record { attribute = n i; entity = e i; value = v i }

pub same-itself : (t : Triple) → same_triple t t ≡ true
same-itself t =
    both (t.attribute == t.attribute) (same_entity t.entity t.entity && same_value t.value t.value) (number-itself t.attribute)
    (both (same_entity t.entity t.entity) (same_value t.value t.value) (same_entity-itself t.entity) (same_value-itself t.value))

pub before-apart : (t u : Triple) → triple_before u t ≡ true → same_triple t u ≡ false
before-apart t u h =
    never (same_triple t u) (λ k. true≢false (sym h ∙ ap (λ z. triple_before z t) (sym (same-is t u k)) ∙ triple_before-strict.itself t))

pub behind-apart : (t u : Triple) → triple_before t u ≡ true → same_triple t u ≡ false
behind-apart t u h =
    never (same_triple t u) (λ k. true≢false (sym h ∙ ap (triple_before t) (sym (same-is t u k)) ∙ triple_before-strict.itself t))

pub same-closed : (t s u : Triple) → not (triple_before s t) ≡ true → triple_before s u ≡ true → same_triple t u ≡ true → same_triple t s ≡ true
same-closed t s u h b k = absurd (true≢false (sym h ∙ ap not (ap (triple_before s) (same-is t u k) ∙ b)))

-- triples that are not the same differ in order
pub differs : (t u : Triple) → same_triple t u ≡ false → differ triple_before t u ≡ true
differs t u h =
    either (triple_before t u) (λ b. (b || triple_before u t) ≡ true) (λ _. refl)
    (λ k. either (triple_before u t) (λ b. b ≡ true) (λ _. refl)
    (λ m. absurd (true≢false (sym (same-itself t) ∙ ap (same_triple t) (triple_before-strict.tie t u k m) ∙ h))))

-- one that is at another place is not the same
pub at-differs : (a : ℕ) (e : EntityId) (v : Value) (u : Triple) → not (is_at a e u) ≡ true → same_triple (triple_of a e v) u ≡ false
at-differs a e v u h =
    never (same_triple (triple_of a e v) u) (λ k. true≢false (sym h ∙ ap not (sym (ap (is_at a e) (same-is (triple_of a e v) u k)) ∙ at-itself a e v)))
