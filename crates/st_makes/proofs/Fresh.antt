-- A new entity has no values, so that one more value of a set is its only one.
use Rattle.std.proofs.Common.{◌≡◌, ℕ, zero, suc, ◌+◌, ◌<◌, ◌≤◌, Bool, true, false, List, [], ◌∷◌, length, refl, sym, ◌∙◌, ap, subst, arith, true≢false}
use Rattle.std.specs.Prelude.{◌==◌, not, ◌&&◌, ◌||◌, nat_lt, cond, map, filter, if◌then◌else◌}
use Rattle.std.specs.List.{list_all, list_any, range_with_len}
use Rattle.st_values.specs.declared.value.EntityId.{EntityId}
use Rattle.st_values.specs.declared.value.Value.{Value}
use Rattle.st_values.specs.declared.value.Value.TheVariants as value
use Rattle.st_values.specs.Order.{same_entity, same_value, entity_before}
use Rattle.st_values.proofs.Placing.{differ}
use Rattle.st_values.proofs.Entities.{same_entity-is, same_entity-itself, entity_before-strict}
use Rattle.st_values.proofs.Tests.{left, right, either, never, not-true, not-false, all-weaken, all-not}
use Rattle.st_state.specs.declared.triple.Triple.{Triple}
use Rattle.st_state.specs.State.{State, is_live, is_at, same_triple, with_triple, with_value, next_entity, attribute_set, member_added}
use Rattle.st_state.specs.Legal.{is_counted, is_sound, IsNearlyLegal}
use Rattle.st_state.proofs.Made.{unlike}
use Rattle.st_state.proofs.Set.{null}

-- ---- numbers

pub lt-true : (a x : ℕ) → nat_lt a x ≡ true → a < x
lt-true a x e = grind (arith, e)

lt-false : (a x : ℕ) → nat_lt a x ≡ false → x ≤ a
lt-false a x e = grind (arith, e)

-- what holds of all that pass holds of one that does
pub ranged : (test : ℕ → Bool) (f : ℕ → ℕ) (p : ℕ → Bool) (x n a : ℕ) → a ≤ x → x < a + n → p x ≡ true → list_all test (map f (filter p (range_with_len a n))) ≡ true → test (f x) ≡ true
ranged test f p x zero a low high k h = absurd (omega arith)
ranged test f p x (suc n) a low high k h =
    let rest = filter p (range_with_len (a + 1) n) in
    either (nat_lt a x) (λ b. nat_lt a x ≡ b → test (f x) ≡ true)
    (λ e _.
    let less = lt-true a x e in
    ranged test f p x n (a + 1) (omega (arith, less)) (omega (arith, high)) k
    (either (p a) (λ b. list_all test (map f (cond b (a ∷ rest) rest)) ≡ true → list_all test (map f rest) ≡ true) (λ _ m. right (test (f a)) (list_all test (map f rest)) m) (λ _ m. m) h))
    (λ e _.
    let most = lt-false a x e in
    let same : a ≡ x = omega (arith, most, low) in
    let m = subst (λ b. list_all test (map f (cond b (a ∷ rest) rest)) ≡ true) (ap p same ∙ k) h in
    subst (λ z. test (f z) ≡ true) same (left (test (f a)) (list_all test (map f rest)) m)) refl

-- ---- live entities

pub lived : (q : EntityId → Bool) (e : EntityId) (xs : List EntityId) → list_any (same_entity e) xs ≡ true → list_all q xs ≡ true → q e ≡ true
lived q e [] h k = absurd (true≢false (sym h))
lived q e (x ∷ xs) h k =
    either (same_entity e x) (λ b. (b || list_any (same_entity e) xs) ≡ true → q e ≡ true)
    (λ s _. subst (λ z. q z ≡ true) (sym (same_entity-is e x s)) (left (q x) (list_all q xs) k)) (λ _ m. lived q e xs m (right (q x) (list_all q xs) k)) h

kept-whole : {X : Type 0} (p : X → Bool) (xs : List X) → list_all p xs ≡ true → filter p xs ≡ xs
kept-whole p [] h = refl
kept-whole p (x ∷ xs) h =
    ap (λ b. cond b (x ∷ filter p xs) (filter p xs)) (left (p x) (list_all p xs) h) ∙ ap (λ ys. x ∷ ys) (kept-whole p xs (right (p x) (list_all p xs) h))

module _ (s : State) (t : ℕ) (n : IsNearlyLegal s) (there : t < length s.schema.names) where
  fresh-dead : is_live s (next_entity s t) ≡ false
  fresh-dead =
      never (is_live s (next_entity s t)) (λ k.
      let c = lived (is_counted s) (next_entity s t) s.live k n.counted in
      let apart : differ entity_before (next_entity s t) (next_entity s t) ≡ true = unlike s t n there (next_entity s t) c in
      true≢false (sym apart ∙ ap (λ b. b || b) (entity_before-strict.itself (next_entity s t))))

  pub none-own : list_all (λ u. not (same_entity u.entity (next_entity s t))) s.triples ≡ true
  none-own =
      all-weaken (is_sound s) (λ u. not (same_entity u.entity (next_entity s t)))
      (λ u h. not-false (same_entity u.entity (next_entity s t)) (never (same_entity u.entity (next_entity s t)) (λ k.
      true≢false (sym (left (is_live s u.entity) _ h) ∙ ap (is_live s) (same_entity-is u.entity (next_entity s t) k) ∙ fresh-dead)))) s.triples n.sound

-- ---- one more value of an entity that has none

module _ (z : State) (number : ℕ) (e : EntityId) (v : Value) (none : list_all (λ u. not (same_entity u.entity e)) z.triples ≡ true) where
  abbrev one : Triple
  one = record { attribute = number; entity = e; value = v }

  put-value : (w : Value) → null w ≡ false → (ts : List Triple) → with_value number e w ts ≡ with_triple (record { attribute = number; entity = e; value = w }) ts
  put-value value.Null h ts = absurd (true≢false h)
  put-value (value.Int i) h ts = refl
  put-value (value.Bool i) h ts = refl
  put-value (value.Text i) h ts = refl
  put-value (value.Entity i) h ts = refl

  and-false : (a b : Bool) → b ≡ false → (a && b) ≡ false
  and-false true b h = h
  and-false false b h = refl

  first-false : (a b : Bool) → a ≡ false → (a && b) ≡ false
  first-false a b h = ap (λ c. c && b) h

  whole : filter (λ u. not (is_at number e u)) z.triples ≡ z.triples
  whole =
      kept-whole (λ u. not (is_at number e u)) z.triples
      (all-weaken (λ u. not (same_entity u.entity e)) (λ u. not (is_at number e u))
      (λ u h. not-false (is_at number e u) (and-false (u.attribute == number) (same_entity u.entity e) (not-true (same_entity u.entity e) h))) z.triples none)

  missing : list_any (same_triple one) z.triples ≡ false
  missing =
      not-true (list_any (same_triple one) z.triples)
      (sym (all-not (same_triple one) z.triples)
      ∙ all-weaken (λ u. not (same_entity u.entity e)) (λ u. not (same_triple one u))
      (λ u h. not-false (same_triple one u) (and-false (number == u.attribute) (same_entity e u.entity && same_value v u.value)
      (first-false (same_entity e u.entity) (same_value v u.value)
      (never (same_entity e u.entity) (λ k. true≢false (sym (same_entity-itself e) ∙ ap (λ x. same_entity x e) (same_entity-is e u.entity k) ∙ not-true (same_entity u.entity e) h)))))) z.triples none)

  pub added-set : null v ≡ false → member_added z number e v ≡ attribute_set z number e v
  added-set h =
      ap (λ ts. record z { triples = ts })
      (ap (λ b. if b then z.triples else with_triple one z.triples) missing ∙ sym (ap (with_value number e v) whole ∙ put-value v h z.triples))
