-- The converse of an attribute behind a change: a triple more, one fewer, and a single value that is set.
use Rattle.std.proofs.Common.{◌≡◌, ℕ, Bool, true, false, List, [], ◌∷◌, Option, Some, None, refl, sym, ap, subst, ◌∙◌, true≢false}
use Rattle.std.specs.Prelude.{◌==◌, not, ◌&&◌, ◌||◌, cond, if◌then◌else◌, map, filter, find}
use Rattle.std.specs.List.{list_all, list_any, position_or_len}
use Rattle.std.proofs.lemmas.List.Sorted.{IsPermutation-insert, list_any-IsPermutation}
use Rattle.st_values.specs.declared.value.EntityId.{EntityId}
use Rattle.st_values.specs.declared.value.Value.{Value}
use Rattle.st_values.specs.declared.value.Value.TheVariants.{Null, Int, Bool as Truth, Text, Entity}
use Rattle.st_values.specs.Order.{same_value, same_entity}
use Rattle.st_values.specs.Arranged.{arranged, each_pair, ascends, placed}
use Rattle.st_values.proofs.Entities.{same_entity-is, same_entity-itself, same_value-is, same_value-itself}
use Rattle.st_values.proofs.Placing.{IsStrict, differ, ascends-placed, ascending-unique, arranged-permutation}
use Rattle.st_values.proofs.Tests.{all-arranged, all-kept, all-not, all-weaken, all-filtered, ascends-filter, both, either, first-of, left, never, not-true, other-of, placed-behind, placed-here, right}
use Rattle.st_lattice.specs.declared.attribute.Attribute.{Attribute}
use Rattle.st_lattice.specs.Outline.{Outline, attribute}
use Rattle.st_lattice.specs.Stores.{passes}
use Rattle.st_state.specs.declared.triple.Triple.{Triple}
use Rattle.st_state.specs.State.{Pair, converse, is_at, pair_before, pair_of, same_triple, triple_added, triple_before, triple_taken, value_at, value_in, value_set, with_triple}
use Rattle.st_state.specs.Legal.{apart_at_entity}
use Rattle.st_state.proofs.Changed.{number-is, number-itself}
use Rattle.st_state.proofs.Members.{Member, find-member, find-passes, some-is}
use Rattle.st_state.proofs.Orders.{triple_before-strict}
use Rattle.st_state.proofs.Set.{null}
use Rattle.st_state.proofs.Turned.{converse-ascends, pair_before-strict}

-- ---- what some element of a list has

module _ {X : Type 0} where
  any-filter : (p q : X → Bool) (xs : List X) → list_any p (filter q xs) ≡ list_any (λ x. q x && p x) xs
  any-filter p q [] = refl
  any-filter p q (x ∷ xs) =
      either (q x) (λ b. list_any p (cond b (x ∷ filter q xs) (filter q xs)) ≡ ((b && p x) || list_any (λ y. q y && p y) xs))
      (λ _. ap (λ b. p x || b) (any-filter p q xs)) (λ _. any-filter p q xs)

  -- an element more in its place, whatever the order is
  any-put : (before : X → X → Bool) (p : X → Bool) (x : X) (xs : List X) → list_any p (placed before x xs) ≡ (p x || list_any p xs)
  any-put before p x xs = sym (list_any-IsPermutation p (x ∷ xs) (placed before x xs) (IsPermutation-insert xs (position_or_len (λ other. not (before other x)) xs) x))

  -- ---- what is kept of a list

  pub kept-all : (p : X → Bool) (xs : List X) → list_all p xs ≡ true → filter p xs ≡ xs
  kept-all p [] h = refl
  kept-all p (x ∷ xs) h =
      ap (λ b. cond b (x ∷ filter p xs) (filter p xs)) (left (p x) (list_all p xs) h) ∙ ap (λ (l : List X). x ∷ l) (kept-all p xs (right (p x) (list_all p xs) h))

  -- two tests that agree where a third one holds keep the same
  kept-alike : (p q r : X → Bool) → ((x : X) → r x ≡ true → p x ≡ q x) → (xs : List X) → list_all r xs ≡ true → filter p xs ≡ filter q xs
  kept-alike p q r e [] h = refl
  kept-alike p q r e (x ∷ xs) h =
      ap (λ b. cond b (x ∷ filter p xs) (filter p xs)) (e x (left (r x) (list_all r xs) h))
      ∙ ap (λ (l : List X). cond (q x) (x ∷ l) l) (kept-alike p q r e xs (right (r x) (list_all r xs) h))

  -- what is kept anyway
  kept-twice : (p q : X → Bool) → ((x : X) → q x ≡ true → p x ≡ true) → (xs : List X) → filter q (filter p xs) ≡ filter q xs
  kept-twice p q h [] = refl
  kept-twice p q h (x ∷ xs) =
      either (p x) (λ b. p x ≡ b → filter q (cond b (x ∷ filter p xs) (filter p xs)) ≡ filter q (x ∷ xs))
      (λ k m. ap (λ (l : List X). cond (q x) (x ∷ l) l) (kept-twice p q h xs))
      (λ k m. kept-twice p q h xs ∙ sym (ap (λ b. cond b (x ∷ filter q xs) (filter q xs)) (never (q x) (λ n. true≢false (sym (h x n) ∙ m))))) refl

  -- an element more that isn't kept
  kept-put : (before : X → X → Bool) (q : X → Bool) (x : X) → q x ≡ false → (xs : List X) → filter q (placed before x xs) ≡ filter q xs
  kept-put before q x h [] = ap (λ b. cond b (x ∷ []) []) h
  kept-put before q x h (y ∷ ys) =
      either (before y x) (λ _. filter q (placed before x (y ∷ ys)) ≡ filter q (y ∷ ys))
      (λ k. ap (filter q) (placed-behind before x y ys k) ∙ ap (λ (l : List X). cond (q y) (y ∷ l) l) (kept-put before q x h ys))
      (λ k. ap (filter q) (placed-here before x y ys k) ∙ ap (λ b. cond b (x ∷ filter q (y ∷ ys)) (filter q (y ∷ ys))) h)

  pub found-none : (p : X → Bool) (xs : List X) → find p xs ≡ None → list_all (λ x. not (p x)) xs ≡ true
  found-none p [] e = refl
  found-none p (x ∷ xs) e =
      either (p x) (λ b. cond b (Some x) (find p xs) ≡ None → (not b && list_all (λ y. not (p y)) xs) ≡ true)
      (λ _ k. absurd (some x k)) (λ _ k. found-none p xs k) e
    where
      some : (y : X) → Some y ≡ None → ⊥
      some y k = cc

  -- no element differs from itself
  differ-itself : (before : X → X → Bool) → IsStrict before → (x : X) → differ before x x ≡ false
  differ-itself before o x = ap (λ b. b || b) (o.itself x)

any-map : {X Y : Type 0} (f : X → Y) (p : Y → Bool) (xs : List X) → list_any p (map f xs) ≡ list_any (λ x. p (f x)) xs
any-map f p [] = refl
any-map f p (x ∷ xs) = ap (λ b. p (f x) || b) (any-map f p xs)

all-map : {X Y : Type 0} (f : X → Y) (p : Y → Bool) (xs : List X) → list_all (λ x. p (f x)) xs ≡ true → list_all p (map f xs) ≡ true
all-map f p [] h = refl
all-map f p (x ∷ xs) h = both (p (f x)) (list_all p (map f xs)) (left (p (f x)) (list_all (λ y. p (f y)) xs) h) (all-map f p xs (right (p (f x)) (list_all (λ y. p (f y)) xs) h))

-- ---- the pairs of a converse are those of the triples of the attribute

any-converse : (n : ℕ) (p : Pair → Bool) (ts : List Triple) → list_any p (converse n ts) ≡ list_any (λ t. (t.attribute == n) && p (pair_of t)) ts
any-converse n p ts =
    let pairs : List Pair = map pair_of (filter (λ t. t.attribute == n) ts) in
    sym (list_any-IsPermutation p pairs (converse n ts) (arranged-permutation pair_before pairs))
    ∙ any-map pair_of p (filter (λ t. t.attribute == n) ts) ∙ any-filter (λ t. p (pair_of t)) (λ t. t.attribute == n) ts

pub all-converse : (n : ℕ) (p : Pair → Bool) (ts : List Triple) → list_all (λ t. not (t.attribute == n) || p (pair_of t)) ts ≡ true → list_all p (converse n ts) ≡ true
all-converse n p ts h =
    all-arranged pair_before p (map pair_of (filter (λ t. t.attribute == n) ts))
    (all-map pair_of p (filter (λ t. t.attribute == n) ts)
    (all-kept (λ t. not (t.attribute == n) || p (pair_of t)) (λ t. t.attribute == n) (λ t. p (pair_of t)) ts (λ t k m. other-of (not (t.attribute == n)) (p (pair_of t)) k (ap not m)) h))

-- with the same triples of an attribute its converse is the same
pub converse-alike : (n : ℕ) (ts us : List Triple) → filter (λ t. t.attribute == n) ts ≡ filter (λ t. t.attribute == n) us → converse n ts ≡ converse n us
converse-alike n ts us e = ap (λ (xs : List Triple). arranged pair_before (map pair_of xs)) e

-- ---- two triples

pub same_triple-is : (t u : Triple) → same_triple t u ≡ true → t ≡ u
same_triple-is t u h =
    let one = number-is t.attribute u.attribute (left (t.attribute == u.attribute) (same_entity t.entity u.entity && same_value t.value u.value) h) in
    let both_same = right (t.attribute == u.attribute) (same_entity t.entity u.entity && same_value t.value u.value) h in
    let two = same_entity-is t.entity u.entity (left (same_entity t.entity u.entity) (same_value t.value u.value) both_same) in
    let three = same_value-is t.value u.value (right (same_entity t.entity u.entity) (same_value t.value u.value) both_same) in
    λ i. record { attribute = one i; entity = two i; value = three i }

pub same_triple-itself : (t : Triple) → same_triple t t ≡ true
same_triple-itself t =
    both (t.attribute == t.attribute) (same_entity t.entity t.entity && same_value t.value t.value) (number-itself t.attribute)
    (both (same_entity t.entity t.entity) (same_value t.value t.value) (same_entity-itself t.entity) (same_value-itself t.value))

-- triples that are not the same differ
triples-differ : (t u : Triple) → same_triple t u ≡ false → differ triple_before t u ≡ true
triples-differ t u h =
    either (triple_before t u) (λ b. (b || triple_before u t) ≡ true) (λ k. refl)
    (λ k. either (triple_before u t) (λ b. b ≡ true) (λ m. refl)
    (λ m. absurd (true≢false (sym (same_triple-itself t) ∙ ap (same_triple t) (triple_before-strict.tie t u k m) ∙ h))))

-- of one attribute they differ as their pairs do
pairs-apart : (t u : Triple) → t.attribute ≡ u.attribute → differ pair_before (pair_of t) (pair_of u) ≡ not (same_triple t u)
pairs-apart t u e =
    either (same_triple t u) (λ b. differ pair_before (pair_of t) (pair_of u) ≡ not b)
    (λ k. ap (λ z. differ pair_before (pair_of t) (pair_of z)) (sym (same_triple-is t u k)) ∙ differ-itself pair_before pair_before-strict (pair_of t))
    (λ k. either (pair_before (pair_of t) (pair_of u)) (λ b. (b || pair_before (pair_of u) (pair_of t)) ≡ true) (λ m. refl)
    (λ m. either (pair_before (pair_of u) (pair_of t)) (λ b. b ≡ true) (λ l. refl)
    (λ l.
    let same = pair_before-strict.tie (pair_of t) (pair_of u) m l in
    let is : t ≡ u = λ i. record { attribute = e i; entity = (same i).entity; value = (same i).value } in
    absurd (true≢false (sym (same_triple-itself t) ∙ ap (same_triple t) is ∙ k)))))

-- a triple of a list, taken out and put back
taken-again : (t : Triple) (ts : List Triple) → ascends triple_before ts ≡ true → Member t ts → with_triple t (triple_taken t ts) ≡ ts
taken-again t ts a m =
    ascending-unique triple_before triple_before-strict (with_triple t (triple_taken t ts)) ts
    (ascends-placed triple_before triple_before-strict t (triple_taken t ts) (ascends-filter triple_before (λ u. not (same_triple t u)) ts a)
    (all-filtered (λ u. not (same_triple t u)) (differ triple_before t) ts (λ u k. triples-differ t u (not-true (same_triple t u) k)))) a
    (λ p. any-put triple_before p t (triple_taken t ts) ∙ ap (λ b. p t || b) (any-filter p (λ u. not (same_triple t u)) ts) ∙ by p)
  where
    there : (p : Triple → Bool) → p t ≡ true → list_any p ts ≡ true
    there p h =
        either (list_any p ts) (λ b. list_any p ts ≡ b → b ≡ true) (λ _ _. refl)
        (λ _ k. absurd (true≢false (sym (m (λ u. not (p u)) (all-not p ts ∙ ap not k)) ∙ ap not h))) refl

    by : (p : Triple → Bool) → (p t || list_any (λ u. not (same_triple t u) && p u) ts) ≡ list_any p ts
    by p =
        either (p t) (λ b. p t ≡ b → (b || list_any (λ u. not (same_triple t u) && p u) ts) ≡ list_any p ts)
        (λ _ k. sym (there p k)) (λ _ k. λ i. list_any (λ u. others k u i) ts) refl
      where
        others : p t ≡ false → (u : Triple) → (not (same_triple t u) && p u) ≡ p u
        others k u =
            either (same_triple t u) (λ b. same_triple t u ≡ b → (not b && p u) ≡ p u) (λ _ l. sym k ∙ ap p (same_triple-is t u l)) (λ _ l. refl) refl

module _ (n : ℕ) (t : Triple) where
  -- ---- a triple more

  pub triples_of-with : (t.attribute == n) ≡ false → (ts : List Triple) → filter (λ u. u.attribute == n) (with_triple t ts) ≡ filter (λ u. u.attribute == n) ts
  triples_of-with h ts = kept-put triple_before (λ u. u.attribute == n) t h ts

  module _ (ts : List Triple) (a : ascends triple_before ts ≡ true) (h : (t.attribute == n) ≡ true) where
    one-number : (u : Triple) → (u.attribute == n) ≡ true → t.attribute ≡ u.attribute
    one-number u k = number-is t.attribute n h ∙ sym (number-is u.attribute n k)

    -- no pair is the triple's, where no triple is it
    pub pairs-other : list_any (same_triple t) ts ≡ false → list_all (differ pair_before (pair_of t)) (converse n ts) ≡ true
    pairs-other new =
        all-converse n (differ pair_before (pair_of t)) ts
        (all-weaken (λ u. not (same_triple t u)) (λ u. not (u.attribute == n) || differ pair_before (pair_of t) (pair_of u))
        (λ u k. either (u.attribute == n) (λ b. (not b || differ pair_before (pair_of t) (pair_of u)) ≡ true) (λ m. pairs-apart t u (one-number u m) ∙ k) (λ m. refl))
        ts (all-not (same_triple t) ts ∙ ap not new))

    pub converse-with : list_any (same_triple t) ts ≡ false → converse n (with_triple t ts) ≡ placed pair_before (pair_of t) (converse n ts)
    converse-with new =
        let apart : list_all (differ triple_before t) ts ≡ true =
        all-weaken (λ u. not (same_triple t u)) (differ triple_before t) (λ u k. triples-differ t u (not-true (same_triple t u) k)) ts (all-not (same_triple t) ts ∙ ap not new) in
        ascending-unique pair_before pair_before-strict (converse n (with_triple t ts)) (placed pair_before (pair_of t) (converse n ts))
        (converse-ascends n (with_triple t ts) (ascends-placed triple_before triple_before-strict t ts a apart))
        (ascends-placed pair_before pair_before-strict (pair_of t) (converse n ts) (converse-ascends n ts a) (pairs-other new))
        (λ p.
        any-converse n p (with_triple t ts) ∙ any-put triple_before (λ u. (u.attribute == n) && p (pair_of u)) t ts
        ∙ ap (λ b. (b && p (pair_of t)) || list_any (λ u. (u.attribute == n) && p (pair_of u)) ts) h
        ∙ ap (λ b. p (pair_of t) || b) (sym (any-converse n p ts)) ∙ sym (any-put pair_before p (pair_of t) (converse n ts)))

    -- ---- a triple fewer

    pub converse-taken : converse n (triple_taken t ts) ≡ filter (differ pair_before (pair_of t)) (converse n ts)
    converse-taken =
        ascending-unique pair_before pair_before-strict (converse n (triple_taken t ts)) (filter (differ pair_before (pair_of t)) (converse n ts))
        (converse-ascends n (triple_taken t ts) (ascends-filter triple_before (λ u. not (same_triple t u)) ts a))
        (ascends-filter pair_before (differ pair_before (pair_of t)) (converse n ts) (converse-ascends n ts a))
        (λ p.
        any-converse n p (triple_taken t ts) ∙ any-filter (λ u. (u.attribute == n) && p (pair_of u)) (λ u. not (same_triple t u)) ts
        ∙ (λ i. list_any (λ u. alike p u i) ts)
        ∙ sym (any-converse n (λ r. differ pair_before (pair_of t) r && p r) ts) ∙ sym (any-filter p (differ pair_before (pair_of t)) (converse n ts)))
      where
        alike : (p : Pair → Bool) (u : Triple) → (not (same_triple t u) && ((u.attribute == n) && p (pair_of u))) ≡ ((u.attribute == n) && (differ pair_before (pair_of t) (pair_of u) && p (pair_of u)))
        alike p u =
            either (u.attribute == n) (λ b. (not (same_triple t u) && (b && p (pair_of u))) ≡ (b && (differ pair_before (pair_of t) (pair_of u) && p (pair_of u))))
            (λ k. ap (λ b. b && p (pair_of u)) (sym (pairs-apart t u (one-number u k)))) (λ k. none (not (same_triple t u)))
          where
            none : (b : Bool) → (b && false) ≡ false
            none true = refl
            none false = refl

  pub triples_of-taken : (t.attribute == n) ≡ false → (ts : List Triple) → filter (λ u. u.attribute == n) (triple_taken t ts) ≡ filter (λ u. u.attribute == n) ts
  triples_of-taken h ts = kept-twice (λ u. not (same_triple t u)) (λ u. u.attribute == n) other ts
    where
      other : (u : Triple) → (u.attribute == n) ≡ true → not (same_triple t u) ≡ true
      other u k =
          ap not (never (same_triple t u) (λ m.
          true≢false (sym k ∙ ap (λ z. z == n) (sym (number-is t.attribute u.attribute (left (t.attribute == u.attribute) (same_entity t.entity u.entity && same_value t.value u.value) m))) ∙ h)))

  pub converse-with-other : (t.attribute == n) ≡ false → (ts : List Triple) → converse n (with_triple t ts) ≡ converse n ts
  converse-with-other h ts = converse-alike n (with_triple t ts) ts (triples_of-with h ts)

  pub converse-taken-other : (t.attribute == n) ≡ false → (ts : List Triple) → converse n (triple_taken t ts) ≡ converse n ts
  converse-taken-other h ts = converse-alike n (triple_taken t ts) ts (triples_of-taken h ts)

  -- ---- a triple put in or taken out where it may be there or not

  pub triples_of-added : (t.attribute == n) ≡ false → (ts : List Triple) → filter (λ u. u.attribute == n) (triple_added t ts) ≡ filter (λ u. u.attribute == n) ts
  triples_of-added h ts =
      either (list_any (same_triple t) ts) (λ b. filter (λ u. u.attribute == n) (if b then ts else with_triple t ts) ≡ filter (λ u. u.attribute == n) ts)
      (λ _. refl) (λ _. triples_of-with h ts)

  pub added-there : (ts : List Triple) → list_any (same_triple t) ts ≡ true → triple_added t ts ≡ ts
  added-there ts h = ap (λ b. if b then ts else with_triple t ts) h

  pub added-new : (ts : List Triple) → list_any (same_triple t) ts ≡ false → triple_added t ts ≡ with_triple t ts
  added-new ts h = ap (λ b. if b then ts else with_triple t ts) h

  pub taken-none : (ts : List Triple) → list_any (same_triple t) ts ≡ false → triple_taken t ts ≡ ts
  taken-none ts h = kept-all (λ u. not (same_triple t u)) ts (all-not (same_triple t) ts ∙ ap not h)

-- ---- a single value that is set

-- pairs without that of an entity's value, and with it; null has none
abbrev pub pairs_without : EntityId → Value → List Pair → List Pair
pairs_without e Null pairs = pairs
pairs_without e v pairs = filter (differ pair_before (record { value = v; entity = e })) pairs

abbrev pub pairs_with : EntityId → Value → List Pair → List Pair
pairs_with e Null pairs = pairs
pairs_with e v pairs = placed pair_before (record { value = v; entity = e }) pairs

pub without-value : (e : EntityId) (v : Value) (pairs : List Pair) → null v ≡ false → pairs_without e v pairs ≡ filter (differ pair_before (record { value = v; entity = e })) pairs
without-value e Null pairs h = absurd (true≢false h)
without-value e (Int i) pairs h = refl
without-value e (Truth b) pairs h = refl
without-value e (Text t) pairs h = refl
without-value e (Entity x) pairs h = refl

pub with-value : (e : EntityId) (v : Value) (pairs : List Pair) → null v ≡ false → pairs_with e v pairs ≡ placed pair_before (record { value = v; entity = e }) pairs
with-value e Null pairs h = absurd (true≢false h)
with-value e (Int i) pairs h = refl
with-value e (Truth b) pairs h = refl
with-value e (Text t) pairs h = refl
with-value e (Entity x) pairs h = refl

module _ (n : ℕ) (e : EntityId) where
  abbrev pub elsewhere : Triple → Bool
  elsewhere t = not (is_at n e t)

  -- the triple of a value
  abbrev pub triple_for : Value → Triple
  triple_for v = record { attribute = n; entity = e; value = v }

  at-same : (t u : Triple) → is_at n e t ≡ true → same_triple t u ≡ true → is_at n e u ≡ true
  at-same t u h k = subst (λ z. is_at n e z ≡ true) (same_triple-is t u k) h

  triple_for-at : (v : Value) → is_at n e (triple_for v) ≡ true
  triple_for-at v = both (n == n) (same_entity e e) (number-itself n) (same_entity-itself e)

  -- a value's triple is none of those elsewhere
  pub fresh-elsewhere : (v : Value) (ts : List Triple) → list_any (same_triple (triple_for v)) (filter elsewhere ts) ≡ false
  fresh-elsewhere v ts =
      not-true (list_any (same_triple (triple_for v)) (filter elsewhere ts))
      (sym (all-not (same_triple (triple_for v)) (filter elsewhere ts))
      ∙ all-filtered elsewhere (λ u. not (same_triple (triple_for v) u)) ts
      (λ u k. ap not (never (same_triple (triple_for v) u) (λ m. true≢false (sym (at-same (triple_for v) u (triple_for-at v) m) ∙ not-true (is_at n e u) k)))))

  -- the triples of another attribute stay
  pub triples_of-set : (m : ℕ) → (n == m) ≡ false → (v : Value) (ts : List Triple) → filter (λ u. u.attribute == m) (value_set n e v ts) ≡ filter (λ u. u.attribute == m) ts
  triples_of-set m h v ts = by v
    where
      away : filter (λ u. u.attribute == m) (filter elsewhere ts) ≡ filter (λ u. u.attribute == m) ts
      away =
          kept-twice elsewhere (λ u. u.attribute == m)
          (λ u k. ap not (never (is_at n e u) (λ l. true≢false (sym k ∙ ap (λ z. z == m) (number-is u.attribute n (left (u.attribute == n) (same_entity u.entity e) l)) ∙ h)))) ts

      more : (w : Value) → filter (λ u. u.attribute == m) (with_triple (triple_for w) (filter elsewhere ts)) ≡ filter (λ u. u.attribute == m) ts
      more w = triples_of-with m (triple_for w) h (filter elsewhere ts) ∙ away

      by : (w : Value) → filter (λ u. u.attribute == m) (value_set n e w ts) ≡ filter (λ u. u.attribute == m) ts
      by Null = away
      by (Int i) = more (Int i)
      by (Truth b) = more (Truth b)
      by (Text t) = more (Text t)
      by (Entity x) = more (Entity x)

  pub converse-set-other : (m : ℕ) → (n == m) ≡ false → (v : Value) (ts : List Triple) → converse m (value_set n e v ts) ≡ converse m ts
  converse-set-other m h v ts = converse-alike m (value_set n e v ts) ts (triples_of-set m h v ts)

  module _ (schema : Outline) (a : Attribute) (f : attribute schema n ≡ Some a) (one : a.many ≡ false) where
    -- an entity's triple of an attribute without sets is its only one
    apart-at : (t u : Triple) → is_at n e t ≡ true → apart_at_entity schema t u ≡ true → not (is_at n e u) ≡ true
    apart-at t u h k =
        let number : t.attribute ≡ n = number-is t.attribute n (left (t.attribute == n) (same_entity t.entity e) h) in
        let entity : t.entity ≡ e = same_entity-is t.entity e (right (t.attribute == n) (same_entity t.entity e) h) in
        let single : passes (λ x. x.many) (attribute schema t.attribute) ≡ false = ap (λ m. passes (λ x. x.many) (attribute schema m)) number ∙ ap (passes (λ x. x.many)) f ∙ one in
        ap (λ m. not (is_at m e u)) (sym number) ∙ ap (λ x. not (is_at t.attribute x u)) (sym entity)
        ∙ other-of (passes (λ x. x.many) (attribute schema t.attribute)) (not (is_at t.attribute t.entity u)) k single

    -- what is at an entity is the triple that is found there
    pub only : (t : Triple) (ts : List Triple) → each_pair (apart_at_entity schema) ts ≡ true → find (is_at n e) ts ≡ Some t → list_all (λ u. not (is_at n e u) || same_triple t u) ts ≡ true
    only t [] s h = refl
    only t (u ∷ us) s h =
        either (is_at n e u) (λ b. is_at n e u ≡ b → cond b (Some u) (find (is_at n e) us) ≡ Some t → ((not b || same_triple t u) && list_all (λ x. not (is_at n e x) || same_triple t x) us) ≡ true)
        (λ _ k m.
        both (same_triple t u) (list_all (λ x. not (is_at n e x) || same_triple t x) us)
        (subst (λ z. same_triple z u ≡ true) (some-is u t m) (same_triple-itself u))
        (all-weaken (apart_at_entity schema u) (λ x. not (is_at n e x) || same_triple t x) (λ x l. first-of (not (is_at n e x)) (same_triple t x) (apart-at u x k l)) us
        (left (list_all (apart_at_entity schema u) us) (each_pair (apart_at_entity schema) us) s)))
        (λ _ k m. only t us (right (list_all (apart_at_entity schema u) us) (each_pair (apart_at_entity schema) us) s) m) refl h

    module _ (ts : List Triple) (up : ascends triple_before ts ≡ true) (single : each_pair (apart_at_entity schema) ts ≡ true) (filled : list_all (λ t. not (null t.value)) ts ≡ true) where
      -- without what is at an entity is without the triple that is found there
      left-taken : (t : Triple) → find (is_at n e) ts ≡ Some t → filter elsewhere ts ≡ triple_taken t ts
      left-taken t h = kept-alike elsewhere (λ u. not (same_triple t u)) (λ u. not (is_at n e u) || same_triple t u) alike ts (only t ts single h)
        where
          alike : (u : Triple) → (not (is_at n e u) || same_triple t u) ≡ true → not (is_at n e u) ≡ not (same_triple t u)
          alike u k =
              either (same_triple t u) (λ b. (not (is_at n e u) || b) ≡ true → same_triple t u ≡ b → not (is_at n e u) ≡ not b)
              (λ _ m l. ap not (at-same t u (find-passes (is_at n e) t ts h) l)) (λ _ m l. either (is_at n e u) (λ b. (not b || false) ≡ true → not b ≡ true) (λ _ z. z) (λ _ z. z) m) k refl

      found-value : (t : Triple) → find (is_at n e) ts ≡ Some t → null t.value ≡ false
      found-value t h = not-true (null t.value) (find-member (is_at n e) t ts h (λ u. not (null u.value)) filled)

      found-entity : (t : Triple) → find (is_at n e) ts ≡ Some t → t.entity ≡ e
      found-entity t h = same_entity-is t.entity e (right (t.attribute == n) (same_entity t.entity e) (find-passes (is_at n e) t ts h))

      found-number : (t : Triple) → find (is_at n e) ts ≡ Some t → (t.attribute == n) ≡ true
      found-number t h = left (t.attribute == n) (same_entity t.entity e) (find-passes (is_at n e) t ts h)

      converse-left-by : (o : Option Triple) → find (is_at n e) ts ≡ o → converse n (filter elsewhere ts) ≡ pairs_without e (value_in o) (converse n ts)
      converse-left-by None h = ap (converse n) (kept-all elsewhere ts (found-none (is_at n e) ts h))
      converse-left-by (Some t) h =
          ap (converse n) (left-taken t h) ∙ converse-taken n t ts up (found-number t h)
          ∙ ap (λ x. filter (differ pair_before (record { value = t.value; entity = x })) (converse n ts)) (found-entity t h)
          ∙ sym (without-value e t.value (converse n ts) (found-value t h))

      pub converse-left : converse n (filter elsewhere ts) ≡ pairs_without e (value_at n e ts) (converse n ts)
      converse-left = converse-left-by (find (is_at n e) ts) refl

      -- the converse behind a single value that is set: without the pair of the old value, and with that of the new one
      pub converse-set : (v : Value) → converse n (value_set n e v ts) ≡ pairs_with e v (pairs_without e (value_at n e ts) (converse n ts))
      converse-set v = by v
        where
          more : (w : Value) → converse n (with_triple (triple_for w) (filter elsewhere ts)) ≡ placed pair_before (record { value = w; entity = e }) (pairs_without e (value_at n e ts) (converse n ts))
          more w =
              converse-with n (triple_for w) (filter elsewhere ts) (ascends-filter triple_before elsewhere ts up) (number-itself n) (fresh-elsewhere w ts)
              ∙ ap (placed pair_before (record { value = w; entity = e })) converse-left

          by : (w : Value) → converse n (value_set n e w ts) ≡ pairs_with e w (pairs_without e (value_at n e ts) (converse n ts))
          by Null = converse-left
          by (Int i) = more (Int i)
          by (Truth b) = more (Truth b)
          by (Text t) = more (Text t)
          by (Entity x) = more (Entity x)

      -- where the value is the old one all triples stay
      pub set-same : value_set n e (value_at n e ts) ts ≡ ts
      set-same = by (find (is_at n e) ts) refl
        where
          put : (w : Value) → null w ≡ false → value_set n e w ts ≡ with_triple (triple_for w) (filter elsewhere ts)
          put Null h = absurd (true≢false h)
          put (Int i) h = refl
          put (Truth b) h = refl
          put (Text t) h = refl
          put (Entity x) h = refl

          by : (o : Option Triple) → find (is_at n e) ts ≡ o → value_set n e (value_in o) ts ≡ ts
          by None h = kept-all elsewhere ts (found-none (is_at n e) ts h)
          by (Some t) h =
              let is : triple_for t.value ≡ t = λ i. record { attribute = sym (number-is t.attribute n (found-number t h)) i; entity = sym (found-entity t h) i; value = t.value } in
              put t.value (found-value t h) ∙ (λ i. with_triple (is i) (left-taken t h i)) ∙ taken-again t ts up (find-member (is_at n e) t ts h)
