-- Lists of numbers and of places: what holds of all, and that nothing is there twice.
use Rattle.std.proofs.Common.{◌≡◌, ℕ, ◌==◌, ◌||◌, Bool, true, false, cond, List, [], ◌∷◌, Some, IsTrue, refl, sym, ap, ◌∙◌, subst, inl, inr, arith, true≢false}
use Rattle.std.specs.Prelude.{◌⊎◌, not, nat_lt, filter, flat_map, map, slice_index_or}
use Rattle.std.specs.List.{All, list_all, list_any}
use Rattle.std.proofs.lemmas.Bool.{eqb-true}
use Rattle.std.proofs.lemmas.Bool.Decides.{nat_tests}
use Rattle.std.proofs.lemmas.List.Elements.{All-cons, All-head, All-nil, All-tail}
use Rattle.std.proofs.lemmas.List.Folds.{list_any-append}
use Rattle.st_values.specs.Arranged.{ascends, each_pair}
use Rattle.st_values.proofs.Tests.{both, either, first-of, left, not-false, never, one-of, right}
use Rattle.st_pages.specs.declared.places.Place.{Place}
use Rattle.st_pages.specs.Places.{place_of}
use Rattle.st_store.specs.Stores.{among}
use Rattle.st_store.proofs.Ordering.{all-append, filter-none, pairs-append}
use Rattle.st_index.proofs.Counted.{or-cases}

-- ---- numbers

pub itself : (n : ℕ) → (n == n) ≡ true
itself n = grind (arith, nat_tests)

pub is-number : (m n : ℕ) → m ≡ n → (m == n) ≡ true
is-number m n e = grind (arith, nat_tests)

above-not : (s m : ℕ) → nat_lt s m ≡ true → (m == s) ≡ false
above-not s m h = grind (arith, nat_tests)

not-above : (s m : ℕ) → (m == s) ≡ true → nat_lt s m ≡ true → ⊥
not-above s m e h = true≢false (sym e ∙ above-not s m h)

-- ---- what holds of all

module _ {X : Type 0} where
  pub each-true : (p : X → Bool) (xs : List X) → list_all p xs ≡ true → All (λ x. p x ≡ true) xs
  each-true p [] h = All-nil (λ x. p x ≡ true)
  each-true p (x ∷ xs) h = All-cons (λ x. p x ≡ true) x xs (left (p x) (list_all p xs) h) (each-true p xs (right (p x) (list_all p xs) h))

  -- what holds of those that are kept holds of each that passes
  pub all-kept : (P : X → Type 0) (t : X → Bool) (xs : List X) → All P (filter t xs) → All (λ x. t x ≡ true → P x) xs
  all-kept P t [] all = All-nil (λ x. t x ≡ true → P x)
  all-kept P t (x ∷ xs) all =
      either (t x) (λ b. All P (cond b (x ∷ filter t xs) (filter t xs)) → All (λ y. t y ≡ true → P y) (x ∷ xs))
      (λ e kept. All-cons (λ y. t y ≡ true → P y) x xs (λ _. All-head P x (filter t xs) kept) (all-kept P t xs (All-tail P x (filter t xs) kept)))
      (λ e kept. All-cons (λ y. t y ≡ true → P y) x xs (λ h. absurd (true≢false (sym h ∙ e))) (all-kept P t xs kept)) all

  -- those that are kept pass
  pub kept-pass : (t : X → Bool) (xs : List X) → All (λ x. t x ≡ true) (filter t xs)
  kept-pass t [] = All-nil (λ x. t x ≡ true)
  kept-pass t (x ∷ xs) =
      either (t x) (λ b. All (λ y. t y ≡ true) (cond b (x ∷ filter t xs) (filter t xs)))
      (λ e. All-cons (λ y. t y ≡ true) x (filter t xs) e (kept-pass t xs)) (λ e. kept-pass t xs)

  -- some element passes one test, so some passes another, or something else holds
  pub any-either : (t u : X → Bool) (R : Type 0) (xs : List X) → All (λ x. t x ≡ true → (u x ≡ true) ⊎ R) xs → list_any t xs ≡ true → (list_any u xs ≡ true) ⊎ R
  any-either t u R [] all h = absurd (true≢false (sym h))
  any-either t u R (x ∷ xs) all h = elim (or-cases (t x) (list_any t xs) h) [
    | inl e ↦ elim (All-head (λ x. t x ≡ true → (u x ≡ true) ⊎ R) x xs all e) [
      | inl k ↦ inl (first-of (u x) (list_any u xs) k)
      | inr r ↦ inr r
    ]
    | inr e ↦ elim (any-either t u R xs (All-tail (λ x. t x ≡ true → (u x ≡ true) ⊎ R) x xs all) e) [
      | inl k ↦ inl (one-of (u x) (list_any u xs) k)
      | inr r ↦ inr r
    ]
  ]

  pub any-filter : (t k : X → Bool) (xs : List X) → list_any t (filter k xs) ≡ true → list_any t xs ≡ true
  any-filter t k [] h = h
  any-filter t k (x ∷ xs) h =
      either (k x) (λ b. list_any t (cond b (x ∷ filter k xs) (filter k xs)) ≡ true → (t x || list_any t xs) ≡ true)
      (λ e g. elim (or-cases (t x) (list_any t (filter k xs)) g) [
        | inl f ↦ first-of (t x) (list_any t xs) f
        | inr f ↦ one-of (t x) (list_any t xs) (any-filter t k xs f)
      ])
      (λ e g. one-of (t x) (list_any t xs) (any-filter t k xs g)) h

  -- a number is among the numbers that are given by elements exactly where it is given by one
  pub among-flat : (f : X → List ℕ) (xs : List X) (n : ℕ) → among (flat_map f xs) n ≡ list_any (λ x. among (f x) n) xs
  among-flat f [] n = refl
  among-flat f (x ∷ xs) n = list_any-append (λ m. m == n) (f x) (flat_map f xs) ∙ ap (λ (b : Bool). among (f x) n || b) (among-flat f xs n)

-- ---- numbers in a list

pub all-among : (p : ℕ → Bool) (xs : List ℕ) → ((n : ℕ) → IsTrue (among xs n) → p n ≡ true) → list_all p xs ≡ true
all-among p [] h = refl
all-among p (x ∷ xs) h =
    both (p x) (list_all p xs) (h x (first-of (x == x) (among xs x) (itself x)))
    (all-among p xs (λ n m. h n (one-of (x == n) (among xs n) m)))

pub among-all : (p : ℕ → Bool) (xs : List ℕ) (n : ℕ) → list_all p xs ≡ true → IsTrue (among xs n) → p n ≡ true
among-all p [] n h m = absurd (true≢false (sym m))
among-all p (x ∷ xs) n h m = elim (or-cases (x == n) (among xs n) m) [
  | inl e ↦ ap p (sym (eqb-true x n e)) ∙ left (p x) (list_all p xs) h
  | inr k ↦ among-all p xs n (right (p x) (list_all p xs) h) k
]

-- a number of a list that passes a test
pub any-found : (t : ℕ → Bool) (xs : List ℕ) → list_any t xs ≡ true → (n : ℕ) × IsTrue (among xs n) × (t n ≡ true)
any-found t [] h = absurd (true≢false (sym h))
any-found t (x ∷ xs) h = elim (or-cases (t x) (list_any t xs) h) [
  | inl e ↦ (x, first-of (x == x) (among xs x) (itself x), e)
  | inr e ↦ let found = any-found t xs e in (found.0, one-of (x == found.0) (among xs found.0) found.1, found.2)
]

pub any-there : (t : ℕ → Bool) (xs : List ℕ) (n : ℕ) → IsTrue (among xs n) → t n ≡ true → list_any t xs ≡ true
any-there t [] n m h = absurd (true≢false (sym m))
any-there t (x ∷ xs) n m h = elim (or-cases (x == n) (among xs n) m) [
  | inl e ↦ first-of (t x) (list_any t xs) (ap t (eqb-true x n e) ∙ h)
  | inr k ↦ one-of (t x) (list_any t xs) (any-there t xs n k h)
]

-- two numbers differ
abbrev pub differ : ℕ → ℕ → Bool
differ m n = not (m == n)

-- numbers that pass one test differ from those that pass another one, where none passes both
pub apart : (p q : ℕ → Bool) → ((n : ℕ) → p n ≡ true → q n ≡ true → ⊥) → (xs ys : List ℕ) → list_all p xs ≡ true → list_all q ys ≡ true → list_all (λ x. list_all (differ x) ys) xs ≡ true
apart p q never-both [] ys h k = refl
apart p q never-both (x ∷ xs) ys h k =
    both (list_all (differ x) ys) (list_all (λ z. list_all (differ z) ys) xs) (one ys k) (apart p q never-both xs ys (right (p x) (list_all p xs) h) k)
  where
    one : (zs : List ℕ) → list_all q zs ≡ true → list_all (differ x) zs ≡ true
    one [] e = refl
    one (z ∷ zs) e =
        both (differ x z) (list_all (differ x) zs)
        (not-false (x == z) (never (x == z) (λ s. never-both x (left (p x) (list_all p xs) h) (ap q (eqb-true x z s) ∙ left (q z) (list_all q zs) e))))
        (one zs (right (q z) (list_all q zs) e))

-- ---- numbers by places, which bear the places' stores

abbrev Bear : (ℕ → ℕ) → (Place → List ℕ) → Place → Type 0
Bear label f q = (each_pair differ (f q) ≡ true) × (list_all (λ n. label n == q.store) (f q) ≡ true)

flat-above : (label : ℕ → ℕ) (f : Place → List ℕ) (s : ℕ) (places : List Place) → list_all (λ q. nat_lt s q.store) places ≡ true → All (Bear label f) places → list_all (λ n. nat_lt s (label n)) (flat_map f places) ≡ true
flat-above label f s [] above all = refl
flat-above label f s (q ∷ qs) above all =
    all-append (λ n. nat_lt s (label n)) (f q) (flat_map f qs)
    (low (f q) (All-head (Bear label f) q qs all).1)
    (flat-above label f s qs (right (nat_lt s q.store) (list_all (λ p. nat_lt s p.store) qs) above) (All-tail (Bear label f) q qs all))
  where
    low : (xs : List ℕ) → list_all (λ n. label n == q.store) xs ≡ true → list_all (λ n. nat_lt s (label n)) xs ≡ true
    low [] h = refl
    low (x ∷ xs) h =
        both (nat_lt s (label x)) (list_all (λ n. nat_lt s (label n)) xs)
        (ap (nat_lt s) (eqb-true (label x) q.store (left (label x == q.store) (list_all (λ n. label n == q.store) xs) h)) ∙ left (nat_lt s q.store) (list_all (λ p. nat_lt s p.store) qs) above)
        (low xs (right (label x == q.store) (list_all (λ n. label n == q.store) xs) h))

pub flat-once : (label : ℕ → ℕ) (f : Place → List ℕ) (places : List Place) → ascends (λ a b. nat_lt a.store b.store) places ≡ true → All (Bear label f) places → each_pair differ (flat_map f places) ≡ true
flat-once label f [] ascend all = refl
flat-once label f (q ∷ qs) ascend all =
    let here = All-head (Bear label f) q qs all in
    let rest = All-tail (Bear label f) q qs all in
    let above = left (list_all (λ b. nat_lt q.store b.store) qs) (ascends (λ a b. nat_lt a.store b.store) qs) ascend in
    pairs-append differ (f q) (flat_map f qs) here.0
    (flat-once label f qs (right (list_all (λ b. nat_lt q.store b.store) qs) (ascends (λ a b. nat_lt a.store b.store) qs) ascend) rest)
    (apart (λ n. label n == q.store) (λ n. nat_lt q.store (label n)) (λ n e k. not-above q.store (label n) e k) (f q) (flat_map f qs) here.1 (flat-above label f q.store qs above rest))

-- ---- places in the order of their stores

-- the stores of places ascend, so the places do
pub ascends-map : (places : List Place) → ascends nat_lt (map (λ p. p.store) places) ≡ true → ascends (λ a b. nat_lt a.store b.store) places ≡ true
ascends-map [] h = refl
ascends-map (q ∷ qs) h =
    both (list_all (λ b. nat_lt q.store b.store) qs) (ascends (λ a b. nat_lt a.store b.store) qs)
    (all-map qs (left (list_all (nat_lt q.store) (map (λ p. p.store) qs)) (ascends nat_lt (map (λ p. p.store) qs)) h))
    (ascends-map qs (right (list_all (nat_lt q.store) (map (λ p. p.store) qs)) (ascends nat_lt (map (λ p. p.store) qs)) h))
  where
    all-map : (ps : List Place) → list_all (nat_lt q.store) (map (λ p. p.store) ps) ≡ true → list_all (λ b. nat_lt q.store b.store) ps ≡ true
    all-map [] e = refl
    all-map (p ∷ ps) e =
        both (nat_lt q.store p.store) (list_all (λ b. nat_lt q.store b.store) ps) (left (nat_lt q.store p.store) (list_all (nat_lt q.store) (map (λ p. p.store) ps)) e)
        (all-map ps (right (nat_lt q.store p.store) (list_all (nat_lt q.store) (map (λ p. p.store) ps)) e))

-- of the places of a store there is one, that which is found
pub one-kept : (s : ℕ) (place : Place) (places : List Place) → ascends (λ a b. nat_lt a.store b.store) places ≡ true → place_of s places ≡ Some place → filter (λ q. q.store == s) places ≡ place ∷ []
one-kept s place [] ascend e = absurd (cc)
one-kept s place (q ∷ qs) ascend e =
    let above = left (list_all (λ b. nat_lt q.store b.store) qs) (ascends (λ a b. nat_lt a.store b.store) qs) ascend in
    let rest = right (list_all (λ b. nat_lt q.store b.store) qs) (ascends (λ a b. nat_lt a.store b.store) qs) ascend in
    either (q.store == s) (λ b. cond b (Some q) (place_of s qs) ≡ Some place → cond b (q ∷ filter (λ p. p.store == s) qs) (filter (λ p. p.store == s) qs) ≡ place ∷ [])
    (λ h f. ap (λ (p : Place). p ∷ filter (λ p. p.store == s) qs) (some-is q place f)
    ∙ ap (λ (ps : List Place). place ∷ ps) (filter-none (λ p. p.store == s) (λ b. nat_lt q.store b.store)
    (λ p k. above-not s p.store (ap (λ n. nat_lt n p.store) (sym (eqb-true q.store s h)) ∙ k)) qs above))
    (λ h f. one-kept s place qs rest f) e
  where
    some-is : (x y : Place) → Some x ≡ Some y → x ≡ y
    some-is x y e = cc

-- what holds of all places holds of the one that is found
pub found-at : (P : Place → Type 0) (s : ℕ) (place : Place) (places : List Place) → place_of s places ≡ Some place → All P places → P place
found-at P s place [] e all = absurd (cc)
found-at P s place (q ∷ qs) e all =
    either (q.store == s) (λ b. cond b (Some q) (place_of s qs) ≡ Some place → P place)
    (λ h f. subst P (some-is q place f) (All-head P q qs all)) (λ h f. found-at P s place qs f (All-tail P q qs all)) e
  where
    some-is : (x y : Place) → Some x ≡ Some y → x ≡ y
    some-is x y e = cc

-- lists that are given for each place, by the places' stores
module _ (R : Place → List ℕ → Type 0) where
  pub choose : (places : List Place) → All (λ q. (now : List ℕ) × R q now) places → ℕ → List ℕ
  choose [] all s = []
  choose (q ∷ qs) all s = cond (q.store == s) (All-head (λ q. (now : List ℕ) × R q now) q qs all).0 (choose qs (All-tail (λ q. (now : List ℕ) × R q now) q qs all) s)

  pub chosen : (places : List Place) (all : All (λ q. (now : List ℕ) × R q now) places) → ascends (λ a b. nat_lt a.store b.store) places ≡ true → All (λ q. R q (choose places all q.store)) places
  unfolding choose
  chosen [] all ascend = All-nil (λ q. R q (choose [] all q.store))
  chosen (q ∷ qs) all ascend =
      let P : Place → Type 0 = λ q. (now : List ℕ) × R q now in
      let here = All-head P q qs all in
      let behind = All-tail P q qs all in
      let above = each-true (λ b. nat_lt q.store b.store) qs (left (list_all (λ b. nat_lt q.store b.store) qs) (ascends (λ a b. nat_lt a.store b.store) qs) ascend) in
      let rest = chosen qs behind (right (list_all (λ b. nat_lt q.store b.store) qs) (ascends (λ a b. nat_lt a.store b.store) qs) ascend) in
      All-cons (λ p. R p (choose (q ∷ qs) all p.store)) q qs
      (subst (λ (b : Bool). R q (cond b here.0 (choose qs behind q.store))) (sym (itself q.store)) here.1)
      (λ k d w.
      let p : Place = slice_index_or qs k d in
      subst (λ (b : Bool). R p (cond b here.0 (choose qs behind p.store))) (sym (never (q.store == p.store) (λ e. not-above q.store p.store (is-number p.store q.store (sym (eqb-true q.store p.store e))) (above k d w)))) (rest k d w))
