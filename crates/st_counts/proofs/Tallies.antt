-- How many elements of a list pass a test.
use Rattle.std.proofs.Common.{◌≡◌, ℕ, ◌+◌, ◌≤◌, Bool, true, false, cond, List, [], ◌∷◌, ◌++◌, length, refl, sym, ap, subst, ◌∙◌, arith, true≢false, length-append}
use Rattle.std.specs.Prelude.{not, ◌&&◌, ◌||◌, map, filter, flat_map, nat_le}
use Rattle.std.specs.List.{list_all, list_any, sum_by}
use Rattle.std.proofs.lemmas.List.Sums.{sum_by-cons}
use Rattle.std.proofs.lemmas.List.Elements.{filter-append}
use Rattle.std.proofs.lemmas.List.Folds.{list_all-append}
use Rattle.st_values.proofs.Tests.{all-not, all-weaken, both, either, left, never, not-true, other-of, right}
use Rattle.st_state.proofs.Members.{Member}

module _ {X : Type 0} where
  -- how many elements pass
  abbrev pub tally : (X → Bool) → List X → ℕ
  tally p xs = length (filter p xs)

  pub tally-append : (p : X → Bool) (xs ys : List X) → tally p (xs ++ ys) ≡ tally p xs + tally p ys
  tally-append p xs ys = ap length (filter-append p xs ys) ∙ length-append (filter p xs) (filter p ys)

  -- a weaker test passes no fewer
  pub tally-weaken : (p q : X → Bool) → ((x : X) → p x ≡ true → q x ≡ true) → (xs : List X) → tally p xs ≤ tally q xs
  tally-weaken p q h [] = omega arith
  tally-weaken p q h (x ∷ xs) =
      let rest = tally-weaken p q h xs in
      either (p x) (λ b. length (cond b (x ∷ filter p xs) (filter p xs)) ≤ length (cond (q x) (x ∷ filter q xs) (filter q xs)))
      (λ k. subst (λ b. length (x ∷ filter p xs) ≤ length (cond b (x ∷ filter q xs) (filter q xs))) (sym (h x k)) (omega (arith, rest)))
      (λ _. either (q x) (λ b. length (filter p xs) ≤ length (cond b (x ∷ filter q xs) (filter q xs))) (λ _. omega (arith, rest)) (λ _. rest))

  -- where each that passes one test passes another one, no fewer pass that
  pub tally-within : (p q : X → Bool) (xs : List X) → list_all (λ x. not (p x) || q x) xs ≡ true → tally p xs ≤ tally q xs
  tally-within p q [] h = omega arith
  tally-within p q (x ∷ xs) h =
      let rest = tally-within p q xs (right (not (p x) || q x) (list_all (λ y. not (p y) || q y) xs) h) in
      let here = left (not (p x) || q x) (list_all (λ y. not (p y) || q y) xs) h in
      either (p x) (λ b. p x ≡ b → length (cond b (x ∷ filter p xs) (filter p xs)) ≤ length (cond (q x) (x ∷ filter q xs) (filter q xs)))
      (λ _ k.
      let too : q x ≡ true = other-of (not (p x)) (q x) here (ap not k) in
      subst (λ b. length (x ∷ filter p xs) ≤ length (cond b (x ∷ filter q xs) (filter q xs))) (sym too) (omega (arith, rest)))
      (λ _ _. either (q x) (λ b. length (filter p xs) ≤ length (cond b (x ∷ filter q xs) (filter q xs))) (λ _. omega (arith, rest)) (λ _. rest)) refl

  -- of elements that are kept as many as of those that pass both tests
  pub tally-kept : (p q : X → Bool) (xs : List X) → tally q (filter p xs) ≡ tally (λ x. p x && q x) xs
  tally-kept p q [] = refl
  tally-kept p q (x ∷ xs) =
      either (p x) (λ b. length (filter q (cond b (x ∷ filter p xs) (filter p xs))) ≡ length (cond (b && q x) (x ∷ filter (λ y. p y && q y) xs) (filter (λ y. p y && q y) xs)))
      (λ _.
      let rest = tally-kept p q xs in
      either (q x) (λ b. length (cond b (x ∷ filter q (filter p xs)) (filter q (filter p xs))) ≡ length (cond b (x ∷ filter (λ y. p y && q y) xs) (filter (λ y. p y && q y) xs)))
      (λ _. omega (arith, rest)) (λ _. rest)) (λ _. tally-kept p q xs)

  -- where some element passes, at least one does
  pub tally-any : (p : X → Bool) (xs : List X) → list_any p xs ≡ true → 1 ≤ tally p xs
  tally-any p [] h = absurd (true≢false (sym h))
  tally-any p (x ∷ xs) h =
      either (p x) (λ b. (b || list_any p xs) ≡ true → 1 ≤ length (cond b (x ∷ filter p xs) (filter p xs)))
      (λ _ _. omega arith) (λ _ m. tally-any p xs m) h

  -- none passes where all fail
  pub any-none : (p : X → Bool) (xs : List X) → list_all (λ x. not (p x)) xs ≡ true → list_any p xs ≡ false
  any-none p xs h = not-true (list_any p xs) (sym (all-not p xs) ∙ h)

  pub none-any : (p : X → Bool) (xs : List X) → list_any p xs ≡ false → list_all (λ x. not (p x)) xs ≡ true
  none-any p xs h = all-not p xs ∙ ap not h

  -- a stronger test passes none where a weaker one passes none
  pub none-stronger : (p q : X → Bool) → ((x : X) → q x ≡ true → p x ≡ true) → (xs : List X) → list_any p xs ≡ false → list_any q xs ≡ false
  none-stronger p q h xs k =
      any-none q xs (all-weaken (λ x. not (p x)) (λ x. not (q x)) (λ x m. ap not (never (q x) (λ n. true≢false (sym (h x n) ∙ not-true (p x) m)))) xs (none-any p xs k))

  -- an element that passes
  pub any-member : (p : X → Bool) (x : X) (xs : List X) → Member x xs → p x ≡ true → list_any p xs ≡ true
  any-member p x xs m h =
      either (list_any p xs) (λ b. list_any p xs ≡ b → b ≡ true) (λ _ _. refl)
      (λ _ k. absurd (true≢false (sym h ∙ not-true (p x) (m (λ y. not (p y)) (none-any p xs k))))) refl

  pub tally-member : (p : X → Bool) (x : X) (xs : List X) → Member x xs → p x ≡ true → 1 ≤ tally p xs
  tally-member p x xs m h = tally-any p xs (any-member p x xs m h)

  -- an element fails that has a test of which no element passes
  pub member-none : (p : X → Bool) (x : X) (xs : List X) → Member x xs → list_any p xs ≡ false → p x ≡ false
  member-none p x xs m h = not-true (p x) (m (λ y. not (p y)) (none-any p xs h))

most-is : (m n : ℕ) → nat_le m n ≡ true → m ≤ n
most-is m n h = grind (arith, h)

is-most : (m n : ℕ) → m ≤ n → nat_le m n ≡ true
is-most m n h = grind (arith, h)

module _ {X Y : Type 0} where
  -- of images as many as of elements whose image passes
  pub tally-map : (p : Y → Bool) (f : X → Y) (xs : List X) → tally p (map f xs) ≡ tally (λ x. p (f x)) xs
  tally-map p f [] = refl
  tally-map p f (x ∷ xs) =
      either (p (f x)) (λ b. length (cond b (f x ∷ filter p (map f xs)) (filter p (map f xs))) ≡ length (cond b (x ∷ filter (λ y. p (f y)) xs) (filter (λ y. p (f y)) xs)))
      (λ _. let rest = tally-map p f xs in omega (arith, rest)) (λ _. tally-map p f xs)

  -- what all elements of each part have, all have
  pub all-parts : (p : Y → Bool) (f : X → List Y) (xs : List X) → list_all (λ x. list_all p (f x)) xs ≡ true → list_all p (flat_map f xs) ≡ true
  all-parts p f [] h = refl
  all-parts p f (x ∷ xs) h =
      list_all-append p (f x) (flat_map f xs)
      ∙ both (list_all p (f x)) (list_all p (flat_map f xs)) (left (list_all p (f x)) (list_all (λ y. list_all p (f y)) xs) h)
      (all-parts p f xs (right (list_all p (f x)) (list_all (λ y. list_all p (f y)) xs) h))

  parts-most : (p : Y → Bool) (f : X → List Y) (xs : List X) → list_all (λ x. nat_le (tally p (f x)) (tally p (flat_map f xs))) xs ≡ true
  parts-most p f [] = refl
  parts-most p f (x ∷ xs) =
      let sum = tally-append p (f x) (flat_map f xs) in
      both (nat_le (tally p (f x)) (tally p (f x ++ flat_map f xs))) (list_all (λ y. nat_le (tally p (f y)) (tally p (f x ++ flat_map f xs))) xs)
      (is-most (tally p (f x)) (tally p (f x ++ flat_map f xs)) (omega (arith, sum)))
      (all-weaken (λ y. nat_le (tally p (f y)) (tally p (flat_map f xs))) (λ y. nat_le (tally p (f y)) (tally p (f x ++ flat_map f xs)))
      (λ y m. let less = most-is (tally p (f y)) (tally p (flat_map f xs)) m in is-most (tally p (f y)) (tally p (f x ++ flat_map f xs)) (omega (arith, sum, less))) xs
      (parts-most p f xs))

  -- the part of one element has no more than all parts
  pub tally-part : (p : Y → Bool) (f : X → List Y) (x : X) (xs : List X) → Member x xs → tally p (f x) ≤ tally p (flat_map f xs)
  tally-part p f x xs m = most-is (tally p (f x)) (tally p (flat_map f xs)) (m (λ y. nat_le (tally p (f y)) (tally p (flat_map f xs))) (parts-most p f xs))

  -- all parts have at least the sum of what each has at least
  pub tally-sum : (p : Y → Bool) (f : X → List Y) (least : X → ℕ) (xs : List X) → ((x : X) → Member x xs → least x ≤ tally p (f x)) → sum_by least xs ≤ tally p (flat_map f xs)
  tally-sum p f least [] h = omega arith
  tally-sum p f least (x ∷ xs) h =
      let here = h x (λ q a. left (q x) (list_all q xs) a) in
      let rest = tally-sum p f least xs (λ y m. h y (λ q a. m q (right (q x) (list_all q xs) a))) in
      let one = sum_by-cons least x xs in
      let two = tally-append p (f x) (flat_map f xs) in
      sums (least x) (tally p (f x)) (sum_by least xs) (tally p (flat_map f xs)) (sum_by least (x ∷ xs)) (tally p (f x ++ flat_map f xs)) here rest one two
    where
      sums : (a b c d e g : ℕ) → a ≤ b → c ≤ d → e ≡ a + c → g ≡ b + d → e ≤ g
      sums a b c d e g h i j k = omega (arith, h, i, j, k)
