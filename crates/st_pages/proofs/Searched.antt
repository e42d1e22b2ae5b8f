-- What a search by halves finds in a list that ascends by a number.
use Rattle.std.proofs.Common.{◌≡◌, ℕ, zero, suc, ◌<◌, ◌≤◌, Bool, true, false, cond, List, [], ◌∷◌, ◌++◌, length, get_or, Some, None, refl, sym, ap, ◌∙◌, arith, true≢false}
use Rattle.std.specs.Prelude.{◌==◌, ◌&&◌, not, nat_lt, find}
use Rattle.std.specs.List.{list_all}
use Rattle.std.specs.List.Sorted.{IsPartitionedBy, IsPartitionPoint}
use Rattle.std.proofs.lemmas.List.Folds.{list_all-append}
use Rattle.st_values.specs.Arranged.{ascends}
use Rattle.st_values.proofs.Tests.{both, left, right, either, all-weaken}
use Rattle.st_pages.specs.Searched.{IsBelowUpTo}

-- ---- numbers

pub lower-chain : (x y z : ℕ) → nat_lt x y ≡ true → nat_lt y z ≡ true → nat_lt x z ≡ true
lower-chain x y z h k = grind (arith, h, k)

pub lower-differs : (x y : ℕ) → nat_lt x y ≡ true → (x == y) ≡ false
lower-differs x y h = grind (arith, h)

pub higher-differs : (x y : ℕ) → nat_lt y x ≡ true → (x == y) ≡ false
higher-differs x y h = grind (arith, h)

pub number-is : (x y : ℕ) → (x == y) ≡ true → x ≡ y
number-is x y h = grind (arith, h)

pub is-number : (x y : ℕ) → x ≡ y → (x == y) ≡ true
is-number x y h = grind (arith, h)

pub differs : (x y : ℕ) → (x ≡ y → ⊥) → (x == y) ≡ false
differs x y h = either (x == y) (λ b. b ≡ false) (λ k. absurd (h (number-is x y k))) (λ _. refl)

pub not-lower : (x y : ℕ) → nat_lt x y ≡ false → (x == y) ≡ false → nat_lt y x ≡ true
not-lower x y h k = grind (arith, h, k)

pub not-itself : (x : ℕ) → nat_lt x x ≡ false
not-itself x = grind arith

-- ---- lists

module _ {X : Type 0} where
  pub all-at : (p : X → Bool) (xs : List X) (j : ℕ) (d : X) → list_all p xs ≡ true → j < length xs → p (get_or xs j d) ≡ true
  all-at p [] j d h lt = absurd (omega arith)
  all-at p (x ∷ xs) zero d h lt = left (p x) (list_all p xs) h
  all-at p (x ∷ xs) (suc j) d h lt = all-at p xs j d (right (p x) (list_all p xs) h) (omega arith)

  pub find-past : (p : X → Bool) (x : X) (xs : List X) → p x ≡ false → find p (x ∷ xs) ≡ find p xs
  find-past p x xs h = ap (λ b. cond b (Some x) (find p xs)) h

  pub find-here : (p : X → Bool) (x : X) (xs : List X) → p x ≡ true → find p (x ∷ xs) ≡ Some x
  find-here p x xs h = ap (λ b. cond b (Some x) (find p xs)) h

  pub find-none : (p : X → Bool) (xs : List X) → list_all (λ x. not (p x)) xs ≡ true → find p xs ≡ None
  find-none p [] h = refl
  find-none p (x ∷ xs) h =
      either (p x) (λ b. cond b (Some x) (find p xs) ≡ None) (λ k. absurd (true≢false (sym (left (not (p x)) (list_all (λ y. not (p y)) xs) h) ∙ ap not k)))
      (λ _. find-none p xs (right (not (p x)) (list_all (λ y. not (p y)) xs) h))

module _ {X : Type 0} (number : X → ℕ) where
  abbrev pub lower : X → X → Bool
  lower a b = nat_lt (number a) (number b)

  -- none behind the first has its number, or a lower one
  pub none-behind : (x : X) (xs : List X) (n : ℕ) → ascends lower (x ∷ xs) ≡ true → (nat_lt n (number x) ≡ true) → find (λ y. number y == n) xs ≡ None
  none-behind x xs n a h =
      find-none (λ y. number y == n) xs
      (all-weaken (lower x) (λ y. not (number y == n)) (λ y k. ap not (higher-differs (number y) n (lower-chain n (number x) (number y) h k))) xs (left (list_all (lower x) xs) (ascends lower xs) a))

  pub none-again : (x : X) (xs : List X) → ascends lower (x ∷ xs) ≡ true → find (λ y. number y == number x) xs ≡ None
  none-again x xs a =
      find-none (λ y. number y == number x) xs
      (all-weaken (lower x) (λ y. not (number y == number x)) (λ y k. ap not (higher-differs (number y) (number x) k)) xs (left (list_all (lower x) xs) (ascends lower xs) a))

  -- one more behind all that are lower
  pub ascends-push : (xs : List X) (y : X) → ascends lower xs ≡ true → list_all (λ x. nat_lt (number x) (number y)) xs ≡ true → ascends lower (xs ++ y ∷ []) ≡ true
  ascends-push [] y a h = refl
  ascends-push (x ∷ xs) y a h =
      both (list_all (lower x) (xs ++ y ∷ [])) (ascends lower (xs ++ y ∷ []))
      (list_all-append (lower x) xs (y ∷ [])
      ∙ both (list_all (lower x) xs) (lower x y && true) (left (list_all (lower x) xs) (ascends lower xs) a)
      (both (lower x y) true (left (lower x y) (list_all (λ z. nat_lt (number z) (number y)) xs) h) refl))
      (ascends-push xs y (right (list_all (lower x) xs) (ascends lower xs) a) (right (lower x y) (list_all (λ z. nat_lt (number z) (number y)) xs) h))

module _ {X : Type 0} (number : X → ℕ) (n : ℕ) where
  abbrev below : X → Bool
  below x = nat_lt (number x) n

  abbrev is : X → Bool
  is x = number x == n

  pub parted : (xs : List X) → ascends (lower number) xs ≡ true → IsPartitionedBy below xs
  parted [] a i j d le lt e = absurd (omega arith)
  parted (x ∷ xs) a zero zero d le lt e = e
  parted (x ∷ xs) a zero (suc j) d le lt e =
      lower-chain (number x) (number (get_or xs j d)) n (all-at (lower number x) xs j d (left (list_all (lower number x) xs) (ascends (lower number) xs) a) (omega arith)) e
  parted (x ∷ xs) a (suc i) zero d le lt e = absurd (omega arith)
  parted (x ∷ xs) a (suc i) (suc j) d le lt e = parted xs (right (list_all (lower number x) xs) (ascends (lower number) xs) a) i j d (omega arith) (omega arith) e

  pub below-up-to : (xs : List X) (place : ℕ) → place ≤ length xs → IsPartitionPoint (λ y. below y ≡ true) (λ y. below y ≡ false) xs place → IsBelowUpTo number n xs place
  below-up-to [] place h e = omega arith
  below-up-to (x ∷ xs) zero h e = e.1 0 x (omega arith) (omega arith)
  below-up-to (x ∷ xs) (suc place) h e =
      (e.0 0 x (omega arith) (omega arith), below-up-to xs place (omega arith) (λ k d low high. e.0 (suc k) d (omega arith) (omega arith), λ k d low high. e.1 (suc k) d (omega arith) (omega arith)))

  pub found : (xs : List X) (place : ℕ) (d : X) → IsBelowUpTo number n xs place → place < length xs → number (get_or xs place d) ≡ n → find is xs ≡ Some (get_or xs place d)
  found [] place d f lt e = absurd (omega arith)
  found (x ∷ xs) zero d f lt e = find-here is x xs (is-number (number x) n e)
  found (x ∷ xs) (suc place) d f lt e = find-past is x xs (lower-differs (number x) n f.0) ∙ found xs place d f.1 (omega arith) e

  pub none-to-end : (xs : List X) (place : ℕ) → IsBelowUpTo number n xs place → place ≡ length xs → find is xs ≡ None
  none-to-end [] place f e = refl
  none-to-end (x ∷ xs) zero f e = absurd (omega arith)
  none-to-end (x ∷ xs) (suc place) f e = find-past is x xs (lower-differs (number x) n f.0) ∙ none-to-end xs place f.1 (omega arith)

  pub none-at : (xs : List X) (place : ℕ) (d : X) → ascends (lower number) xs ≡ true → IsBelowUpTo number n xs place → place < length xs → (number (get_or xs place d) ≡ n → ⊥) → find is xs ≡ None
  none-at [] place d a f lt e = absurd (omega arith)
  none-at (x ∷ xs) zero d a f lt e =
      find-past is x xs (differs (number x) n e) ∙ none-behind number x xs n a (not-lower (number x) n f (differs (number x) n e))
  none-at (x ∷ xs) (suc place) d a f lt e =
      find-past is x xs (lower-differs (number x) n f.0) ∙ none-at xs place d (right (list_all (lower number x) xs) (ascends (lower number) xs) a) f.1 (omega arith) e
