-- What is kept and what is found of lists in order, where one element more was placed.
use Rattle.std.proofs.Common.{◌≡◌, Bool, true, false, cond, List, [], ◌∷◌, Option, Some, None, refl, sym, ap, subst, ◌∙◌, true≢false}
use Rattle.std.specs.Prelude.{not, ◌&&◌, filter, find}
use Rattle.std.specs.List.{All, list_all, list_any}
use Rattle.std.proofs.lemmas.List.Elements.{All-head, All-tail}
use Rattle.st_values.specs.Arranged.{ascends, placed}
use Rattle.st_values.proofs.Placing.{IsStrict}
use Rattle.st_values.proofs.Tests.{all-filter, all-weaken, both, either, left, never, not-true, other-of, placed-behind, placed-here, right}

and-turned : (a b : Bool) → (a && b) ≡ (b && a)
and-turned true true = refl
and-turned true false = refl
and-turned false true = refl
and-turned false false = refl

module _ {X : Type 0} where
  pub filter-filter : (p q : X → Bool) (xs : List X) → filter q (filter p xs) ≡ filter (λ x. p x && q x) xs
  filter-filter p q [] = refl
  filter-filter p q (x ∷ xs) =
      either (p x) (λ c. filter q (cond c (x ∷ filter p xs) (filter p xs)) ≡ cond (c && q x) (x ∷ filter (λ y. p y && q y) xs) (filter (λ y. p y && q y) xs))
      (λ _. ap (λ (l : List X). cond (q x) (x ∷ l) l) (filter-filter p q xs)) (λ _. filter-filter p q xs)

  -- two tests that agree keep the same elements
  pub filter-agree : (p q : X → Bool) (xs : List X) → ((x : X) → p x ≡ q x) → filter p xs ≡ filter q xs
  filter-agree p q [] h = refl
  filter-agree p q (x ∷ xs) h = λ i. cond (h x i) (x ∷ filter-agree p q xs h i) (filter-agree p q xs h i)

  -- of two tests either may come first
  pub filter-swap : (p q : X → Bool) (xs : List X) → filter q (filter p xs) ≡ filter p (filter q xs)
  filter-swap p q xs = filter-filter p q xs ∙ filter-agree (λ x. p x && q x) (λ x. q x && p x) xs (λ x. and-turned (p x) (q x)) ∙ sym (filter-filter q p xs)

  -- of what is kept all is kept by a test that follows
  pub filter-within : (p q : X → Bool) (xs : List X) → ((x : X) → p x ≡ true → q x ≡ true) → filter q (filter p xs) ≡ filter p xs
  filter-within p q xs h = filter-filter p q xs ∙ filter-agree (λ x. p x && q x) p xs (λ x. either (p x) (λ b. p x ≡ b → (b && q x) ≡ b) (λ k _. h x k) (λ _ _. refl) refl)

  -- what is kept again of elements that are kept by a test that follows
  pub filter-first : (p q : X → Bool) (xs : List X) → ((x : X) → p x ≡ true → q x ≡ true) → filter p (filter q xs) ≡ filter p xs
  filter-first p q xs h = filter-swap q p xs ∙ filter-within p q xs h

  -- a test of all elements that those pass which aren't kept
  pub all-of-kept : (p q : X → Bool) (xs : List X) → ((x : X) → q x ≡ false → p x ≡ true) → list_all p (filter q xs) ≡ list_all p xs
  all-of-kept p q [] h = refl
  all-of-kept p q (x ∷ xs) h =
      either (q x) (λ c. q x ≡ c → list_all p (cond c (x ∷ filter q xs) (filter q xs)) ≡ (p x && list_all p xs))
      (λ _ _. ap (λ (b : Bool). p x && b) (all-of-kept p q xs h)) (λ _ k. all-of-kept p q xs h ∙ ap (λ (b : Bool). b && list_all p xs) (sym (h x k))) refl

  pub all-agree : (p q : X → Bool) (xs : List X) → ((x : X) → p x ≡ q x) → list_all p xs ≡ list_all q xs
  all-agree p q [] h = refl
  all-agree p q (x ∷ xs) h = λ i. h x i && all-agree p q xs h i

  -- what is found is found among those that are kept
  pub find-kept : (p q : X → Bool) (xs : List X) → find q (filter p xs) ≡ find (λ x. p x && q x) xs
  find-kept p q [] = refl
  find-kept p q (x ∷ xs) =
      either (p x) (λ c. find q (cond c (x ∷ filter p xs) (filter p xs)) ≡ cond (c && q x) (Some x) (find (λ y. p y && q y) xs))
      (λ _. ap (λ (o : Option X). cond (q x) (Some x) o) (find-kept p q xs)) (λ _. find-kept p q xs)

  pub find-agree : (p q : X → Bool) (xs : List X) → ((x : X) → p x ≡ q x) → find p xs ≡ find q xs
  find-agree p q [] h = refl
  find-agree p q (x ∷ xs) h = λ i. cond (h x i) (Some x) (find-agree p q xs h i)

  -- a test that each passes, said of all
  pub passed-all : (t : X → Bool) (xs : List X) → All (λ x. t x ≡ true) xs → list_all t xs ≡ true
  passed-all t [] h = refl
  passed-all t (x ∷ xs) h = both (t x) (list_all t xs) (All-head (λ y. t y ≡ true) x xs h) (passed-all t xs (All-tail (λ y. t y ≡ true) x xs h))

  -- one that is found passes, and has what all have
  pub found-has : (P : X → Type 0) (t : X → Bool) (xs : List X) → All P xs → (x : X) → find t xs ≡ Some x → P x × (t x ≡ true)
  found-has P t [] all x f = absurd (some-none x (sym f))
    where
      some-none : (y : X) → Some y ≡ None → ⊥
      some-none y e = cc
  found-has P t (x ∷ xs) all y f =
      either (t x) (λ b. t x ≡ b → cond b (Some x) (find t xs) ≡ Some y → P y × (t y ≡ true))
      (λ _ k g. let same : x ≡ y = cc in (subst P same (All-head P x xs all), subst (λ z. t z ≡ true) same k))
      (λ _ _ g. found-has P t xs (All-tail P x xs all) y g) refl f

  -- an element that a test passes, with what holds of all
  pub some-passes : (P : X → Type 0) (t : X → Bool) (xs : List X) → All P xs → list_any t xs ≡ true → (x : X) × P x × (t x ≡ true)
  some-passes P t [] all h = absurd (true≢false (sym h))
  some-passes P t (x ∷ xs) all h =
      either (t x) (λ _. (y : X) × P y × (t y ≡ true)) (λ k. (x, All-head P x xs all, k)) (λ k. some-passes P t xs (All-tail P x xs all) (other-of (t x) (list_any t xs) h k))

-- ---- one element more in its place

module _ {X : Type 0} (before : X → X → Bool) where
  -- one that a test doesn't pass changes nothing of what it finds
  pub find-placed-other : (q : X → Bool) (x : X) (xs : List X) → q x ≡ false → find q (placed before x xs) ≡ find q xs
  find-placed-other q x [] h = ap (λ b. cond b (Some x) None) h
  find-placed-other q x (y ∷ ys) h =
      either (before y x) (λ _. find q (placed before x (y ∷ ys)) ≡ find q (y ∷ ys))
      (λ k. ap (find q) (placed-behind before x y ys k) ∙ ap (λ (o : Option X). cond (q y) (Some y) o) (find-placed-other q x ys h))
      (λ k. ap (find q) (placed-here before x y ys k) ∙ ap (λ b. cond b (Some x) (find q (y ∷ ys))) h)

  -- the only one that passes is found
  pub find-placed-only : (q : X → Bool) (x : X) (xs : List X) → q x ≡ true → list_all (λ y. not (q y)) xs ≡ true → find q (placed before x xs) ≡ Some x
  find-placed-only q x [] h a = ap (λ b. cond b (Some x) None) h
  find-placed-only q x (y ∷ ys) h a =
      either (before y x) (λ _. find q (placed before x (y ∷ ys)) ≡ Some x)
      (λ k. ap (find q) (placed-behind before x y ys k)
      ∙ ap (λ b. cond b (Some y) (find q (placed before x ys))) (not-true (q y) (left (not (q y)) (list_all (λ z. not (q z)) ys) a))
      ∙ find-placed-only q x ys h (right (not (q y)) (list_all (λ z. not (q z)) ys) a))
      (λ k. ap (find q) (placed-here before x y ys k) ∙ ap (λ b. cond b (Some x) (find q (y ∷ ys))) h)

  -- one that isn't kept
  pub filter-placed-other : (q : X → Bool) (x : X) (xs : List X) → q x ≡ false → filter q (placed before x xs) ≡ filter q xs
  filter-placed-other q x [] h = ap (λ b. cond b (x ∷ []) []) h
  filter-placed-other q x (y ∷ ys) h =
      either (before y x) (λ _. filter q (placed before x (y ∷ ys)) ≡ filter q (y ∷ ys))
      (λ k. ap (filter q) (placed-behind before x y ys k) ∙ ap (λ (l : List X). cond (q y) (y ∷ l) l) (filter-placed-other q x ys h))
      (λ k. ap (filter q) (placed-here before x y ys k) ∙ ap (λ b. cond b (x ∷ filter q (y ∷ ys)) (filter q (y ∷ ys))) h)

  module _ (strict : IsStrict before) where
    placed-front : (x : X) (zs : List X) → list_all (λ z. not (before z x)) zs ≡ true → placed before x zs ≡ x ∷ zs
    placed-front x [] h = refl
    placed-front x (z ∷ zs) h = placed-here before x z zs (not-true (before z x) (left (not (before z x)) (list_all (λ w. not (before w x)) zs) h))

    -- one that is kept has its place among those that are kept
    pub filter-placed : (q : X → Bool) (x : X) (xs : List X) → q x ≡ true → ascends before xs ≡ true → filter q (placed before x xs) ≡ placed before x (filter q xs)
    filter-placed q x [] h a = ap (λ b. cond b (x ∷ []) []) h
    filter-placed q x (y ∷ ys) h a =
        either (before y x) (λ _. filter q (placed before x (y ∷ ys)) ≡ placed before x (filter q (y ∷ ys)))
        (λ k.
        ap (filter q) (placed-behind before x y ys k)
        ∙ ap (λ (l : List X). cond (q y) (y ∷ l) l) (filter-placed q x ys h (right (list_all (before y) ys) (ascends before ys) a))
        ∙ either (q y) (λ c. cond c (y ∷ placed before x (filter q ys)) (placed before x (filter q ys)) ≡ placed before x (cond c (y ∷ filter q ys) (filter q ys)))
        (λ _. sym (placed-behind before x y (filter q ys) k)) (λ _. refl))
        (λ k.
        let behind : list_all (λ z. not (before z x)) (y ∷ ys) ≡ true =
        both (not (before y x)) (list_all (λ z. not (before z x)) ys) (ap not k)
        (all-weaken (before y) (λ z. not (before z x)) (λ z m. ap not (never (before z x) (λ n. true≢false (sym (strict.chain y z x m n) ∙ k)))) ys (left (list_all (before y) ys) (ascends before ys) a)) in
        ap (filter q) (placed-here before x y ys k)
        ∙ ap (λ b. cond b (x ∷ filter q (y ∷ ys)) (filter q (y ∷ ys))) h
        ∙ sym (placed-front x (filter q (y ∷ ys)) (all-filter (λ z. not (before z x)) q (y ∷ ys) behind)))
