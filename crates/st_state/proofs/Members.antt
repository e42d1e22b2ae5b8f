-- Elements of lists, as what has all that all elements have.
use Rattle.std.proofs.Common.{◌≡◌, Bool, true, false, List, [], ◌∷◌, Some, None, refl, sym, ap, subst, ◌∙◌, true≢false}
use Rattle.std.specs.Prelude.{◌==◌, not, ◌&&◌, ◌||◌, cond, map, filter, find}
use Rattle.std.specs.List.{list_all}
use Rattle.st_values.specs.Arranged.{each_pair}
use Rattle.st_values.proofs.Tests.{not-true, other-of, never, both, left, right, either}
use Rattle.st_lattice.specs.declared.attribute.Attribute.{Attribute}
use Rattle.st_state.proofs.Changed.{number-is, number-itself, other_number}

-- an element of a list
abbrev pub Member : {X : Type 0} → X → List X → Type 0
Member {X} x xs = (q : X → Bool) → list_all q xs ≡ true → q x ≡ true

some-none : {A : Type 0} (a : A) → Some a ≡ None → ⊥
some-none a e = cc

pub some-is : {A : Type 0} (a b : A) → Some a ≡ Some b → a ≡ b
some-is a b e = cc

module _ {X : Type 0} where
  -- what holds of each element holds of all
  pub all-members : (p : X → Bool) (xs : List X) → ((x : X) → Member x xs → p x ≡ true) → list_all p xs ≡ true
  all-members p [] h = refl
  all-members p (x ∷ xs) h =
      both (p x) (list_all p xs) (h x (λ q a. left (q x) (list_all q xs) a)) (all-members p xs (λ y m. h y (λ q a. m q (right (q x) (list_all q xs) a))))

  -- one that is found passes, and is an element
  pub find-passes : (p : X → Bool) (x : X) (xs : List X) → find p xs ≡ Some x → p x ≡ true
  find-passes p x [] f = absurd (some-none x (sym f))
  find-passes p x (y ∷ ys) f =
      either (p y) (λ _. p x ≡ true) (λ k. subst (λ z. p z ≡ true) (some-is y x (sym (ap (λ b. cond b (Some y) (find p ys)) k) ∙ f)) k)
      (λ k. find-passes p x ys (sym (ap (λ b. cond b (Some y) (find p ys)) k) ∙ f))

  pub find-member : (p : X → Bool) (x : X) (xs : List X) → find p xs ≡ Some x → Member x xs
  find-member p x [] f q a = absurd (some-none x (sym f))
  find-member p x (y ∷ ys) f q a =
      either (p y) (λ _. q x ≡ true) (λ k. subst (λ z. q z ≡ true) (some-is y x (sym (ap (λ b. cond b (Some y) (find p ys)) k) ∙ f)) (left (q y) (list_all q ys) a))
      (λ k. find-member p x ys (sym (ap (λ b. cond b (Some y) (find p ys)) k) ∙ f) q (right (q y) (list_all q ys) a))

  -- an element of a filtered list is an element, and one that passes is an element of it
  pub filter-member : (p : X → Bool) (x : X) (xs : List X) → Member x xs → p x ≡ true → Member x (filter p xs)
  filter-member p x xs m h q a = other-of (not (p x)) (q x) (m (λ y. not (p y) || q y) (spread xs a)) (ap not h)
    where
      spread : (ys : List X) → list_all q (filter p ys) ≡ true → list_all (λ y. not (p y) || q y) ys ≡ true
      spread [] b = refl
      spread (y ∷ ys) b =
          either (p y) (λ c. list_all q (cond c (y ∷ filter p ys) (filter p ys)) ≡ true → ((not c || q y) && list_all (λ z. not (p z) || q z) ys) ≡ true)
          (λ _ d. both (q y) (list_all (λ z. not (p z) || q z) ys) (left (q y) (list_all q (filter p ys)) d) (spread ys (right (q y) (list_all q (filter p ys)) d)))
          (λ _ d. spread ys d) b

  pub member-filter : (p : X → Bool) (x : X) (xs : List X) → Member x (filter p xs) → Member x xs
  member-filter p x xs m q a = m q (kept xs a)
    where
      kept : (ys : List X) → list_all q ys ≡ true → list_all q (filter p ys) ≡ true
      kept [] b = refl
      kept (y ∷ ys) b =
          either (p y) (λ c. list_all q (cond c (y ∷ filter p ys) (filter p ys)) ≡ true)
          (λ _. both (q y) (list_all q (filter p ys)) (left (q y) (list_all q ys) b) (kept ys (right (q y) (list_all q ys) b))) (λ _. kept ys (right (q y) (list_all q ys) b))

  pub member-passes : (p : X → Bool) (x : X) (xs : List X) → Member x (filter p xs) → p x ≡ true
  member-passes p x xs m = m p (all xs)
    where
      all : (ys : List X) → list_all p (filter p ys) ≡ true
      all [] = refl
      all (y ∷ ys) = either (p y) (λ c. list_all p (cond c (y ∷ filter p ys) (filter p ys)) ≡ true) (λ k. both (p y) (list_all p (filter p ys)) k (all ys)) (λ _. all ys)

-- nothing is found where no element that is kept has an image that passes
pub nothing-found : {X Y : Type 0} (p : Y → Bool) (f : X → Y) (q : X → Bool) (xs : List X) → list_all (λ x. not (q x) || not (p (f x))) xs ≡ true → find p (map f (filter q xs)) ≡ None
nothing-found p f q [] a = refl
nothing-found p f q (x ∷ xs) a =
    let rest = nothing-found p f q xs (right (not (q x) || not (p (f x))) (list_all (λ y. not (q y) || not (p (f y))) xs) a) in
    either (q x) (λ b. find p (map f (cond b (x ∷ filter q xs) (filter q xs))) ≡ None)
    (λ k. ap (λ b. cond b (Some (f x)) (find p (map f (filter q xs))))
    (not-true (p (f x)) (other-of (not (q x)) (not (p (f x))) (left (not (q x) || not (p (f x))) (list_all (λ y. not (q y) || not (p (f y))) xs) a) (ap not k))) ∙ rest)
    (λ _. rest)

-- an attribute is found by its number
pub find-number : (p : Attribute → Bool) (a : Attribute) (xs : List Attribute) → each_pair other_number xs ≡ true → find p xs ≡ Some a → find (λ x. x.number == a.number) xs ≡ Some a
find-number p a [] e f = absurd (some-none a (sym f))
find-number p a (x ∷ xs) e f =
    either (p x) (λ _. find (λ y. y.number == a.number) (x ∷ xs) ≡ Some a)
    (λ k.
    let same : x ≡ a = some-is x a (sym (ap (λ b. cond b (Some x) (find p xs)) k) ∙ f) in
    ap (λ b. cond b (Some x) (find (λ y. y.number == a.number) xs)) (ap (λ z. z.number == a.number) same ∙ number-itself a.number) ∙ ap Some same)
    (λ k.
    let later : find p xs ≡ Some a = sym (ap (λ b. cond b (Some x) (find p xs)) k) ∙ f in
    let other : not (a.number == x.number) ≡ true = find-member p a xs later (other_number x) (left (list_all (other_number x) xs) (each_pair other_number xs) e) in
    let differs : (x.number == a.number) ≡ false =
    never (x.number == a.number) (λ m. true≢false (sym (number-itself x.number) ∙ ap (λ z. z == x.number) (number-is x.number a.number m) ∙ not-true (a.number == x.number) other)) in
    ap (λ b. cond b (Some x) (find (λ y. y.number == a.number) xs)) differs ∙ find-number p a xs (right (list_all (other_number x) xs) (each_pair other_number xs) e) later)
