-- A list that a test parts: what is found in it, what is kept of it, and where one element more goes.
use Rattle.std.proofs.Common.{◌≡◌, ℕ, zero, suc, ◌+◌, ◌-◌, ◌<◌, ◌≤◌, Bool, true, false, List, [], ◌∷◌, ◌++◌, length, get_or, take, drop, Some, None, refl, sym, ap, ◌∙◌, arith, true≢false, append-nil, length-drop, drop-cons, add-one}
use Rattle.std.specs.Prelude.{not, ◌||◌, cond, filter, find}
use Rattle.std.specs.List.{list_all, list_any}
use Rattle.std.specs.List.Sorted.{IsPartitionedBy, IsPartitionPoint}
use Rattle.std.proofs.lemmas.List.{length-take, length-take-le, get_or-take, get_or-drop, drop-drop, take-append-drop}
use Rattle.std.proofs.lemmas.List.Edits.{split_between}
use Rattle.std.proofs.lemmas.List.Elements.{filter-append}
use Rattle.std.proofs.lemmas.List.Folds.{list_all-append, list_any-append}
use Rattle.st_values.specs.Arranged.{ascends, placed}
use Rattle.st_values.proofs.Tests.{both, first-of, left, right, either, not-true, all-weaken, placed-behind, placed-here}
use Rattle.st_triples.specs.Parts.{IsPlace, IsRun}

or-false : (b : Bool) → (b || false) ≡ b
or-false true = refl
or-false false = refl

-- ---- tests of all elements

module _ {X : Type 0} (p : X → Bool) where
  pub all-join : (xs ys : List X) → list_all p xs ≡ true → list_all p ys ≡ true → list_all p (xs ++ ys) ≡ true
  all-join xs ys h k = list_all-append p xs ys ∙ both (list_all p xs) (list_all p ys) h k

  pub all-first : (xs ys : List X) → list_all p (xs ++ ys) ≡ true → list_all p xs ≡ true
  all-first xs ys h = left (list_all p xs) (list_all p ys) (sym (list_all-append p xs ys) ∙ h)

  pub all-last : (xs ys : List X) → list_all p (xs ++ ys) ≡ true → list_all p ys ≡ true
  all-last xs ys h = right (list_all p xs) (list_all p ys) (sym (list_all-append p xs ys) ∙ h)

  pub all-drop : (i : ℕ) (xs : List X) → list_all p xs ≡ true → list_all p (drop i xs) ≡ true
  all-drop zero xs h = h
  all-drop (suc i) [] h = h
  all-drop (suc i) (x ∷ xs) h = all-drop i xs (right (p x) (list_all p xs) h)

  pub all-take : (i : ℕ) (xs : List X) → list_all p xs ≡ true → list_all p (take i xs) ≡ true
  all-take zero xs h = refl
  all-take (suc i) [] h = refl
  all-take (suc i) (x ∷ xs) h = both (p x) (list_all p (take i xs)) (left (p x) (list_all p xs) h) (all-take i xs (right (p x) (list_all p xs) h))

  pub all-at : (xs : List X) (j : ℕ) (d : X) → list_all p xs ≡ true → j < length xs → p (get_or xs j d) ≡ true
  all-at [] j d h lt = absurd (omega arith)
  all-at (x ∷ xs) zero d h lt = left (p x) (list_all p xs) h
  all-at (x ∷ xs) (suc j) d h lt = all-at xs j d (right (p x) (list_all p xs) h) (omega arith)

  pub all-from : (xs : List X) → ((k : ℕ) (d : X) → k < length xs → p (get_or xs k d) ≡ true) → list_all p xs ≡ true
  all-from [] h = refl
  all-from (x ∷ xs) h = both (p x) (list_all p xs) (h 0 x (omega arith)) (all-from xs (λ k d lt. h (suc k) d (omega arith)))

  abbrev none : List X → Bool
  none xs = list_all (λ x. not (p x)) xs

  -- ---- what is found and kept

  pub filter-none : (xs : List X) → none xs ≡ true → filter p xs ≡ []
  filter-none [] h = refl
  filter-none (x ∷ xs) h =
      ap (λ b. cond b (x ∷ filter p xs) (filter p xs)) (not-true (p x) (left (not (p x)) (none xs) h)) ∙ filter-none xs (right (not (p x)) (none xs) h)

  pub filter-all : (xs : List X) → list_all p xs ≡ true → filter p xs ≡ xs
  filter-all [] h = refl
  filter-all (x ∷ xs) h =
      ap (λ b. cond b (x ∷ filter p xs) (filter p xs)) (left (p x) (list_all p xs) h) ∙ ap (λ z. x ∷ z) (filter-all xs (right (p x) (list_all p xs) h))

  pub any-none : (xs : List X) → none xs ≡ true → list_any p xs ≡ false
  any-none [] h = refl
  any-none (x ∷ xs) h = ap (λ b. b || list_any p xs) (not-true (p x) (left (not (p x)) (none xs) h)) ∙ any-none xs (right (not (p x)) (none xs) h)

  pub find-none : (xs : List X) → none xs ≡ true → find p xs ≡ None
  find-none [] h = refl
  find-none (x ∷ xs) h = ap (λ b. cond b (Some x) (find p xs)) (not-true (p x) (left (not (p x)) (none xs) h)) ∙ find-none xs (right (not (p x)) (none xs) h)

  pub find-behind : (xs ys : List X) → none xs ≡ true → find p (xs ++ ys) ≡ find p ys
  find-behind [] ys h = refl
  find-behind (x ∷ xs) ys h =
      ap (λ b. cond b (Some x) (find p (xs ++ ys))) (not-true (p x) (left (not (p x)) (none xs) h)) ∙ find-behind xs ys (right (not (p x)) (none xs) h)

  pub find-front : (xs ys : List X) → none ys ≡ true → find p (xs ++ ys) ≡ find p xs
  find-front [] ys h = find-none ys h
  find-front (x ∷ xs) ys h = ap (λ o. cond (p x) (Some x) o) (find-front xs ys h)

  -- where none passes in front of a part of a list or behind it
  module _ (front part back : List X) (f : none front ≡ true) (b : none back ≡ true) where
    pub filter-part : filter p (front ++ (part ++ back)) ≡ filter p part
    filter-part =
        filter-append p front (part ++ back) ∙ ap (λ z. z ++ filter p (part ++ back)) (filter-none front f)
        ∙ filter-append p part back ∙ ap (λ z. filter p part ++ z) (filter-none back b) ∙ append-nil (filter p part)

    pub find-part : find p (front ++ (part ++ back)) ≡ find p part
    find-part = find-behind front (part ++ back) f ∙ find-front part back b

    pub any-part : list_any p (front ++ (part ++ back)) ≡ list_any p part
    any-part =
        list_any-append p front (part ++ back) ∙ ap (λ z. z || list_any p (part ++ back)) (any-none front f)
        ∙ list_any-append p part back ∙ ap (λ z. list_any p part || z) (any-none back b) ∙ or-false (list_any p part)

  -- where all pass in front of a part of a list and behind it
  pub kept-part : (front part back : List X) → list_all p front ≡ true → list_all p back ≡ true → filter p (front ++ (part ++ back)) ≡ front ++ (filter p part ++ back)
  kept-part front part back f b =
      filter-append p front (part ++ back) ∙ ap (λ z. z ++ filter p (part ++ back)) (filter-all front f)
      ∙ ap (λ z. front ++ z) (filter-append p part back ∙ ap (λ z. filter p part ++ z) (filter-all back b))

  -- ---- a run of those that pass

  module _ (xs : List X) (from to : ℕ) (r : IsRun p xs from to) where
    abbrev run : List X
    run = take (to - from) (drop from xs)

    parts : xs ≡ take from xs ++ (run ++ drop to xs)
    parts = split_between xs from to r.ordered

    pub run-filter : filter p xs ≡ run
    run-filter = ap (filter p) parts ∙ filter-part (take from xs) run (drop to xs) r.front r.back ∙ filter-all run r.run

    pub run-any : list_any p xs ≡ list_any p run
    run-any = ap (list_any p) parts ∙ any-part (take from xs) run (drop to xs) r.front r.back

    pub run-find : find p xs ≡ find p run
    run-find = ap (find p) parts ∙ find-part (take from xs) run (drop to xs) r.front r.back

module _ {X : Type 0} (p : X → Bool) (xs : List X) (from to : ℕ) (r : IsRun p xs from to) where
  any-all : (ys : List X) → 0 < length ys → list_all p ys ≡ true → list_any p ys ≡ true
  any-all [] lt h = absurd (omega arith)
  any-all (y ∷ ys) lt h = first-of (p y) (list_any p ys) (left (p y) (list_all p ys) h)

  pub some-run : from < to → list_any p xs ≡ true
  some-run lt =
      run-any p xs from to r
      ∙ any-all (take (to - from) (drop from xs)) (let k = r.within in omega (arith, length-take (to - from) (drop from xs), length-drop from xs)) r.run

  pub empty-run : from ≡ to → list_any p xs ≡ false
  empty-run e =
      run-any p xs from to r ∙ (let same : to - from ≡ 0 = omega arith in ap (λ z. list_any p (take z (drop from xs))) same)

  -- what is left where the run goes
  pub run-rest : filter (λ x. not (p x)) xs ≡ take from xs ++ drop to xs
  run-rest =
      ap (filter (λ x. not (p x))) (split_between xs from to r.ordered)
      ∙ kept-part (λ x. not (p x)) (take from xs) (take (to - from) (drop from xs)) (drop to xs) r.front r.back
      ∙ ap (λ z. take from xs ++ (z ++ drop to xs)) (filter-none (λ x. not (p x)) (take (to - from) (drop from xs)) (all-weaken p (λ x. not (not (p x))) (λ x h. ap (λ b. not (not b)) h) (take (to - from) (drop from xs)) r.run))

-- ---- places

module _ {X : Type 0} (p : X → Bool) where
  -- a place that a search by halves finds
  pub place-from : (xs : List X) (i : ℕ) → i ≤ length xs → IsPartitionPoint (λ y. p y ≡ true) (λ y. p y ≡ false) xs i → IsPlace p xs i
  place-from xs i h e = record {
    within = h;
    front = all-from p (take i xs) (λ k d lt.
        let inside : k < i = omega (arith, length-take-le i xs h) in
        ap p (get_or-take i xs k d inside) ∙ e.0 k d (omega arith) inside);
    back = all-from (λ y. not (p y)) (drop i xs) (λ k d lt.
        ap (λ y. not (p y)) (get_or-drop i xs k d) ∙ ap not (e.1 (i + k) d (omega arith) (omega (arith, length-drop i xs))));
  }

module _ {X : Type 0} (before : X → X → Bool) (r p : X → Bool) (closed : (s t : X) → r s ≡ true → before s t ≡ true → p t ≡ true → p s ≡ true) where
  -- a test that whatever stands in front passes too parts a list in order
  pub parted : (xs : List X) → ascends before xs ≡ true → list_all r xs ≡ true → IsPartitionedBy p xs
  parted [] a h i j d le lt e = absurd (omega arith)
  parted (x ∷ xs) a h zero zero d le lt e = e
  parted (x ∷ xs) a h zero (suc j) d le lt e =
      closed x (get_or xs j d) (left (r x) (list_all r xs) h) (all-at (before x) xs j d (left (list_all (before x) xs) (ascends before xs) a) (omega arith)) e
  parted (x ∷ xs) a h (suc i) zero d le lt e = absurd (omega arith)
  parted (x ∷ xs) a h (suc i) (suc j) d le lt e =
      parted xs (right (list_all (before x) xs) (ascends before xs) a) (right (r x) (list_all r xs) h) i j d (omega arith) (omega arith) e

  -- none passes where the first doesn't
  pub none-from : (x : X) (xs : List X) → ascends before (x ∷ xs) ≡ true → list_all r (x ∷ xs) ≡ true → p x ≡ false → list_all (λ y. not (p y)) (x ∷ xs) ≡ true
  none-from x xs a h e =
      both (not (p x)) (list_all (λ y. not (p y)) xs) (ap not e)
      (all-weaken (before x) (λ y. not (p y))
      (λ y b. either (p y) (λ c. not c ≡ true) (λ k. absurd (true≢false (sym (closed x y (left (r x) (list_all r xs) h) b k) ∙ e))) (λ k. refl)) xs
      (left (list_all (before x) xs) (ascends before xs) a))

pub cons-at : {X : Type 0} (xs : List X) (i : ℕ) (x : X) → i < length xs → x ≡ get_or xs i x → drop i xs ≡ x ∷ drop (suc i) xs
cons-at xs i x lt is = drop-cons xs i x lt ∙ ap (λ z. z ∷ drop (suc i) xs) (sym is)

pub ascends-drop : {X : Type 0} (before : X → X → Bool) (i : ℕ) (xs : List X) → ascends before xs ≡ true → ascends before (drop i xs) ≡ true
ascends-drop before zero xs h = h
ascends-drop before (suc i) [] h = h
ascends-drop before (suc i) (x ∷ xs) h = ascends-drop before i xs (right (list_all (before x) xs) (ascends before xs) h)

module _ {X : Type 0} (before : X → X → Bool) (r p : X → Bool) (closed : (s t : X) → r s ≡ true → before s t ≡ true → p t ≡ true → p s ≡ true) where
  -- none passes from a place on where the one at that place doesn't
  pub none-behind : (xs : List X) (i : ℕ) (x : X) → ascends before xs ≡ true → list_all r (drop i xs) ≡ true → i < length xs → x ≡ get_or xs i x → p x ≡ false
      → list_all (λ y. not (p y)) (drop i xs) ≡ true
  none-behind xs i x a h lt is e =
      let here = cons-at xs i x lt is in
      ap (list_all (λ y. not (p y))) here
      ∙ none-from before r p closed x (drop (suc i) xs) (sym (ap (ascends before) here) ∙ ascends-drop before i xs a) (sym (ap (list_all r) here) ∙ h) e

-- a run that begins at a place and ends where no more pass
module _ {X : Type 0} (q p : X → Bool) (apart : (x : X) → q x ≡ true → p x ≡ false) (xs : List X) (from : ℕ) (at : IsPlace q xs from) where
  front : list_all (λ x. not (p x)) (take from xs) ≡ true
  front = all-weaken q (λ x. not (p x)) (λ x h. ap not (apart x h)) (take from xs) at.front

  pub run-from : (n : ℕ) → IsPlace p (drop from xs) n → IsRun p xs from (from + n)
  run-from n e = record {
    ordered = omega arith;
    within = (let k = at.within in let m = e.within in omega (arith, length-drop from xs));
    front = front;
    run = (let same : (from + n) - from ≡ n = omega arith in ap (λ z. list_all p (take z (drop from xs))) same ∙ e.front);
    back = sym (ap (list_all (λ x. not (p x))) (drop-drop n from xs)) ∙ e.back;
  }

  -- the first that passes stands at the place
  pub found-at : (x : X) → from < length xs → x ≡ get_or xs from x → p x ≡ true → find p xs ≡ Some x
  found-at x lt is h =
      ap (find p) (sym (take-append-drop from xs)) ∙ find-behind p (take from xs) (drop from xs) front
      ∙ ap (find p) (cons-at xs from x lt is) ∙ ap (λ b. cond b (Some x) (find p (drop (suc from) xs))) h

  pub found-none : list_all (λ x. not (p x)) (drop from xs) ≡ true → find p xs ≡ None
  found-none e = find-none p xs (ap (list_all (λ x. not (p x))) (sym (take-append-drop from xs)) ∙ all-join (λ x. not (p x)) (take from xs) (drop from xs) front e)

  -- none passes at all
  pub run-none : list_all (λ x. not (p x)) (drop from xs) ≡ true → IsRun p xs from from
  run-none e = record {
    ordered = omega arith;
    within = at.within;
    front = front;
    run = (let same : from - from ≡ 0 = omega arith in ap (λ z. list_all p (take z (drop from xs))) same);
    back = e;
  }

  -- one passes, and none behind it
  pub run-one : (d : X) → from < length xs → p (get_or xs from d) ≡ true → list_all (λ x. not (p x)) (drop (suc from) xs) ≡ true → IsRun p xs from (from + 1)
  run-one d lt h e = record {
    ordered = omega arith;
    within = omega arith;
    front = front;
    run =
        (let same : (from + 1) - from ≡ 1 = omega arith in
        ap (λ z. list_all p (take z (drop from xs))) same ∙ ap (λ z. list_all p (take 1 z)) (drop-cons xs from d lt) ∙ both (p (get_or xs from d)) true h refl);
    back = ap (λ i. list_all (λ x. not (p x)) (drop i xs)) (add-one from) ∙ e;
  }

-- ---- one element more

module _ {X : Type 0} (before : X → X → Bool) (x : X) where
  placed-first : (back : List X) → list_all (λ y. not (before y x)) back ≡ true → placed before x back ≡ x ∷ back
  placed-first [] h = refl
  placed-first (y ∷ ys) h = placed-here before x y ys (not-true (before y x) (left (not (before y x)) (list_all (λ z. not (before z x)) ys) h))

  pub placed-between : (front back : List X) → list_all (λ y. before y x) front ≡ true → list_all (λ y. not (before y x)) back ≡ true → placed before x (front ++ back) ≡ front ++ x ∷ back
  placed-between [] back f b = placed-first back b
  placed-between (y ∷ ys) back f b =
      placed-behind before x y (ys ++ back) (left (before y x) (list_all (λ z. before z x) ys) f)
      ∙ ap (λ z. y ∷ z) (placed-between ys back (right (before y x) (list_all (λ z. before z x) ys) f) b)

  -- in a part of a list where all in front stand before it and none behind
  pub placed-part : (front part back : List X) → list_all (λ y. before y x) front ≡ true → list_all (λ y. not (before y x)) back ≡ true
      → placed before x (front ++ (part ++ back)) ≡ front ++ (placed before x part ++ back)
  placed-part [] [] back f b = placed-first back b
  placed-part [] (y ∷ ys) back f b =
      either (before y x) (λ _. placed before x (y ∷ (ys ++ back)) ≡ placed before x (y ∷ ys) ++ back)
      (λ k. placed-behind before x y (ys ++ back) k ∙ ap (λ z. y ∷ z) (placed-part [] ys back refl b) ∙ sym (ap (λ z. z ++ back) (placed-behind before x y ys k)))
      (λ k. placed-here before x y (ys ++ back) k ∙ sym (ap (λ z. z ++ back) (placed-here before x y ys k)))
  placed-part (y ∷ ys) part back f b =
      placed-behind before x y (ys ++ (part ++ back)) (left (before y x) (list_all (λ z. before z x) ys) f)
      ∙ ap (λ z. y ∷ z) (placed-part ys part back (right (before y x) (list_all (λ z. before z x) ys) f) b)

  -- a list in order stays so where it is put
  pub ascends-between : (front back : List X) → ascends before (front ++ back) ≡ true → list_all (λ y. before y x) front ≡ true → list_all (before x) back ≡ true → ascends before (front ++ x ∷ back) ≡ true
  ascends-between [] back a f b = both (list_all (before x) back) (ascends before back) b a
  ascends-between (y ∷ ys) back a f b =
      let later = left (list_all (before y) (ys ++ back)) (ascends before (ys ++ back)) a in
      both (list_all (before y) (ys ++ x ∷ back)) (ascends before (ys ++ x ∷ back))
      (all-join (before y) ys (x ∷ back) (all-first (before y) ys back later)
      (both (before y x) (list_all (before y) back) (left (before y x) (list_all (λ z. before z x) ys) f) (all-last (before y) ys back later)))
      (ascends-between ys back (right (list_all (before y) (ys ++ back)) (ascends before (ys ++ back)) a) (right (before y x) (list_all (λ z. before z x) ys) f) b)

-- a list in order stays so without one of its elements
pub ascends-without : {X : Type 0} (before : X → X → Bool) (front : List X) (x : X) (back : List X) → ascends before (front ++ x ∷ back) ≡ true → ascends before (front ++ back) ≡ true
ascends-without before [] x back a = right (list_all (before x) back) (ascends before back) a
ascends-without before (y ∷ ys) x back a =
    let later = left (list_all (before y) (ys ++ x ∷ back)) (ascends before (ys ++ x ∷ back)) a in
    both (list_all (before y) (ys ++ back)) (ascends before (ys ++ back))
    (all-join (before y) ys back (all-first (before y) ys (x ∷ back) later) (right (before y x) (list_all (before y) back) (all-last (before y) ys (x ∷ back) later)))
    (ascends-without before ys x back (right (list_all (before y) (ys ++ x ∷ back)) (ascends before (ys ++ x ∷ back)) a))
