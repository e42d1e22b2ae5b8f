-- Rows that are the images of a list in order.
use Rattle.std.proofs.Common.{◌≡◌, ℕ, Bool, true, false, cond, List, [], ◌∷◌, ◌++◌, take, Option, Some, None, refl, sym, ap, ◌∙◌, append-nil, true≢false}
use Rattle.std.specs.Prelude.{not, ◌&&◌, ◌||◌, map, filter, find, is_some}
use Rattle.std.specs.List.{All, list_all}
use Rattle.std.specs.Option.{option_map}
use Rattle.std.specs.Str.{bytes_eq}
use Rattle.std.proofs.lemmas.List.{map-append}
use Rattle.std.proofs.lemmas.List.Elements.{All-cons, All-filter, All-head, All-nil, All-tail, filter_passes}
use Rattle.st_values.specs.Arranged.{ascends, placed}
use Rattle.st_values.proofs.Placing.{IsStrict, differ}
use Rattle.st_values.proofs.Tests.{all-weaken, both, either, first-of, left, never, one-of, other-of, placed-behind, placed-here, right}
use Rattle.st_image.specs.Grammar.{row_before}
use Rattle.st_store.specs.Rows.{row_with, rows_above, rows_below, rows_from, with_row, without_row}
use Rattle.st_store.proofs.Ordering.{above-of-above, all_above, before-asymmetric, before-differs, before-trans, behind-differs, below-of-above, below-same-key, above-same-key, filter-all, filter-none, kept-above, kept-below, rows_above-parts, rows_below-parts, same-bytes, same-key}

-- ---- lists of images

module _ {X Y : Type 0} (f : X → Y) where
  -- what is kept of images, by a test that says of them what another one says of the elements
  pub filter-images : (p : Y → Bool) (q : X → Bool) (xs : List X) → All (λ x. p (f x) ≡ q x) xs → filter p (map f xs) ≡ map f (filter q xs)
  filter-images p q [] all = refl
  filter-images p q (x ∷ xs) all =
      ap (λ (b : Bool). cond b (f x ∷ filter p (map f xs)) (filter p (map f xs))) (All-head (λ y. p (f y) ≡ q y) x xs all)
      ∙ ap (λ (l : List Y). cond (q x) (f x ∷ l) l) (filter-images p q xs (All-tail (λ y. p (f y) ≡ q y) x xs all))
      ∙ either (q x) (λ b. cond b (f x ∷ map f (filter q xs)) (map f (filter q xs)) ≡ map f (cond b (x ∷ filter q xs) (filter q xs))) (λ _. refl) (λ _. refl)

  pub find-images : (p : Y → Bool) (q : X → Bool) (xs : List X) → All (λ x. p (f x) ≡ q x) xs → find p (map f xs) ≡ option_map f (find q xs)
  find-images p q [] all = refl
  find-images p q (x ∷ xs) all =
      ap (λ (b : Bool). cond b (Some (f x)) (find p (map f xs))) (All-head (λ y. p (f y) ≡ q y) x xs all)
      ∙ ap (λ (o : Option Y). cond (q x) (Some (f x)) o) (find-images p q xs (All-tail (λ y. p (f y) ≡ q y) x xs all))
      ∙ either (q x) (λ b. cond b (Some (f x)) (option_map f (find q xs)) ≡ option_map f (cond b (Some x) (find q xs))) (λ _. refl) (λ _. refl)

  pub all-images : (p : Y → Bool) (q : X → Bool) (xs : List X) → All (λ x. p (f x) ≡ q x) xs → list_all p (map f xs) ≡ list_all q xs
  all-images p q [] all = refl
  all-images p q (x ∷ xs) all = λ i. All-head (λ y. p (f y) ≡ q y) x xs all i && all-images p q xs (All-tail (λ y. p (f y) ≡ q y) x xs all) i

  -- functions that agree at each element
  pub map-agree : (g : X → Y) (xs : List X) → All (λ x. g x ≡ f x) xs → map g xs ≡ map f xs
  map-agree g [] all = refl
  map-agree g (x ∷ xs) all = λ i. All-head (λ y. g y ≡ f y) x xs all i ∷ map-agree g xs (All-tail (λ y. g y ≡ f y) x xs all) i

module _ {X : Type 0} where
  -- a test that all pass, said of each
  pub all-passed : (t : X → Bool) (xs : List X) → list_all t xs ≡ true → All (λ x. t x ≡ true) xs
  all-passed t [] h = All-nil (λ x. t x ≡ true)
  all-passed t (x ∷ xs) h = All-cons (λ y. t y ≡ true) x xs (left (t x) (list_all t xs) h) (all-passed t xs (right (t x) (list_all t xs) h))

-- ---- rows that change one after the other

module _ (key : ℕ) (row : List ℕ) where
  -- a row in front of the place of another one
  pub with_row-behind : (other : List ℕ) (rows : List (List ℕ)) → row_before key other row ≡ true → with_row key row (other ∷ rows) ≡ other ∷ with_row key row rows
  with_row-behind other rows h =
      λ i. cond (h i) (other ∷ rows_below key row rows) (rows_below key row rows)
      ++ row ∷ cond (before-asymmetric key other row h i) (other ∷ rows_above key row rows) (rows_above key row rows)

  pub with_row-here : (rows : List (List ℕ)) → all_above key row rows ≡ true → with_row key row rows ≡ row ∷ rows
  with_row-here rows h = λ i. below-of-above key row rows h i ++ row ∷ above-of-above key row rows h i

  -- a row in place of one that was taken out
  pub with-without : (rows : List (List ℕ)) → with_row key row (without_row key row rows) ≡ with_row key row rows
  with-without rows =
      let below = rows_below key row rows in
      let above = rows_above key row rows in
      λ i. (rows_below-parts key row below [] above (kept-below key row rows) (kept-above key row rows) ∙ append-nil below) i
      ++ row ∷ rows_above-parts key row below [] above (kept-below key row rows) (kept-above key row rows) i

  -- rows without one are those with other keys
  pub without-others : (rows : List (List ℕ)) → ascends (row_before key) rows ≡ true → without_row key row rows ≡ filter (λ other. not (bytes_eq (take key other) (take key row))) rows
  without-others [] a = refl
  without-others (r ∷ rs) a =
      let later = without-others rs (right (list_all (row_before key r) rs) (ascends (row_before key) rs) a) in
      either (row_before key r row) (λ _. without_row key row (r ∷ rs) ≡ others (r ∷ rs))
      (λ low. (λ i. cond (low i) (r ∷ rows_below key row rs) (rows_below key row rs) ++ cond (before-asymmetric key r row low i) (r ∷ rows_above key row rs) (rows_above key row rs))
      ∙ ap (λ (l : List (List ℕ)). r ∷ l) later ∙ sym (passed (before-differs key r row low)))
      (λ same. either (row_before key row r) (λ _. without_row key row (r ∷ rs) ≡ others (r ∷ rs))
      (λ high.
      let none : rows_below key row rs ≡ [] = below-of-above key row rs (all-weaken (row_before key r) (row_before key row) (λ z k. before-trans key row r z high k) rs (left (list_all (row_before key r) rs) (ascends (row_before key) rs) a)) in
      (λ i. cond (same i) (r ∷ rows_below key row rs) (rows_below key row rs) ++ cond (high i) (r ∷ rows_above key row rs) (rows_above key row rs))
      ∙ ap (λ (l : List (List ℕ)). l ++ r ∷ rows_above key row rs) none
      ∙ ap (λ (l : List (List ℕ)). r ∷ (l ++ rows_above key row rs)) (sym none)
      ∙ ap (λ (l : List (List ℕ)). r ∷ l) later ∙ sym (passed (behind-differs key r row high)))
      (λ low. (λ i. cond (same i) (r ∷ rows_below key row rs) (rows_below key row rs) ++ cond (low i) (r ∷ rows_above key row rs) (rows_above key row rs))
      ∙ later ∙ sym (ap (λ b. cond (not b) (r ∷ others rs) (others rs)) (same-bytes (take key r) (take key row) (same-key key r row same low)))))
    where
      others : List (List ℕ) → List (List ℕ)
      others xs = filter (λ other. not (bytes_eq (take key other) (take key row))) xs

      passed : bytes_eq (take key r) (take key row) ≡ false → others (r ∷ rs) ≡ r ∷ others rs
      passed e = ap (λ b. cond (not b) (r ∷ others rs) (others rs)) e

-- ---- an element put into its place

module _ {X : Type 0} (key : ℕ) (before : X → X → Bool) (f : X → List ℕ) (x : X) where
  -- where the rows of others stand to its row as they stand to it
  pub placed-images : (xs : List X) → ascends (row_before key) (map f xs) ≡ true → All (λ y. row_before key (f y) (f x) ≡ before y x) xs → All (λ y. row_before key (f x) (f y) ≡ not (before y x)) xs
      → map f (placed before x xs) ≡ with_row key (f x) (map f xs)
  placed-images [] a low high = refl
  placed-images (y ∷ ys) a low high =
      let here = All-head (λ z. row_before key (f z) (f x) ≡ before z x) y ys low in
      let there = All-head (λ z. row_before key (f x) (f z) ≡ not (before z x)) y ys high in
      either (before y x) (λ _. map f (placed before x (y ∷ ys)) ≡ with_row key (f x) (map f (y ∷ ys)))
      (λ k. ap (map f) (placed-behind before x y ys k)
      ∙ ap (λ (l : List (List ℕ)). f y ∷ l)
      (placed-images ys (right (list_all (row_before key (f y)) (map f ys)) (ascends (row_before key) (map f ys)) a)
      (All-tail (λ z. row_before key (f z) (f x) ≡ before z x) y ys low) (All-tail (λ z. row_before key (f x) (f z) ≡ not (before z x)) y ys high))
      ∙ sym (with_row-behind key (f x) (f y) (map f ys) (here ∙ k)))
      (λ k.
      let above : row_before key (f x) (f y) ≡ true = there ∙ ap not k in
      ap (map f) (placed-here before x y ys k)
      ∙ sym (with_row-here key (f x) (f y ∷ map f ys)
      (both (row_before key (f x) (f y)) (list_all (row_before key (f x)) (map f ys)) above
      (all-weaken (row_before key (f y)) (row_before key (f x)) (λ r m. before-trans key (f x) (f y) r above m) (map f ys) (left (list_all (row_before key (f y)) (map f ys)) (ascends (row_before key) (map f ys)) a)))))

-- ---- lists in order, part by part

module _ {X : Type 0} (before : X → X → Bool) (strict : IsStrict before) where
  pub asymmetric : (x y : X) → before x y ≡ true → before y x ≡ false
  asymmetric x y h = never (before y x) (λ k. true≢false (sym (strict.chain x y x h k) ∙ strict.itself x))

  -- of two that differ one stands before the other, and not the other way
  pub one-way : (x y : X) → differ before x y ≡ true → before x y ≡ not (before y x)
  one-way x y d =
      either (before y x) (λ b. (before x y || b) ≡ true → before x y ≡ not b) (λ k _. asymmetric y x k) (λ k e. other-of false (before x y) (or-turned (before x y) e) refl) d
    where
      or-turned : (b : Bool) → (b || false) ≡ true → (false || b) ≡ true
      or-turned true e = e
      or-turned false e = e

  -- one itself does not differ
  pub differ-itself : (x : X) → differ before x x ≡ false
  differ-itself x = ap (λ b. b || b) (strict.itself x)

  -- what does not differ is the same
  pub differ-not : (x y : X) → differ before x y ≡ false → x ≡ y
  differ-not x y d = by (before x y) (before y x) refl refl
    where
      by : (b c : Bool) → before x y ≡ b → before y x ≡ c → x ≡ y
      by true c h k = absurd (true≢false (sym (ap (λ z. z || before y x) h) ∙ d))
      by false true h k = absurd (true≢false (sym (ap (λ z. z || before y x) h ∙ k) ∙ d))
      by false false h k = strict.tie x y h k

  module _ (x : X) where
    abbrev pub lower : List X → List X
    lower xs = filter (λ y. before y x) xs

    abbrev pub higher : List X → List X
    higher xs = filter (λ y. before x y) xs

    behind : (y : X) (ys : List X) → before x y ≡ true → ascends before (y ∷ ys) ≡ true → list_all (before x) ys ≡ true
    behind y ys h a = all-weaken (before y) (before x) (λ z k. strict.chain x y z h k) ys (left (list_all (before y) ys) (ascends before ys) a)

    none-lower : (ys : List X) → list_all (before x) ys ≡ true → lower ys ≡ []
    none-lower ys h = filter-none (λ y. before y x) (before x) (λ y k. asymmetric x y k) ys h

    -- those that differ are the lower ones and the higher ones
    pub differ-parts : (xs : List X) → ascends before xs ≡ true → filter (differ before x) xs ≡ lower xs ++ higher xs
    differ-parts [] a = refl
    differ-parts (y ∷ ys) a = by (before y x) (before x y) refl refl (differ-parts ys (right (list_all (before y) ys) (ascends before ys) a))
      where
        at : (b c : Bool) → before y x ≡ b → before x y ≡ c
            → (cond (c || b) (y ∷ filter (differ before x) ys) (filter (differ before x) ys) ≡ cond b (y ∷ lower ys) (lower ys) ++ cond c (y ∷ higher ys) (higher ys))
            → filter (differ before x) (y ∷ ys) ≡ lower (y ∷ ys) ++ higher (y ∷ ys)
        at b c h k e =
            (λ i. cond (k i || h i) (y ∷ filter (differ before x) ys) (filter (differ before x) ys)) ∙ e
            ∙ (λ i. cond (sym h i) (y ∷ lower ys) (lower ys) ++ cond (sym k i) (y ∷ higher ys) (higher ys))

        by : (b c : Bool) → before y x ≡ b → before x y ≡ c → filter (differ before x) ys ≡ lower ys ++ higher ys → filter (differ before x) (y ∷ ys) ≡ lower (y ∷ ys) ++ higher (y ∷ ys)
        by true true h k later = absurd (true≢false (sym k ∙ asymmetric y x h))
        by true false h k later = at true false h k (ap (λ (l : List X). y ∷ l) later)
        by false true h k later =
            let none : lower ys ≡ [] = none-lower ys (behind y ys k a) in
            at false true h k (ap (λ (l : List X). y ∷ l) (later ∙ ap (λ (l : List X). l ++ higher ys) none) ∙ ap (λ (l : List X). l ++ y ∷ higher ys) (sym none))
        by false false h k later = at false false h k later

    -- with one that is among them they are the whole list
    pub member-parts : (xs : List X) → ascends before xs ≡ true → list_all (differ before x) xs ≡ false → xs ≡ lower xs ++ x ∷ higher xs
    member-parts [] a m = absurd (true≢false m)
    member-parts (y ∷ ys) a m = by (before y x) (before x y) refl refl (λ e. member-parts ys (right (list_all (before y) ys) (ascends before ys) a) e)
      where
        at : (b c : Bool) → before y x ≡ b → before x y ≡ c → (y ∷ ys ≡ cond b (y ∷ lower ys) (lower ys) ++ x ∷ cond c (y ∷ higher ys) (higher ys)) → y ∷ ys ≡ lower (y ∷ ys) ++ x ∷ higher (y ∷ ys)
        at b c h k e = e ∙ (λ i. cond (sym h i) (y ∷ lower ys) (lower ys) ++ x ∷ cond (sym k i) (y ∷ higher ys) (higher ys))

        rest : (before x y || before y x) ≡ true → list_all (differ before x) ys ≡ false
        rest e = sym (ap (λ b. b && list_all (differ before x) ys) e) ∙ m

        by : (b c : Bool) → before y x ≡ b → before x y ≡ c → (list_all (differ before x) ys ≡ false → ys ≡ lower ys ++ x ∷ higher ys) → y ∷ ys ≡ lower (y ∷ ys) ++ x ∷ higher (y ∷ ys)
        by true true h k later = absurd (true≢false (sym k ∙ asymmetric y x h))
        by true false h k later = at true false h k (ap (λ (l : List X). y ∷ l) (later (rest (one-of (before x y) (before y x) h))))
        by false true h k later =
            absurd (true≢false (sym (all-weaken (before x) (differ before x) (λ z l. first-of (before x z) (before z x) l) ys (behind y ys k a)) ∙ rest (first-of (before x y) (before y x) k)))
        by false false h k later =
            let same : x ≡ y = strict.tie x y k h in
            let all : list_all (before x) ys ≡ true = ap (λ z. list_all (before z) ys) same ∙ left (list_all (before y) ys) (ascends before ys) a in
            at false false h k
            ((λ i. sym same i ∷ sym (filter-all (before x) ys all) i) ∙ ap (λ (l : List X). l ++ x ∷ higher ys) (sym (none-lower ys all)))

-- ---- rows of a list in order

module _ {X : Type 0} (key : ℕ) (before : X → X → Bool) (strict : IsStrict before) (f : X → List ℕ) (P : X → Type 0) (keeps : (x y : X) → P x → P y → row_before key (f x) (f y) ≡ before x y) where
  pub rows-ascend : (xs : List X) → All P xs → ascends before xs ≡ true → ascends (row_before key) (map f xs) ≡ true
  rows-ascend [] all a = refl
  rows-ascend (x ∷ xs) all a =
      both (list_all (row_before key (f x)) (map f xs)) (ascends (row_before key) (map f xs))
      (all-images f (row_before key (f x)) (before x) xs (λ k d l. keeps x _ (All-head P x xs all) (All-tail P x xs all k d l)) ∙ left (list_all (before x) xs) (ascends before xs) a)
      (rows-ascend xs (All-tail P x xs all) (right (list_all (before x) xs) (ascends before xs) a))

  module _ (x : X) (of : P x) (xs : List X) (all : All P xs) where
    pub below-rows : rows_below key (f x) (map f xs) ≡ map f (lower before strict x xs)
    below-rows = filter-images f (λ r. row_before key r (f x)) (λ y. before y x) xs (λ k d l. keeps _ x (all k d l) of)

    pub above-rows : rows_above key (f x) (map f xs) ≡ map f (higher before strict x xs)
    above-rows = filter-images f (λ r. row_before key (f x) r) (λ y. before x y) xs (λ k d l. keeps x _ of (all k d l))

    pub from-rows : rows_from key (f x) (map f xs) ≡ map f (filter (λ y. not (before y x)) xs)
    from-rows = filter-images f (λ r. not (row_before key r (f x))) (λ y. not (before y x)) xs (λ k d l. ap not (keeps _ x (all k d l) of))

    -- two have one key where none of them stands before the other
    same-keys : (y : X) → P y → bytes_eq (take key (f y)) (take key (f x)) ≡ not (differ before x y)
    same-keys y p = by (before x y) (before y x) refl refl
      where
        by : (b c : Bool) → before x y ≡ b → before y x ≡ c → bytes_eq (take key (f y)) (take key (f x)) ≡ not (differ before x y)
        by true c h k = behind-differs key (f y) (f x) (keeps x y of p ∙ h) ∙ sym (ap (λ b. not (b || before y x)) h)
        by false true h k = before-differs key (f y) (f x) (keeps y x p of ∙ k) ∙ sym (λ i. not (h i || k i))
        by false false h k = same-bytes (take key (f y)) (take key (f x)) (same-key key (f y) (f x) (keeps y x p of ∙ k) (keeps x y of p ∙ h)) ∙ sym (λ i. not (h i || k i))

    -- which row has an element's key: its own, where it is among the elements
    pub row_with-is : row_with key (f x) (map f xs) ≡ cond (list_all (differ before x) xs) None (Some (f x))
    row_with-is =
        find-images f (λ r. bytes_eq (take key r) (take key (f x))) (λ y. not (differ before x y)) xs (λ k d l. same-keys _ (all k d l)) ∙ found xs
      where
        found : (ys : List X) → option_map f (find (λ y. not (differ before x y)) ys) ≡ cond (list_all (differ before x) ys) None (Some (f x))
        found [] = refl
        found (y ∷ ys) =
            either (differ before x y) (λ b. option_map f (cond (not b) (Some y) (find (λ z. not (differ before x z)) ys)) ≡ cond (b && list_all (differ before x) ys) None (Some (f x)))
            (λ k. found ys) (λ k. ap (λ z. Some (f z)) (sym (differ-not before strict x y k)))

    pub is_some-row : is_some (row_with key (f x) (map f xs)) ≡ not (list_all (differ before x) xs)
    is_some-row = ap is_some row_with-is ∙ either (list_all (differ before x) xs) (λ b. is_some (cond b None (Some (f x))) ≡ not b) (λ _. refl) (λ _. refl)

    -- one is among the elements where not all differ from it
    pub found-row : list_all (differ before x) xs ≡ false → row_with key (f x) (map f xs) ≡ Some (f x)
    found-row m = row_with-is ∙ ap (λ b. cond b None (Some (f x))) m

    pub none-row : list_all (differ before x) xs ≡ true → row_with key (f x) (map f xs) ≡ None
    none-row m = row_with-is ∙ ap (λ b. cond b None (Some (f x))) m

    module _ (a : ascends before xs ≡ true) where
      -- one more, that differs from all
      pub placed-rows : list_all (differ before x) xs ≡ true → map f (placed before x xs) ≡ with_row key (f x) (map f xs)
      placed-rows d =
          placed-images key before f x xs (rows-ascend xs all a) (λ k e l. keeps _ x (all k e l) of)
          (λ k e l. keeps x _ of (all k e l) ∙ one-way before strict x _ (all-passed (differ before x) xs d k e l))

      -- those that differ from one, by any test that tells them
      pub taken-rows : (q : X → Bool) → All (λ y. q y ≡ differ before x y) xs → map f (filter q xs) ≡ without_row key (f x) (map f xs)
      taken-rows q e =
          ap (map f) (filter-same q (differ before x) xs e ∙ differ-parts before strict x xs a)
          ∙ map-append f (lower before strict x xs) (higher before strict x xs) ∙ (λ i. sym below-rows i ++ sym above-rows i)
        where
          filter-same : (p t : X → Bool) (ys : List X) → All (λ y. p y ≡ t y) ys → filter p ys ≡ filter t ys
          filter-same p t [] h = refl
          filter-same p t (y ∷ ys) h = λ i. cond (All-head (λ z. p z ≡ t z) y ys h i) (y ∷ filter-same p t ys (All-tail (λ z. p z ≡ t z) y ys h) i) (filter-same p t ys (All-tail (λ z. p z ≡ t z) y ys h) i)

      -- one that is among them, with another row, and all others with theirs
      pub replaced-rows : (g : X → List ℕ) → All (λ y. differ before x y ≡ true → g y ≡ f y) xs → take key (g x) ≡ take key (f x) → list_all (differ before x) xs ≡ false
          → map g xs ≡ with_row key (g x) (map f xs)
      replaced-rows g same e m =
          ap (map g) (member-parts before strict x xs a m) ∙ map-append g (lower before strict x xs) (x ∷ higher before strict x xs)
          ∙ (λ i. map-agree f g (lower before strict x xs) lower-same i ++ g x ∷ map-agree f g (higher before strict x xs) higher-same i)
          ∙ (λ i. sym below-rows i ++ g x ∷ sym above-rows i)
          ∙ (λ i. below-same-key key (f x) (g x) (sym e) (map f xs) i ++ g x ∷ above-same-key key (f x) (g x) (sym e) (map f xs) i)
        where
          lower-same : All (λ y. g y ≡ f y) (lower before strict x xs)
          lower-same k d l =
              All-filter (λ y. before y x) (λ y. differ before x y ≡ true → g y ≡ f y) xs same k d l (one-of (before x _) (before _ x) (filter_passes (λ y. before y x) xs k d l))

          higher-same : All (λ y. g y ≡ f y) (higher before strict x xs)
          higher-same k d l =
              All-filter (λ y. before x y) (λ y. differ before x y ≡ true → g y ≡ f y) xs same k d l (first-of (before x _) (before _ x) (filter_passes (λ y. before x y) xs k d l))

      -- one that is among them already
      pub kept-rows : list_all (differ before x) xs ≡ false → with_row key (f x) (map f xs) ≡ map f xs
      kept-rows m = sym (replaced-rows f (λ k d l _. refl) refl m)

  -- an element of a list is among its elements
  pub among-member : (x : X) (xs : List X) → ((q : X → Bool) → list_all q xs ≡ true → q x ≡ true) → list_all (differ before x) xs ≡ false
  among-member x xs m = never (list_all (differ before x) xs) (λ h. true≢false (sym (m (differ before x) h) ∙ differ-itself before strict x))
