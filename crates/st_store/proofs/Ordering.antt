-- Rows in the order of their keys: what stands below a row, what above it, and a list of rows part by part.
use Rattle.std.proofs.Common.{◌≡◌, ℕ, Bool, true, false, cond, List, [], ◌∷◌, ◌++◌, length, take, Option, Some, None, refl, sym, ap, ◌∙◌, append_assoc, append-nil, arith, true≢false}
use Rattle.std.specs.Prelude.{not, filter, find}
use Rattle.std.specs.Cmp.Lexicographic.{slice_cmp}
use Rattle.std.specs.List.{All, list_all, list_any}
use Rattle.std.specs.Option.{option_or}
use Rattle.std.specs.Ordering.{is_lt, nat_cmp}
use Rattle.std.specs.Str.{bytes_eq}
use Rattle.std.proofs.lemmas.Cmp.{nat_list_cmp_total}
use Rattle.std.proofs.lemmas.List.{take-take}
use Rattle.std.proofs.lemmas.List.Elements.{All-append, All-cons, All-filter, filter-append}
use Rattle.std.proofs.lemmas.List.Folds.{find-append, list_all-append}
use Rattle.std.proofs.lemmas.Map.Lookups.{exact_bytes}
use Rattle.std.proofs.lemmas.Slice.Eq.{bytes_eq-Decides}
use Rattle.st_values.specs.Arranged.{ascends, each_pair}
use Rattle.st_values.proofs.Entities.{strict}
use Rattle.st_values.proofs.Placing.{IsStrict}
use Rattle.st_values.proofs.Tests.{all-filtered, all-weaken, ascends-filter, both, either, left, never, other-of, right}
use Rattle.st_image.specs.Bytes.{IsBytes}
use Rattle.st_image.specs.Grammar.{row_before}
use Rattle.st_pages.proofs.Searched.{find-here, find-none}
use Rattle.st_store.specs.Rows.{AreOrdered, row_with, rows_above, rows_below, rows_from, with_row, without_row}

-- ---- bytes that are the same

pub bytes-same : (a b : List ℕ) → bytes_eq a b ≡ true → a ≡ b
bytes-same a b h = (bytes_eq-Decides a b).0 h

pub same-bytes : (a b : List ℕ) → a ≡ b → bytes_eq a b ≡ true
same-bytes a b e = (bytes_eq-Decides a b).1 e

-- the key of a key is the key itself
pub key-of-key : (key : ℕ) (row : List ℕ) → take key (take key row) ≡ take key row
key-of-key key row = take-take key key row (omega arith)

-- ---- two rows

keys-strict : IsStrict (λ a b. is_lt (slice_cmp nat_cmp a b))
keys-strict = strict (slice_cmp nat_cmp) nat_list_cmp_total exact_bytes

module _ (key : ℕ) where
  pub before-irreflexive : (a : List ℕ) → row_before key a a ≡ false
  before-irreflexive a = keys-strict.itself (take key a)

  pub before-trans : (a b c : List ℕ) → row_before key a b ≡ true → row_before key b c ≡ true → row_before key a c ≡ true
  before-trans a b c h k = keys-strict.chain (take key a) (take key b) (take key c) h k

  pub before-asymmetric : (a b : List ℕ) → row_before key a b ≡ true → row_before key b a ≡ false
  before-asymmetric a b h = never (row_before key b a) (λ k. true≢false (sym (before-trans a b a h k) ∙ before-irreflexive a))

  -- of two rows, none of which stands before the other, the keys are the same
  pub same-key : (a b : List ℕ) → row_before key a b ≡ false → row_before key b a ≡ false → take key a ≡ take key b
  same-key a b h k = keys-strict.tie (take key a) (take key b) h k

  -- rows stand where others with their keys stand
  pub before-left : (a b c : List ℕ) → take key a ≡ take key b → row_before key a c ≡ row_before key b c
  before-left a b c e = ap (λ (t : List ℕ). is_lt (slice_cmp nat_cmp t (take key c))) e

  pub before-right : (a b c : List ℕ) → take key a ≡ take key b → row_before key c a ≡ row_before key c b
  before-right a b c e = ap (λ (t : List ℕ). is_lt (slice_cmp nat_cmp (take key c) t)) e

  pub same-not-before : (a b : List ℕ) → take key a ≡ take key b → row_before key a b ≡ false
  same-not-before a b e = before-left a b b e ∙ before-irreflexive b

  -- what isn't before a row that stands before a third one: that one stands before the third one too
  pub from-before : (a b c : List ℕ) → row_before key a b ≡ false → row_before key a c ≡ true → row_before key b c ≡ true
  from-before a b c h k =
      either (row_before key b a) (λ _. row_before key b c ≡ true)
      (λ l. before-trans b a c l k)
      (λ l. sym (before-left a b c (same-key a b h l)) ∙ k)

  pub before-from : (a b c : List ℕ) → row_before key a b ≡ false → row_before key c b ≡ true → row_before key c a ≡ true
  before-from a b c h k =
      either (row_before key b a) (λ _. row_before key c a ≡ true)
      (λ l. before-trans c b a k l)
      (λ l. before-right a b c (same-key a b h l) ∙ k)

  pub before-differs : (a b : List ℕ) → row_before key a b ≡ true → bytes_eq (take key a) (take key b) ≡ false
  before-differs a b h =
      never (bytes_eq (take key a) (take key b)) (λ k. true≢false (sym h ∙ same-not-before a b (bytes-same (take key a) (take key b) k)))

  pub behind-differs : (a b : List ℕ) → row_before key b a ≡ true → bytes_eq (take key a) (take key b) ≡ false
  behind-differs a b h =
      never (bytes_eq (take key a) (take key b)) (λ k. true≢false (sym h ∙ same-not-before b a (sym (bytes-same (take key a) (take key b) k))))

-- ---- tests of all elements and of each pair, over lists in a row

module _ {X : Type 0} where
  pub all-left : (p : X → Bool) (xs ys : List X) → list_all p (xs ++ ys) ≡ true → list_all p xs ≡ true
  all-left p xs ys h = left (list_all p xs) (list_all p ys) (sym (list_all-append p xs ys) ∙ h)

  pub all-right : (p : X → Bool) (xs ys : List X) → list_all p (xs ++ ys) ≡ true → list_all p ys ≡ true
  all-right p xs ys h = right (list_all p xs) (list_all p ys) (sym (list_all-append p xs ys) ∙ h)

  pub all-append : (p : X → Bool) (xs ys : List X) → list_all p xs ≡ true → list_all p ys ≡ true → list_all p (xs ++ ys) ≡ true
  all-append p xs ys h k = list_all-append p xs ys ∙ both (list_all p xs) (list_all p ys) h k

  pub pairs-left : (t : X → X → Bool) (xs ys : List X) → each_pair t (xs ++ ys) ≡ true → each_pair t xs ≡ true
  pairs-left t [] ys h = refl
  pairs-left t (x ∷ xs) ys h =
      both (list_all (t x) xs) (each_pair t xs)
      (all-left (t x) xs ys (left (list_all (t x) (xs ++ ys)) (each_pair t (xs ++ ys)) h))
      (pairs-left t xs ys (right (list_all (t x) (xs ++ ys)) (each_pair t (xs ++ ys)) h))

  pub pairs-right : (t : X → X → Bool) (xs ys : List X) → each_pair t (xs ++ ys) ≡ true → each_pair t ys ≡ true
  pairs-right t [] ys h = h
  pairs-right t (x ∷ xs) ys h = pairs-right t xs ys (right (list_all (t x) (xs ++ ys)) (each_pair t (xs ++ ys)) h)

  pub pairs-between : (t : X → X → Bool) (xs ys : List X) → each_pair t (xs ++ ys) ≡ true → list_all (λ x. list_all (t x) ys) xs ≡ true
  pairs-between t [] ys h = refl
  pairs-between t (x ∷ xs) ys h =
      both (list_all (t x) ys) (list_all (λ y. list_all (t y) ys) xs)
      (all-right (t x) xs ys (left (list_all (t x) (xs ++ ys)) (each_pair t (xs ++ ys)) h))
      (pairs-between t xs ys (right (list_all (t x) (xs ++ ys)) (each_pair t (xs ++ ys)) h))

  pub pairs-append : (t : X → X → Bool) (xs ys : List X) → each_pair t xs ≡ true → each_pair t ys ≡ true → list_all (λ x. list_all (t x) ys) xs ≡ true → each_pair t (xs ++ ys) ≡ true
  pairs-append t [] ys h k l = k
  pairs-append t (x ∷ xs) ys h k l =
      both (list_all (t x) (xs ++ ys)) (each_pair t (xs ++ ys))
      (all-append (t x) xs ys (left (list_all (t x) xs) (each_pair t xs) h) (left (list_all (t x) ys) (list_all (λ y. list_all (t y) ys) xs) l))
      (pairs-append t xs ys (right (list_all (t x) xs) (each_pair t xs) h) k (right (list_all (t x) ys) (list_all (λ y. list_all (t y) ys) xs) l))

  pub filter-all : (p : X → Bool) (xs : List X) → list_all p xs ≡ true → filter p xs ≡ xs
  filter-all p [] h = refl
  filter-all p (x ∷ xs) h =
      ap (λ b. cond b (x ∷ filter p xs) (filter p xs)) (left (p x) (list_all p xs) h)
      ∙ ap (λ (l : List X). x ∷ l) (filter-all p xs (right (p x) (list_all p xs) h))

  -- none is kept of those that pass another test, by which they fail this one
  pub filter-none : (p q : X → Bool) → ((x : X) → q x ≡ true → p x ≡ false) → (xs : List X) → list_all q xs ≡ true → filter p xs ≡ []
  filter-none p q r [] h = refl
  filter-none p q r (x ∷ xs) h =
      ap (λ b. cond b (x ∷ filter p xs) (filter p xs)) (r x (left (q x) (list_all q xs) h))
      ∙ filter-none p q r xs (right (q x) (list_all q xs) h)

  pub find-none-of : (p q : X → Bool) → ((x : X) → q x ≡ true → p x ≡ false) → (xs : List X) → list_all q xs ≡ true → find p xs ≡ None
  find-none-of p q r xs h = find-none p xs (all-weaken q (λ x. not (p x)) (λ x k. ap not (r x k)) xs h)

-- ---- rows by the key of another row

module _ (key : ℕ) (a b : List ℕ) (e : take key a ≡ take key b) where
  pub below-same-key : (rows : List (List ℕ)) → rows_below key a rows ≡ rows_below key b rows
  below-same-key rows = ap (λ (t : List ℕ). filter (λ r. is_lt (slice_cmp nat_cmp (take key r) t)) rows) e

  pub above-same-key : (rows : List (List ℕ)) → rows_above key a rows ≡ rows_above key b rows
  above-same-key rows = ap (λ (t : List ℕ). filter (λ r. is_lt (slice_cmp nat_cmp t (take key r))) rows) e

  pub from-same-key : (rows : List (List ℕ)) → rows_from key a rows ≡ rows_from key b rows
  from-same-key rows = ap (λ (t : List ℕ). filter (λ r. not (is_lt (slice_cmp nat_cmp (take key r) t))) rows) e

  pub row_with-same-key : (rows : List (List ℕ)) → row_with key a rows ≡ row_with key b rows
  row_with-same-key rows = ap (λ (t : List ℕ). find (λ r. bytes_eq (take key r) t) rows) e

-- ---- rows that are all below a row, or all above it

module _ (key : ℕ) (row : List ℕ) where
  abbrev pub all_below : List (List ℕ) → Bool
  all_below rows = list_all (λ r. row_before key r row) rows

  abbrev pub all_above : List (List ℕ) → Bool
  all_above rows = list_all (λ r. row_before key row r) rows

  pub below-of-below : (xs : List (List ℕ)) → all_below xs ≡ true → rows_below key row xs ≡ xs
  below-of-below xs h = filter-all (λ r. row_before key r row) xs h

  pub above-of-below : (xs : List (List ℕ)) → all_below xs ≡ true → rows_above key row xs ≡ []
  above-of-below xs h = filter-none (λ r. row_before key row r) (λ r. row_before key r row) (λ r k. before-asymmetric key r row k) xs h

  pub from-of-below : (xs : List (List ℕ)) → all_below xs ≡ true → rows_from key row xs ≡ []
  from-of-below xs h = filter-none (λ r. not (row_before key r row)) (λ r. row_before key r row) (λ r k. ap not k) xs h

  pub none-of-below : (xs : List (List ℕ)) → all_below xs ≡ true → row_with key row xs ≡ None
  none-of-below xs h = find-none-of (λ r. bytes_eq (take key r) (take key row)) (λ r. row_before key r row) (λ r k. before-differs key r row k) xs h

  pub with-past-below : (xs ys : List (List ℕ)) → all_below xs ≡ true → row_with key row (xs ++ ys) ≡ row_with key row ys
  with-past-below xs ys h =
      find-append (λ r. bytes_eq (take key r) (take key row)) xs ys ∙ ap (λ (o : Option (List ℕ)). option_or o (row_with key row ys)) (none-of-below xs h)

  pub with-here : (r : List ℕ) (rs : List (List ℕ)) → take key r ≡ take key row → row_with key row (r ∷ rs) ≡ Some r
  with-here r rs e = find-here (λ x. bytes_eq (take key x) (take key row)) r rs (same-bytes (take key r) (take key row) e)

  pub below-of-above : (xs : List (List ℕ)) → all_above xs ≡ true → rows_below key row xs ≡ []
  below-of-above xs h = filter-none (λ r. row_before key r row) (λ r. row_before key row r) (λ r k. before-asymmetric key row r k) xs h

  pub above-of-above : (xs : List (List ℕ)) → all_above xs ≡ true → rows_above key row xs ≡ xs
  above-of-above xs h = filter-all (λ r. row_before key row r) xs h

  pub from-of-above : (xs : List (List ℕ)) → all_above xs ≡ true → rows_from key row xs ≡ xs
  from-of-above xs h =
      filter-all (λ r. not (row_before key r row)) xs (all-weaken (λ r. row_before key row r) (λ r. not (row_before key r row)) (λ r k. ap not (before-asymmetric key row r k)) xs h)

  pub none-of-above : (xs : List (List ℕ)) → all_above xs ≡ true → row_with key row xs ≡ None
  none-of-above xs h = find-none-of (λ r. bytes_eq (take key r) (take key row)) (λ r. row_before key row r) (λ r k. behind-differs key r row k) xs h

  -- what is kept of rows as below a row, or as above it
  pub kept-below : (rows : List (List ℕ)) → all_below (rows_below key row rows) ≡ true
  kept-below rows = all-filtered (λ r. row_before key r row) (λ r. row_before key r row) rows (λ r k. k)

  pub kept-above : (rows : List (List ℕ)) → all_above (rows_above key row rows) ≡ true
  kept-above rows = all-filtered (λ r. row_before key row r) (λ r. row_before key row r) rows (λ r k. k)

  -- ---- rows in three parts, the first below a row and the last above it

  pub rows_below-parts : (xs ys zs : List (List ℕ)) → all_below xs ≡ true → all_above zs ≡ true → rows_below key row (xs ++ (ys ++ zs)) ≡ xs ++ rows_below key row ys
  rows_below-parts xs ys zs h k =
      let p : List ℕ → Bool = λ r. row_before key r row in
      rw (filter-append p xs (ys ++ zs), filter-append p ys zs, below-of-below xs h, below-of-above zs k, append-nil (rows_below key row ys)) refl

  pub rows_above-parts : (xs ys zs : List (List ℕ)) → all_below xs ≡ true → all_above zs ≡ true → rows_above key row (xs ++ (ys ++ zs)) ≡ rows_above key row ys ++ zs
  rows_above-parts xs ys zs h k =
      let p : List ℕ → Bool = λ r. row_before key row r in
      rw (filter-append p xs (ys ++ zs), filter-append p ys zs, above-of-below xs h, above-of-above zs k) refl

  pub rows_from-parts : (xs ys zs : List (List ℕ)) → all_below xs ≡ true → all_above zs ≡ true → rows_from key row (xs ++ (ys ++ zs)) ≡ rows_from key row ys ++ zs
  rows_from-parts xs ys zs h k =
      let p : List ℕ → Bool = λ r. not (row_before key r row) in
      rw (filter-append p xs (ys ++ zs), filter-append p ys zs, from-of-below xs h, from-of-above zs k) refl

  pub row_with-parts : (xs ys zs : List (List ℕ)) → all_below xs ≡ true → all_above zs ≡ true → row_with key row (xs ++ (ys ++ zs)) ≡ row_with key row ys
  row_with-parts xs ys zs h k =
      with-past-below xs (ys ++ zs) h
      ∙ find-append (λ r. bytes_eq (take key r) (take key row)) ys zs
      ∙ ap (λ (o : Option (List ℕ)). option_or (row_with key row ys) o) (none-of-above zs k)
      ∙ or-none (row_with key row ys)
    where
      or-none : (o : Option (List ℕ)) → option_or o None ≡ o
      or-none None = refl
      or-none (Some r) = refl

  pub with_row-parts : (xs ys zs : List (List ℕ)) → all_below xs ≡ true → all_above zs ≡ true → with_row key row (xs ++ (ys ++ zs)) ≡ xs ++ (with_row key row ys ++ zs)
  with_row-parts xs ys zs h k =
      rw (rows_below-parts xs ys zs h k, rows_above-parts xs ys zs h k)
      (append_assoc xs (rows_below key row ys) (row ∷ (rows_above key row ys ++ zs))
      ∙ ap (λ (l : List (List ℕ)). xs ++ l) (sym (append_assoc (rows_below key row ys) (row ∷ rows_above key row ys) zs)))

  pub without_row-parts : (xs ys zs : List (List ℕ)) → all_below xs ≡ true → all_above zs ≡ true → without_row key row (xs ++ (ys ++ zs)) ≡ xs ++ (without_row key row ys ++ zs)
  without_row-parts xs ys zs h k =
      rw (rows_below-parts xs ys zs h k, rows_above-parts xs ys zs h k)
      (append_assoc xs (rows_below key row ys) (rows_above key row ys ++ zs)
      ∙ ap (λ (l : List (List ℕ)). xs ++ l) (sym (append_assoc (rows_below key row ys) (rows_above key row ys) zs)))

  -- where some row isn't below a row, all behind its list are above it
  pub above-behind : (ys zs : List (List ℕ)) → ascends (row_before key) (ys ++ zs) ≡ true → list_any (λ r. not (row_before key r row)) ys ≡ true → all_above zs ≡ true
  above-behind [] zs a h = absurd (true≢false (sym h))
  above-behind (y ∷ ys) zs a h =
      either (row_before key y row) (λ _. all_above zs ≡ true)
      (λ k. above-behind ys zs (right (list_all (row_before key y) (ys ++ zs)) (ascends (row_before key) (ys ++ zs)) a)
      (other-of (not (row_before key y row)) (list_any (λ r. not (row_before key r row)) ys) h (ap not k)))
      (λ k. all-weaken (row_before key y) (λ r. row_before key row r) (λ z l. from-before key y row z k l) zs
      (all-right (row_before key y) ys zs (left (list_all (row_before key y) (ys ++ zs)) (ascends (row_before key) (ys ++ zs)) a)))

  -- where some row isn't above a row, all in front of its list are below it
  pub below-in-front : (xs ys : List (List ℕ)) → ascends (row_before key) (xs ++ ys) ≡ true → list_any (λ r. not (row_before key row r)) ys ≡ true → all_below xs ≡ true
  below-in-front [] ys a h = refl
  below-in-front (x ∷ xs) ys a h =
      both (row_before key x row) (all_below xs)
      (before-some x ys (all-right (row_before key x) xs ys (left (list_all (row_before key x) (xs ++ ys)) (ascends (row_before key) (xs ++ ys)) a)) h)
      (below-in-front xs ys (right (list_all (row_before key x) (xs ++ ys)) (ascends (row_before key) (xs ++ ys)) a) h)
    where
      before-some : (x : List ℕ) (ys : List (List ℕ)) → list_all (row_before key x) ys ≡ true → list_any (λ r. not (row_before key row r)) ys ≡ true → row_before key x row ≡ true
      before-some x [] a h = absurd (true≢false (sym h))
      before-some x (y ∷ ys) a h =
          either (row_before key row y) (λ _. row_before key x row ≡ true)
          (λ k. before-some x ys (right (row_before key x y) (list_all (row_before key x) ys) a)
          (other-of (not (row_before key row y)) (list_any (λ r. not (row_before key row r)) ys) h (ap not k)))
          (λ k. before-from key row y x k (left (row_before key x y) (list_all (row_before key x) ys) a))

  -- ---- the order is kept

  pub with_row-ascends : (rows : List (List ℕ)) → ascends (row_before key) rows ≡ true → ascends (row_before key) (with_row key row rows) ≡ true
  with_row-ascends rows a =
      let below = rows_below key row rows in
      let above = rows_above key row rows in
      let higher : list_all (row_before key row) above ≡ true = all-filtered (λ r. row_before key row r) (row_before key row) rows (λ r k. k) in
      pairs-append (row_before key) below (row ∷ above) (ascends-filter (row_before key) (λ r. row_before key r row) rows a)
      (both (list_all (row_before key row) above) (each_pair (row_before key) above) higher (ascends-filter (row_before key) (λ r. row_before key row r) rows a))
      (all-filtered (λ r. row_before key r row) (λ r. list_all (row_before key r) (row ∷ above)) rows
      (λ r k. both (row_before key r row) (list_all (row_before key r) above) k (all-weaken (row_before key row) (row_before key r) (λ z l. before-trans key r row z k l) above higher)))

  pub without_row-ascends : (rows : List (List ℕ)) → ascends (row_before key) rows ≡ true → ascends (row_before key) (without_row key row rows) ≡ true
  without_row-ascends rows a =
      let below = rows_below key row rows in
      let above = rows_above key row rows in
      let higher : list_all (row_before key row) above ≡ true = all-filtered (λ r. row_before key row r) (row_before key row) rows (λ r k. k) in
      pairs-append (row_before key) below above (ascends-filter (row_before key) (λ r. row_before key r row) rows a)
      (ascends-filter (row_before key) (λ r. row_before key row r) rows a)
      (all-filtered (λ r. row_before key r row) (λ r. list_all (row_before key r) above) rows
      (λ r k. all-weaken (row_before key row) (row_before key r) (λ z l. before-trans key r row z k l) above higher))

  with-all : (P : List ℕ → Type 0) (rows : List (List ℕ)) → P row → All P rows → All P (with_row key row rows)
  with-all P rows h k =
      All-append P (rows_below key row rows) (row ∷ rows_above key row rows) (All-filter (λ r. row_before key r row) P rows k)
      (All-cons P row (rows_above key row rows) h (All-filter (λ r. row_before key row r) P rows k))

  without-all : (P : List ℕ → Type 0) (rows : List (List ℕ)) → All P rows → All P (without_row key row rows)
  without-all P rows k =
      All-append P (rows_below key row rows) (rows_above key row rows) (All-filter (λ r. row_before key r row) P rows k) (All-filter (λ r. row_before key row r) P rows k)

  pub with_row-ordered : (width : ℕ) (rows : List (List ℕ)) → AreOrdered key width rows → length row ≡ width → IsBytes row → AreOrdered key width (with_row key row rows)
  with_row-ordered width rows o w b = record {
    ascend = with_row-ascends rows o.ascend;
    wide = with-all (λ r. length r ≡ width) rows w o.wide;
    bytes = with-all IsBytes rows b o.bytes;
  }

  pub without_row-ordered : (width : ℕ) (rows : List (List ℕ)) → AreOrdered key width rows → AreOrdered key width (without_row key row rows)
  without_row-ordered width rows o = record {
    ascend = without_row-ascends rows o.ascend;
    wide = without-all (λ r. length r ≡ width) rows o.wide;
    bytes = without-all IsBytes rows o.bytes;
  }
