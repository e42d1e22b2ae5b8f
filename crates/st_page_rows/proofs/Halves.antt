-- A search by halves among rows in order: what follows of a row that is below a key, or isn't.
use Rattle.std.proofs.Common.{◌≡◌, ℕ, zero, suc, ◌+◌, ◌≤◌, Bool, true, false, cond, List, [], ◌∷◌, ◌++◌, length, take, drop, Some, None, refl, sym, ap, ◌∙◌, add-one, append-nil, arith}
use Rattle.std.specs.Prelude.{not, slice_get}
use Rattle.std.specs.List.{list_all}
use Rattle.std.proofs.lemmas.List.{drop_all, take-append-drop, take_all}
use Rattle.std.proofs.lemmas.Option.{slice_get_within}
use Rattle.std.proofs.lemmas.List.Elements.{filter-append}
use Rattle.st_values.specs.Arranged.{ascends}
use Rattle.st_values.proofs.Tests.{all-weaken, both, either, left, not-true, right}
use Rattle.st_image.specs.Grammar.{row_before}
use Rattle.st_store.specs.Rows.{rows_above, rows_below}
use Rattle.st_store.proofs.Ordering.{above-of-above, above-of-below, before-asymmetric, before-trans, below-of-below, filter-none, from-before, key-of-key, same-key, same-not-before}
use Rattle.st_page_rows.specs.PageRows.{IsAbsent, IsThere}
use Rattle.st_page_rows.proofs.Standing.{drop-at}

no-item : {X : Type 0} (x : X) → None ≡ Some x → ⊥
no-item x e = cc

one-item : {X : Type 0} (x y : X) → Some x ≡ Some y → x ≡ y
one-item x y e = cc

-- ---- a test of all elements, at one of them, and of what is behind a list

pub all-at : {X : Type 0} (p : X → Bool) (xs : List X) (i : ℕ) (x : X) → list_all p xs ≡ true → slice_get xs i ≡ Some x → p x ≡ true
all-at p [] i x h e = absurd (no-item x e)
all-at p (y ∷ xs) zero x h e = sym (ap p (one-item y x e)) ∙ left (p y) (list_all p xs) h
all-at p (y ∷ xs) (suc i) x h e = all-at p xs i x (right (p y) (list_all p xs) h) e

pub all-past : {X : Type 0} (p : X → Bool) (xs : List X) (n : ℕ) → length xs ≤ n → list_all p (drop n xs) ≡ true
all-past p xs n h = ap (list_all p) (drop_all n xs h)

module _ (key : ℕ) (sought : List ℕ) where
  abbrev below : List ℕ → Bool
  below r = row_before key r sought

  abbrev behind : List ℕ → Bool
  behind r = not (row_before key r sought)

  -- ---- up to a row that is below the key, and from one on that isn't

  below-to : (rows : List (List ℕ)) (i : ℕ) (r : List ℕ) → ascends (row_before key) rows ≡ true → slice_get rows i ≡ Some r → row_before key r sought ≡ true → list_all below (take (suc i) rows) ≡ true
  below-to [] i r a e h = absurd (no-item r e)
  below-to (x ∷ rows) zero r a e h = both (below x) true (ap below (one-item x r e) ∙ h) refl
  below-to (x ∷ rows) (suc i) r a e h =
      both (below x) (list_all below (take (suc i) rows))
      (before-trans key x r sought (all-at (row_before key x) rows i r (left (list_all (row_before key x) rows) (ascends (row_before key) rows) a) e) h)
      (below-to rows i r (right (list_all (row_before key x) rows) (ascends (row_before key) rows) a) e h)

  pub below-more : (rows : List (List ℕ)) (i : ℕ) (r : List ℕ) → ascends (row_before key) rows ≡ true → slice_get rows i ≡ Some r → row_before key r sought ≡ true → list_all below (take (i + 1) rows) ≡ true
  below-more rows i r a e h = ap (λ (n : ℕ). list_all below (take n rows)) (add-one i) ∙ below-to rows i r a e h

  pub behind-more : (rows : List (List ℕ)) (i : ℕ) (r : List ℕ) → ascends (row_before key) rows ≡ true → slice_get rows i ≡ Some r → row_before key r sought ≡ false → list_all behind (drop i rows) ≡ true
  behind-more [] i r a e h = absurd (no-item r e)
  behind-more (x ∷ rows) zero r a e h =
      let low : row_before key x sought ≡ false = ap below (one-item x r e) ∙ h in
      both (behind x) (list_all behind rows) (ap not low)
      (all-weaken (row_before key x) behind (λ y k. ap not (before-asymmetric key sought y (from-before key x sought y low k))) rows
      (left (list_all (row_before key x) rows) (ascends (row_before key) rows) a))
  behind-more (x ∷ rows) (suc i) r a e h = behind-more rows i r (right (list_all (row_before key x) rows) (ascends (row_before key) rows) a) e h

  -- what is behind a row that isn't below the key is above it
  pub above-past : (rows : List (List ℕ)) (i : ℕ) (r : List ℕ) → ascends (row_before key) rows ≡ true → slice_get rows i ≡ Some r → row_before key r sought ≡ false → list_all (λ x. row_before key sought x) (drop (suc i) rows) ≡ true
  above-past [] i r a e h = absurd (no-item r e)
  above-past (x ∷ rows) zero r a e h =
      let low : row_before key x sought ≡ false = ap below (one-item x r e) ∙ h in
      all-weaken (row_before key x) (λ y. row_before key sought y) (λ y k. from-before key x sought y low k) rows (left (list_all (row_before key x) rows) (ascends (row_before key) rows) a)
  above-past (x ∷ rows) (suc i) r a e h = above-past rows i r (right (list_all (row_before key x) rows) (ascends (row_before key) rows) a) e h

  -- ---- where the search ends

  module _ (rows : List (List ℕ)) (i : ℕ) (a : ascends (row_before key) rows ≡ true) (low : list_all below (take i rows) ≡ true) where
    -- all rows are below the key
    pub absent-end : i ≡ length rows → IsAbsent key sought rows i
    absent-end e =
        let all : list_all below rows ≡ true = ap (list_all below) (sym (take_all i rows (omega arith))) ∙ low in
        record {
          within = omega arith;
          below = take_all i rows (omega arith) ∙ sym (below-of-below key sought rows all);
          above = drop_all i rows (omega arith) ∙ sym (above-of-below key sought rows all);
        }

    module _ (r : List ℕ) (e : slice_get rows i ≡ Some r) (high : list_all behind (drop i rows) ≡ true) where
      not-below : row_before key r sought ≡ false
      not-below = not-true (row_before key r sought) (left (behind r) (list_all behind (drop (i + 1) rows)) (sym (ap (list_all behind) (drop-at rows i r e)) ∙ high))

      later : list_all (λ x. row_before key sought x) (drop (i + 1) rows) ≡ true
      later = ap (λ (n : ℕ). list_all (λ x. row_before key sought x) (drop n rows)) (add-one i) ∙ above-past rows i r a e not-below

      front : take i rows ≡ rows_below key sought rows
      front =
          sym (ap (rows_below key sought) (sym (take-append-drop i rows))
          ∙ filter-append below (take i rows) (drop i rows)
          ∙ ap (λ (l : List (List ℕ)). l ++ rows_below key sought (drop i rows)) (below-of-below key sought (take i rows) low)
          ∙ ap (λ (l : List (List ℕ)). take i rows ++ l) (filter-none below behind (λ x k. not-true (row_before key x sought) k) (drop i rows) high)
          ∙ append-nil (take i rows))

      above-dropped : rows_above key sought rows ≡ rows_above key sought (drop i rows)
      above-dropped =
          ap (rows_above key sought) (sym (take-append-drop i rows))
          ∙ filter-append (λ x. row_before key sought x) (take i rows) (drop i rows)
          ∙ ap (λ (l : List (List ℕ)). l ++ rows_above key sought (drop i rows)) (above-of-below key sought (take i rows) low)

      pub there-at : take key r ≡ sought → IsThere key sought rows i
      there-at same =
          let key-same : take key sought ≡ take key r = sym (ap (take key) same) ∙ key-of-key key r in
          record {
            row = r;
            at = e;
            has = same;
            below = front;
            above =
                sym (above-dropped
                ∙ ap (rows_above key sought) (drop-at rows i r e)
                ∙ ap (λ b. cond b (r ∷ rows_above key sought (drop (i + 1) rows)) (rows_above key sought (drop (i + 1) rows))) (same-not-before key sought r key-same)
                ∙ above-of-above key sought (drop (i + 1) rows) later);
          }

      pub absent-at : (take key r ≡ take key sought → ⊥) → IsAbsent key sought rows i
      absent-at differs =
          let first : row_before key sought r ≡ true = either (row_before key sought r) (λ b. b ≡ true) (λ _. refl) (λ k. absurd (differs (same-key key r sought not-below k))) in
          let all : list_all (λ x. row_before key sought x) (drop i rows) ≡ true =
          ap (list_all (λ x. row_before key sought x)) (drop-at rows i r e) ∙ both (row_before key sought r) (list_all (λ x. row_before key sought x) (drop (i + 1) rows)) first later in
          record {
            within = let lt = slice_get_within rows i r e in omega arith;
            below = front;
            above = sym (above-dropped ∙ above-of-above key sought (drop i rows) all);
          }
