-- Triples in order: where those of an attribute of an entity stand, where one triple does, and what changes leave.
use Rattle.std.proofs.Common.{◌≡◌, ℕ, suc, ◌+◌, ◌-◌, ◌<◌, ◌≤◌, Bool, true, false, List, [], ◌∷◌, ◌++◌, length, get_or, set, take, drop, Some, None, refl, sym, ap, ◌∙◌, arith, add-one, append_assoc}
use Rattle.std.specs.Prelude.{not, ◌==◌, cond, filter, find, insert, remove}
use Rattle.std.specs.List.{list_all, list_any}
use Rattle.std.specs.List.Sorted.{IsPartitionedBy}
use Rattle.std.proofs.lemmas.List.{take-append-drop, drop_all, drop-drop, take_more_set, drop-set-lt}
use Rattle.st_values.specs.declared.value.EntityId.{EntityId}
use Rattle.st_values.specs.declared.value.Value.{Value}
use Rattle.st_values.specs.declared.value.Value.TheVariants.{Null}
use Rattle.st_values.specs.Arranged.{ascends}
use Rattle.st_values.proofs.Placing.{differ, ascends-placed}
use Rattle.st_values.proofs.Tests.{both, left, right, either, not-true, all-weaken, all-two, all-each, all-filter, all-placed, all-filtered, all-not, ascends-filter}
use Rattle.st_state.specs.declared.triple.Triple.{Triple}
use Rattle.st_state.specs.State.{triple_before, same_triple, is_at, with_triple, triple_added, triple_taken}
use Rattle.st_state.proofs.Orders.{triple_before-strict}
use Rattle.st_state.proofs.Changed.{number-itself}
use Rattle.st_triples.specs.Parts.{IsPlace, IsRun}
use Rattle.st_triples.specs.Marked.{triple_of}
use Rattle.st_triples.specs.Columns.{fill}
use Rattle.st_triples.proofs.Parts.{all-drop, parted, none-behind, cons-at, ascends-drop, some-run, empty-run, run-rest, run-from, run-none, run-one, found-at, found-none, placed-between}
use Rattle.st_triples.proofs.Keys.{before-null-apart, others-before, at-closed, same-is, before-apart, behind-apart, same-closed, differs, at-differs}

-- the place of a triple parts triples in order
pub before-parted : (t : Triple) (xs : List Triple) → ascends triple_before xs ≡ true → IsPartitionedBy (λ u. triple_before u t) xs
before-parted t xs a = parted triple_before (λ _. true) (λ u. triple_before u t) (λ s u _ b h. triple_before-strict.chain s u t b h) xs a (all-each (λ _. true) xs (λ _. refl))

-- ---- the triples of an attribute of an entity

module _ (a : ℕ) (e : EntityId) (xs : List Triple) (asc : ascends triple_before xs ≡ true) (from : ℕ) (at : IsPlace (λ u. triple_before u (triple_of a e Null)) xs from) where
  -- behind the place of null they come first
  pub at-parted : IsPartitionedBy (is_at a e) (drop from xs)
  at-parted =
      parted triple_before (λ u. not (triple_before u (triple_of a e Null))) (is_at a e) (λ s u h b k. at-closed a e s u h b k) (drop from xs)
      (ascends-drop triple_before from xs asc) at.back

  pub at-run : (n : ℕ) → IsPlace (is_at a e) (drop from xs) n → IsRun (is_at a e) xs from (from + n)
  at-run n p = run-from (λ u. triple_before u (triple_of a e Null)) (is_at a e) (λ u h. before-null-apart a e u h) xs from at n p

  abbrev behind_null : Triple → Bool
  behind_null u = not (triple_before u (triple_of a e Null))

  -- the first of them stands at the place, if one does
  pub find-at : (t : Triple) → from < length xs → t ≡ get_or xs from t → is_at a e t ≡ true → find (is_at a e) xs ≡ Some t
  find-at t lt is h = found-at (λ u. triple_before u (triple_of a e Null)) (is_at a e) (λ u k. before-null-apart a e u k) xs from at t lt is h

  pub find-other : (t : Triple) → from < length xs → t ≡ get_or xs from t → is_at a e t ≡ false → find (is_at a e) xs ≡ None
  find-other t lt is h =
      found-none (λ u. triple_before u (triple_of a e Null)) (is_at a e) (λ u k. before-null-apart a e u k) xs from at
      (none-behind triple_before behind_null (is_at a e) (λ s u k b m. at-closed a e s u k b m) xs from t asc at.back lt is h)

  pub find-end : length xs ≤ from → find (is_at a e) xs ≡ None
  find-end le =
      found-none (λ u. triple_before u (triple_of a e Null)) (is_at a e) (λ u k. before-null-apart a e u k) xs from at
      (ap (list_all (λ u. not (is_at a e u))) (drop_all from xs le))

  -- ---- a value set

  module _ (to : ℕ) (r : IsRun (is_at a e) xs from to) (v : Value) where
    lower : list_all (λ u. triple_before u (triple_of a e v)) (take from xs) ≡ true
    lower =
        all-weaken (λ u. triple_before u (triple_of a e Null)) (λ u. triple_before u (triple_of a e v))
        (λ u h. others-before a e u v Null (before-null-apart a e u h) ∙ h) (take from xs) at.front

    higher : list_all (λ u. not (triple_before u (triple_of a e v))) (drop to xs) ≡ true
    higher =
        let past : list_all behind_null (drop to xs) ≡ true =
        (let o = r.ordered in let same : from + (to - from) ≡ to = omega arith in
        sym (ap (λ i. list_all behind_null (drop i xs)) same) ∙ sym (ap (list_all behind_null) (drop-drop (to - from) from xs)) ∙ all-drop behind_null (to - from) (drop from xs) at.back) in
        all-two (λ u. not (is_at a e u)) behind_null (λ u. not (triple_before u (triple_of a e v))) (drop to xs)
        (λ u h k. ap not (others-before a e u v Null (not-true (is_at a e u) h)) ∙ k) r.back past

    -- the triple takes the place of all that were there
    pub set-is : with_triple (triple_of a e v) (filter (λ u. not (is_at a e u)) xs) ≡ take from xs ++ triple_of a e v ∷ drop to xs
    set-is = ap (with_triple (triple_of a e v)) (run-rest (is_at a e) xs from to r) ∙ placed-between triple_before (triple_of a e v) (take from xs) (drop to xs) lower higher

    pub set-inserted : from ≡ to → insert xs from (triple_of a e v) ≡ with_triple (triple_of a e v) (filter (λ u. not (is_at a e u)) xs)
    set-inserted same = ap (λ i. take from xs ++ triple_of a e v ∷ drop i xs) same ∙ sym set-is

    pub set-replaced : from < to → take (from + 1) (set xs from (triple_of a e v)) ++ drop to (set xs from (triple_of a e v)) ≡ with_triple (triple_of a e v) (filter (λ u. not (is_at a e u)) xs)
    set-replaced lt =
        let t = triple_of a e v in
        let w = r.within in
        ap (λ z. z ++ drop to (set xs from t)) (take_more_set xs from t (omega arith))
        ∙ ap (λ z. (take from xs ++ t ∷ []) ++ z) (drop-set-lt to xs from t lt)
        ∙ append_assoc (take from xs) (t ∷ []) (drop to xs) ∙ sym set-is

-- ---- one triple

module _ (t : Triple) (xs : List Triple) (asc : ascends triple_before xs ≡ true) (place : ℕ) (at : IsPlace (λ u. triple_before u t) xs place) where
  abbrev not_before : Triple → Bool
  not_before u = not (triple_before u t)

  pub same-one : (u : Triple) → place < length xs → u ≡ get_or xs place u → same_triple t u ≡ true → IsRun (same_triple t) xs place (place + 1)
  same-one u lt is h =
      let here = cons-at xs place u lt is in
      let sorted : ascends triple_before (u ∷ drop (suc place) xs) ≡ true = sym (ap (ascends triple_before) here) ∙ ascends-drop triple_before place xs asc in
      run-one (λ w. triple_before w t) (same_triple t) (λ w k. before-apart t w k) xs place at u lt (ap (same_triple t) (sym is) ∙ h)
      (all-weaken (triple_before u) (λ w. not (same_triple t w)) (λ w b. ap not (behind-apart t w (ap (λ z. triple_before z w) (same-is t u h) ∙ b))) (drop (suc place) xs)
      (left (list_all (triple_before u) (drop (suc place) xs)) (ascends triple_before (drop (suc place) xs)) sorted))

  pub same-other : (u : Triple) → place < length xs → u ≡ get_or xs place u → same_triple t u ≡ false → IsRun (same_triple t) xs place place
  same-other u lt is h =
      run-none (λ w. triple_before w t) (same_triple t) (λ w k. before-apart t w k) xs place at
      (none-behind triple_before not_before (same_triple t) (λ s w k b m. same-closed t s w k b m) xs place u asc at.back lt is h)

  pub same-end : length xs ≤ place → IsRun (same_triple t) xs place place
  same-end le =
      run-none (λ w. triple_before w t) (same_triple t) (λ w k. before-apart t w k) xs place at (ap (list_all (λ w. not (same_triple t w))) (drop_all place xs le))

  pub added-inserted : IsRun (same_triple t) xs place place → insert xs place t ≡ triple_added t xs
  added-inserted r =
      sym (ap (λ b. cond b xs (with_triple t xs)) (empty-run (same_triple t) xs place place r refl)
      ∙ ap (with_triple t) (sym (take-append-drop place xs)) ∙ placed-between triple_before t (take place xs) (drop place xs) at.front at.back)

pub added-same : (t : Triple) (xs : List Triple) (place : ℕ) → IsRun (same_triple t) xs place (place + 1) → xs ≡ triple_added t xs
added-same t xs place r = sym (ap (λ b. cond b xs (with_triple t xs)) (some-run (same_triple t) xs place (place + 1) r (omega arith)))

pub taken-removed : (t : Triple) (xs : List Triple) (place : ℕ) → IsRun (same_triple t) xs place (place + 1) → remove xs place ≡ triple_taken t xs
taken-removed t xs place r = ap (λ i. take place xs ++ drop i xs) (sym (add-one place)) ∙ sym (run-rest (same_triple t) xs place (place + 1) r)

pub taken-same : (t : Triple) (xs : List Triple) (place : ℕ) → IsRun (same_triple t) xs place place → xs ≡ triple_taken t xs
taken-same t xs place r = sym (take-append-drop place xs) ∙ sym (run-rest (same_triple t) xs place place r)

-- ---- what fills a column still fills it

module _ (a : ℕ) (xs : List Triple) (f : fill a xs ≡ true) where
  abbrev own : Triple → Bool
  own t = t.attribute == a

  all_own : list_all own xs ≡ true
  all_own = left (list_all own xs) (ascends triple_before xs) f

  pub fill-ascends : ascends triple_before xs ≡ true
  fill-ascends = right (list_all own xs) (ascends triple_before xs) f

  pub fill-filter : (q : Triple → Bool) → fill a (filter q xs) ≡ true
  fill-filter q = both (list_all own (filter q xs)) (ascends triple_before (filter q xs)) (all-filter own q xs all_own) (ascends-filter triple_before q xs fill-ascends)

  pub fill-placed : (t : Triple) → (t.attribute == a) ≡ true → list_all (λ u. not (same_triple t u)) xs ≡ true → fill a (with_triple t xs) ≡ true
  fill-placed t h d =
      both (list_all own (with_triple t xs)) (ascends triple_before (with_triple t xs)) (all-placed triple_before own t xs h all_own)
      (ascends-placed triple_before triple_before-strict t xs fill-ascends
      (all-weaken (λ u. not (same_triple t u)) (differ triple_before t) (λ u k. differs t u (not-true (same_triple t u) k)) xs d))

  pub fill-added : (t : Triple) → (t.attribute == a) ≡ true → fill a (triple_added t xs) ≡ true
  fill-added t h =
      either (list_any (same_triple t) xs) (λ b. fill a (cond b xs (with_triple t xs)) ≡ true) (λ _. f)
      (λ k. fill-placed t h (all-not (same_triple t) xs ∙ ap not k))

pub fill-set : (a : ℕ) (e : EntityId) (v : Value) (xs : List Triple) → fill a xs ≡ true → fill a (with_triple (triple_of a e v) (filter (λ u. not (is_at a e u)) xs)) ≡ true
fill-set a e v xs f =
    fill-placed a (filter (λ u. not (is_at a e u)) xs) (fill-filter a xs f (λ u. not (is_at a e u))) (triple_of a e v) (number-itself a)
    (all-filtered (λ u. not (is_at a e u)) (λ u. not (same_triple (triple_of a e v) u)) xs (λ u h. ap not (at-differs a e v u h)))
