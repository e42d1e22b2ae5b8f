-- The stores that are kept of what was noted are the footprint.
use Rattle.std.proofs.Common.{◌≡◌, ℕ, Bool, true, false, cond, List, [], ◌∷◌, ◌++◌, Some, None, refl, sym, ap, ◌∙◌}
use Rattle.std.specs.Prelude.{not, ◌||◌, ◌==◌, nat_lt, map, filter, flat_map}
use Rattle.std.specs.List.{list_any, position_or_len}
use Rattle.std.proofs.lemmas.Bool.Decides.{Decides-eqb}
use Rattle.std.proofs.lemmas.List.Folds.{list_any-append}
use Rattle.std.proofs.lemmas.List.Sorted.{IsPermutation-insert, list_any-IsPermutation}
use Rattle.st_values.proofs.Tests.{either, first-of, one-of, other-of}
use Rattle.st_lattice.specs.Outline.{Outline}
use Rattle.st_lattice.specs.Stores.{stores_of}
use Rattle.st_query.specs.declared.statement.Statement.{Statement}
use Rattle.st_query.specs.declared.statement.Statement.TheVariants.{Make, Set, Add, Take, Delete, Find, Ensure, Let, Print, ForEach, Abort}
use Rattle.st_query.specs.declared.term.Term.{Term}
use Rattle.st_query.specs.declared.term.Variable.{Variable}
use Rattle.st_query.specs.Ways.{Start, Written, Named, way}
use Rattle.st_query.specs.Written.{begins_with, terms_of, starts_of}
use Rattle.st_query.specs.Footprint.{start_stores, path_stores, effect_stores, touches, footprint}
use Rattle.st_footprint.specs.Noted.{noted_one, noted}
use Rattle.st_footprint.specs.Parts.{hidden_by, is_hidden, seen_stores, kept_of, touched}
use Rattle.st_footprint.proofs.Numbers.{noted_one-known, noted_one-new}

-- ---- what was noted

module _ (q : ℕ → Bool) where
  -- where a number is among some that pass, one of these does
  passes : (x : ℕ) (xs : List ℕ) → list_any (λ other. other == x) xs ≡ true → q x ≡ true → list_any q xs ≡ true
  passes x [] e h = e
  passes x (y ∷ ys) e h =
      either (y == x) (λ _. list_any q (y ∷ ys) ≡ true)
      (λ k. first-of (q y) (list_any q ys) (ap q ((Decides-eqb y x).0 k) ∙ h))
      (λ k. one-of (q y) (list_any q ys) (passes x ys (other-of (y == x) (list_any (λ other. other == x) ys) e k) h))

  any-noted_one : (x : ℕ) (xs : List ℕ) → list_any q (noted_one x xs) ≡ (q x || list_any q xs)
  any-noted_one x xs =
      either (list_any (λ other. other == x) xs) (λ _. list_any q (noted_one x xs) ≡ (q x || list_any q xs))
      (λ k. ap (list_any q) (noted_one-known x xs k)
      ∙ either (q x) (λ b. list_any q xs ≡ (b || list_any q xs)) (λ h. passes x xs k h) (λ _. refl))
      (λ k. ap (list_any q) (noted_one-new x xs k) ∙ sym (list_any-IsPermutation q (x ∷ xs) _ (IsPermutation-insert xs (position_or_len (λ other. not (nat_lt other x)) xs) x)))

  any-noted : (xs numbers : List ℕ) → list_any q (noted xs numbers) ≡ (list_any q xs || list_any q numbers)
  any-noted [] numbers = refl
  any-noted (x ∷ xs) numbers = any-noted xs (noted_one x numbers) ∙ ap (λ b. list_any q xs || b) (any-noted_one x numbers) ∙ swapped (list_any q xs) (q x) (list_any q numbers)
    where
      swapped : (a b c : Bool) → (a || (b || c)) ≡ ((b || a) || c)
      swapped true true c = refl
      swapped true false c = refl
      swapped false true c = refl
      swapped false false c = refl

  -- three parts, the last of which was noted first
  any-three : (first second third : List ℕ) → list_any q (noted third (noted second (noted first []))) ≡ list_any q (first ++ second ++ third)
  any-three first second third =
      any-noted third (noted second (noted first [])) ∙ ap (λ b. list_any q third || b) (any-noted second (noted first []) ∙ ap (λ b. list_any q second || b) (any-noted first []))
      ∙ turned (list_any q first) (list_any q second) (list_any q third)
      ∙ sym (list_any-append q (first ++ second) third ∙ ap (λ b. b || list_any q third) (list_any-append q first second))
    where
      turned : (a b c : Bool) → (c || (b || (a || false))) ≡ ((a || b) || c)
      turned true true true = refl
      turned true true false = refl
      turned true false true = refl
      turned true false false = refl
      turned false true true = refl
      turned false true false = refl
      turned false false true = refl
      turned false false false = refl

-- ---- what terms begin with

module _ (schema : Outline) (variables : List Variable) where
  abbrev start : Term → Start
  start term = (way term).start

  all-seen : (s : Start) → is_hidden None s ≡ false
  all-seen (Written written) = refl
  all-seen (Named name) = refl

  hides : (var : List ℕ) (s : Start) → begins_with var s ≡ is_hidden (Some var) s
  hides var (Written written) = refl
  hides var (Named name) = refl

  starts-plain : (terms : List Term) → flat_map (start_stores schema variables) (map start terms) ≡ flat_map (λ term. seen_stores schema variables None (start term)) terms
  starts-plain [] = refl
  starts-plain (term ∷ terms) =
      ap (λ l. start_stores schema variables (start term) ++ l) (starts-plain terms)
      ∙ sym (ap (λ b. cond b [] (start_stores schema variables (start term)) ++ flat_map (λ t. seen_stores schema variables None (start t)) terms) (all-seen (start term)))

  starts-hidden : (var : List ℕ) (terms : List Term) →
      flat_map (start_stores schema variables) (filter (λ s. not (begins_with var s)) (map start terms)) ≡ flat_map (λ term. seen_stores schema variables (Some var) (start term)) terms
  starts-hidden var [] = refl
  starts-hidden var (term ∷ terms) =
      ap (λ b. flat_map (start_stores schema variables) (cond (not b) (start term ∷ filter (λ s. not (begins_with var s)) (map start terms)) (filter (λ s. not (begins_with var s)) (map start terms)))) (hides var (start term))
      ∙ one (is_hidden (Some var) (start term)) (starts-hidden var terms)
    where
      one : (b : Bool) → flat_map (start_stores schema variables) (filter (λ s. not (begins_with var s)) (map start terms)) ≡ flat_map (λ term. seen_stores schema variables (Some var) (start term)) terms →
          flat_map (start_stores schema variables) (cond (not b) (start term ∷ filter (λ s. not (begins_with var s)) (map start terms)) (filter (λ s. not (begins_with var s)) (map start terms)))
          ≡ cond b [] (start_stores schema variables (start term)) ++ flat_map (λ t. seen_stores schema variables (Some var) (start t)) terms
      one true e = e
      one false e = ap (λ l. start_stores schema variables (start term) ++ l) e

  starts-seen : (statement : Statement) → flat_map (start_stores schema variables) (starts_of statement) ≡ flat_map (λ term. seen_stores schema variables (hidden_by statement) (start term)) (terms_of statement)
  starts-seen (Make var ty cells) = starts-plain (terms_of (Make var ty cells))
  starts-seen (Set feature target written) = starts-plain (terms_of (Set feature target written))
  starts-seen (Add feature target written) = starts-plain (terms_of (Add feature target written))
  starts-seen (Take feature target written) = starts-plain (terms_of (Take feature target written))
  starts-seen (Delete target) = starts-plain (terms_of (Delete target))
  starts-seen (Find var ty key written) = starts-plain (terms_of (Find var ty key written))
  starts-seen (Ensure var ty cells) = starts-plain (terms_of (Ensure var ty cells))
  starts-seen (Let var written) = starts-plain (terms_of (Let var written))
  starts-seen (Print terms) = starts-plain terms
  starts-seen (ForEach query) = starts-hidden query.var (terms_of (ForEach query))
  starts-seen Abort = refl

  -- ---- the footprint

  same : (statement : Statement) (number : ℕ) → list_any (λ other. other == number) (touched schema variables statement) ≡ touches schema variables statement number
  same statement number =
      any-three (λ other. other == number) (flat_map (λ term. seen_stores schema variables (hidden_by statement) (start term)) (terms_of statement)) (path_stores schema (terms_of statement)) (effect_stores schema variables statement)
      ∙ ap (λ l. list_any (λ other. other == number) (l ++ path_stores schema (terms_of statement) ++ effect_stores schema variables statement)) (sym (starts-seen statement))

  pub footprint_kept : (statement : Statement) → kept_of schema (touched schema variables statement) ≡ footprint schema variables statement
  unfolding footprint
  footprint_kept statement = λ i. filter (λ number. same statement number i) (stores_of schema)
