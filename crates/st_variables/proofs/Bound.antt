-- A name that is bound: the names of variables still differ.
use Rattle.std.proofs.Common.{◌≡◌, ℕ, suc, ◌+◌, Bool, true, false, List, [], ◌∷◌, ◌++◌, take, drop, refl, sym, ap, ◌∙◌, arith, add-one, true≢false, Result, Ok, Err}
use Rattle.std.specs.Prelude.{not, cond, map, OnOk, OnErr}
use Rattle.std.specs.List.{list_all, position_or_len}
use Rattle.std.specs.Str.{bytes_eq}
use Rattle.std.proofs.lemmas.Bool.{false_from_ne_true}
use Rattle.std.proofs.lemmas.Slice.Eq.{bytes_eq-Decides}
use Rattle.st_values.specs.declared.value.Value.{Value}
use Rattle.st_values.specs.Names.{all_differ}
use Rattle.st_values.proofs.Tests.{both, left, right, either}
use Rattle.st_query.specs.declared.term.Variable.{Variable}
use Rattle.st_query.specs.Terms.{bind}

-- the names of variables
abbrev names : List Variable → List (List ℕ)
names variables = map (λ (v : Variable). v.name) variables

-- where a name is bound, or the end
abbrev place : List ℕ → List Variable → ℕ
place name variables = position_or_len (λ variable. bytes_eq variable.name name) variables

module _ (name : List ℕ) (value : Value) where
  -- the first variable has the name
  bound-here : (v : Variable) (vs : List Variable) → bytes_eq v.name name ≡ true → names (bind name value (v ∷ vs)) ≡ names (v ∷ vs)
  bound-here v vs h =
      let at : place name (v ∷ vs) ≡ 0 = ap (λ b. cond (not b) (1 + place name vs) 0) h in
      ap (λ i. names (take i (v ∷ vs) ++ record { name = name; value = value } ∷ drop (i + 1) (v ∷ vs))) at
      ∙ ap (λ n. n ∷ names vs) (sym ((bytes_eq-Decides v.name name).0 h))

  -- the first variable has another one
  bound-behind : (v : Variable) (vs : List Variable) → bytes_eq v.name name ≡ false → bind name value (v ∷ vs) ≡ v ∷ bind name value vs
  bound-behind v vs h =
      let at : place name (v ∷ vs) ≡ suc (place name vs) = ap (λ b. cond (not b) (1 + place name vs) 0) h ∙ omega arith in
      ap (λ i. take i (v ∷ vs) ++ record { name = name; value = value } ∷ drop (i + 1) (v ∷ vs)) at ∙ simp add-one

  -- what all names have, they have with one more that has it
  all-bound : (p : List ℕ → Bool) (vs : List Variable) → p name ≡ true → list_all p (names vs) ≡ true → list_all p (names (bind name value vs)) ≡ true
  all-bound p [] h e = both (p name) true h refl
  all-bound p (v ∷ vs) h e =
      either (bytes_eq v.name name) (λ _. list_all p (names (bind name value (v ∷ vs))) ≡ true)
      (λ k. ap (list_all p) (bound-here v vs k) ∙ e)
      (λ k. ap (λ l. list_all p (names l)) (bound-behind v vs k)
      ∙ both (p v.name) (list_all p (names (bind name value vs))) (left (p v.name) (list_all p (names vs)) e) (all-bound p vs h (right (p v.name) (list_all p (names vs)) e)))

  -- a name that differs from another one, the other way round
  turned : (other : List ℕ) → bytes_eq other name ≡ false → not (bytes_eq name other) ≡ true
  turned other h =
      ap not (false_from_ne_true (bytes_eq name other) (λ k. true≢false (sym ((bytes_eq-Decides other name).1 (sym ((bytes_eq-Decides name other).0 k))) ∙ h)))

  pub names-differ : (vs : List Variable) → all_differ (names vs) ≡ true → all_differ (names (bind name value vs)) ≡ true
  names-differ [] e = refl
  names-differ (v ∷ vs) e =
      either (bytes_eq v.name name) (λ _. all_differ (names (bind name value (v ∷ vs))) ≡ true)
      (λ k. ap all_differ (bound-here v vs k) ∙ e)
      (λ k.
      let others = λ (other : List ℕ). not (bytes_eq other v.name) in
      ap (λ l. all_differ (names l)) (bound-behind v vs k)
      ∙ both (list_all others (names (bind name value vs))) (all_differ (names (bind name value vs)))
      (all-bound others vs (turned v.name k) (left (list_all others (names vs)) (all_differ (names vs)) e))
      (names-differ vs (right (list_all others (names vs)) (all_differ (names vs)) e)))

  -- whether the name was bound or not
  pub still-differ : {A B : Type 0} (r : Result A B) (old new : List Variable) → OnOk r (new ≡ bind name value old) → OnErr r (new ≡ old) → all_differ (names old) ≡ true → all_differ (names new) ≡ true
  still-differ (Ok _) old new ok err e = ap (λ l. all_differ (names l)) ok ∙ names-differ old e
  still-differ (Err _) old new ok err e = ap (λ l. all_differ (names l)) err ∙ e
