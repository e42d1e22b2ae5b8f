-- What the laws of the definitions say.
use Rattle.std.specs.Prelude.{ℕ, ◌≡◌, ◌==◌, Bool, true, ◌&&◌, List, [], ◌∷◌, take, Option, Some, None, is_none, slice_get, IsTrue}
use Rattle.std.specs.List.{list_any, list_all}
use Rattle.st_state.specs.declared.refusal.Refusal.{Refusal}
use Rattle.st_state.specs.Refusals.{rule_number}

-- whether a refusal, if there is one, is by one of some rules
abbrev pub is_by : List ℕ → Option Refusal → Bool
is_by numbers None = true
is_by numbers (Some refusal) = list_any (λ number. rule_number refusal == number) numbers

-- whether each of several is by its own rules
abbrev pub are_by : List (List ℕ) → List (Option Refusal) → Bool
are_by (numbers ∷ others) (refusal ∷ refusals) = is_by numbers refusal && are_by others refusals
are_by _ _ = true

-- the rules in their order: three of them are one pass over the text
abbrev pub order_of_rules : List (List ℕ)
order_of_rules =
    (10 ∷ []) ∷ (1 ∷ 2 ∷ 7 ∷ []) ∷ (5 ∷ []) ∷ (11 ∷ []) ∷ (8 ∷ []) ∷ (3 ∷ []) ∷ (4 ∷ []) ∷ (6 ∷ []) ∷ (9 ∷ []) ∷ []

-- a refusal that one of several gives, and none before it
pub record IsFirst (refusals : List (Option Refusal)) (refusal : Refusal) : Type 0 where
  pub place : ℕ
  pub here : slice_get refusals place ≡ Some (Some refusal)
  pub none_before : IsTrue (list_all is_none (take place refusals))
