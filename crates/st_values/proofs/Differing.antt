-- Names that differ, one at a time.
use Rattle.std.proofs.Common.{◌≡◌, ℕ, suc, ◌+◌, ◌-◌, ◌<◌, Bool, true, false, List, length, get_or, take, drop, sym, ap, ◌∙◌, add-one, drop-cons}
use Rattle.std.specs.Prelude.{not, ◌&&◌}
use Rattle.std.specs.Str.{bytes_eq}
use Rattle.std.proofs.lemmas.List.{take_rest}
use Rattle.st_values.specs.Names.{has, all_differ}
use Rattle.st_values.proofs.Tests.{all-not}

-- whether a name is among those behind it
abbrev stands_behind : List (List ℕ) → ℕ → List ℕ → Bool
stands_behind names i name = has (take (length names - (i + 1)) (drop (i + 1) names)) name

-- names differ where the first is not among the others, and these differ
parts : (names : List (List ℕ)) (i : ℕ) (name : List ℕ) → i < length names → name ≡ get_or names i name → all_differ (drop i names) ≡ (not (stands_behind names i name) && all_differ (drop (i + 1) names))
parts names i name h is =
    rw (take_rest names (i + 1), drop-cons names i name h, ← is, add-one)
    (ap (λ b. b && all_differ (drop (suc i) names)) (all-not (λ other. bytes_eq other name) (drop (suc i) names)))

pub name_repeated : (names : List (List ℕ)) (i : ℕ) (name : List ℕ) → i < length names → name ≡ get_or names i name → true ≡ stands_behind names i name → all_differ (drop i names) ≡ false
name_repeated names i name h is e = parts names i name h is ∙ ap (λ b. not b && all_differ (drop (i + 1) names)) (sym e)

pub name_alone : (names : List (List ℕ)) (i : ℕ) (name : List ℕ) → i < length names → name ≡ get_or names i name → false ≡ stands_behind names i name → all_differ (drop i names) ≡ all_differ (drop (i + 1) names)
name_alone names i name h is e = parts names i name h is ∙ ap (λ b. not b && all_differ (drop (i + 1) names)) (sym e)
