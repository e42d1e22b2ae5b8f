-- The first of several refusals that stand in parts.
use Rattle.std.proofs.Common.{◌≡◌, List, [], ◌∷◌, ◌++◌, Option, Some, None, refl}
use Rattle.st_state.specs.declared.refusal.Refusal.{Refusal}
use Rattle.st_state.specs.Refusals.{first_of}

first_of-append : (xs ys : List (Option Refusal)) → first_of (xs ++ ys) ≡ first_of (first_of xs ∷ first_of ys ∷ [])
first_of-append [] [] = refl
first_of-append [] (None ∷ ys) = first_of-append [] ys
first_of-append [] (Some r ∷ ys) = refl
first_of-append (None ∷ xs) ys = first_of-append xs ys
first_of-append (Some r ∷ xs) ys = refl

-- of three parts
pub first_of_parts : (xs ys zs : List (Option Refusal)) → first_of (xs ++ ys ++ zs) ≡ first_of (first_of xs ∷ first_of ys ∷ first_of zs ∷ [])
first_of_parts [] ys zs = first_of-append ys zs
first_of_parts (None ∷ xs) ys zs = first_of_parts xs ys zs
first_of_parts (Some r ∷ xs) ys zs = refl
