-- The first found in what is taken from some elements of a list.
use Rattle.std.proofs.Common.{◌≡◌, Bool, true, false, cond, ◌&&◌, List, [], ◌∷◌, map, Some, refl}
use Rattle.std.specs.Prelude.{filter, find}
use Rattle.std.specs.Option.{option_map}

-- the first image that passes is that of the first element that is kept and whose image passes
pub found_of : {X Y : Type 0} (p : Y → Bool) (f : X → Y) (q : X → Bool) (xs : List X) → option_map f (find (λ x. q x && p (f x)) xs) ≡ find p (map f (filter q xs))
found_of p f q [] = refl
found_of p f q (x ∷ xs) =
    let rest = found_of p f q xs in
    elim (q x) as (λ b. option_map f (cond (b && p (f x)) (Some x) (find (λ y. q y && p (f y)) xs)) ≡ find p (map f (cond b (x ∷ filter q xs) (filter q xs)))) [
      | true ↦ elim (p (f x)) as (λ c. option_map f (cond c (Some x) (find (λ y. q y && p (f y)) xs)) ≡ cond c (Some (f x)) (find p (map f (filter q xs)))) [ true ↦ refl | false ↦ rest ]
      | false ↦ rest
    ]
