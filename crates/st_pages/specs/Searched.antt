-- Where something stands in a list that ascends by a number, or where it would go.
use Rattle.std.specs.Prelude.{◌≡◌, ℕ, zero, suc, ◌<◌, ◌≤◌, ◌==◌, true, false, nat_lt, List, [], ◌∷◌, length, find, None, slice_index_or}

module _ {X : Type 0} (number : X → ℕ) (n : ℕ) where
  -- a place in a list: all in front of it have lower numbers, and what stands there doesn't
  abbrev pub IsBelowUpTo : List X → ℕ → Type 0
  IsBelowUpTo [] place = place ≡ 0
  IsBelowUpTo (x ∷ xs) zero = nat_lt (number x) n ≡ false
  IsBelowUpTo (x ∷ xs) (suc place) = (nat_lt (number x) n ≡ true) × IsBelowUpTo xs place

  -- what has the number stands at a place
  pub record IsFoundAt (xs : List X) (place : ℕ) : Type 0 where
    pub within : place < length xs
    pub front : IsBelowUpTo xs place
    pub is : (d : X) → number (slice_index_or xs place d) ≡ n

  -- nothing has the number, and a place is where it would go
  pub record IsGapAt (xs : List X) (place : ℕ) : Type 0 where
    pub within : place ≤ length xs
    pub front : IsBelowUpTo xs place
    pub none : find (λ x. number x == n) xs ≡ None
