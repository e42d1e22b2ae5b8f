-- The attribute at the position of a number.
use Rattle.std.proofs.Common.{◌≡◌, ℕ, suc, ◌+◌, ◌-◌, ◌≤◌, Bool, true, false, cond, ◌==◌, List, [], ◌∷◌, Option, Some, None, refl, arith, slice_get}
use Rattle.std.specs.Prelude.{find}
use Rattle.std.specs.Option.{option_and_then}
use Rattle.st_lattice.specs.declared.attribute.Attribute.{Attribute}
use Rattle.st_lattice.specs.Made.{position_from}

-- what stands at a position, counted from another
abbrev pub item_at : List Attribute → ℕ → Option ℕ → Option Attribute
item_at attributes from position = option_and_then (λ p. slice_get attributes (p - from)) position

-- a position that is not before another
abbrev IsFrom : ℕ → Option ℕ → Type 0
IsFrom from None = Unit {0}
IsFrom from (Some position) = from ≤ position

either_from : (b : Bool) (from : ℕ) (x y : Option ℕ) → IsFrom from x → IsFrom from y → IsFrom from (cond b x y)
either_from true from x y p q = p
either_from false from x y p q = q

later_from : (from : ℕ) (x : Option ℕ) → IsFrom (from + 1) x → IsFrom from x
later_from from None p = tt
later_from from (Some position) p = omega (arith, p)

position_is_from : (from number : ℕ) (attributes : List Attribute) → IsFrom from (position_from from number attributes)
position_is_from from number [] = tt
position_is_from from number (a ∷ attributes) =
    either_from (a.number == number) from (Some from) (position_from (from + 1) number attributes) (omega arith) (later_from from (position_from (from + 1) number attributes) (position_is_from (from + 1) number attributes))

next_item : (a : Attribute) (attributes : List Attribute) (from : ℕ) (position : Option ℕ) → IsFrom (from + 1) position → item_at (a ∷ attributes) from position ≡ item_at attributes (from + 1) position
next_item a attributes from None p = refl
next_item a attributes from (Some position) p = let e : position - from ≡ suc (position - (from + 1)) = omega (arith, p) in rw e refl

first_item : (a : Attribute) (attributes : List Attribute) (from : ℕ) → item_at (a ∷ attributes) from (Some from) ≡ Some a
first_item a attributes from = let e : from - from ≡ 0 = omega arith in rw e refl

either_item : (b : Bool) (a : Attribute) (attributes : List Attribute) (from : ℕ) (position : Option ℕ) (other : Option Attribute) → IsFrom (from + 1) position →
    item_at attributes (from + 1) position ≡ other → item_at (a ∷ attributes) from (cond b (Some from) position) ≡ cond b (Some a) other
either_item true a attributes from position other p e = first_item a attributes from
either_item false a attributes from position other p e = rw (next_item a attributes from position p) e

found_from : (from number : ℕ) (attributes : List Attribute) → item_at attributes from (position_from from number attributes) ≡ find (λ a. a.number == number) attributes
found_from from number [] = refl
found_from from number (a ∷ attributes) =
    either_item (a.number == number) a attributes from (position_from (from + 1) number attributes) (find (λ a. a.number == number) attributes)
    (position_is_from (from + 1) number attributes) (found_from (from + 1) number attributes)

pub found_some : (number : ℕ) (attributes : List Attribute) (position : ℕ) → Some position ≡ position_from 0 number attributes → slice_get attributes position ≡ find (λ a. a.number == number) attributes
found_some number attributes position e =
    let none : position - 0 ≡ position = omega arith in
    let at = found_from 0 number attributes in
    rw (← e, none) at at

pub found_none : (number : ℕ) (attributes : List Attribute) → None ≡ position_from 0 number attributes → None ≡ find (λ a. a.number == number) attributes
found_none number attributes e = let at = found_from 0 number attributes in rw (← e) at at
