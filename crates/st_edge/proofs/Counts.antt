-- A count that rose, with steps before and after that never fall.
use Rattle.std.proofs.Common.{ℕ, ◌-◌, ◌^◌, ◌<◌, ◌≤◌, arith}
use Rattle.st_edge.specs.Faults.{Rose}

-- what comes after the rise keeps it
pub Rose-before : (a b c : ℕ) → Rose a b → b ≤ c → Rose a c
Rose-before a b c rose le = omega arith

-- what came before the rise keeps it
pub Rose-after : (a b c : ℕ) → a ≤ b → Rose b c → Rose a c
Rose-after a b c le rose = omega arith

-- a count that stays below its greatest value and didn't grow shows no fault
pub Rose-same : (a : ℕ) → a < 2 ^ 64 - 1 → Rose a a → ⊥
Rose-same a small rose = omega arith
