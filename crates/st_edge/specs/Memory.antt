-- What a source or a sink over memory has at a time.
use Rattle.std.specs.Prelude.{◌≡◌, ℕ, ◌+◌, ◌-◌, ◌^◌, List, Contains, min}

pub record Memory : Type 0 where
  -- the bytes still to be read, or those taken so far
  pub bytes : List ℕ
  -- the numbers of the calls that fail, from 1
  pub failing : List ℕ
  -- how many calls were made
  pub calls : ℕ
  -- how many calls failed
  pub faults : ℕ

-- one more, up to the greatest value
abbrev pub next : ℕ → ℕ
next n = min (n + 1) (2 ^ 64 - 1)

-- the next call is one of those that fail
abbrev pub FailsNext : Memory → Type 0
FailsNext m = Contains m.failing (next m.calls)

-- a call was made: it has its number, and the list of those that fail stays
pub record MakesCall (old new : Memory) : Type 0 where
  pub calls : new.calls ≡ next old.calls
  pub failing : new.failing ≡ old.failing
