-- Where bytes leave a grammar.
use Rattle.std.specs.Prelude.{ℕ, ◌+◌, List, ◌++◌, take}

-- some bytes are the front of others that are in a grammar
abbrev pub Begins : (List ℕ → Type 0) → List ℕ → Type 0
Begins Is front = (rest : List ℕ) × Is (front ++ rest)

-- The first place at which bytes leave a grammar: those in front of it can still go on to what is in the grammar, and with
-- the one at it they can't.
pub record IsFirstWrong (Is : List ℕ → Type 0) (bytes : List ℕ) (place : ℕ) : Type 0 where
  pub begins : Begins Is (take place bytes)
  pub ends : Begins Is (take (place + 1) bytes) → ⊥
