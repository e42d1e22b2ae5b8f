-- Places in a list that a test tells apart.
use Rattle.std.specs.Prelude.{ℕ, ◌-◌, ◌≤◌, Bool, not, List, length, take, drop, IsTrue}
use Rattle.std.specs.List.{list_all}

-- a place in a list: all in front of it pass a test, and none from it on
pub record IsPlace {X : Type 0} (test : X → Bool) (xs : List X) (place : ℕ) : Type 0 where
  pub within : place ≤ length xs
  pub front : IsTrue (list_all test (take place xs))
  pub back : IsTrue (list_all (λ x. not (test x)) (drop place xs))

-- the run of those that pass a test: all between two places, and none in front of them or behind them
pub record IsRun {X : Type 0} (test : X → Bool) (xs : List X) (from to : ℕ) : Type 0 where
  pub ordered : from ≤ to
  pub within : to ≤ length xs
  pub front : IsTrue (list_all (λ x. not (test x)) (take from xs))
  pub run : IsTrue (list_all test (take (to - from) (drop from xs)))
  pub back : IsTrue (list_all (λ x. not (test x)) (drop to xs))
