-- How a run ends.
use Rattle.std.proofs.Common.{◌≡◌, ℕ, suc, ◌+◌, List, [], ◌∷◌, length, Option, Some, None, refl, ap, arith}
use Rattle.st_query.specs.declared.statement.Statement.{Statement}
use Rattle.st_state.specs.State.{State}
use Rattle.st_meaning.specs.Statements.{Present}
use Rattle.st_meaning.specs.Runs.{Outcome, Went, Refused, RefusedAt, Run, followed, begun, runs_statement, runs_from, runs}

abbrev number_in : ℕ → Option RefusedAt → ℕ
number_in d None = d
number_in d (Some r) = r.statement

module _ (old : State) where
  followed-old : (n : ℕ) (o : Outcome) (later : Present → Run) (r : RefusedAt) → ((q : Present) → (later q).refused ≡ Some r → (later q).state ≡ old)
      → (followed old n o later).refused ≡ Some r → (followed old n o later).state ≡ old
  followed-old n (Went q a) later r h e = h q e
  followed-old n (Refused x) later r h e = refl

  from-old : (n : ℕ) (p : Present) (ss : List Statement) (r : RefusedAt) → (runs_from old n p ss).refused ≡ Some r → (runs_from old n p ss).state ≡ old
  from-old n p [] r e = cc
  from-old n p (s ∷ ss) r e = followed-old n (runs_statement p s) (λ q. runs_from old (n + 1) q ss) r (λ q h. from-old (n + 1) q ss r h) e

  followed-at : (n : ℕ) (o : Outcome) (later : Present → Run) (r : RefusedAt) → ((q : Present) → (later q).refused ≡ Some r → r.statement ≡ length (later q).answers + (n + 1))
      → (followed old n o later).refused ≡ Some r → r.statement ≡ length (followed old n o later).answers + n
  followed-at n (Went q a) later r h e = let i = h q e in omega arith
  followed-at n (Refused x) later r h e = let i = ap (number_in n) e in omega arith

  from-at : (n : ℕ) (p : Present) (ss : List Statement) (r : RefusedAt) → (runs_from old n p ss).refused ≡ Some r → r.statement ≡ length (runs_from old n p ss).answers + n
  from-at n p [] r e = cc
  from-at n p (s ∷ ss) r e = followed-at n (runs_statement p s) (λ q. runs_from old (n + 1) q ss) r (λ q h. from-at (n + 1) q ss r h) e

  followed-all : (n m : ℕ) (o : Outcome) (later : Present → Run) → ((q : Present) → (later q).refused ≡ None → length (later q).answers ≡ m)
      → (followed old n o later).refused ≡ None → length (followed old n o later).answers ≡ suc m
  followed-all n m (Went q a) later h e = ap (λ k. suc k) (h q e)
  followed-all n m (Refused x) later h e = cc

  from-all : (n : ℕ) (p : Present) (ss : List Statement) → (runs_from old n p ss).refused ≡ None → length (runs_from old n p ss).answers ≡ length ss
  from-all n p [] e = refl
  from-all n p (s ∷ ss) e = followed-all n (length ss) (runs_statement p s) (λ q. runs_from old (n + 1) q ss) (λ q h. from-all (n + 1) q ss h) e

pub runs-old : (state : State) (ss : List Statement) (r : RefusedAt) → (runs state ss).refused ≡ Some r → (runs state ss).state ≡ state
unfolding runs
runs-old state ss r e = from-old state 1 (begun state) ss r e

pub runs-at : (state : State) (ss : List Statement) (r : RefusedAt) → (runs state ss).refused ≡ Some r → r.statement ≡ length (runs state ss).answers + 1
unfolding runs
runs-at state ss r e = from-at state 1 (begun state) ss r e

pub runs-all : (state : State) (ss : List Statement) → (runs state ss).refused ≡ None → length (runs state ss).answers ≡ length ss
unfolding runs
runs-all state ss e = from-all state 1 (begun state) ss e
