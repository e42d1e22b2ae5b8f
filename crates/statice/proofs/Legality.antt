-- Transactions, one after another, leave legal states.
use Rattle.std.proofs.Common.{◌≡◌, true, List, [], ◌∷◌, arith, All}
use Rattle.std.specs.List.{list_all}
use Rattle.std.proofs.lemmas.List.Elements.{All-cons}
use Rattle.st_values.proofs.Tests.{left, right}
use Rattle.st_query.specs.declared.statement.Statement.{Statement}
use Rattle.st_state.specs.Legal.{IsLegal}
use Rattle.st_state.specs.State.{State}
use Rattle.st_query.specs.Written.{is_written}
use Rattle.st_meaning.specs.Runs.{runs, states_after}

-- a transaction leaves a legal state
abbrev pub KeepsLegal : Type 0
KeepsLegal = (state : State) (statements : List Statement) → IsLegal state → list_all is_written statements ≡ true → IsLegal (runs state statements).state

pub all_legal : KeepsLegal → (state : State) (transactions : List (List Statement)) → IsLegal state → list_all (list_all is_written) transactions ≡ true → All IsLegal (states_after state transactions)
all_legal keeps state [] legal written = λ k d inside. absurd (omega (arith, inside))
all_legal keeps state (t ∷ transactions) legal written =
    let next = (runs state t).state in
    let here = keeps state t legal (left (list_all is_written t) (list_all (list_all is_written) transactions) written) in
    All-cons IsLegal next (states_after next transactions) here
    (all_legal keeps next transactions here (right (list_all is_written t) (list_all (list_all is_written) transactions) written))
