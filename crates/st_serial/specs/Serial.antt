-- Transactions of a script, one after another.
use Rattle.std.specs.Prelude.{Bool, List, [], ◌∷◌, map}
use Rattle.std.specs.List.{list_all}
use Rattle.st_query.specs.declared.statement.Statement.{Statement}
use Rattle.st_query.specs.declared.statement.Transaction.{Transaction}
use Rattle.st_query.specs.Written.{is_written}
use Rattle.st_state.specs.State.{State}
use Rattle.st_meaning.specs.Runs.{runs}

-- the statements of each transaction
abbrev pub statements_of : List Transaction → List (List Statement)
statements_of script = map (λ transaction. transaction.statements) script

-- whether all statements can be written
abbrev pub are_written : List Transaction → Bool
are_written script = list_all (λ transaction. list_all is_written transaction.statements) script

-- the state that transactions leave
abbrev pub state_behind : State → List (List Statement) → State
state_behind state [] = state
state_behind state (transaction ∷ transactions) = state_behind (runs state transaction).state transactions
