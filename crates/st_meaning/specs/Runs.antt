-- What a transaction gives, run by itself, and what transactions give one after another.
use Rattle.std.specs.Prelude.{ℕ, ◌+◌, Bool, true, ◌&&◌, List, [], ◌∷◌, Option, Some, None, is_none}
use Rattle.st_query.specs.declared.statement.Statement.{Statement}
use Rattle.st_state.specs.declared.refusal.Refusal.{Refusal}
use Rattle.st_state.specs.State.{State}
use Rattle.st_meaning.specs.Statements.{Present, does, answers}
use Rattle.st_meaning.specs.Rules.{refusal}

-- what comes of a statement: what it leaves and answers, or a refusal
pub data Outcome : Type 0 where
  Went : Present → List (List ℕ) → Outcome
  Refused : Refusal → Outcome

abbrev pub outcome : Present → Statement → Option Refusal → Outcome
outcome p statement None = Went (does p statement) (answers p statement)
outcome p statement (Some r) = Refused r

-- one statement
unfoldable pub runs_statement : Present → Statement → Outcome
runs_statement p statement = outcome p statement (refusal p statement)

-- a refusal and the number of its statement, from 1
pub record RefusedAt : Type 0 where
  pub statement : ℕ
  pub refusal : Refusal

-- the state that a transaction leaves, the answers of each statement that was run, and its refusal, if it was refused
pub record Run : Type 0 where
  pub state : State
  pub answers : List (List (List ℕ))
  pub refused : Option RefusedAt

-- before its first statement a transaction has no variables
abbrev pub begun : State → Present
begun state = record { state = state; variables = [] }

-- a statement's answers in front of those of the later ones; a refusal gives back the old state
abbrev pub followed : State → ℕ → Outcome → (Present → Run) → Run
followed old number (Went p answers) later = let run = later p in record run { answers = answers ∷ run.answers }
followed old number (Refused r) later = record { state = old; answers = []; refused = Some (record { statement = number; refusal = r }) }

-- statements from a number on
abbrev pub runs_from : State → ℕ → Present → List Statement → Run
runs_from old number p [] = record { state = p.state; answers = []; refused = None }
runs_from old number p (statement ∷ statements) =
    followed old number (runs_statement p statement) (λ next. runs_from old (number + 1) next statements)

-- a transaction, run by itself from a state: its statements in turn, from no variables
unfoldable pub runs : State → List Statement → Run
runs state statements = runs_from state 1 (begun state) statements

-- the states after the first, the second and each later one of transactions, run one after another
abbrev pub states_after : State → List (List Statement) → List State
states_after state [] = []
states_after state (transaction ∷ transactions) =
    let next = (runs state transaction).state in next ∷ states_after next transactions

-- whether none of the transactions is refused, run one after another: then they are a serial run
abbrev pub is_serial_run : State → List (List Statement) → Bool
is_serial_run state [] = true
is_serial_run state (transaction ∷ transactions) =
    let run = runs state transaction in is_none run.refused && is_serial_run run.state transactions
