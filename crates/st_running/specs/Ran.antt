-- A transaction that runs.
use Rattle.std.specs.Prelude.{◌≡◌, ℕ, ◌+◌, List, [], ◌++◌}
use Rattle.st_query.specs.declared.statement.Statement.{Statement}
use Rattle.st_query.specs.declared.term.Variable.{Variable}
use Rattle.st_meaning.specs.Statements.{Present, does, answers}

-- its statements, how many of them were run, its variables, and the answers so far
pub record Ran : Type 0 where
  pub statements : List Statement
  pub ran : ℕ
  pub variables : List Variable
  pub answers : List (List ℕ)

-- before the first statement
abbrev pub begun : List Statement → Ran
begun statements = record { statements = statements; ran = 0; variables = []; answers = [] }

-- behind one statement more
abbrev pub onward : Present → Statement → Ran → Ran
onward p statement r = record r { ran = r.ran + 1; variables = (does p statement).variables; answers = r.answers ++ answers p statement }

-- a statement was answered
abbrev pub IsOnward : Present → Statement → Ran → Ran → List (List ℕ) → Type 0
IsOnward p statement old new lines = (lines ≡ answers p statement) × (new ≡ onward p statement old)
