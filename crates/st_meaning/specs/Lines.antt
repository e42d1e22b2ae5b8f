-- The lines of a client that runs by itself.
use Rattle.std.specs.Prelude.{ℕ, ◌+◌, List, [], ◌∷◌, ◌++◌, flat_map, length, codes, Option, Some, None}
use Rattle.std.specs.Fmt.{decimal}
use Rattle.st_values.specs.Print.{printed_entity}
use Rattle.st_lattice.specs.Outline.{Outline}
use Rattle.st_query.specs.declared.statement.Statement.{Statement}
use Rattle.st_state.specs.declared.refusal.Refusal.{Refusal}
use Rattle.st_state.specs.declared.refusal.Refusal.TheVariants.{UnknownName, WrongType, NullNotAllowed, NotUnique, NoSuchEntity, StillNeeded, NotASet, TextTooLong, NumbersSpent, Aborted, NullEntity, TooManyPages, Full}
use Rattle.st_state.specs.Refusals.{rule_number}
use Rattle.st_state.specs.State.{State, empty_state}
use Rattle.st_meaning.specs.Runs.{RefusedAt, Run, runs}

-- the fields of a refusal, each behind a space; names stand without quotes
abbrev pub printed_fields : List (List ℕ) → Refusal → List ℕ
printed_fields names (UnknownName name) = 32 ∷ name
printed_fields names WrongType = []
printed_fields names (NullNotAllowed attribute) = 32 ∷ attribute
printed_fields names (NotUnique attribute holder) = 32 ∷ attribute ++ 32 ∷ printed_entity names holder
printed_fields names (NoSuchEntity entity) = 32 ∷ printed_entity names entity
printed_fields names (StillNeeded entity attribute) = 32 ∷ printed_entity names entity ++ 32 ∷ attribute
printed_fields names (NotASet name) = 32 ∷ name
printed_fields names (TextTooLong size limit) = 32 ∷ decimal size ++ 32 ∷ decimal limit
printed_fields names (NumbersSpent ty) = 32 ∷ ty
printed_fields names Aborted = []
printed_fields names NullEntity = []
printed_fields names (TooManyPages count) = 32 ∷ decimal count
printed_fields names (Full in_use) = 32 ∷ decimal in_use

-- a refusal: the number of its rule, and its fields
abbrev pub printed_refusal : List (List ℕ) → Refusal → List ℕ
printed_refusal names r = decimal (rule_number r) ++ printed_fields names r

-- a line: the turn, the client, the number of its transaction, and what happened
abbrev pub line : ℕ → ℕ → ℕ → List ℕ → List ℕ
line turn client transaction tail = decimal turn ++ 32 ∷ decimal client ++ 46 ∷ decimal transaction ++ 32 ∷ tail ++ 10 ∷ []

-- the answers of statements, each in a turn of its own from one on
abbrev pub answer_lines : ℕ → ℕ → ℕ → List (List (List ℕ)) → List ℕ
answer_lines turn client transaction [] = []
answer_lines turn client transaction (answers ∷ others) =
    flat_map (line turn client transaction) answers ++ answer_lines (turn + 1) client transaction others

-- a commit, by its number
abbrev pub commit_tail : ℕ → List ℕ
commit_tail number = codes "commit " ++ decimal number

-- a refusal in the state behind so many commits
abbrev pub refused_tail : List (List ℕ) → ℕ → Refusal → List ℕ
refused_tail names commits refusal = codes "refused " ++ decimal commits ++ 32 ∷ printed_refusal names refusal

-- how a transaction ends behind so many commits: with the next one, or with its refusal in the state after them
abbrev pub end_tail : List (List ℕ) → ℕ → Option RefusedAt → List ℕ
end_tail names commits None = commit_tail (commits + 1)
end_tail names commits (Some r) = refused_tail names commits r.refusal

abbrev pub commits_after : ℕ → Option RefusedAt → ℕ
commits_after commits None = commits + 1
commits_after commits (Some r) = commits

-- the lines of a run that begins in a turn: the statements' answers, and the end in the turn behind them
abbrev pub run_lines : ℕ → ℕ → ℕ → ℕ → Run → List ℕ
run_lines turn client transaction commits run =
    answer_lines turn client transaction run.answers
    ++ line (turn + length run.answers) client transaction (end_tail run.state.schema.names commits run.refused)

-- the lines of transactions that a client runs one after another, from a turn, a number and a count of commits on
abbrev pub lines_from : ℕ → ℕ → ℕ → ℕ → State → List (List Statement) → List ℕ
lines_from turn client transaction commits state [] = []
lines_from turn client transaction commits state (statements ∷ others) =
    let run = runs state statements in
    run_lines turn client transaction commits run
    ++ lines_from (turn + length run.answers + 1) client (transaction + 1) (commits_after commits run.refused) run.state others

-- what a client prints that runs its script of transactions by itself, as client 1, from a state on
unfoldable pub client_lines : State → List (List Statement) → List ℕ
client_lines state script = lines_from 1 1 1 0 state script

-- what one transaction prints that runs by itself over an empty database
abbrev pub output_of : Outline → List Statement → List ℕ
output_of schema statements = client_lines (empty_state schema) (statements ∷ [])
