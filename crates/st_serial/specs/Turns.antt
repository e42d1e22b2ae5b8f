-- What comes of a statement that is run over lists, and the lines that its turn prints.
use Rattle.std.specs.Prelude.{◌≡◌, ℕ, ◌+◌, Bool, true, false, List, ◌++◌, flat_map, ⊤}
use Rattle.st_output.specs.declared.turn.Turn.{Turn}
use Rattle.st_state.specs.State.{State}
use Rattle.st_meaning.specs.Runs as runs
use Rattle.st_meaning.specs.Runs.{Outcome}
use Rattle.st_meaning.specs.Lines.{line, refused_tail}
use Rattle.st_running.specs.Ran.{Ran}
use Rattle.st_serial.specs.declared.step.Stepped.{Stepped}
use Rattle.st_serial.specs.declared.step.Stepped.TheVariants.{Went, Refused}

-- a statement was run that gives an outcome: the transaction is behind it, and the state is the one that it leaves
abbrev pub Goes : runs.Outcome → Ran → Ran → State → Type 0
Goes (runs.Went next answers) old new state =
    (state ≡ next.state) × (new ≡ record old { ran = old.ran + 1; variables = next.variables; answers = old.answers ++ answers })
Goes (runs.Refused refusal) old new state = ⊥

-- what came of a statement is its outcome by the definitions
abbrev pub IsStepped : runs.Outcome → Ran → Ran → State → Stepped → Type 0
IsStepped (runs.Went next answers) old new state (Went lines) = (lines ≡ answers) × Goes (runs.Went next answers) old new state
IsStepped (runs.Refused refusal) old new state (Refused told) = told ≡ refusal
IsStepped _ old new state _ = ⊥

-- whether it was run
abbrev pub has_gone : Stepped → Bool
has_gone (Went lines) = true
has_gone (Refused refusal) = false

-- it was run, or it was refused
abbrev pub IsTurned : runs.Outcome → Ran → Ran → State → Bool → Type 0
IsTurned outcome old new state true = Goes outcome old new state
IsTurned (runs.Went next answers) old new state false = ⊥
IsTurned (runs.Refused refusal) old new state false = ⊤

-- the lines of what came of a statement, in its turn, with the names of the types, behind so many commits
abbrev pub stepped_lines : Turn → List (List ℕ) → ℕ → Stepped → List ℕ
stepped_lines turn names commits (Went lines) = flat_map (line turn.number turn.client turn.transaction) lines
stepped_lines turn names commits (Refused refusal) = line turn.number turn.client turn.transaction (refused_tail names commits refusal)

-- the same of its outcome by the definitions
abbrev pub turn_lines : Turn → List (List ℕ) → ℕ → runs.Outcome → List ℕ
turn_lines turn names commits (runs.Went next answers) = flat_map (line turn.number turn.client turn.transaction) answers
turn_lines turn names commits (runs.Refused refusal) = line turn.number turn.client turn.transaction (refused_tail names commits refusal)
