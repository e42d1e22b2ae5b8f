-- What a command prints.
use Rattle.std.specs.Prelude.{◌≡◌, ◌≤◌, ℕ, Bool, true, false, ◌⊎◌, List, [], ◌∷◌, ◌++◌, length, take, codes}
use Rattle.st_edge.specs.Faults.{Rose}
use Rattle.st_edge.specs.States.{SinkState, TakesAll, TakesFront, Takes}
use Rattle.st_state.specs.State.{empty_state}
use Rattle.st_meaning.specs.Runs.{is_serial_run}
use Rattle.st_meaning.specs.Lines.{client_lines}
use Rattle.st_serial.specs.Serial.{statements_of}
use Rattle.statice.specs.declared.status.Ended.{Ended}
use Rattle.statice.specs.declared.status.Ended.TheVariants.{Done, SomeRefused, SinkFailed, OutOfMemory}
use Rattle.statice.specs.Form.{Program, IsProgram}
use Rattle.statice.specs.declared.input.TheConstants.{MAX_INPUT}

-- a line that tells a fault
abbrev pub fault_line : List ℕ → List ℕ
fault_line what = codes "fault " ++ what ++ 10 ∷ []

-- what a program prints: the lines of its transactions, run one after another over an empty database
abbrev pub printed_by : Program → List ℕ
printed_by program = client_lines (empty_state (program.0)) (statements_of (program.1))

-- whether no transaction of a program is refused, run so
abbrev pub is_served : Program → Bool
is_served program = is_serial_run (empty_state (program.0)) (statements_of (program.1))

-- nothing; or, of an input that has no more bytes than one may have, a front of what it prints as a program
abbrev pub IsFront : List ℕ → List ℕ → Type 0
IsFront input text = (text ≡ []) ⊎ ((length input ≤ MAX_INPUT) × (program : Program) × IsProgram input program × (n : ℕ) × (text ≡ take n (printed_by program)))

-- How the run of a program ends: with all that it prints, as no transaction is refused or some are; with a front, where the
-- sink failed; or where memory wants with a front and then the line that tells so.
abbrev pub Prints : Program → SinkState → SinkState → Ended → Type 0
Prints program old new Done = (is_served program ≡ true) × TakesAll old new (printed_by program)
Prints program old new SomeRefused = (is_served program ≡ false) × TakesAll old new (printed_by program)
Prints program old new SinkFailed = Rose old.faults new.faults × TakesFront old new (printed_by program)
Prints program old new OutOfMemory = (n : ℕ) × Takes old new (take n (printed_by program) ++ fault_line (codes "memory"))
Prints program old new _ = ⊥
