-- What the command `try` does.
use Rattle.std.specs.Prelude.{◌≡◌, ℕ, ◌+◌, ◌<◌, ◌≤◌, true, false, List, ◌++◌, length, codes, IfSome}
use Rattle.std.specs.Io.KnownBytes.{Consumes}
use Rattle.st_edge.specs.Faults.{Rose}
use Rattle.st_edge.specs.States.{SourceState, SinkState, TakesAll, TakesFront, Takes}
use Rattle.statice.specs.declared.input.TheConstants.{MAX_INPUT}
use Rattle.statice.specs.declared.status.Ended.{Ended}
use Rattle.statice.specs.declared.status.Ended.TheVariants.{Done, SomeRefused, Refused, SourceFailed, SinkFailed, OutOfMemory, TooLong}
use Rattle.statice.specs.Fault.{IsFaulty}
use Rattle.statice.specs.Form.{Program, IsProgram}
use Rattle.statice.specs.Output.{fault_line, printed_by, is_served, IsFront}

-- an input that a source gave: all that it had left, where it tells that
abbrev pub IsInput : SourceState → List ℕ → Type 0
IsInput source input = IfSome source.left (λ bytes. input ≡ bytes)

-- What is done with an input that was read to its end, from what the sink tells before to what it tells after.
-- Done: the input is a program, none of its transactions is refused, and the sink took just what it prints.
-- SomeRefused: the input is a program, some of its transactions are refused, and the sink took just what it prints.
-- Refused: the input is no program, and the sink took the line that is due for it.
-- SinkFailed: the sink failed, and has a front of what the program prints.
-- OutOfMemory: the sink has nothing or a front of what the program prints, and then the line that tells so.
abbrev pub Answers : List ℕ → SinkState → SinkState → Ended → Type 0
Answers input old new Done = (program : Program) × IsProgram input program × (is_served program ≡ true) × TakesAll old new (printed_by program)
Answers input old new SomeRefused = (program : Program) × IsProgram input program × (is_served program ≡ false) × TakesAll old new (printed_by program)
Answers input old new Refused = (line : List ℕ) × IsFaulty input line × Takes old new line
Answers input old new SinkFailed = (program : Program) × IsProgram input program × Rose old.faults new.faults × TakesFront old new (printed_by program)
Answers input old new OutOfMemory = (front : List ℕ) × IsFront input front × Takes old new (front ++ fault_line (codes "memory"))
Answers input old new _ = ⊥

-- How the command ends.
-- SourceFailed: the source failed, and the sink took the line that tells so.
-- TooLong: the input has more bytes than an input may have, and the sink took the line that tells so.
-- OutOfMemory: as above, also where the input was not read to its end.
-- All others: the input was read to its end, has no more bytes than an input may have, and was answered.
abbrev pub Ends : SourceState → SourceState → SinkState → SinkState → Ended → Type 0
Ends source later old new SourceFailed = Rose source.faults later.faults × Takes old new (fault_line (codes "source"))
Ends source later old new TooLong = IfSome source.left (λ bytes. MAX_INPUT < length bytes) × Takes old new (fault_line (codes "input 1048577"))
Ends source later old new OutOfMemory = (input : List ℕ) × IsInput source input × Answers input old new OutOfMemory
Ends source later old new ended = (input : List ℕ) × IsInput source input × (length input ≤ MAX_INPUT) × Answers input old new ended

-- What `try` does, from what source and sink tell before to what they tell after, by how it ended: it ends so, takes at most
-- one byte more than an input may have, and no count of faults falls.
pub record Tries (source later : SourceState) (old new : SinkState) (ended : Ended) : Type 0 where
  pub ends : Ends source later old new ended
  pub reads : (read : List ℕ) × (length read ≤ MAX_INPUT + 1) × Consumes source.left later.left read
  pub source_never_falls : source.faults ≤ later.faults
  pub sink_never_falls : old.faults ≤ new.faults
