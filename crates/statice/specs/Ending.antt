-- How `try` ends where no call on its streams fails.
use Rattle.std.specs.Prelude.{◌≡◌, ◌<◌, ◌-◌, ◌^◌, ◌⊎◌, ℕ, Bool, true, false, List, Some}
use Rattle.st_edge.specs.States.{SourceState, SinkState}
use Rattle.statice.specs.declared.status.Ended.{Ended}
use Rattle.statice.specs.declared.status.Ended.TheVariants.{Done, SomeRefused, OutOfMemory}
use Rattle.statice.specs.Form.{Program}
use Rattle.statice.specs.Output.{is_served}
use Rattle.statice.specs.Try.{Tries}

-- a count of faults stayed below its greatest value, and so no call failed
abbrev pub IsFaultless : ℕ → ℕ → Type 0
IsFaultless old new = (new ≡ old) × (new < 2 ^ 64 - 1)

-- `try` ended so over this input, which its source told, and no call on the source or the sink failed
pub record RunsOn (input : List ℕ) (ended : Ended) : Type 0 where
  pub source : SourceState
  pub later : SourceState
  pub old : SinkState
  pub new : SinkState
  pub tries : Tries source later old new ended
  pub told : source.left ≡ Some input
  pub source_stays : IsFaultless source.faults later.faults
  pub sink_stays : IsFaultless old.faults new.faults

-- it ended as is due, or memory wanted
abbrev pub EndsBy : Ended → Ended → Type 0
EndsBy due ended = (ended ≡ due) ⊎ (ended ≡ OutOfMemory)

-- the end that is due, as no transaction is refused or some are
abbrev pub end_by : Bool → Ended
end_by true = Done
end_by false = SomeRefused

-- the end that is due for a program
abbrev pub end_of : Program → Ended
end_of program = end_by (is_served program)
