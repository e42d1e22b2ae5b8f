-- The status by which the process of a command ends.
use Rattle.std.specs.Prelude.{ℕ}
use Rattle.statice.specs.declared.status.Ended.{Ended}
use Rattle.statice.specs.declared.status.Ended.TheVariants.{Done, SomeRefused, Refused, SourceFailed, SinkFailed, OutOfMemory, TooLong}
use Rattle.statice.specs.declared.status.TheConstants.{DONE, SOME_REFUSED, REFUSED, SOURCE_FAILED, SINK_FAILED, OUT_OF_MEMORY, TOO_LONG}

-- the status of a command that was carried out, by how it ended
abbrev pub status_of : Ended → ℕ
status_of Done = DONE
status_of SomeRefused = SOME_REFUSED
status_of Refused = REFUSED
status_of SourceFailed = SOURCE_FAILED
status_of SinkFailed = SINK_FAILED
status_of OutOfMemory = OUT_OF_MEMORY
status_of TooLong = TOO_LONG
