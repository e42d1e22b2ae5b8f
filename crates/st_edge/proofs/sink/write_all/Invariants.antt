use Rattle.std.proofs.Common.{◌≤◌, ◌-◌, length, take}
use Rattle.st_edge.specs.States.{TakesAll}
use Rattle.st_edge.proofs.sink.write_all.Given as goal

-- the first bytes are in, and no count fell
abbrev pub invariant-loop-at : goal.invariant-loop-at
invariant-loop-at g l = record {
  in_range : l.at ≤ length l.bytes;
  written : TakesAll (g.K.Sink.state l.initial.sink) (g.K.Sink.state l.sink) (take l.at l.bytes);
  never_falls : (g.K.Sink.state l.initial.sink).faults ≤ (g.K.Sink.state l.sink).faults;
}

abbrev pub decreases-loop-at : goal.decreases-loop-at
decreases-loop-at g l = length l.bytes - l.at
