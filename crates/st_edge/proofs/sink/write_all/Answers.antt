use Rattle.std.proofs.Common.{rules, arith}
use Rattle.st_edge.proofs.Steps.{Appends-take_add}
use Rattle.st_edge.proofs.sink.write_all.Goals as goal

pub loop-at-preserved : goal.loop-at-preserved
loop-at-preserved g c = record {
  in_range = search rules;
  written = Appends-take_add _ _ _ _ _ _ c.loop-at.invariant.written c.in_ok-at.ensures.bytes;
  never_falls = omega arith;
}
