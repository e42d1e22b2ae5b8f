use Rattle.std.proofs.Common.{◌-◌, ◌≤◌, vec_len}
use Rattle.std.specs.Io.KnownBytes.{Consumes}
use Rattle.statice.proofs.input.read_input.Given as goal

-- what was read is what the source lost
abbrev pub invariant-loop-source : goal.invariant-loop-source
invariant-loop-source g l =
    let source = g.S.Source in
    record {
      size : vec_len l.bytes ≤ 1048577;
      taken : Consumes (source.state l.fn.source).left (source.state l.source).left l.bytes.items;
      counted : (source.state l.fn.source).faults ≤ (source.state l.source).faults;
    }

abbrev pub decreases-loop-source : goal.decreases-loop-source
decreases-loop-source g l = 1048577 - vec_len l.bytes
