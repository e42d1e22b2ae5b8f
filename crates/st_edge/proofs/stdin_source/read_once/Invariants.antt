use Rattle.std.specs.Io.KnownBytes.{Keeps}
use Rattle.st_edge.proofs.stdin_source.read_once.Given as goal

-- the tries that were interrupted lost nothing
abbrev pub invariant-loop : goal.invariant-loop
invariant-loop g l = Keeps (g.I.Read.remaining l.initial.input) (g.I.Read.remaining l.input)
