use Rattle.std.proofs.Common.{◌-◌, length}
use Rattle.st_sexp.proofs.ReadLemmas.{IsRead}
use Rattle.st_sexp.proofs.reader.read.Given as goal

abbrev pub invariant-loop-nest : goal.invariant-loop-nest
invariant-loop-nest l = IsRead l.bytes l.at l.nest

abbrev pub decreases-loop-nest : goal.decreases-loop-nest
decreases-loop-nest l = length l.bytes - l.at
