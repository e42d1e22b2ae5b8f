use Rattle.std.proofs.Common.{◌≡◌, map, take}
use Rattle.st_triples.specs.Steps.{bare, marked}
use Rattle.st_triples.proofs.whole.copy.Given as goal

abbrev pub invariant-loop-column : goal.invariant-loop-column
invariant-loop-column l = map bare l.all.items ≡ map marked (take l.column-index l.columns)
