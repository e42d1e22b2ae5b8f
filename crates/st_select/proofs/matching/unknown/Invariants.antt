use Rattle.std.proofs.Common.{◌≡◌, map, take}
use Rattle.st_select.proofs.Known.{unknown}
use Rattle.st_select.proofs.matching.unknown.Given as goal

abbrev pub invariant-loop-entity : goal.invariant-loop-entity
invariant-loop-entity l = l.known ≡ map unknown (take l.entity-index l.entities)
