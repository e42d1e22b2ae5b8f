use Rattle.std.proofs.Common.{◌≡◌, map, take}
use Rattle.st_values.specs.declared.value.Value.TheVariants.{Entity}
use Rattle.st_terms.proofs.read.entities_as_values.Given as goal

abbrev pub invariant-loop-entity : goal.invariant-loop-entity
invariant-loop-entity l = l.values ≡ map Entity (take l.entity-index l.entities)
