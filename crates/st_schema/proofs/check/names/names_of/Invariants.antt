use Rattle.std.proofs.Common.{◌≡◌, map, take}
use Rattle.st_schema.proofs.check.names.names_of.Given as goal

abbrev pub invariant-loop-ty : goal.invariant-loop-ty
invariant-loop-ty l = l.names ≡ map (λ t. t.name) (take l.ty-index l.types)
