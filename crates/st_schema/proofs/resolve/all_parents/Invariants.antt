use Rattle.std.proofs.Common.{◌≡◌, take, map}
use Rattle.st_schema.specs.Resolved.{place_of}
use Rattle.st_schema.proofs.resolve.all_parents.Given as goal

abbrev pub invariant-loop-ty : goal.invariant-loop-ty
invariant-loop-ty l = l.parents ≡ map (λ t. map (place_of l.names) t.parents) (take l.ty-index l.types)
