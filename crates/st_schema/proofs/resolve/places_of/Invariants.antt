use Rattle.std.proofs.Common.{◌≡◌, take, map}
use Rattle.st_schema.specs.Resolved.{place_of}
use Rattle.st_schema.proofs.resolve.places_of.Given as goal

abbrev pub invariant-loop-parent : goal.invariant-loop-parent
invariant-loop-parent l = l.places ≡ map (place_of l.names) (take l.parent-index l.parents)
