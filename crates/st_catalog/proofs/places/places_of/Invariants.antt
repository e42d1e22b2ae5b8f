use Rattle.std.proofs.Common.{◌≡◌, map, take}
use Rattle.st_catalog.specs.Stores.{placed}
use Rattle.st_catalog.proofs.places.places_of.Given as goal

-- the places of the roots so far
abbrev pub invariant-loop-root : goal.invariant-loop-root
invariant-loop-root l = l.places ≡ map (placed l.schema) (take l.root-index l.roots)
