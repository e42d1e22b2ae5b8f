use Rattle.std.proofs.Common.{◌≡◌, take}
use Rattle.st_catalog.specs.Catalog.{stores_in}
use Rattle.st_catalog.proofs.places.stores_in.Given as goal

-- the stores of the roots so far
abbrev pub invariant-loop-root : goal.invariant-loop-root
invariant-loop-root l = l.stores.items ≡ stores_in (take l.root-index l.roots)
