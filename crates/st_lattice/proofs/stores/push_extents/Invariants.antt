use Rattle.std.proofs.Common.{◌≡◌, ◌++◌, map}
use Rattle.st_lattice.specs.declared.stores.StoreKind.TheVariants as StoreKind
use Rattle.st_lattice.specs.Lattice.{below}
use Rattle.st_lattice.specs.Stores.{store}
use Rattle.st_lattice.proofs.stores.push_extents.Given as goal

abbrev pub invariant-loop-ty : goal.invariant-loop-ty
invariant-loop-ty l = l.into ≡ l.initial.into ++ map (store StoreKind.Extent) (below l.ty)
