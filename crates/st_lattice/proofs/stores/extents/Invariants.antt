use Rattle.std.proofs.Common.{◌≡◌, map}
use Rattle.std.specs.Prelude.{filter}
use Rattle.st_lattice.specs.declared.stores.StoreKind.TheVariants as StoreKind
use Rattle.st_lattice.specs.Lattice.{isa, below}
use Rattle.st_lattice.specs.Stores.{store}
use Rattle.st_lattice.proofs.stores.extents.Given as goal

abbrev pub invariant-loop-other : goal.invariant-loop-other
invariant-loop-other l = l.stores ≡ map (store StoreKind.Extent) (filter (λ t. isa l.schema t l.ty) (below l.other))
