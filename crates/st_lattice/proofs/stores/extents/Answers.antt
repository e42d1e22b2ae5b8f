use Rattle.std.proofs.Common.{ℕ, Bool, [], rules}
use Rattle.st_lattice.specs.declared.stores.StoreKind.TheVariants.{Extent}
use Rattle.st_lattice.specs.Lattice.{isa}
use Rattle.st_lattice.specs.Stores.{store}
use Rattle.st_lattice.proofs.Lattices.{stores_more, stores_same}
use Rattle.st_lattice.proofs.stores.extents.Goals.{then-isa+in_ok-push, else-isa}
use Rattle.st_lattice.proofs.stores.extents.Goals as goal

pub loop-other-preserved : goal.loop-other-preserved
loop-other-preserved c =
    let i = c.loop-other.other in
    let p : ℕ → Bool = λ t. isa c.args.schema.now t c.args.ty in
    elim c.if-isa.branch [
      | then-isa+in_ok-push w ↦ rw (w.stores-is, w.in_ok-push.ensures.ok, c.loop-other.invariant, w.store.ensures) (stores_more (store Extent) p [] i (search rules))
      | else-isa w ↦ rw (w.stores-is, c.loop-other.invariant) (stores_same (store Extent) p [] i (search rules))
    ]
