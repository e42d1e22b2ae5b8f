use Rattle.std.proofs.Common.{◌∷◌, [], map, arith, append_assoc}
use Rattle.std.proofs.lemmas.List.FromFn.{map-range_with_len_more}
use Rattle.st_lattice.specs.declared.stores.StoreKind.TheVariants.{Extent}
use Rattle.st_lattice.specs.Lattice.{below}
use Rattle.st_lattice.specs.Stores.{store}
use Rattle.st_lattice.proofs.stores.push_extents.Goals as goal

pub loop-ty-preserved : goal.loop-ty-preserved
loop-ty-preserved c =
    let i = c.loop-ty.ty in
    rw (c.in_ok-push.ensures.ok, c.loop-ty.invariant, c.store.ensures, map-range_with_len_more (store Extent) 0 i i (omega arith))
    (append_assoc c.args.into.now (map (store Extent) (below i)) (store Extent i ∷ []))
