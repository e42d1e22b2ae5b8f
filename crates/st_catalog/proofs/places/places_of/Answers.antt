use Rattle.st_catalog.proofs.Placing.{pushed-below}
use Rattle.st_catalog.proofs.places.places_of.Goals as goal

pub push-requires : goal.push-requires
push-requires c = pushed-below c.args.schema.now c.args.roots.now c.loop-root.root-index _ c.placed.result c.loop-root.places c.loop-root-test.true c.requires.ascend c.placed.ensures c.loop-root.invariant
