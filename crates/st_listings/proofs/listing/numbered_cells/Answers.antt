use Rattle.std.proofs.Common.{arith}
use Rattle.st_listings.proofs.Numbering.{numbers-all, numbers-end}
use Rattle.st_listings.proofs.listing.numbered_cells.Goals as goal

pub returns-in_default : goal.returns-in_default
returns-in_default c =
    numbers-end c.args.schema.now c.args.ty c.attributes-attributes.result.now c.args.cells c.loop-left.values c.loop-left.left c.loop-left.cells c.attributes-attributes.ensures.value c.in_default.ensures.0 c.loop-left.invariant.numbers

pub returns : goal.returns
returns c =
    numbers-all c.args.schema.now c.args.ty c.attributes-attributes.result.now c.args.cells c.loop-left.values c.loop-left.left c.loop-left.cells c.attributes-attributes.ensures.value (omega (arith, c.loop-left-test.false)) c.loop-left.invariant.numbers
