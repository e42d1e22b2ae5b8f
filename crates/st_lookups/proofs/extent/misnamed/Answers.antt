use Rattle.std.proofs.Common.{◌<◌, ◌≤◌, length, sym, ◌∙◌, arith}
use Rattle.st_lookups.proofs.Celled.{misnamed-at}
use Rattle.st_lookups.proofs.extent.misnamed.Goals as goal

pub returns-then-not-is_of_kind : goal.returns-then-not-is_of_kind
returns-then-not-is_of_kind c = λ named.
    let xs = c.attributes-attributes.result.now in
    let k = c.loop-attribute.attribute-index in
    let rest = c.loop-attribute.rest.now in
    let within : k < length xs = omega arith in
    let some : 1 ≤ length rest = omega arith in
    absurd (misnamed-at c.args.schema.now c.args.ty k xs c.args.cells.now rest c.attribute-item.result c.cell-item.result c.is_cell_of.result within c.attribute-item.is c.is_cell_of.ensures c.if-is_cell_of.true c.attributes-attributes.ensures.value
    c.loop-attribute.invariant some c.cell-item.is (sym c.is_of_kind.ensures ∙ c.if-not-is_of_kind.true) named)
