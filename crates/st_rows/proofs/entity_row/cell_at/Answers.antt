use Rattle.st_rows.proofs.Walk.{cells-had, cells-lacked}
use Rattle.st_rows.proofs.entity_row.cell_at.Goals as goal

pub returns-then-isa : goal.returns-then-isa
returns-then-isa c =
    let a = c.attribute_at-attribute.result.now in
    cells-had c.args.schema.now c.args.ty c.args.position a _ c.requires (c.attribute_at-attribute.ensures a) c.if-isa.ensures c.cell_of.ensures

pub returns-else-isa : goal.returns-else-isa
returns-else-isa c =
    let a = c.attribute_at-attribute.result.now in
    cells-lacked c.args.schema.now c.args.ty c.args.position a c.requires (c.attribute_at-attribute.ensures a) c.if-isa.ensures
