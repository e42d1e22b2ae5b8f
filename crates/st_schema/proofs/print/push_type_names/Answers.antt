use Rattle.std.proofs.Common.{◌∙◌}
use Rattle.st_lattice.specs.Outline.{type_name}
use Rattle.st_schema.proofs.Printing.{drop_next, item_step}
use Rattle.st_schema.proofs.print.push_type_names.Goals as goal

pub loop-ty-preserved : goal.loop-ty-preserved
loop-ty-preserved c =
    item_step (type_name c.args.schema.now) c.loop-ty.later c.loop-ty.into c.push_type_name.new.into c.args.types.now c.loop-ty.ty-index _ (drop_next c.args.types.now c.loop-ty.ty-index 0 c.loop-ty-test.true) c.in_ok-push_type_name.ensures
    ∙ c.loop-ty.invariant
