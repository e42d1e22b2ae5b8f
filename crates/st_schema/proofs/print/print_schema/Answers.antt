use Rattle.std.proofs.Common.{◌∙◌}
use Rattle.st_schema.specs.Canonical.{type_line}
use Rattle.st_schema.proofs.Printing.{number_step}
use Rattle.st_schema.proofs.print.print_schema.Goals as goal

pub loop-ty-preserved : goal.loop-ty-preserved
loop-ty-preserved c =
    number_step (type_line c.args.schema.now) c.loop-ty.text c.push_type_line.new.into c.loop-ty.ty c.type_count-ty-end.result c.loop-ty-test.true c.in_ok-push_type_line.ensures ∙ c.loop-ty.invariant
