use Rattle.std.proofs.Common.{refl}
use Rattle.st_values.specs.declared.value.Value.TheVariants.{Entity}
use Rattle.st_query.specs.declared.statement.Statement.TheVariants.{Make}
use Rattle.st_terms.specs.Checked.{present}
use Rattle.st_terms.proofs.Loops.{handed}
use Rattle.st_running.specs.Steps.{Steps}
use Rattle.st_running.proofs.Stepping.{bound-outcome, change-failed, change-answered}
use Rattle.st_running.proofs.arms.run_make.Goals as goal

pub returns-in_err-made-clause-steps : goal.returns-in_err-made-clause-steps
returns-in_err-made-clause-steps g c = λ w s agrees stands var checked.
    let p = present s c.args.variables.now in
    let st = Make var c.args.ty.now c.args.cells.now in
    handed (Steps p st _ _ _ _) c.in_err-made.field-0.0 _ c.from_residual.ensures
    (change-failed p st _ _ _ _ _ c.in_err-made.field-0.0 refl refl refl (c.in_err-made.ensures.changes w s agrees stands var checked))

pub returns-clause-steps : goal.returns-clause-steps
returns-clause-steps g c = λ w s agrees stands var checked.
    let p = present s c.args.variables.now in
    let st = Make var c.args.ty.now c.args.cells.now in
    change-answered p st _ _ _ _ _ _ c.bound.result refl refl refl (bound-outcome p st c.bound.result (Entity c.in_ok-made.made) refl c.bound.ensures)
    (c.in_ok-made.ensures.changes w s agrees stands var checked)
