use Rattle.std.proofs.Common.{refl}
use Rattle.st_query.specs.declared.statement.Statement.TheVariants.{Let}
use Rattle.st_terms.specs.Checked.{present}
use Rattle.st_terms.proofs.Loops.{handed}
use Rattle.st_running.specs.Steps.{Steps}
use Rattle.st_running.proofs.Stepping.{look-failed, look-answered, let-free, let-admitted, let-among, let-outcome}
use Rattle.st_terms.proofs.Looking.{no-places}
use Rattle.st_running.proofs.arms.run_let.Goals as goal

pub returns-in_err-value-clause-steps : goal.returns-in_err-value-clause-steps
returns-in_err-value-clause-steps g c = λ w s agrees stands var checked.
    let p = present s c.args.variables.now in
    handed (Steps p (Let var c.args.value.now) _ _ _ _) c.in_err-value.field-0.0 _ c.from_residual.ensures
    (look-failed p (Let var c.args.value.now) _ _ _ _ _ _ _ c.in_err-value.field-0.0 (let-among p var c.args.value.now checked)
    (c.in_err-value.ensures.looks w s agrees stands (let-admitted p var c.args.value.now checked)))

pub returns-clause-steps : goal.returns-clause-steps
returns-clause-steps g c = λ w s agrees stands var checked.
    let p = present s c.args.variables.now in
    look-answered p (Let var c.args.value.now) _ _ _ _ _ _ _ c.bound.result (let-free p var c.args.value.now checked) refl refl (let-among p var c.args.value.now checked)
    (let-outcome p var c.args.value.now c.bound.result c.in_ok-value.value c.bound.ensures) (no-places _ _ _ _ _ _ _ (c.in_ok-value.ensures.looks w s agrees stands (let-admitted p var c.args.value.now checked)))
