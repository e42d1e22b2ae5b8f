use Rattle.std.proofs.Common.{refl}
use Rattle.st_query.specs.declared.statement.Statement.TheVariants.{Print}
use Rattle.st_plain.specs.declared.fault.BaseFault.TheVariants.{Memory}
use Rattle.st_terms.specs.Checked.{present}
use Rattle.st_terms.proofs.Loops.{handed}
use Rattle.st_running.specs.Steps.{Steps}
use Rattle.st_running.proofs.Stepping.{look-failed, look-starved, look-answered, print-free, print-admitted, print-among, print-outcome}
use Rattle.st_running.proofs.arms.run_print.Goals as goal

pub returns-in_err-line-clause-steps : goal.returns-in_err-line-clause-steps
returns-in_err-line-clause-steps g c = λ w s agrees stands checked.
    let p = present s c.args.variables.now in
    handed (Steps p (Print c.args.terms.now) _ _ _ _) c.in_err-line.field-0.0 _ c.from_residual.ensures
    (look-failed p (Print c.args.terms.now) _ _ _ _ _ _ _ c.in_err-line.field-0.0 (print-among p c.args.terms.now checked)
    (c.in_err-line.ensures.looks w s agrees stands (print-admitted p c.args.terms.now checked)))

pub returns-in_err-printed-clause-steps : goal.returns-in_err-printed-clause-steps
returns-in_err-printed-clause-steps g c = λ w s agrees stands checked.
    let p = present s c.args.variables.now in
    handed (Steps p (Print c.args.terms.now) _ _ _ _) Memory _ c.from_residual-in_err-printed.ensures
    (look-starved p (Print c.args.terms.now) _ _ _ _ _ _ _ _ (print-among p c.args.terms.now checked)
    (c.in_ok-line.ensures.looks w s agrees stands (print-admitted p c.args.terms.now checked)))

pub returns-clause-steps : goal.returns-clause-steps
returns-clause-steps g c = λ w s agrees stands checked.
    let p = present s c.args.variables.now in
    look-answered p (Print c.args.terms.now) _ _ _ _ _ _ _ _ (print-free p c.args.terms.now checked) refl refl (print-among p c.args.terms.now checked)
    (print-outcome p c.args.terms.now _ c.in_ok-line.line c.in_ok-printed.ensures) (c.in_ok-line.ensures.looks w s agrees stands (print-admitted p c.args.terms.now checked))
