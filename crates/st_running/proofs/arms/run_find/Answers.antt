use Rattle.std.proofs.Common.{refl}
use Rattle.st_query.specs.declared.statement.Statement.TheVariants.{Find}
use Rattle.st_terms.specs.Checked.{present, touched}
use Rattle.st_terms.proofs.Looking.{among-itself}
use Rattle.st_running.proofs.Stepping.{look-answered, find-free, bound-outcome}
use Rattle.st_running.proofs.arms.run_find.Goals as goal

pub returns-clause-steps : goal.returns-clause-steps
returns-clause-steps g c = λ w s agrees stands var checked.
    let p = present s c.args.variables.now in
    let st = Find var c.args.ty.now c.args.key.now c.args.value.now in
    look-answered p st _ _ _ _ _ _ _ c.bound.result (find-free p var c.args.ty.now c.args.key.now c.args.value.now checked) refl refl (among-itself (touched s.schema c.args.variables.now st))
    (bound-outcome p st c.bound.result c.in_ok-found.found refl c.bound.ensures) (c.in_ok-found.ensures.looks w s agrees stands var checked)
