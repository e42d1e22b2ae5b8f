use Rattle.std.proofs.Common.{◌≡◌, ◌∙◌, Err, sym, ap, subst}
use Rattle.st_state.specs.declared.refusal.Refusal.TheVariants.{Aborted}
use Rattle.st_plain.specs.declared.fault.BaseFault.TheVariants.{Refused}
use Rattle.st_query.specs.declared.statement.Statement.{Statement}
use Rattle.st_query.specs.declared.statement.Statement.TheVariants.{Make, Find, Ensure, Let, Print, Abort}
use Rattle.st_terms.specs.Checked.{present, IsChecked}
use Rattle.st_running.specs.Steps.{Steps, IsOutcome}
use Rattle.st_running.proofs.Checks.{abort-steps}
use Rattle.st_running.proofs.run.run_checked.Goals as goal

at : (P : Statement → Type 0) (st other : Statement) → st ≡ other → P other → P st
at P st other e h = subst P (sym e) h

pub returns-in-Make-clause-steps : goal.returns-in-Make-clause-steps
returns-in-Make-clause-steps g c = λ w s agrees stands.
    at (λ st. IsChecked (present s c.args.variables.now) st → Steps (present s c.args.variables.now) st (g.E.Base.stands c.run_make.new.base w) (g.E.Base.asks c.args.engine.now c.run_make.new.base w) (g.E.Base.reached c.run_make.new.base w) (IsOutcome (present s c.args.variables.now) st) c.run_make.result)
    c.args.statement.now (Make c.in-Make.var c.as_slice.result.now c.as_slice-in-Make.result.now) (c.in-Make.is ∙ ap (λ t. Make c.in-Make.var t c.in-Make.cells) (sym c.as_slice.ensures.value) ∙ ap (λ x. Make c.in-Make.var c.as_slice.result.now x) (sym c.as_slice-in-Make.ensures)) (c.run_make.ensures.steps w s agrees stands c.in-Make.var)

pub returns-in-Find-clause-steps : goal.returns-in-Find-clause-steps
returns-in-Find-clause-steps g c = λ w s agrees stands.
    at (λ st. IsChecked (present s c.args.variables.now) st → Steps (present s c.args.variables.now) st (g.E.Base.stands c.run_find.new.base w) (g.E.Base.asks c.args.engine.now c.run_find.new.base w) (g.E.Base.reached c.run_find.new.base w) (IsOutcome (present s c.args.variables.now) st) c.run_find.result)
    c.args.statement.now (Find c.in-Find.var c.as_slice-in-Find.result.now c.as_slice-in-Find-2.result.now c.in-Find.value) (c.in-Find.is ∙ ap (λ t. Find c.in-Find.var t c.in-Find.key c.in-Find.value) (sym c.as_slice-in-Find.ensures.value) ∙ ap (λ x. Find c.in-Find.var c.as_slice-in-Find.result.now x c.in-Find.value) (sym c.as_slice-in-Find-2.ensures.value)) (c.run_find.ensures.steps w s agrees stands c.in-Find.var)

pub returns-in-Ensure-clause-steps : goal.returns-in-Ensure-clause-steps
returns-in-Ensure-clause-steps g c = λ w s agrees stands.
    at (λ st. IsChecked (present s c.args.variables.now) st → Steps (present s c.args.variables.now) st (g.E.Base.stands c.run_ensure.new.base w) (g.E.Base.asks c.args.engine.now c.run_ensure.new.base w) (g.E.Base.reached c.run_ensure.new.base w) (IsOutcome (present s c.args.variables.now) st) c.run_ensure.result)
    c.args.statement.now (Ensure c.in-Ensure.var c.as_slice-in-Ensure.result.now c.as_slice-in-Ensure-2.result.now) (c.in-Ensure.is ∙ ap (λ t. Ensure c.in-Ensure.var t c.in-Ensure.cells) (sym c.as_slice-in-Ensure.ensures.value) ∙ ap (λ x. Ensure c.in-Ensure.var c.as_slice-in-Ensure.result.now x) (sym c.as_slice-in-Ensure-2.ensures)) (c.run_ensure.ensures.steps w s agrees stands c.in-Ensure.var)

pub returns-in-Let-clause-steps : goal.returns-in-Let-clause-steps
returns-in-Let-clause-steps g c = λ w s agrees stands.
    at (λ st. IsChecked (present s c.args.variables.now) st → Steps (present s c.args.variables.now) st (g.E.Base.stands c.run_let.new.base w) (g.E.Base.asks c.args.engine.now c.run_let.new.base w) (g.E.Base.reached c.run_let.new.base w) (IsOutcome (present s c.args.variables.now) st) c.run_let.result)
    c.args.statement.now (Let c.in-Let.var c.in-Let.value) (c.in-Let.is) (c.run_let.ensures.steps w s agrees stands c.in-Let.var)

pub returns-in-Print-clause-steps : goal.returns-in-Print-clause-steps
returns-in-Print-clause-steps g c = λ w s agrees stands.
    at (λ st. IsChecked (present s c.args.variables.now) st → Steps (present s c.args.variables.now) st (g.E.Base.stands c.run_print.new.base w) (g.E.Base.asks c.args.engine.now c.run_print.new.base w) (g.E.Base.reached c.run_print.new.base w) (IsOutcome (present s c.args.variables.now) st) c.run_print.result)
    c.args.statement.now (Print c.as_slice-in-Print.result.now) (c.in-Print.is ∙ ap Print (sym c.as_slice-in-Print.ensures)) (c.run_print.ensures.steps w s agrees stands)

pub returns-in-Abort-clause-steps : goal.returns-in-Abort-clause-steps
returns-in-Abort-clause-steps g c = λ w s agrees stands checked.
    at (λ st. Steps (present s c.args.variables.now) st (g.E.Base.stands c.args.engine.now w) (g.E.Base.asks c.args.engine.now c.args.engine.now w) (g.E.Base.reached c.args.engine.now w) (IsOutcome (present s c.args.variables.now) st) (Err (Refused Aborted)))
    c.args.statement.now Abort c.in-Abort.is (abort-steps (present s c.args.variables.now) _ _ _ _ (g.met.E.Base.asks_nothing _ w) stands)
