use Rattle.std.proofs.Common.{refl}
use Rattle.st_query.specs.declared.statement.Statement.TheVariants.{ForEach}
use Rattle.st_terms.specs.Checked.{present}
use Rattle.st_terms.proofs.Loops.{handed}
use Rattle.st_running.specs.Steps.{Steps}
use Rattle.st_running.proofs.Stepping.{query-failed, query-answered}
use Rattle.st_running.proofs.arms.run_for_each.Goals as goal

pub returns-in_err-lines-clause-steps : goal.returns-in_err-lines-clause-steps
returns-in_err-lines-clause-steps g c = λ w s agrees stands checked.
    let laws = g.met.E.Base in
    let on = c.for_each.ensures.keeps.below in
    let p = present s c.args.variables.now in
    handed (Steps p (ForEach c.args.query.now) _ _ _ _) c.in_err-lines.field-0.0 _ c.from_residual-in_err-lines.ensures
    (query-failed p c.args.query.now _ _ _ _ _ _ _ _ _ (λ f h. laws.asks_on _ _ _ w f h c.in_ok-entities.ensures.keeps.below on) (λ e n. laws.reached_stays _ _ w e n on) c.as_slice.ensures
    (c.in_ok-entities.ensures.looks w s (laws.seen_stays _ _ w on agrees) stands checked) _ _ c.in_err-lines.field-0.0 (λ stands_then of. c.in_err-lines.ensures.looks w s agrees stands_then checked of))

pub returns-clause-steps : goal.returns-clause-steps
returns-clause-steps g c = λ w s agrees stands checked.
    let laws = g.met.E.Base in
    let on = c.for_each.ensures.keeps.below in
    let p = present s c.args.variables.now in
    query-answered p c.args.query.now _ _ _ _ _ _ _ _ _ (λ f h. laws.asks_on _ _ _ w f h c.in_ok-entities.ensures.keeps.below on) (λ e n. laws.reached_stays _ _ w e n on) c.as_slice.ensures
    (c.in_ok-entities.ensures.looks w s (laws.seen_stays _ _ w on agrees) stands checked) checked c.in_ok-lines.lines _ refl (λ stands_then of. c.in_ok-lines.ensures.looks w s agrees stands_then checked of)
