use Rattle.std.proofs.Common.{◌≡◌, subst, Ok}
use Rattle.std.specs.Prelude.{flat_map, []}
use Rattle.st_query.specs.Written.{starts_of}
use Rattle.st_query.specs.Footprint.{start_stores}
use Rattle.st_terms.specs.Looks.{Looks}
use Rattle.st_terms.specs.Checked.{present}
use Rattle.st_running.specs.Named.{checks}
use Rattle.st_running.proofs.Checks.{step-refused, step-checked, keeps-refused}
use Rattle.st_running.proofs.run.run.Goals as goal

pub returns-in-Some-clause-steps : goal.returns-in-Some-clause-steps
returns-in-Some-clause-steps g c = λ w s agrees stands legal written.
    let p = present s c.args.variables.now in
    step-refused p c.args.statement.now _ _ _ _ c.in-Some.refusal
    (subst (λ r. Looks (g.E.Base.stands c.checks_refused.new.base w s) (g.E.Base.asks c.args.engine.now c.checks_refused.new.base w) (g.E.Base.reached c.checks_refused.new.base w) (λ o. o ≡ checks p c.args.statement.now) (flat_map (start_stores s.schema c.args.variables.now) (starts_of c.args.statement.now)) [] (Ok r)) c.in-Some.is (c.in_ok-refusal.ensures.looks w s agrees stands))

pub returns-in-Some-clause-keeps : goal.returns-in-Some-clause-keeps
returns-in-Some-clause-keeps g c = keeps-refused _ _ _ c.in_ok-refusal.field-0 c.in-Some.refusal c.in-Some.is c.in_ok-refusal.ensures.own c.in_ok-refusal.ensures.keeps

pub returns-in-None-clause-steps : goal.returns-in-None-clause-steps
returns-in-None-clause-steps g c = λ w s agrees stands legal written.
    let laws = g.met.E.Base in
    let on = c.run_checked.ensures.keeps.below in
    let p = present s c.args.variables.now in
    step-checked p c.args.statement.now (g.E.Base.stands c.checks_refused.new.base w) (g.E.Base.stands c.run_checked.new.engine w) _ _ _ _ _ _ c.run_checked.result (λ f h. laws.asks_on _ _ _ w f h c.in_ok-refusal.ensures.keeps.below on) legal written
    (subst (λ r. Looks (g.E.Base.stands c.checks_refused.new.base w s) (g.E.Base.asks c.args.engine.now c.checks_refused.new.base w) (g.E.Base.reached c.checks_refused.new.base w) (λ o. o ≡ checks p c.args.statement.now) (flat_map (start_stores s.schema c.args.variables.now) (starts_of c.args.statement.now)) [] (Ok r)) c.in-None.is (c.in_ok-refusal.ensures.looks w s (laws.seen_stays _ _ w on agrees) stands))
    (λ stands_then checked. c.run_checked.ensures.steps w s agrees stands_then checked)
