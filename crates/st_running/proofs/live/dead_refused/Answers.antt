use Rattle.std.proofs.Common.{◌∙◌, sym}
use Rattle.st_terms.specs.Looks.{Looks}
use Rattle.st_terms.proofs.Loops.{handed}
use Rattle.st_running.proofs.Fifth.{fifth-said, fifth-failed}
use Rattle.st_running.proofs.live.dead_refused.Goals as goal

pub returns-clause-looks : goal.returns-clause-looks
returns-clause-looks g c = λ w s agrees stands.
    fifth-said s c.args.schema.now c.args.variables.now c.args.statement.now c.as_slice.result.now c.in_ok-dead.dead c.dead_refusal.result (g.met.B.Base.stands_with_schema _ w s stands ∙ sym c.requires) (c.as_slice.ensures.value ∙ c.in_ok-entities.ensures) c.dead_refusal.ensures.value _ _ _
    (c.in_ok-dead.ensures.looks w s agrees stands)

pub returns-in_err-dead-clause-looks : goal.returns-in_err-dead-clause-looks
returns-in_err-dead-clause-looks g c = λ w s agrees stands.
    handed (Looks _ _ _ _ _ _) c.in_err-dead.field-0.0 _ c.from_residual-in_err-dead.ensures
    (fifth-failed s c.args.schema.now c.args.variables.now c.args.statement.now c.as_slice.result.now c.in_err-dead.field-0.0 (g.met.B.Base.stands_with_schema _ w s stands ∙ sym c.requires) (c.as_slice.ensures.value ∙ c.in_ok-entities.ensures) _ _ _
    (c.in_err-dead.ensures.looks w s agrees stands))
