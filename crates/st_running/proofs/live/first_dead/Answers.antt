use Rattle.std.proofs.Common.{◌<◌, length, Ok, arith}
use Rattle.st_terms.specs.Looks.{Looks}
use Rattle.st_terms.proofs.Looking.{keeps-then, keeps-as}
use Rattle.st_terms.proofs.Loops.{handed, read-at}
use Rattle.st_running.proofs.Dead.{dead-next, dead-found, dead-failed}
use Rattle.st_running.proofs.live.first_dead.Goals as goal

pub returns-in_err-is_live-clause-looks : goal.returns-in_err-is_live-clause-looks
returns-in_err-is_live-clause-looks g c = λ w s agrees stands.
    let laws = g.met.B.Base in
    let on = c.is_live.ensures.keeps.below in
    let within : c.loop-entity.entity-index < length c.args.entities.now = omega arith in
    let before = c.loop-entity.invariant.0 w s (laws.seen_stays _ _ w on agrees) stands in
    handed (Looks _ _ _ _ _ _) c.in_err-is_live.field-0.0 _ c.from_residual.ensures
    (dead-failed s c.args.entities.now c.loop-entity.entity-index _ within (read-at c.args.entities.now c.loop-entity.entity-index _ within) _ _ _ _ _ _ _
    (λ f h. laws.asks_on _ _ _ w f h c.loop-entity.invariant.1.below on) (λ e n. laws.reached_stays _ _ w e n on) before _ (c.in_err-is_live.ensures.looks w s agrees before.answers.1))

pub returns-then-not-branch-clause-looks : goal.returns-then-not-branch-clause-looks
returns-then-not-branch-clause-looks g c = λ w s agrees stands.
    let laws = g.met.B.Base in
    let on = c.is_live.ensures.keeps.below in
    let within : c.loop-entity.entity-index < length c.args.entities.now = omega arith in
    let before = c.loop-entity.invariant.0 w s (laws.seen_stays _ _ w on agrees) stands in
    dead-found s c.args.entities.now c.loop-entity.entity-index _ within (read-at c.args.entities.now c.loop-entity.entity-index _ within) _ _ _ _ _ _ _
    (λ f h. laws.asks_on _ _ _ w f h c.loop-entity.invariant.1.below on) (λ e n. laws.reached_stays _ _ w e n on) before _ c.if-not-branch.true (c.in_ok-is_live.ensures.looks w s agrees before.answers.1)

pub loop-entity-preserved : goal.loop-entity-preserved
loop-entity-preserved g c =
    let laws = g.met.B.Base in
    let on = c.is_live.ensures.keeps.below in
    let within : c.loop-entity.entity-index < length c.args.entities.now = omega arith in (
      λ w s agrees stands.
          let before = c.loop-entity.invariant.0 w s (laws.seen_stays _ _ w on agrees) stands in
          dead-next s c.args.entities.now c.loop-entity.entity-index _ within (read-at c.args.entities.now c.loop-entity.entity-index _ within) _ _ _ _ _ _ _
          (λ f h. laws.asks_on _ _ _ w f h c.loop-entity.invariant.1.below on) (λ e n. laws.reached_stays _ _ w e n on) before _ c.if-not-branch.false (c.in_ok-is_live.ensures.looks w s agrees before.answers.1),
      keeps-then _ _ _ _ _ _ _ (Ok tt) (laws.follows_on _ _ _) c.loop-entity.invariant.1 (keeps-as _ _ _ _ tt c.in_ok-is_live.ensures.keeps),
    )
