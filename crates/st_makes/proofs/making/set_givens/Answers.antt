use Rattle.std.proofs.Common.{Err, ◌∙◌, ap, arith}
use Rattle.std.proofs.lemmas.Result.{err_from_is_err_and}
use Rattle.st_terms.proofs.Looking.{keeps-then}
use Rattle.st_makes.proofs.Gives.{keeps-ok}
use Rattle.st_makes.proofs.Sets.{set-fails, set-next}
use Rattle.st_makes.proofs.making.set_givens.Goals as goal

pub returns-in_err-set_given-clause-changes : goal.returns-in_err-set_given-clause-changes
returns-in_err-set_given-clause-changes g c = λ w s agrees stands admits.
    let laws = g.met.B.Base in
    let p = err_from_is_err_and c.from_residual.result c.from_residual.ensures.1 in
    let before = c.loop-given.invariant in
    let now = c.in_err-set_given.ensures in
    let on = now.keeps.below in
    set-fails c.args.entity c.args.givens.now c.loop-given.given-index c.given-item.result s _ _ _ _ _ (λ k h. laws.asks_on _ _ _ w k h before.keeps.below on) (omega arith) c.given-item.is
    (before.changes w s (laws.seen_stays _ _ w on agrees) stands admits) _ _ (p.1 ∙ ap Err p.2) (λ t stood can. now.changes w t agrees stood can)

pub loop-given-preserved : goal.loop-given-preserved
loop-given-preserved g c =
    let laws = g.met.B.Base in
    let before = c.loop-given.invariant in
    let now = c.in_ok-set_given.ensures in
    let on = now.keeps.below in
    record {
      changes = λ w s agrees stands admits.
          set-next c.args.entity c.args.givens.now c.loop-given.given-index c.given-item.result s _ _ _ _ _ (λ k h. laws.asks_on _ _ _ w k h before.keeps.below on) (omega arith) c.given-item.is
          (before.changes w s (laws.seen_stays _ _ w on agrees) stands admits) c.in_ok-set_given.field-0 (λ t stood can. now.changes w t agrees stood can);
      keeps = keeps-ok _ _ _ c.in_ok-set_given.field-0 _ (keeps-then _ _ _ _ _ _ _ _ (λ k h. laws.follows_on _ _ _ k h) before.keeps now.keeps);
    }
