use Rattle.std.proofs.Common.{Ok, Err, sym, ◌∙◌, ap, arith}
use Rattle.std.proofs.lemmas.Result.{err_from_is_err_and}
use Rattle.st_terms.proofs.Looking.{keeps-then}
use Rattle.st_makes.specs.Makes.{IsMeant}
use Rattle.st_makes.proofs.Gives.{item-has, upto-among, next-among, looks-err, looks-ok, keeps-ok}
use Rattle.st_makes.proofs.Shares.{share-next, refuses-here, refuses-later, Looked, stores}
use Rattle.st_makes.proofs.refused.first_shared.Goals as goal

pub returns-in_err-refusal-clause-looks : goal.returns-in_err-refusal-clause-looks
returns-in_err-refusal-clause-looks g c = λ w s agrees stands near meant.
    let laws = g.met.B.Base in
    let p = err_from_is_err_and c.from_residual.result c.from_residual.ensures.1 in
    let before = c.loop-filling.invariant in
    let now = c.in_err-refusal.ensures in
    let on = now.keeps.below in
    let fillings = c.args.fillings.now in
    let f = c.filling-item.result in
    let i = c.loop-filling.filling-index in
    let here = item-has (λ x. IsMeant s x.attribute x.value) fillings i f (omega arith) c.filling-item.is meant in
    looks-err _ _ _ _ _ _ _ _ _ _ _ (p.1 ∙ ap Err p.2) (upto-among (stores s c.args.filled) fillings i f (omega arith) c.filling-item.is)
    (share-next s c.args.filled fillings i f _ _ _ _ _ _ _ _ _ _ (λ _ _ k. k) (λ k h. laws.asks_on _ _ _ w k h before.keeps.below on) (λ e n. laws.reached_stays _ _ w e n on)
    (before.looks w s (laws.seen_stays _ _ w on agrees) stands near meant) (λ stands_then. now.looks w s agrees stands_then near here))

pub returns-in-Some-clause-looks : goal.returns-in-Some-clause-looks
returns-in-Some-clause-looks g c = λ w s agrees stands near meant.
    let laws = g.met.B.Base in
    let before = c.loop-filling.invariant in
    let now = c.in_ok-refusal.ensures in
    let on = now.keeps.below in
    let fillings = c.args.fillings.now in
    let f = c.filling-item.result in
    let i = c.loop-filling.filling-index in
    let here = item-has (λ x. IsMeant s x.attribute x.value) fillings i f (omega arith) c.filling-item.is meant in
    looks-ok _ _ _ _ _ _ _ _ _ (λ k. refuses-here s c.args.filled fillings i f c.in-Some.refusal (omega arith) c.filling-item.is (sym c.in-Some.is ∙ k.0) k.1)
    (upto-among (stores s c.args.filled) fillings i f (omega arith) c.filling-item.is)
    (share-next s c.args.filled fillings i f _ (Ok c.in_ok-refusal.field-0) (Looked s c.args.filled fillings i f) _ _ _ _ _ _ _ (λ _ h k. (k, h))
    (λ k h. laws.asks_on _ _ _ w k h before.keeps.below on) (λ e n. laws.reached_stays _ _ w e n on)
    (before.looks w s (laws.seen_stays _ _ w on agrees) stands near meant) (λ stands_then. now.looks w s agrees stands_then near here))

pub loop-filling-preserved : goal.loop-filling-preserved
loop-filling-preserved g c =
    let laws = g.met.B.Base in
    let before = c.loop-filling.invariant in
    let now = c.in_ok-refusal.ensures in
    let on = now.keeps.below in
    let fillings = c.args.fillings.now in
    let f = c.filling-item.result in
    let i = c.loop-filling.filling-index in
    record {
      looks = λ w s agrees stands near meant.
          let here = item-has (λ x. IsMeant s x.attribute x.value) fillings i f (omega arith) c.filling-item.is meant in
          looks-ok _ _ _ _ _ _ _ _ _ (λ k. refuses-later s c.args.filled fillings i f (omega arith) c.filling-item.is (sym c.in_default.is ∙ k.0) k.1)
          (next-among (stores s c.args.filled) fillings i f (omega arith) c.filling-item.is)
          (share-next s c.args.filled fillings i f _ (Ok c.in_ok-refusal.field-0) (Looked s c.args.filled fillings i f) _ _ _ _ _ _ _ (λ _ h k. (k, h))
          (λ k h. laws.asks_on _ _ _ w k h before.keeps.below on) (λ e n. laws.reached_stays _ _ w e n on)
          (before.looks w s (laws.seen_stays _ _ w on agrees) stands near meant) (λ stands_then. now.looks w s agrees stands_then near here));
      keeps = keeps-ok _ _ _ c.in_ok-refusal.field-0 _ (keeps-then _ _ _ _ _ _ _ _ (λ k h. laws.follows_on _ _ _ k h) before.keeps now.keeps);
    }
