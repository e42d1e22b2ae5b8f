use Rattle.st_makes.proofs.Finds.{holder-next}
use Rattle.st_makes.proofs.finding.holder_of.Goals as goal

pub returns-clause-looks : goal.returns-clause-looks
returns-clause-looks g c = λ w s agrees stands near admits meant.
    let laws = g.met.B.Base in
    let on = c.holder.ensures.keeps.below in
    let first = c.in_ok-value.ensures in
    holder-next s c.args.variables.now c.args.ty c.args.key.now c.args.value.now c.in_ok-value.value _ _ _ _ _ _ _ _ _ _ _
    (λ f h. laws.asks_on _ _ _ w f h first.keeps.below on) (λ e n. laws.reached_stays _ _ w e n on)
    (first.looks w s (laws.seen_stays _ _ w on agrees) stands admits) (λ stands_then m. c.holder.ensures.looks w s agrees stands_then near m) meant
