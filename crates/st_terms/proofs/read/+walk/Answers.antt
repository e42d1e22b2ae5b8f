use Rattle.std.proofs.Common.{arith}
use Rattle.st_terms.proofs.Walks.{parted, shorter, others-of, walk-on}
use Rattle.st_terms.proofs.read.+walk.Goals as goal

pub walk-requires : goal.walk-requires
walk-requires g t c κs within =
    let same = g.met.B.Base.schema_stays _ _ c.read.ensures.keeps.below in
    (omega (arith, c.decreases, shorter c.args.readings.now c.in-len1-up.len_at_least), (within, others-of _ _ _ same c.in-len1-up.len_at_least c.requires))

pub returns-in_ok-next-in-len1-up-clause-looks : goal.returns-in_ok-next-in-len1-up-clause-looks
returns-in_ok-next-in-len1-up-clause-looks g t c = λ w s agrees stands admits.
    let laws = g.met.B.Base in
    let on = c.walk.ensures.keeps.below in
    let first = c.in_ok-next-in-len1-up.ensures in
    walk-on s c.args.readings.now _ _ c.args.from c.in_ok-next-in-len1-up.next c.single.result (parted c.args.readings.now _ c.in-len1-up.len_at_least) c.single.ensures _ _ _ _ _ _ _ _
    (λ f h. laws.asks_on _ _ _ w f h first.keeps.below on) (λ e n. laws.reached_stays _ _ w e n on)
    (first.looks w s (laws.seen_stays _ _ w on agrees) stands) (λ stands_then. c.walk.ensures.looks w s agrees stands_then) admits
