use Rattle.st_terms.proofs.Looking.{change-then}
use Rattle.st_changes.proofs.member.take_own.Goals as goal

pub returns-clause-changes : goal.returns-clause-changes
returns-clause-changes g c = λ w s agrees stands admits.
    let laws = g.met.B.Base in
    let on = c.take_at.ensures.keeps.below in
    let first = c.in_ok-unshared.ensures.changes w s (laws.seen_stays _ _ w on agrees) stands admits.1 in
    change-then _ _ _ _ _ _ _ _ _ _ _ _ _ _ _
    (λ f h. laws.asks_on _ _ _ w f h c.in_ok-unshared.ensures.keeps.below on)
    first (c.take_at.ensures.changes w s agrees first.concludes.2 admits)
