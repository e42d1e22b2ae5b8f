use Rattle.st_makes.proofs.Checked.{made-then}
use Rattle.st_makes.proofs.making.make_filled.Goals as goal

pub returns-clause-changes : goal.returns-clause-changes
returns-clause-changes g c = λ w s agrees stands admits.
    let laws = g.met.B.Base in
    let on = c.set_all.ensures.keeps.below in
    let first = c.in_ok-entity.ensures in
    made-then s c.args.ty c.args.givens.now c.in_ok-entity.entity _ _ _ _ _ _ _ (λ k h. laws.asks_on _ _ _ w k h first.keeps.below on)
    (first.changes w s (laws.seen_stays _ _ w on agrees) stands) (λ t stood can. c.set_all.ensures.changes w t agrees stood can) admits
