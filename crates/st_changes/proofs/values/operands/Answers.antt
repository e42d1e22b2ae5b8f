use Rattle.std.proofs.lemmas.Result.{err_from_is_err_and}
use Rattle.st_changes.proofs.Pairs.{looks-fail-second, looks-both}
use Rattle.st_changes.proofs.values.operands.Goals as goal

pub returns-in_err-second-clause-looks : goal.returns-in_err-second-clause-looks
returns-in_err-second-clause-looks g c = λ w s agrees stands first_admits second_admits.
    let laws = g.met.B.Base in
    let on = c.in_err-second.ensures.keeps.below in
    let p = err_from_is_err_and c.from_residual-in_err-second.result c.from_residual-in_err-second.ensures.1 in
    let first = c.in_ok-first.ensures.looks w s (laws.seen_stays _ _ w on agrees) stands first_admits in
    rw (p.1, p.2) (looks-fail-second _ _ _ _ _ _ _ _ _ _ _ _ _ _ _
    (λ f h. laws.asks_on _ _ _ w f h c.in_ok-first.ensures.keeps.below on) (λ e n. laws.reached_stays _ _ w e n on)
    first (c.in_err-second.ensures.looks w s agrees first.answers.1 second_admits))

pub returns-clause-looks : goal.returns-clause-looks
returns-clause-looks g c = λ w s agrees stands first_admits second_admits.
    let laws = g.met.B.Base in
    let on = c.in_ok-second.ensures.keeps.below in
    let first = c.in_ok-first.ensures.looks w s (laws.seen_stays _ _ w on agrees) stands first_admits in
    looks-both _ _ _ _ _ _ _ _ _ _ _ _ _ _ _
    (λ f h. laws.asks_on _ _ _ w f h c.in_ok-first.ensures.keeps.below on) (λ e n. laws.reached_stays _ _ w e n on)
    first (c.in_ok-second.ensures.looks w s agrees first.answers.1 second_admits)
