use Rattle.std.proofs.Common.{◌∙◌, sym, ap}
use Rattle.std.proofs.lemmas.Result.{err_from_is_err_and}
use Rattle.st_lattice.specs.Called.{called}
use Rattle.st_changes.proofs.Running.{looked-fail, looked-then}
use Rattle.st_changes.proofs.Fitted.{target-admits, value-admits}
use Rattle.st_changes.proofs.Taking.{fitted, can-take, take-refused, take-leaves, take-among, take-terms}
use Rattle.st_changes.proofs.member.take.Goals as goal

pub returns-in_err-given-clause-changes : goal.returns-in_err-given-clause-changes
returns-in_err-given-clause-changes g c = λ w s agrees stands k.
    let a = c.args in
    let fit = fitted s a.variables.now a.attribute.now a.target.now a.value.now k in
    let p = err_from_is_err_and c.from_residual.result c.from_residual.ensures.1 in
    let f = c.in_err-given.ensures.looks w s agrees stands (target-admits s a.variables.now a.attribute.now a.target.now a.value.now fit) (value-admits s a.variables.now a.attribute.now a.target.now a.value.now fit) in
    rw (p.1, p.2) (looked-fail _ _ _ _ _ _ _ _ _ _ _ _ _ (take-terms s a.variables.now a.attribute.now a.target.now a.value.now k) f)

pub returns-clause-changes : goal.returns-clause-changes
returns-clause-changes g c = λ w s agrees stands k.
    let laws = g.met.B.Base in
    let a = c.args in
    let vs = a.variables.now in
    let t = a.target.now in
    let v = a.value.now in
    let name = a.attribute.now in
    let on = c.take_given.ensures.keeps.below in
    let fit = fitted s vs name t v k in
    let same = laws.stands_with_schema _ w s stands ∙ sym c.requires in
    let is = c.called-called.ensures ∙ ap (called a.schema.now) c.as_slice.ensures.value in
    let first = c.in_ok-given.ensures.looks w s (laws.seen_stays _ _ w on agrees) stands (target-admits s vs name t v fit) (value-admits s vs name t v fit) in
    let tv = first.answers.0.0 in
    let wv = first.answers.0.1 in
    looked-then _ _ _ _ _ _ _ _ _ _ _ _ _ _ _ _ _ _ _
    (λ f h. laws.asks_on _ _ _ w f h c.in_ok-given.ensures.keeps.below on)
    (take-refused s vs name t v k _ same _ is _ _ tv wv) (take-leaves s vs name t v k _ same _ is _ _ tv wv) (take-among s vs name t v k _ same _ is _ _ tv wv) first
    (c.take_given.ensures.changes w s agrees first.answers.1 (can-take s vs name t v k _ same _ is _ _ tv wv))
