use Rattle.std.proofs.Common.{◌∙◌, sym, ap, subst, inr}
use Rattle.std.specs.Prelude.{All}
use Rattle.st_lattice.specs.Called.{called}
use Rattle.std.proofs.lemmas.Result.{err_from_is_err_and}
use Rattle.st_terms.proofs.Looking.{at-more}
use Rattle.st_changes.proofs.Running.{looked-fail, looked-then, looked-reaches, looked-first, fail-reaches, sets-all-behind}
use Rattle.st_changes.proofs.Fitted.{target-admits, value-admits}
use Rattle.st_changes.proofs.Setting.{fitted, can-set, set-refused, set-leaves, set-among, get-among, place-same, set-terms}
use Rattle.st_changes.proofs.single.set.Goals as goal

pub returns-in_err-given-clause-changes : goal.returns-in_err-given-clause-changes
returns-in_err-given-clause-changes g c = λ w s agrees stands k.
    let a = c.args in
    let fit = fitted s a.variables.now a.attribute.now a.target.now a.value.now k in
    let p = err_from_is_err_and c.from_residual.result c.from_residual.ensures.1 in
    let f = c.in_err-given.ensures.looks w s agrees stands (target-admits s a.variables.now a.attribute.now a.target.now a.value.now fit) (value-admits s a.variables.now a.attribute.now a.target.now a.value.now fit) in
    rw (p.1, p.2) (looked-fail _ _ _ _ _ _ _ _ _ _ _ _ _ (set-terms s a.variables.now a.attribute.now a.target.now a.value.now k) f)

pub returns-in_err-given-clause-reached : goal.returns-in_err-given-clause-reached
returns-in_err-given-clause-reached g c = λ w s agrees stands k.
    let a = c.args in
    let fit = fitted s a.variables.now a.attribute.now a.target.now a.value.now k in
    let p = err_from_is_err_and c.from_residual.result c.from_residual.ensures.1 in
    let f = c.in_err-given.ensures.looks w s agrees stands (target-admits s a.variables.now a.attribute.now a.target.now a.value.now fit) (value-admits s a.variables.now a.attribute.now a.target.now a.value.now fit) in
    rw (p.1, p.2) (fail-reaches (Unit {0}) _ _ _ _ _ _ _ _ f)

pub returns-in_err-given-clause-first : goal.returns-in_err-given-clause-first
returns-in_err-given-clause-first g c = λ w s agrees stands k.
    let a = c.args in
    let fit = fitted s a.variables.now a.attribute.now a.target.now a.value.now k in
    let f = c.in_err-given.ensures.looks w s agrees stands (target-admits s a.variables.now a.attribute.now a.target.now a.value.now fit) (value-admits s a.variables.now a.attribute.now a.target.now a.value.now fit) in
    inr (at-more _ _ _ _ (set-terms s a.variables.now a.attribute.now a.target.now a.value.now k) f.asked)

pub returns-clause-changes : goal.returns-clause-changes
returns-clause-changes g c = λ w s agrees stands k.
    let laws = g.met.B.Base in
    let a = c.args in
    let vs = a.variables.now in
    let t = a.target.now in
    let v = a.value.now in
    let name = a.attribute.now in
    let on = c.set_given.ensures.keeps.below in
    let fit = fitted s vs name t v k in
    let same = laws.stands_with_schema _ w s stands ∙ sym c.requires in
    let is = c.called-called.ensures ∙ ap (called a.schema.now) c.as_slice.ensures.value in
    let first = c.in_ok-given.ensures.looks w s (laws.seen_stays _ _ w on agrees) stands (target-admits s vs name t v fit) (value-admits s vs name t v fit) in
    let tv = first.answers.0.0 in
    let wv = first.answers.0.1 in
    looked-then _ _ _ _ _ _ _ _ _ _ _ _ _ _ _ _ _ _ _
    (λ f h. laws.asks_on _ _ _ w f h c.in_ok-given.ensures.keeps.below on)
    (set-refused s vs name t v k _ same _ is _ _ tv wv) (set-leaves s vs name t v k _ same _ is _ _ tv wv) (set-among s vs name t v k _ same _ is _ _ tv wv) first
    (c.set_given.ensures.changes w s agrees first.answers.1 (can-set s vs name t v k _ same _ is _ _ tv wv))

pub returns-clause-reached : goal.returns-clause-reached
returns-clause-reached g c = λ w s agrees stands k.
    let laws = g.met.B.Base in
    let a = c.args in
    let vs = a.variables.now in
    let t = a.target.now in
    let v = a.value.now in
    let name = a.attribute.now in
    let on = c.set_given.ensures.keeps.below in
    let fit = fitted s vs name t v k in
    let same = laws.stands_with_schema _ w s stands ∙ sym c.requires in
    let is = c.called-called.ensures ∙ ap (called a.schema.now) c.as_slice.ensures.value in
    let first = c.in_ok-given.ensures.looks w s (laws.seen_stays _ _ w on agrees) stands (target-admits s vs name t v fit) (value-admits s vs name t v fit) in
    let tv = first.answers.0.0 in
    let wv = first.answers.0.1 in
    looked-reaches _ _ _ _ _ _ (λ e n. laws.reached_stays _ _ w e n on) (place-same s vs name t v k _ same _ is _ _ tv wv) first.reached
    (c.set_given.ensures.reached w s agrees first.answers.1 (can-set s vs name t v k _ same _ is _ _ tv wv))

pub returns-clause-first : goal.returns-clause-first
returns-clause-first g c = λ w s agrees stands k.
    let laws = g.met.B.Base in
    let a = c.args in
    let vs = a.variables.now in
    let t = a.target.now in
    let v = a.value.now in
    let name = a.attribute.now in
    let on = c.set_given.ensures.keeps.below in
    let fit = fitted s vs name t v k in
    let same = laws.stands_with_schema _ w s stands ∙ sym c.requires in
    let is = c.called-called.ensures ∙ ap (called a.schema.now) c.as_slice.ensures.value in
    let first = c.in_ok-given.ensures.looks w s (laws.seen_stays _ _ w on agrees) stands (target-admits s vs name t v fit) (value-admits s vs name t v fit) in
    let tv = first.answers.0.0 in
    let wv = first.answers.0.1 in
    looked-first _ _ _ _ _ _ _ _ _ _ _ _ _
    (λ f h. laws.asks_on _ _ _ w f h c.in_ok-given.ensures.keeps.below on)
    (subst (All (λ p. g.B.Base.reached c.set_given.new.base w p.entity p.number)) (place-same s vs name t v k _ same _ is _ _ tv wv))
    (get-among s vs name t v k _ same _ is _ _ tv wv) first
    (c.set_given.ensures.first w s agrees first.answers.1 (can-set s vs name t v k _ same _ is _ _ tv wv))

pub returns-clause-sets : goal.returns-clause-sets
returns-clause-sets g c = λ w s agrees stands k.
    let laws = g.met.B.Base in
    let a = c.args in
    let vs = a.variables.now in
    let t = a.target.now in
    let v = a.value.now in
    let name = a.attribute.now in
    let on = c.set_given.ensures.keeps.below in
    let fit = fitted s vs name t v k in
    let same = laws.stands_with_schema _ w s stands ∙ sym c.requires in
    let is = c.called-called.ensures ∙ ap (called a.schema.now) c.as_slice.ensures.value in
    let first = c.in_ok-given.ensures.looks w s (laws.seen_stays _ _ w on agrees) stands (target-admits s vs name t v fit) (value-admits s vs name t v fit) in
    let tv = first.answers.0.0 in
    let wv = first.answers.0.1 in
    sets-all-behind _ _ _ s first.asked.calls _ _ _ (λ f h. laws.asks_on _ _ _ w f h c.in_ok-given.ensures.keeps.below on) (place-same s vs name t v k _ same _ is _ _ tv wv) first.asked.asked
    (c.set_given.ensures.sets w s agrees first.answers.1 (can-set s vs name t v k _ same _ is _ _ tv wv))
