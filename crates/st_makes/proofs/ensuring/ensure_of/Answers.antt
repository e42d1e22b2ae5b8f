use Rattle.std.proofs.Common.{◌≡◌, List, ◌∷◌, ◌++◌, Some, Err, ◌∙◌, ap}
use Rattle.std.proofs.lemmas.Result.{err_from_is_err_and}
use Rattle.st_meaning.specs.Statements.{holder}
use Rattle.st_makes.specs.declared.given.Given.{Given}
use Rattle.st_makes.specs.Makes.{found_stores, ensures_refused, ensured, ensured_entity, ensures_stores, CanEnsure}
use Rattle.st_makes.proofs.Checked.{next-changes, stops-changes}
use Rattle.st_makes.proofs.ensuring.ensure_of.Goals as goal

pub returns-in_err-givens-clause-changes : goal.returns-in_err-givens-clause-changes
returns-in_err-givens-clause-changes g c = λ w s agrees stands admits first others is near meant can.
    let p = err_from_is_err_and c.from_residual.result c.from_residual.ensures.1 in
    stops-changes _ _ _ _ _ _ _ _ _ _ s _ _ (p.1 ∙ ap Err p.2) (c.in_err-givens.ensures.looks w s agrees stands admits)

pub returns-clause-changes : goal.returns-clause-changes
returns-clause-changes g c = λ w s agrees stands admits value others is near meant can.
    let laws = g.met.B.Base in
    let ty = c.args.ty in
    let key = c.args.key.now.number in
    let o = holder s ty (Some c.args.key.now) value in
    let on = c.ensure_given.ensures.keeps.below in
    let first = c.in_ok-givens.ensures in
    next-changes _ _ _ _ _ _ s (λ z. ensures_refused s ty key others z o) (λ z. ensured s ty others z o) (λ z made. made ≡ ensured_entity s ty o) (λ z. found_stores s.schema key ++ ensures_stores s ty key others z o)
    (λ (z : List Given). (z ≡ record { number = key; many = c.args.key.now.many; value = value } ∷ others) × CanEnsure s ty key others z o) _ _ _ _ _
    (λ k h. laws.asks_on _ _ _ w k h first.keeps.below on) c.as_slice.ensures (first.looks w s (laws.seen_stays _ _ w on agrees) stands admits)
    (λ stood at. c.ensure_given.ensures.changes w s agrees stood value others at.0 near meant at.1) (is, can)
