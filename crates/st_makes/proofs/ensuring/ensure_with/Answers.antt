use Rattle.std.proofs.Common.{◌≡◌, refl}
use Rattle.st_makes.specs.Makes.{ensures_refused, ensured, ensured_entity, ensures_stores, CanEnsure}
use Rattle.st_makes.proofs.Checked.{next-changes}
use Rattle.st_makes.proofs.ensuring.ensure_with.Goals as goal

pub returns-clause-changes : goal.returns-clause-changes
returns-clause-changes g c = λ w s agrees stands near meant can.
    let laws = g.met.B.Base in
    let ty = c.args.ty in
    let key = c.args.key.now.number in
    let others = c.args.others.now in
    let givens = c.args.givens.now in
    let on = c.fill_or_make.ensures.keeps.below in
    let first = c.in_ok-found.ensures in
    next-changes _ _ _ _ _ _ s (ensures_refused s ty key others givens) (ensured s ty others givens) (λ z made. made ≡ ensured_entity s ty z) (ensures_stores s ty key others givens) (CanEnsure s ty key others givens) _ _ _ _ _
    (λ k h. laws.asks_on _ _ _ w k h first.keeps.below on) refl (first.looks w s (laws.seen_stays _ _ w on agrees) stands near meant) (λ stood at. c.fill_or_make.ensures.changes w s agrees stood at) can
