use Rattle.std.proofs.lemmas.Result.{err_from_is_err_and}
use Rattle.st_changes.proofs.Running.{looked-fail, looked-then, told-fail, told-then}
use Rattle.st_changes.proofs.Deleting.{admits, can-delete, delete-refused, delete-leaves, delete-term, delete-among}
use Rattle.st_changes.proofs.entity.delete.Goals as goal

pub returns-in_err-entity-clause-changes : goal.returns-in_err-entity-clause-changes
returns-in_err-entity-clause-changes g c = λ w s agrees stands k.
    let p = err_from_is_err_and c.from_residual.result c.from_residual.ensures.1 in
    rw (p.1, p.2) (looked-fail _ _ _ _ _ _ _ _ _ _ _ _ _ (delete-term s c.args.variables.now c.args.target.now k)
    (c.in_err-entity.ensures.looks w s agrees stands (admits s c.args.variables.now c.args.target.now k)))

pub returns-in_err-not_null-clause-changes : goal.returns-in_err-not_null-clause-changes
returns-in_err-not_null-clause-changes g c = λ w s agrees stands k.
    let laws = g.met.B.Base in
    let t = c.args.target.now in
    let vs = c.args.variables.now in
    let p = err_from_is_err_and c.from_residual-in_err-not_null.result c.from_residual-in_err-not_null.ensures.1 in
    let first = c.in_ok-entity.ensures.looks w s agrees stands (admits s vs t k) in
    let is = first.answers.0 in
    rw (p.1, p.2) (looked-then _ _ _ _ _ _ _ _ _ _ _ _ _ _ _ _ _ _ _
    (λ f h. laws.asks_on _ _ _ w f h c.in_ok-entity.ensures.keeps.below (laws.follows_itself _))
    (delete-refused s vs t k _ is) (delete-leaves s vs t k _ is) (delete-among s vs t k _ is) first
    (told-fail _ _ _ _ _ _ _ _ _ c.in_err-not_null.ensures first.answers.1 (laws.asks_nothing _ w)))

pub returns-clause-changes : goal.returns-clause-changes
returns-clause-changes g c = λ w s agrees stands k.
    let laws = g.met.B.Base in
    let t = c.args.target.now in
    let vs = c.args.variables.now in
    let on = c.delete_value.ensures.keeps.below in
    let first = c.in_ok-entity.ensures.looks w s (laws.seen_stays _ _ w on agrees) stands (admits s vs t k) in
    let is = first.answers.0 in
    looked-then _ _ _ _ _ _ _ _ _ _ _ _ _ _ _ _ _ _ _
    (λ f h. laws.asks_on _ _ _ w f h c.in_ok-entity.ensures.keeps.below on)
    (delete-refused s vs t k _ is) (delete-leaves s vs t k _ is) (delete-among s vs t k _ is) first
    (told-then _ _ _ _ _ _ _ _ _ c.in_ok-not_null.ensures (c.delete_value.ensures.changes w s agrees first.answers.1 (can-delete s vs t k _ is)))
