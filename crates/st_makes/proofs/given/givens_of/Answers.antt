use Rattle.std.proofs.Common.{Ok, Err, sym, ◌∙◌, ap, arith, take}
use Rattle.std.proofs.lemmas.Result.{err_from_is_err_and}
use Rattle.st_terms.proofs.Looking.{keeps-then}
use Rattle.st_terms.specs.Routes.{AdmitsTerm}
use Rattle.st_makes.specs.Makes.{givens_of}
use Rattle.st_makes.proofs.Gives.{take-next, item-has, upto-among, next-among, looks-err, looks-ok, keeps-ok, give-next, stores}
use Rattle.st_makes.proofs.given.givens_of.Goals as goal

pub returns-in_err-give-clause-looks : goal.returns-in_err-give-clause-looks
returns-in_err-give-clause-looks g c = λ w s agrees stands admits.
    let laws = g.met.B.Base in
    let p = err_from_is_err_and c.from_residual.result c.from_residual.ensures.1 in
    let before = c.loop-cell.invariant in
    let now = c.in_err-give.ensures in
    let on = now.keeps.below in
    let cells = c.args.cells.now in
    let cell = c.cell-item.result in
    let here = item-has (λ x. AdmitsTerm s c.args.variables.now x.value) cells c.loop-cell.cell-index cell (omega arith) c.cell-item.is admits in
    looks-err _ _ _ _ _ _ _ _ _ _ _ (p.1 ∙ ap Err p.2) (upto-among (stores s c.args.variables.now c.args.ty) cells c.loop-cell.cell-index cell (omega arith) c.cell-item.is)
    (give-next s c.args.variables.now c.args.ty (take c.loop-cell.cell-index cells) cell c.loop-cell.givens c.give.new.givens _ _ _ _ _ _ _ _
    (λ f h. laws.asks_on _ _ _ w f h before.keeps.below on) (λ e n. laws.reached_stays _ _ w e n on)
    (before.looks w s (laws.seen_stays _ _ w on agrees) stands admits) (λ stands_then. now.looks w s agrees stands_then here))

pub loop-cell-preserved : goal.loop-cell-preserved
loop-cell-preserved g c =
    let laws = g.met.B.Base in
    let before = c.loop-cell.invariant in
    let now = c.in_ok-give.ensures in
    let on = now.keeps.below in
    let cells = c.args.cells.now in
    let cell = c.cell-item.result in
    let i = c.loop-cell.cell-index in
    record {
      looks = λ w s agrees stands admits.
          let here = item-has (λ x. AdmitsTerm s c.args.variables.now x.value) cells i cell (omega arith) c.cell-item.is admits in
          looks-ok _ _ _ _ _ _ _ _ _ (λ k. k ∙ ap (givens_of s c.args.variables.now c.args.ty) (sym (take-next cells i cell (omega arith) c.cell-item.is)))
          (next-among (stores s c.args.variables.now c.args.ty) cells i cell (omega arith) c.cell-item.is)
          (give-next s c.args.variables.now c.args.ty (take i cells) cell c.loop-cell.givens c.give.new.givens (Ok c.in_ok-give.field-0) _ _ _ _ _ _ _
          (λ f h. laws.asks_on _ _ _ w f h before.keeps.below on) (λ e n. laws.reached_stays _ _ w e n on)
          (before.looks w s (laws.seen_stays _ _ w on agrees) stands admits) (λ stands_then. now.looks w s agrees stands_then here));
      keeps = keeps-ok _ _ _ c.in_ok-give.field-0 _ (keeps-then _ _ _ _ _ _ _ _ (λ f h. laws.follows_on _ _ _ f h) before.keeps now.keeps);
    }
