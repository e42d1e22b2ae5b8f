use Rattle.std.proofs.lemmas.Result.{err_from_is_err_and}
use Rattle.st_select.proofs.Finding.{ranked-found, found-in-order}
use Rattle.st_select.proofs.Steps.{looks-handed, looks-lost}
use Rattle.st_select.proofs.engine.found_in_order.Goals as goal

pub returns-in_err-ranked-clause-looks : goal.returns-in_err-ranked-clause-looks
returns-in_err-ranked-clause-looks g c = λ w s agrees stands known admits.
    looks-handed _ _ _ _ _ _ c.in_err-ranked.field-0.0 c.from_residual.result (err_from_is_err_and c.from_residual.result c.from_residual.ensures.1)
    (ranked-found s c.args.search.now c.args.known.now _ _ c.as_slice.ensures c.as_slice-keys.ensures _ _ _ _ (c.in_err-ranked.ensures.looks w s agrees stands) known admits)

pub returns-in_err-in_order-clause-looks : goal.returns-in_err-in_order-clause-looks
returns-in_err-in_order-clause-looks g c = λ w s agrees stands known admits.
    looks-lost _ _ _ _ _ _ _ c.from_residual-in_err-in_order.result (err_from_is_err_and c.from_residual-in_err-in_order.result c.from_residual-in_err-in_order.ensures.1)
    (ranked-found s c.args.search.now c.args.known.now _ _ c.as_slice.ensures c.as_slice-keys.ensures _ _ _ _ (c.in_ok-ranked.ensures.looks w s agrees stands) known admits)

pub returns-clause-looks : goal.returns-clause-looks
returns-clause-looks g c = λ w s agrees stands known admits.
    let search = c.args.search.now in
    let f = ranked-found s search c.args.known.now _ _ c.as_slice.ensures c.as_slice-keys.ensures _ _ _ _ (c.in_ok-ranked.ensures.looks w s agrees stands) known admits in record {
      answers = (found-in-order s search c.args.known.now c.as_slice.result.now c.as_slice-keys.result.now c.as_slice.ensures c.as_slice-keys.ensures _ _ f.answers.0 c.in_ok-in_order.ensures, f.answers.1);
      asked = f.asked;
      reached = f.reached;
    }
