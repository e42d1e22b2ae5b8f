use Rattle.st_select.proofs.Finding.{search-selects}
use Rattle.st_select.proofs.engine.filtered_known.Goals as goal

pub returns-clause-looks : goal.returns-clause-looks
returns-clause-looks g c = λ w s agrees stands variables query is checked known.
    search-selects s variables query c.args.search.now is checked _ _ _ c.found_in_order.result (c.found_in_order.ensures.looks w s agrees stands known)
