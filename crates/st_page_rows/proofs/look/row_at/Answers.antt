use Rattle.std.proofs.Common.{ℕ, ◌+◌, ◌*◌, List, Some, sym, ap, ◌∙◌}
use Rattle.st_page_rows.proofs.Changed.{piece-is, row-is}
use Rattle.st_page_rows.proofs.look.row_at.Goals as goal

pub returns-clause-row : goal.returns-clause-row
returns-clause-row c =
    row-is c.args.width c.args.index c.args.page.now c.requires.laid c.requires.within
    ∙ ap (λ (row : List ℕ). Some row) (sym (piece-is (16 + c.args.index * c.args.width) c.args.width c.args.page.now c.bytes.result.now c.bytes.ensures.same))
