use Rattle.std.proofs.Common.{◌∷◌, [], ◌/◌, List, ℕ, take, ap, sym, ◌∙◌, arith}
use Rattle.st_new_database.specs.New.{page_bytes}
use Rattle.st_new_database.proofs.Chained.{chain-short, chain-long}
use Rattle.st_new_database.proofs.chain.front_page.Goals as goal

pub returns-then-bytes-le-BODY_SIZE : goal.returns-then-bytes-le-BODY_SIZE
returns-then-bytes-le-BODY_SIZE c =
    ap (take 1) (chain-short c.args.kind c.args.unit c.args.second c.args.bytes.now (omega arith)) ∙ ap (λ (page : List ℕ). page ∷ []) (sym c.chain_page.ensures)

pub returns-else-bytes-le-BODY_SIZE : goal.returns-else-bytes-le-BODY_SIZE
returns-else-bytes-le-BODY_SIZE c =
    ap (take 1) (chain-long c.args.kind c.args.unit c.args.second c.args.bytes.now (omega arith))
    ∙ ap (λ (piece : List ℕ). page_bytes c.args.kind (4080 / c.args.unit) c.args.second piece ∷ []) (sym c.split_at.ensures.front)
    ∙ ap (λ (page : List ℕ). page ∷ []) (sym c.chain_page-else-bytes-le-BODY_SIZE.ensures)
