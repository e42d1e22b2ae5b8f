use Rattle.std.proofs.Common.{◌++◌, ◌∙◌, List, ℕ, ap, sym, arith}
use Rattle.std.proofs.lemmas.List.{append-nil}
use Rattle.st_new_database.proofs.Chained.{others-none, others-more}
use Rattle.st_new_database.proofs.chain.push_others.Goals as goal

pub returns-then-bytes-le-BODY_SIZE : goal.returns-then-bytes-le-BODY_SIZE
returns-then-bytes-le-BODY_SIZE c =
    sym (ap (λ (ps : List (List ℕ)). c.args.pages.now.items ++ ps) (others-none c.args.kind c.args.unit c.args.second c.args.bytes.now (omega arith)) ∙ append-nil c.args.pages.now.items)

pub returns : goal.returns
returns c = rw (others-more c.args.kind c.args.unit c.args.second c.args.bytes.now (omega arith), ← c.split_at.ensures.back) c.push_chain.ensures
