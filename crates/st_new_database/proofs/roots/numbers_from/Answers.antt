use Rattle.std.proofs.Common.{◌++◌, ◌∷◌, [], ◌∙◌, List, ℕ, ap, sym, ◌+◌}
use Rattle.st_new_database.proofs.Chained.{range-more}
use Rattle.st_new_database.proofs.roots.numbers_from.Goals as goal

pub loop-i-preserved : goal.loop-i-preserved
loop-i-preserved c =
    c.in_ok-push.ensures.items ∙ ap (λ (ns : List ℕ). ns ++ (c.args.first + c.loop-i.i) ∷ []) c.loop-i.invariant ∙ sym (range-more c.args.first c.loop-i.i)
