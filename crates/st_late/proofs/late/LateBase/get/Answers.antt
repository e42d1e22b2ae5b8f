use Rattle.std.proofs.Common.{◌≡◌}
use Rattle.st_state.specs.State.{value_at}
use Rattle.st_state.specs.Calls.{Get}
use Rattle.st_late.proofs.OverLists.{read_gives}
use Rattle.st_late.proofs.late.LateBase.get.Goals as goal

pub returns-clause-gives : goal.returns-clause-gives
returns-clause-gives c =
    let over = c.get.ensures in
    read_gives _ _ _ _ _ (Get c.args.entity c.args.attribute) (λ s value. value ≡ value_at c.args.attribute c.args.entity s.triples) _ c.begin.ensures.base over.follows.1 c.in_default.ensures.begins.0 (λ s e admits. over.gives tt s tt e admits)
