use Rattle.std.proofs.Common.{◌≡◌}
use Rattle.st_state.specs.State.{values_at}
use Rattle.st_state.specs.Calls.{Members}
use Rattle.st_late.proofs.OverLists.{read_gives}
use Rattle.st_late.proofs.late.LateBase.members.Goals as goal

pub returns-clause-gives : goal.returns-clause-gives
returns-clause-gives c =
    let over = c.members.ensures in
    read_gives _ _ _ _ _ (Members c.args.entity c.args.attribute) (λ s values. values ≡ values_at c.args.attribute c.args.entity s.triples) _ c.begin.ensures.base over.follows.1 c.in_default.ensures.begins.0 (λ s e admits. over.gives tt s tt e admits)
