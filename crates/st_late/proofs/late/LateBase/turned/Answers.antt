use Rattle.std.proofs.Common.{◌≡◌}
use Rattle.st_state.specs.State.{turned}
use Rattle.st_state.specs.Calls.{Turned}
use Rattle.st_late.proofs.OverLists.{read_gives}
use Rattle.st_late.proofs.late.LateBase.turned.Goals as goal

pub returns-clause-gives : goal.returns-clause-gives
returns-clause-gives c =
    let over = c.turned.ensures in
    read_gives _ _ _ _ _ (Turned c.args.attribute c.args.value.now) (λ s entities. entities ≡ turned c.args.attribute c.args.value.now s.triples) _ c.begin.ensures.base over.follows.1 c.in_default.ensures.begins.0 (λ s e admits. over.gives tt s tt e admits)
