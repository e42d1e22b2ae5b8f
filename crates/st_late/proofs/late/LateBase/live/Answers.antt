use Rattle.std.proofs.Common.{◌≡◌}
use Rattle.st_state.specs.State.{is_live}
use Rattle.st_state.specs.Calls.{Live}
use Rattle.st_late.proofs.OverLists.{read_gives}
use Rattle.st_late.proofs.late.LateBase.live.Goals as goal

pub returns-clause-gives : goal.returns-clause-gives
returns-clause-gives c = λ w s agrees stands.
    let over = c.live.ensures in
    read_gives _ _ _ _ _ (Live c.args.entity) (λ s live. live ≡ is_live s c.args.entity) _ c.begin.ensures.base over.follows.1 c.in_default.ensures.begins.0 (λ s e _. over.gives tt s tt e) w s agrees stands tt
