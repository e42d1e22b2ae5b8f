use Rattle.std.proofs.Common.{◌≡◌}
use Rattle.st_state.specs.State.{entities_of}
use Rattle.st_state.specs.Calls.{Listed}
use Rattle.st_late.proofs.OverLists.{read_gives}
use Rattle.st_late.proofs.late.LateBase.list.Goals as goal

pub returns-clause-gives : goal.returns-clause-gives
returns-clause-gives c = λ w s agrees stands.
    let over = c.list.ensures in
    read_gives _ _ _ _ _ (Listed c.args.ty) (λ s entities. entities ≡ entities_of s c.args.ty) _ c.begin.ensures.base over.follows.1 c.in_default.ensures.begins.0 (λ s e _. over.gives tt s tt e) w s agrees stands tt
