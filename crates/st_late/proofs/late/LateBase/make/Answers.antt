use Rattle.std.proofs.Common.{◌≡◌}
use Rattle.st_state.specs.State.{next_entity}
use Rattle.st_state.specs.Calls.{Make}
use Rattle.st_late.proofs.OverLists.{write_gives}
use Rattle.st_late.proofs.late.LateBase.make.Goals as goal

pub returns-clause-gives : goal.returns-clause-gives
returns-clause-gives c = λ w s agrees stands.
    let over = c.make-answer.ensures in
    write_gives _ _ _ _ _ _ _ _ _ _ (Make c.args.ty) (λ s entity. entity ≡ next_entity s c.args.ty) _ _ c.begin.ensures.base over.follows.1 c.end.ensures.base c.in_default.ensures.begins.0 c.end.ensures.read (λ s e _. over.gives tt s tt e) c.end.ensures.ends w s agrees stands tt
