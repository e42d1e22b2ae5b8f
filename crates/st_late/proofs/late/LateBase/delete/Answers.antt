use Rattle.std.specs.Prelude.{⊤}
use Rattle.st_state.specs.Calls.{Delete}
use Rattle.st_late.proofs.OverLists.{write_gives}
use Rattle.st_late.proofs.late.LateBase.delete.Goals as goal

pub returns-clause-gives : goal.returns-clause-gives
returns-clause-gives c =
    let over = c.delete-answer.ensures in
    write_gives _ _ _ _ _ _ _ _ _ _ (Delete c.args.entity) (λ _ _. ⊤) _ _ c.begin.ensures.base over.follows.1 c.end.ensures.base c.in_default.ensures.begins.0 c.end.ensures.read (λ s e admits. over.gives tt s tt e admits) c.end.ensures.ends
