use Rattle.std.specs.Prelude.{⊤}
use Rattle.st_state.specs.Calls.{Set}
use Rattle.st_late.proofs.OverLists.{write_gives}
use Rattle.st_late.proofs.late.LateBase.set.Goals as goal

pub returns-clause-gives : goal.returns-clause-gives
returns-clause-gives c =
    let over = c.set-answer.ensures in
    write_gives _ _ _ _ _ _ _ _ _ _ (Set c.args.entity c.args.attribute c.args.value.now) (λ _ _. ⊤) _ _ c.begin.ensures.base over.follows.1 c.end.ensures.base c.in_default.ensures.begins.0 c.end.ensures.read (λ s e admits. over.gives tt s tt e admits) c.end.ensures.ends
