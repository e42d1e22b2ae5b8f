use Rattle.std.proofs.Common.{◌≡◌}
use Rattle.st_state.specs.State.{has_value}
use Rattle.st_state.specs.Calls.{Take}
use Rattle.st_late.proofs.OverLists.{write_gives}
use Rattle.st_late.proofs.late.LateBase.take.Goals as goal

pub returns-clause-gives : goal.returns-clause-gives
returns-clause-gives c =
    let over = c.take-answer.ensures in
    write_gives _ _ _ _ _ _ _ _ _ _ (Take c.args.entity c.args.attribute c.args.value.now) (λ s changed. changed ≡ has_value s c.args.attribute c.args.entity c.args.value.now) _ _ c.begin.ensures.base over.follows.1 c.end.ensures.base c.in_default.ensures.begins.0 c.end.ensures.read (λ s e admits. over.gives tt s tt e admits) c.end.ensures.ends
