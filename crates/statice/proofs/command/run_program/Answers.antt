use Rattle.statice.proofs.Taking.{takes_behind}
use Rattle.statice.proofs.command.run_program.Goals as goal

pub returns-in-Err-Memory-clause-prints : goal.returns-in-Err-Memory-clause-prints
returns-in-Err-Memory-clause-prints g c =
    let front = c.in-Err-Memory.ensures.err in
    (front.0, takes_behind _ _ _ _ _ (front.1) c.in-Err-Memory.ensures.never_falls c.tell.ensures.never_falls c.tell.ensures.line)
