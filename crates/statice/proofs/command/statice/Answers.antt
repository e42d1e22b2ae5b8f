use Rattle.statice.proofs.command.statice.Goals as goal

pub returns-clause-tries : goal.returns-clause-tries
returns-clause-tries g c = λ is. (c.try_input.result, c.status.ensures, c.try_input.ensures)
