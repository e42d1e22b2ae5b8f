use Rattle.st_state.proofs.Made.{made-nearly, empty-legal}
use Rattle.st_meaning.proofs.Whole.{statement-kept, runs-legal}
use Rattle.st_meaning.proofs.laws.laws_of_states.Goals as goal

pub returns-clause-empty : goal.returns-clause-empty
returns-clause-empty c = empty-legal

pub returns-clause-made : goal.returns-clause-made
returns-clause-made c = λ s ty n there. made-nearly s ty n there

pub returns-clause-statement : goal.returns-clause-statement
returns-clause-statement c = statement-kept

pub returns-clause-run : goal.returns-clause-run
returns-clause-run c = runs-legal
