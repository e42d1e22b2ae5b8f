use Rattle.st_counts.proofs.Entities.{made-added, made-changed}
use Rattle.st_counts.proofs.laws.laws_of_made.Goals as goal

pub returns-clause-added : goal.returns-clause-added
returns-clause-added c = λ s ty n low there. made-added s ty n low there

pub returns-clause-changed : goal.returns-clause-changed
returns-clause-changed c = λ s ty n low there. made-changed s ty n low there
