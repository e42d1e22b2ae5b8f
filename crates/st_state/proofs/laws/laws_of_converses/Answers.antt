use Rattle.st_state.proofs.Turned.{converse-ascends, converse-permutation, turned-converse}
use Rattle.st_state.proofs.laws.laws_of_converses.Goals as goal

pub returns-clause-in_order : goal.returns-clause-in_order
returns-clause-in_order c = λ attribute ts h. converse-ascends attribute ts h

pub returns-clause-all : goal.returns-clause-all
returns-clause-all c = λ attribute ts h. converse-permutation attribute ts h

pub returns-clause-entities : goal.returns-clause-entities
returns-clause-entities c = λ attribute ts h v. turned-converse attribute ts h v
