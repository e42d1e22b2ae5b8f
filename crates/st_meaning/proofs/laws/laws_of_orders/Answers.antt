use Rattle.st_meaning.proofs.Written.{selected-permutation, selected-ascends, selected-unique, written_total, written_exact}
use Rattle.st_meaning.proofs.laws.laws_of_orders.Goals as goal

pub returns-clause-all : goal.returns-clause-all
returns-clause-all c = selected-permutation

pub returns-clause-ordered : goal.returns-clause-ordered
returns-clause-ordered c = selected-ascends

pub returns-clause-one_way : goal.returns-clause-one_way
returns-clause-one_way c = selected-unique

pub returns-clause-total : goal.returns-clause-total
returns-clause-total c = written_total

pub returns-clause-exact : goal.returns-clause-exact
returns-clause-exact c = written_exact
