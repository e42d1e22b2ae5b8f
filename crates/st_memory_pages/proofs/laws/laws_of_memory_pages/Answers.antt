use Rattle.st_memory_pages.specs.Laws.{agrees, in-use, left}
use Rattle.st_memory_pages.proofs.laws.laws_of_memory_pages.Goals as goal

pub returns-clause-agrees : goal.returns-clause-agrees
returns-clause-agrees c = agrees

pub returns-clause-array : goal.returns-clause-array
returns-clause-array c = λ old new stays. stays.array

pub returns-clause-in_use : goal.returns-clause-in_use
returns-clause-in_use c = in-use

pub returns-clause-left : goal.returns-clause-left
returns-clause-left c = left
