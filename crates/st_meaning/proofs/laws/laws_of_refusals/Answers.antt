use Rattle.st_meaning.proofs.Alone.{own_numbers, refusal-first}
use Rattle.st_meaning.proofs.Spent.{spent-named}
use Rattle.st_meaning.proofs.laws.laws_of_refusals.Goals as goal

pub returns-clause-own_numbers : goal.returns-clause-own_numbers
returns-clause-own_numbers c = own_numbers

pub returns-clause-first : goal.returns-clause-first
returns-clause-first c = refusal-first

pub returns-clause-spent : goal.returns-clause-spent
returns-clause-spent c = spent-named
