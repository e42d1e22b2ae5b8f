use Rattle.st_meaning.proofs.Ends.{runs-old, runs-at, runs-all}
use Rattle.st_meaning.proofs.laws.laws_of_runs.Goals as goal

pub returns-clause-refused : goal.returns-clause-refused
returns-clause-refused c = runs-old

pub returns-clause-refused_at : goal.returns-clause-refused_at
returns-clause-refused_at c = runs-at

pub returns-clause-committed : goal.returns-clause-committed
returns-clause-committed c = runs-all
