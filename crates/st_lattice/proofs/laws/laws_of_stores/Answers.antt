use Rattle.st_lattice.proofs.Rising.{stores_ascend}
use Rattle.st_lattice.proofs.laws.laws_of_stores.Goals as goal

pub returns : goal.returns
returns c = stores_ascend
