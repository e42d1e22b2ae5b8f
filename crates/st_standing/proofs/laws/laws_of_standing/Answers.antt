use Rattle.st_standing.proofs.OneState.{one-state}
use Rattle.st_standing.proofs.laws.laws_of_standing.Goals as goal

pub returns : goal.returns
returns g c = one-state g.S.Store.holds c.laws_of_rows.ensures.one_spelling c.laws_of_catalogs.ensures.one g.met.S.Store.one
