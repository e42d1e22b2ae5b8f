use Rattle.st_keys.proofs.KeyLaws.{key-width, key-order, key-round_trip}
use Rattle.st_keys.proofs.laws.laws_of_keys.Goals as goal

pub returns-clause-width : goal.returns-clause-width
returns-clause-width c = key-width

pub returns-clause-round_trip : goal.returns-clause-round_trip
returns-clause-round_trip c = key-round_trip

pub returns-clause-order : goal.returns-clause-order
returns-clause-order c = key-order
