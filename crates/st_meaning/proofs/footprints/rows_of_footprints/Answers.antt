use Rattle.std.proofs.Common.{refl}
use Rattle.st_query.specs.Ways.{way}
use Rattle.st_query.specs.Footprint.{footprint}
use Rattle.st_meaning.proofs.footprints.rows_of_footprints.Goals as goal

pub returns-clause-make : goal.returns-clause-make
unfolding footprint way
returns-clause-make c = refl

pub returns-clause-inverse_path : goal.returns-clause-inverse_path
unfolding footprint way
returns-clause-inverse_path c = refl

pub returns-clause-delete : goal.returns-clause-delete
unfolding footprint way
returns-clause-delete c = refl

pub returns-clause-set : goal.returns-clause-set
unfolding footprint way
returns-clause-set c = refl

pub returns-clause-find : goal.returns-clause-find
unfolding footprint way
returns-clause-find c = refl

pub returns-clause-for_each : goal.returns-clause-for_each
unfolding footprint way
returns-clause-for_each c = refl
