use Rattle.st_database.proofs.Chained.{has-ascends}
use Rattle.st_database.proofs.order.laws_of_order.Goals as goal

pub returns : goal.returns
returns c = λ array schema places has. has-ascends array schema places (λ readable. c.laws_of_stores.ensures schema (c.laws_of_schemas.ensures.orderly readable.0 schema readable.1)) has
