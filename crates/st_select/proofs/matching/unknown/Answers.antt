use Rattle.std.proofs.Common.{arith}
use Rattle.st_select.proofs.Known.{unknown-up-to}
use Rattle.st_select.proofs.matching.unknown.Goals as goal

pub returns : goal.returns
returns c = λ s. unknown-up-to s c.args.entities.now c.loop-entity.entity-index c.loop-entity.known (omega arith) c.loop-entity.invariant
