use Rattle.std.proofs.Common.{sym, subst}
use Rattle.std.specs.Prelude.{not, IsTrue}
use Rattle.st_values.specs.Order.{entity_before, same_entity}
use Rattle.st_values.proofs.Tests.{ascends-filter}
use Rattle.st_plain.specs.Lists.{in_order}
use Rattle.st_plain.proofs.entities.take_entity.Goals as goal

pub returns-clause-order : goal.returns-clause-order
returns-clause-order c =
    subst (λ ys. IsTrue (in_order ys)) (sym c.take.ensures.items)
    (ascends-filter (λ a b. not (entity_before b a)) (λ other. not (same_entity other c.args.entity)) c.args.entities.now.items c.requires.order)
