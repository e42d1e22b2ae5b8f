use Rattle.std.specs.Prelude.{IsTrue}
use Rattle.st_values.specs.Order.{entity_before}
use Rattle.st_values.proofs.Entities.{entity_before-strict}
use Rattle.st_state.specs.State.{with_entity}
use Rattle.st_plain.specs.Lists.{in_order}
use Rattle.st_plain.proofs.Ordered.{after-placed, changed-or-kept}
use Rattle.st_plain.proofs.entities.put_entity.Goals as goal

pub returns-clause-order : goal.returns-clause-order
returns-clause-order c =
    let xs = c.args.entities.now.items in
    let e = c.args.entity in
    changed-or-kept (λ ys. IsTrue (in_order ys)) c.put.result xs c.put.new.entities.items (with_entity e xs) c.put.ensures.ok c.put.ensures.err (after-placed entity_before entity_before-strict e xs c.requires) c.requires
