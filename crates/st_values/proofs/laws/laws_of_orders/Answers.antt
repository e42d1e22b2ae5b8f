use Rattle.st_values.proofs.Exact.{exact_entities, exact_values}
use Rattle.st_values.proofs.Total.{entity_order_total, value_order_total}
use Rattle.st_values.proofs.laws.laws_of_orders.Goals as goal

pub returns-clause-values : goal.returns-clause-values
returns-clause-values c = value_order_total

pub returns-clause-entities : goal.returns-clause-entities
returns-clause-entities c = entity_order_total

pub returns-clause-exact_values : goal.returns-clause-exact_values
returns-clause-exact_values c = exact_values

pub returns-clause-exact_entities : goal.returns-clause-exact_entities
returns-clause-exact_entities c = exact_entities
