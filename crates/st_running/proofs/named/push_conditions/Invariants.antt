use Rattle.std.proofs.Common.{◌≡◌, ◌++◌, take}
use Rattle.std.specs.Prelude.{flat_map}
use Rattle.std.specs.Option.{option_copied}
use Rattle.st_query.specs.Written.{condition_terms}
use Rattle.st_running.specs.Named.{terms_name}
use Rattle.st_running.proofs.named.push_conditions.Given as goal

abbrev pub invariant-loop-condition : goal.invariant-loop-condition
invariant-loop-condition l = l.into.items ≡ l.initial.into.items ++ terms_name l.schema l.variables (option_copied l.subject) (flat_map condition_terms (take l.condition-index l.conditions))
