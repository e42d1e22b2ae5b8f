use Rattle.std.proofs.Common.{◌≡◌, ◌++◌, take}
use Rattle.std.specs.Prelude.{flat_map}
use Rattle.st_query.specs.Written.{condition_terms}
use Rattle.st_footprint.specs.Terms.{targets}
use Rattle.st_footprint.proofs.terms.push_conditions.Given as goal

abbrev pub invariant-loop-condition : goal.invariant-loop-condition
invariant-loop-condition l = targets l.into.items ≡ targets l.initial.into.items ++ flat_map condition_terms (take l.condition-index l.conditions)
