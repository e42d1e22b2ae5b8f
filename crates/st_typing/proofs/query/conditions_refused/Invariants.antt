use Rattle.std.proofs.Common.{◌≡◌, drop, map}
use Rattle.st_state.specs.Refusals.{first_of}
use Rattle.st_meaning.specs.Checks.{condition_refused}
use Rattle.st_typing.specs.Scope.{names_of}
use Rattle.st_typing.proofs.query.conditions_refused.Given as goal

-- none so far is refused
abbrev pub invariant-loop-condition : goal.invariant-loop-condition
invariant-loop-condition l =
    first_of (map (condition_refused l.schema (names_of l.scope)) (drop l.condition-index l.conditions)) ≡ first_of (map (condition_refused l.schema (names_of l.scope)) l.conditions)
