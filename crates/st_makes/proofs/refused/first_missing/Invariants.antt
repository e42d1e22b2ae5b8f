use Rattle.std.proofs.Common.{◌≡◌, drop, map}
use Rattle.st_state.specs.Refusals.{first_of}
use Rattle.st_meaning.specs.Rules.{missing}
use Rattle.st_makes.specs.Makes.{rule_of}
use Rattle.st_makes.proofs.refused.first_missing.Given as goal

-- none so far refuses
abbrev pub invariant-loop-filling : goal.invariant-loop-filling
invariant-loop-filling l = first_of (map (missing l.schema) (map rule_of (drop l.filling-index l.fillings))) ≡ first_of (map (missing l.schema) (map rule_of l.fillings))
