use Rattle.std.proofs.Common.{◌≡◌, drop, map}
use Rattle.st_state.specs.Refusals.{first_of}
use Rattle.st_meaning.specs.Rules.{too_long}
use Rattle.st_makes.specs.Makes.{rule_of}
use Rattle.st_makes.proofs.refused.first_too_long.Given as goal

-- none so far refuses
abbrev pub invariant-loop-filling : goal.invariant-loop-filling
invariant-loop-filling l =
    first_of (map (λ f. too_long f.attribute.kind f.value) (map rule_of (drop l.filling-index l.fillings)))
    ≡ first_of (map (λ f. too_long f.attribute.kind f.value) (map rule_of l.fillings))
