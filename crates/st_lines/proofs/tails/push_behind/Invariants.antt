use Rattle.std.proofs.Common.{◌≡◌, ◌∷◌, ◌++◌, take}
use Rattle.std.specs.Prelude.{flat_map}
use Rattle.st_values.specs.Print.{printed}
use Rattle.st_lines.proofs.tails.push_behind.Given as goal

abbrev pub invariant-loop-value : goal.invariant-loop-value
invariant-loop-value l = l.into ≡ l.initial.into ++ flat_map (λ value. 32 ∷ printed l.names value) (take l.value-index l.values)
