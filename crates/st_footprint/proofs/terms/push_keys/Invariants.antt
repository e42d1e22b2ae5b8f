use Rattle.std.proofs.Common.{◌≡◌, ◌++◌, map, take}
use Rattle.st_footprint.specs.Terms.{targets}
use Rattle.st_footprint.proofs.terms.push_keys.Given as goal

abbrev pub invariant-loop-key : goal.invariant-loop-key
invariant-loop-key l = targets l.into.items ≡ targets l.initial.into.items ++ map (λ key. key.term) (take l.key-index l.keys)
