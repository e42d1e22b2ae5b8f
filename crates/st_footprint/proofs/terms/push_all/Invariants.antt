use Rattle.std.proofs.Common.{◌≡◌, ◌++◌, take}
use Rattle.st_footprint.specs.Terms.{targets}
use Rattle.st_footprint.proofs.terms.push_all.Given as goal

abbrev pub invariant-loop-term : goal.invariant-loop-term
invariant-loop-term l = targets l.into.items ≡ targets l.initial.into.items ++ take l.term-index l.terms
