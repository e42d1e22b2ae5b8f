use Rattle.std.proofs.Common.{◌≡◌, [], take, drop}
use Rattle.st_schema.specs.Meaning.{clash_after}
use Rattle.st_schema.proofs.check.features.check_clashes.Given as goal

abbrev pub invariant-loop-feature : goal.invariant-loop-feature
invariant-loop-feature l = record {
  counted : l.index ≡ l.feature-index;
  left : clash_after (take l.feature-index l.features) (drop l.feature-index l.features) ≡ clash_after [] l.features;
}
