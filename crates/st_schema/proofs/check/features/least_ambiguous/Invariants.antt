use Rattle.std.proofs.Common.{◌≡◌, None, drop}
use Rattle.std.specs.Option.{option_copied}
use Rattle.st_schema.specs.Meaning.{least_ambiguous}
use Rattle.st_schema.proofs.check.features.least_ambiguous.Given as goal

abbrev pub invariant-loop-feature : goal.invariant-loop-feature
invariant-loop-feature l = least_ambiguous l.schema l.ty l.features (option_copied l.least) (drop l.feature-index l.features) ≡ least_ambiguous l.schema l.ty l.features None l.features
