use Rattle.std.proofs.Common.{◌≡◌, drop}
use Rattle.st_schema.specs.Checks.{unknown_in}
use Rattle.st_schema.proofs.check.kinds.check_types_in.Given as goal

abbrev pub invariant-loop-attribute : goal.invariant-loop-attribute
invariant-loop-attribute l = unknown_in l.names (drop l.attribute-index l.attributes) ≡ unknown_in l.names l.attributes
