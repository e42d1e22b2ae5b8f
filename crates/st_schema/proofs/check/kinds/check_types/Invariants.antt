use Rattle.std.proofs.Common.{◌≡◌, drop}
use Rattle.st_schema.specs.Checks.{unknown_type}
use Rattle.st_schema.proofs.check.kinds.check_types.Given as goal

abbrev pub invariant-loop-ty : goal.invariant-loop-ty
invariant-loop-ty l = unknown_type l.names (drop l.ty-index l.types) ≡ unknown_type l.names l.types
