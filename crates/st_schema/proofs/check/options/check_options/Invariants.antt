use Rattle.std.proofs.Common.{◌≡◌, drop}
use Rattle.st_schema.specs.Checks.{bad_option}
use Rattle.st_schema.proofs.check.options.check_options.Given as goal

abbrev pub invariant-loop-ty : goal.invariant-loop-ty
invariant-loop-ty l = bad_option (drop l.ty-index l.types) ≡ bad_option l.types
