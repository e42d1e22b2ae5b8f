use Rattle.std.proofs.Common.{◌≡◌, ◌-◌, length}
use Rattle.std.specs.List.{range_with_len}
use Rattle.st_schema.specs.Meaning.{first_of, ambiguous_at}
use Rattle.st_schema.proofs.check.features.check_ambiguities.Given as goal

abbrev pub invariant-loop-ty : goal.invariant-loop-ty
invariant-loop-ty l = first_of (ambiguous_at l.schema l.features) (range_with_len l.ty (length l.schema.names - l.ty)) ≡ first_of (ambiguous_at l.schema l.features) (range_with_len 0 (length l.schema.names))
