use Rattle.std.proofs.Common.{◌≡◌, ◌-◌, length}
use Rattle.std.specs.List.{range_with_len}
use Rattle.st_schema.specs.Meaning.{first_of, wide_at}
use Rattle.st_schema.proofs.check.widths.check_widths.Given as goal

abbrev pub invariant-loop-ty : goal.invariant-loop-ty
invariant-loop-ty l = first_of (wide_at l.schema) (range_with_len l.ty (length l.schema.names - l.ty)) ≡ first_of (wide_at l.schema) (range_with_len 0 (length l.schema.names))
