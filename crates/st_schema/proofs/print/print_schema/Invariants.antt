use Rattle.std.proofs.Common.{◌≡◌, ◌++◌, ◌-◌}
use Rattle.std.specs.Prelude.{flat_map}
use Rattle.std.specs.List.{range_with_len}
use Rattle.st_schema.specs.Canonical.{type_line, canonical}
use Rattle.st_schema.proofs.print.print_schema.Given as goal

-- what was written, and what is left to write
abbrev pub invariant-loop-ty : goal.invariant-loop-ty
invariant-loop-ty l =
    l.text ++ flat_map (type_line l.schema) (range_with_len l.ty (l.ty-end - l.ty)) ≡ canonical l.schema
