use Rattle.std.proofs.Common.{◌≡◌, ◌++◌, drop, map}
use Rattle.st_lattice.specs.Outline.{type_name}
use Rattle.st_schema.proofs.Printing.{from_here}
use Rattle.st_schema.proofs.print.push_type_names.Given as goal

-- what was written, and what is left to write
abbrev pub invariant-loop-ty : goal.invariant-loop-ty
invariant-loop-ty l =
    l.into ++ from_here l.later (map (type_name l.schema) (drop l.ty-index l.types)) ≡ l.initial.into ++ from_here l.initial.later (map (type_name l.schema) l.types)
