use Rattle.std.proofs.Common.{◌≡◌, ◌++◌, ◌==◌, drop, map}
use Rattle.std.specs.Prelude.{filter}
use Rattle.st_schema.specs.Canonical.{attribute_text}
use Rattle.st_schema.proofs.Printing.{from_here}
use Rattle.st_schema.proofs.print.push_own_attributes.Given as goal

-- what was written, and what is left to write
abbrev pub invariant-loop-attribute : goal.invariant-loop-attribute
invariant-loop-attribute l =
    l.into ++ from_here l.later (map (attribute_text l.schema) (filter (λ a. a.owner == l.ty) (drop l.attribute-index l.attribute-items)))
    ≡ l.initial.into ++ from_here l.initial.later (map (attribute_text l.schema) (filter (λ a. a.owner == l.ty) l.attribute-items))
