use Rattle.std.proofs.Common.{◌≡◌, ◌++◌, flat_map, drop}
use Rattle.st_schema_bytes.specs.SchemaBytes.{attribute_bytes}
use Rattle.st_schema_bytes.proofs.encode.push_attributes.Given as goal

-- what was added, and what those that are left add, is what all add
abbrev pub invariant-loop-attribute : goal.invariant-loop-attribute
invariant-loop-attribute l =
    l.bytes.items ++ flat_map attribute_bytes (drop l.attribute-index l.attributes) ≡ l.fn.bytes.items ++ flat_map attribute_bytes l.attributes
