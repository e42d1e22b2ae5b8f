use Rattle.std.proofs.Common.{◌≡◌, ◌+◌, ◌++◌, length, drop}
use Rattle.st_schema.specs.Checks.{attribute_count}
use Rattle.st_schema.specs.Resolved.{all_attributes}
use Rattle.st_schema.proofs.resolve.all_attributes.Given as goal

abbrev pub invariant-loop-ty : goal.invariant-loop-ty
invariant-loop-ty l = record {
  counted : l.owner ≡ l.ty-index;
  count : length l.attributes + attribute_count (drop l.ty-index l.types) ≡ attribute_count l.types;
  told : l.attributes ++ all_attributes l.names (length l.attributes) l.owner (drop l.ty-index l.types) ≡ all_attributes l.names 0 0 l.types;
}
