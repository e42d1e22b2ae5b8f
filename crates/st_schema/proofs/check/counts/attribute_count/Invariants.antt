use Rattle.std.proofs.Common.{◌≡◌, ◌+◌, drop}
use Rattle.st_schema.specs.Checks.{counted, attribute_count}
use Rattle.st_schema.proofs.check.counts.attribute_count.Given as goal

abbrev pub invariant-loop-ty : goal.invariant-loop-ty
invariant-loop-ty l = record {
  left : counted (l.count + attribute_count (drop l.ty-index l.types)) ≡ counted (attribute_count l.types);
  fits : counted l.count ≡ l.count;
}
