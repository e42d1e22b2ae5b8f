use Rattle.std.proofs.Common.{◌≡◌, drop}
use Rattle.st_schema.specs.Checks.{choices_in}
use Rattle.st_schema.proofs.check.options.check_choices_in.Given as goal

abbrev pub invariant-loop-attribute : goal.invariant-loop-attribute
invariant-loop-attribute l = choices_in (drop l.attribute-index l.attributes) ≡ choices_in l.attributes
