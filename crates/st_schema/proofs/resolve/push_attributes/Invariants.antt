use Rattle.std.proofs.Common.{◌≡◌, ◌+◌, ◌++◌, length, drop}
use Rattle.st_schema.specs.Resolved.{attributes_from}
use Rattle.st_schema.proofs.resolve.push_attributes.Given as goal

abbrev pub invariant-loop-form : goal.invariant-loop-form
invariant-loop-form l = record {
  count : length l.into ≡ length l.initial.into + l.form-index;
  told : l.into ++ attributes_from l.names (length l.into) l.owner (drop l.form-index l.forms) ≡ l.initial.into ++ attributes_from l.names (length l.initial.into) l.owner l.forms;
}
