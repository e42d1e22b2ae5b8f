use Rattle.std.proofs.Common.{◌≡◌, ◌++◌, length}
use Rattle.st_reader.specs.Split.{schema_part, script_part}
use Rattle.st_reader.proofs.apart.split.Given as goal

abbrev pub invariant-loop-form : goal.invariant-loop-form
invariant-loop-form l = record {
  schema : l.schema ++ schema_part l.ahead ≡ schema_part l.fn.forms;
  script : script_part l.ahead ≡ script_part l.fn.forms;
}

abbrev pub decreases-loop-form : goal.decreases-loop-form
decreases-loop-form l = length l.ahead
