use Rattle.std.proofs.Common.{◌≡◌, drop, take, []}
use Rattle.st_schema.specs.Checks.{parent_fault}
use Rattle.st_schema.proofs.check.names.check_parents_of.Given as goal

abbrev pub invariant-loop-parent : goal.invariant-loop-parent
invariant-loop-parent l = record {
  counted : l.index ≡ l.parent-index;
  left : parent_fault l.earlier (take l.parent-index l.parents) (drop l.parent-index l.parents) ≡ parent_fault l.earlier [] l.parents;
}
