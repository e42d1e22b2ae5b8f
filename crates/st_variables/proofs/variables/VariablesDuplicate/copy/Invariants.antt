use Rattle.std.proofs.Common.{◌≡◌, take}
use Rattle.st_variables.proofs.variables.VariablesDuplicate.copy.Given as goal

abbrev pub invariant-loop-variable : goal.invariant-loop-variable
invariant-loop-variable l = l.items.items ≡ take l.variable-index l.variable-items
