use Rattle.std.proofs.Common.{◌≡◌, map, take}
use Rattle.std.specs.Prelude.{All}
use Rattle.st_select.specs.Search.{test_of, IsTestOf}
use Rattle.st_select.proofs.search.tests_of.Given as goal

abbrev pub invariant-loop-condition : goal.invariant-loop-condition
invariant-loop-condition l = (l.tests ≡ map (test_of l.schema l.variables l.var) (take l.condition-index l.conditions)) × All (IsTestOf l.schema) l.tests
