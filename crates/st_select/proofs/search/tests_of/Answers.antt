use Rattle.std.proofs.lemmas.List.Elements.{All-push}
use Rattle.std.proofs.Common.{subst, sym}
use Rattle.std.specs.Prelude.{All}
use Rattle.st_select.specs.Search.{test_of, IsTestOf}
use Rattle.st_select.proofs.Steps.{mapped-more}
use Rattle.st_select.proofs.search.tests_of.Goals as goal

pub loop-condition-preserved : goal.loop-condition-preserved
loop-condition-preserved c = (
  mapped-more (test_of c.args.schema.now c.args.variables.now c.args.var.now) c.args.conditions.now c.loop-condition.condition-index c.condition-item.result c.in_ok-test_of.field-0 c.loop-condition.tests c.push.new.self
      c.loop-condition-test.true c.condition-item.is c.in_ok-push.ensures.ok c.loop-condition.invariant.0 c.in_ok-test_of.ensures.value,
  subst (All (IsTestOf c.args.schema.now)) (sym c.in_ok-push.ensures.ok) (All-push (IsTestOf c.args.schema.now) c.loop-condition.tests c.in_ok-test_of.field-0 c.loop-condition.invariant.1 c.in_ok-test_of.ensures.there),
)
