use Rattle.std.proofs.lemmas.Result.{on_ok_weaker}
use Rattle.st_schema.proofs.Printing.{three_parts}
use Rattle.st_schema.proofs.print.push_definition.Goals as goal

pub returns : goal.returns
returns c = on_ok_weaker c.push_str-3.result (λ e. three_parts _ _ _ _ _ _ _ c.in_ok-push_str.ensures.ok c.in_ok-push_str-2.ensures.ok e) c.push_str-3.ensures.ok
