use Rattle.std.proofs.lemmas.Result.{on_ok_weaker}
use Rattle.st_schema.proofs.Printing.{attribute_parts}
use Rattle.st_schema.proofs.print.push_parts.Goals as goal

pub returns : goal.returns
returns c = on_ok_weaker c.push_options.result (λ e. attribute_parts _ _ _ _ _ _ c.in_ok-push_name_and_type.ensures e) c.push_options.ensures
