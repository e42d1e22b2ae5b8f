use Rattle.std.proofs.Common.{◌≡◌, subst}
use Rattle.std.specs.Prelude.{OnOk}
use Rattle.st_values.specs.Print.{printed}
use Rattle.st_lines.proofs.Joined.{joined_behind}
use Rattle.st_lines.proofs.tails.push_values.Goals as goal

pub returns-in_ok-push_value-in-len1-up : goal.returns-in_ok-push_value-in-len1-up
returns-in_ok-push_value-in-len1-up c =
    let whole = joined_behind (printed c.args.names.now) c.args.values.now c.first-item.result c.args.into.now c.push_value.new.into c.in-len1-up.len_at_least c.first-item.is c.in_ok-push_value-in-len1-up.ensures.ok in
    subst (λ text. OnOk c.push_behind.result (c.push_behind.new.into ≡ text)) whole c.push_behind.ensures
