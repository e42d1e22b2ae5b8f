use Rattle.std.proofs.Common.{string_bytes}
use Rattle.std.proofs.lemmas.Map.Text.{btree_set_updates_text}
use Rattle.st_statements.proofs.names.put.Goals as goal

pub returns : goal.returns
returns c = λ other. btree_set_updates_text (string_bytes c.args.name) c.args.names.now c.insert.new.self _ c.in_ok-insert.ensures.updates other
