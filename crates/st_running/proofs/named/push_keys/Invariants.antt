use Rattle.std.proofs.Common.{◌≡◌, ◌++◌, map, take}
use Rattle.std.specs.Option.{option_copied}
use Rattle.st_running.specs.Named.{terms_name}
use Rattle.st_running.proofs.named.push_keys.Given as goal

abbrev pub invariant-loop-key : goal.invariant-loop-key
invariant-loop-key l = l.into.items ≡ l.initial.into.items ++ terms_name l.schema l.variables (option_copied l.subject) (map (λ key. key.term) (take l.key-index l.keys))
