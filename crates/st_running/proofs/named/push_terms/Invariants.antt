use Rattle.std.proofs.Common.{◌≡◌, ◌++◌, take}
use Rattle.std.specs.Option.{option_copied}
use Rattle.st_running.specs.Named.{terms_name}
use Rattle.st_running.proofs.named.push_terms.Given as goal

abbrev pub invariant-loop-term : goal.invariant-loop-term
invariant-loop-term l = l.into.items ≡ l.initial.into.items ++ terms_name l.schema l.variables (option_copied l.subject) (take l.term-index l.terms)
