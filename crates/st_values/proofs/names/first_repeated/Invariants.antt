use Rattle.std.proofs.Common.{◌≡◌, take, drop, []}
use Rattle.st_values.specs.Names.{first_repeated}
use Rattle.st_values.proofs.names.first_repeated.Given as goal

-- the names from here on have the first one that is repeated
abbrev pub invariant-loop-index : goal.invariant-loop-index
invariant-loop-index l = first_repeated (take l.index l.names) (drop l.index l.names) ≡ first_repeated [] l.names
