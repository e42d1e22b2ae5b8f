use Rattle.std.proofs.Common.{◌≡◌, map, take}
use Rattle.std.specs.Prelude.{All}
use Rattle.st_select.specs.Search.{order_key_of, IsOrderKeyOf}
use Rattle.st_select.proofs.search.order_keys_of.Given as goal

abbrev pub invariant-loop-key : goal.invariant-loop-key
invariant-loop-key l = (l.looked ≡ map (order_key_of l.schema l.variables l.var) (take l.key-index l.keys)) × All (IsOrderKeyOf l.schema) l.looked
