use Rattle.std.proofs.Common.{◌≡◌, ◌==◌, ◌&&◌, map, take}
use Rattle.std.specs.Prelude.{filter}
use Rattle.st_values.specs.Order.{same_value}
use Rattle.st_triples.proofs.search.turned.Given as goal

abbrev pub invariant-loop-triple : goal.invariant-loop-triple
invariant-loop-triple l = l.entities ≡ map (λ t. t.entity) (filter (λ t. (t.attribute == l.attribute) && same_value t.value l.value) (take l.triple-index l.triples))
