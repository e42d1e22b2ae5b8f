use Rattle.std.proofs.Common.{◌≡◌, map, take}
use Rattle.st_triples.proofs.search.copies_of_values.Given as goal

abbrev pub invariant-loop-triple : goal.invariant-loop-triple
invariant-loop-triple l = l.values ≡ map (λ t. t.value) (take l.triple-index l.triples)
