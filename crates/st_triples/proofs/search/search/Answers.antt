use Rattle.std.proofs.Common.{sym, arith}
use Rattle.st_triples.specs.Marked.{triple_of}
use Rattle.st_triples.proofs.Runs.{same-one, same-other, same-end}
use Rattle.st_triples.proofs.search.search.Goals as goal

pub returns-then-place-triples-clause-absent : goal.returns-then-place-triples-clause-absent
returns-then-place-triples-clause-absent c =
    same-end (triple_of c.args.attribute c.args.entity c.args.value.now) c.args.triples.now c.requires c.place_of-place.result c.place_of-place.ensures (omega arith)

pub returns-then-is_triple-clause-there : goal.returns-then-is_triple-clause-there
returns-then-is_triple-clause-there c =
    let within = c.place_of-place.ensures.within in
    same-one (triple_of c.args.attribute c.args.entity c.args.value.now) c.args.triples.now c.requires c.place_of-place.result c.place_of-place.ensures
    c.index-triples-place.result (omega arith) c.index-triples-place.is (sym c.if-is_triple.ensures)

pub returns-else-is_triple-clause-absent : goal.returns-else-is_triple-clause-absent
returns-else-is_triple-clause-absent c =
    let within = c.place_of-place.ensures.within in
    same-other (triple_of c.args.attribute c.args.entity c.args.value.now) c.args.triples.now c.requires c.place_of-place.result c.place_of-place.ensures
    c.index-triples-place.result (omega arith) c.index-triples-place.is (sym c.if-is_triple.ensures)
