use Rattle.std.proofs.Common.{◌≡◌, ◌<◌, length, sym, ap, ◌∙◌, arith}
use Rattle.std.proofs.lemmas.List.{get_or_default}
use Rattle.st_state.specs.State.{is_at}
use Rattle.st_triples.proofs.Runs.{find-at, find-other, find-end}
use Rattle.st_triples.proofs.search.first_at.Goals as goal

pub returns-then-place-triples : goal.returns-then-place-triples
returns-then-place-triples c = sym (find-end c.args.attribute c.args.entity c.args.triples.now c.requires c.place_of-place.result c.place_of-place.ensures (omega arith))

pub returns-then-is_at : goal.returns-then-is_at
returns-then-is_at c =
    let within = c.place_of-place.ensures.within in
    let xs = c.args.triples.now in
    let place = c.place_of-place.result in
    let one = c.index-triples-place.result in
    let two = c.index-triples-place-then-is_at.result in
    let lt : place < length xs = omega arith in
    let same : two ≡ one = c.index-triples-place-then-is_at.is ∙ get_or_default xs place two one lt ∙ sym c.index-triples-place.is in
    sym (find-at c.args.attribute c.args.entity xs c.requires place c.place_of-place.ensures two lt c.index-triples-place-then-is_at.is
    (ap (is_at c.args.attribute c.args.entity) same ∙ sym c.if-is_at.ensures))

pub returns-else-is_at : goal.returns-else-is_at
returns-else-is_at c =
    let within = c.place_of-place.ensures.within in
    sym (find-other c.args.attribute c.args.entity c.args.triples.now c.requires c.place_of-place.result c.place_of-place.ensures
    c.index-triples-place.result (omega arith) c.index-triples-place.is (sym c.if-is_at.ensures))
