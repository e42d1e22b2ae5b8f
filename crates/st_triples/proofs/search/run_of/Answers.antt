use Rattle.std.proofs.Common.{List, sym, subst}
use Rattle.std.specs.List.Sorted.{IsPartitionedBy}
use Rattle.std.proofs.lemmas.List.{take_rest}
use Rattle.st_state.specs.declared.triple.Triple.{Triple}
use Rattle.st_state.specs.State.{is_at}
use Rattle.st_triples.specs.Parts.{IsPlace}
use Rattle.st_triples.proofs.Runs.{at-parted, at-run}
use Rattle.st_triples.proofs.search.run_of.Goals as goal

pub count_at-count-requires : goal.count_at-count-requires
count_at-count-requires c =
    let P : List Triple → Type 0 = IsPartitionedBy (is_at c.args.attribute c.args.entity) in
    subst P (sym (take_rest c.args.triples.now c.place_of-from.result)) (at-parted c.args.attribute c.args.entity c.args.triples.now c.requires c.place_of-from.result c.place_of-from.ensures)

pub returns-clause-run : goal.returns-clause-run
returns-clause-run c =
    let P : List Triple → Type 0 = λ z. IsPlace (is_at c.args.attribute c.args.entity) z c.count_at-count.result in
    at-run c.args.attribute c.args.entity c.args.triples.now c.requires c.place_of-from.result c.place_of-from.ensures c.count_at-count.result
    (subst P (take_rest c.args.triples.now c.place_of-from.result) c.count_at-count.ensures)
