use Rattle.std.proofs.Common.{sym, ap, ◌∙◌, arith}
use Rattle.st_triples.proofs.Flat.{column-found, gap-found}
use Rattle.st_triples.proofs.column.search.Goals as goal

pub returns-then-columns-place-clause-there : goal.returns-then-columns-place-clause-there
returns-then-columns-place-clause-there c =
    let within = c.place_of-place.ensures.within in
    column-found c.args.attribute c.args.columns.now c.requires c.place_of-place.result c.place_of-place.ensures
    c.index-columns-place.result (omega arith) c.index-columns-place.is (ap (λ x. x.attribute) c.index-columns-place.is ∙ c.if-columns-place.true)

pub returns-else-columns-place-clause-absent : goal.returns-else-columns-place-clause-absent
returns-else-columns-place-clause-absent c =
    let within = c.place_of-place.ensures.within in
    gap-found c.args.attribute c.args.columns.now c.requires c.place_of-place.result c.place_of-place.ensures
    c.index-columns-place.result (omega arith) c.index-columns-place.is (λ e. c.if-columns-place.false (sym (ap (λ x. x.attribute) c.index-columns-place.is) ∙ e))
