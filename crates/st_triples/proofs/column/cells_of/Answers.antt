use Rattle.std.proofs.Common.{List, sym, ap, subst, ◌∙◌}
use Rattle.st_state.specs.declared.triple.Triple.{Triple}
use Rattle.st_triples.specs.Columns.{triples_of, IsPart}
use Rattle.st_triples.proofs.Flat.{column-part, gap-part}
use Rattle.st_triples.proofs.column.cells_of.Goals as goal

pub returns-in-Ok : goal.returns-in-Ok
returns-in-Ok c =
    let P : List Triple → Type 0 = λ z. IsPart c.args.attribute z (triples_of c.args.columns.now) in
    subst P (ap (λ x. x.cells.items) c.index-columns-place.is ∙ sym c.as_slice.ensures)
    (column-part c.args.attribute c.args.columns.now c.requires c.in-Ok.place c.in-Ok.ensures.there c.index-columns-place.result c.index-columns-place.is)

pub returns-in-Err : goal.returns-in-Err
returns-in-Err c = gap-part c.args.attribute c.args.columns.now c.requires c.in-Err.field-0 c.in-Err.ensures.absent
