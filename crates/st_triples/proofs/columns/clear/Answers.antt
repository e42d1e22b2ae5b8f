use Rattle.std.proofs.Common.{List, [], sym, subst, ◌∙◌}
use Rattle.st_triples.specs.declared.column.Column.{Column}
use Rattle.st_triples.specs.Columns.{triples_of, IsGapAt}
use Rattle.st_triples.proofs.OnePart.{clear-part}
use Rattle.st_triples.proofs.Flat.{gap-part}
use Rattle.st_triples.proofs.columns.clear.Goals as goal

pub returns-in-Err-clause-ok : goal.returns-in-Err-clause-ok
returns-in-Err-clause-ok c =
    let G : List Column → Type 0 = λ z. IsGapAt c.args.attribute z c.in-Err.field-0 in
    let cs = c.args.columns.now.items in
    let w = gap-part c.args.attribute cs c.requires c.in-Err.field-0 (subst G c.deref.ensures.value c.in-Err.ensures.absent) in
    w.whole ∙ sym (clear-part c.args.attribute [] (triples_of cs) w c.args.entity)
