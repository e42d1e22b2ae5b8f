use Rattle.std.proofs.Common.{List, refl, sym, ap, subst, ◌∙◌}
use Rattle.st_triples.specs.declared.column.Column.{Column}
use Rattle.st_triples.specs.Columns.{triples_of, marked_of, AreInOrder, IsColumnAt, IsGapAt}
use Rattle.st_triples.proofs.Flat.{opened-at, opened-in_order, opened-triples, opened-mark}
use Rattle.st_triples.proofs.column.open.Goals as goal

pub returns-in_ok-insert-in-Err-clause-there : goal.returns-in_ok-insert-in-Err-clause-there
returns-in_ok-insert-in-Err-clause-there c =
    let G : List Column → Type 0 = λ z. IsGapAt c.args.attribute z c.in-Err.place in
    let gap = subst G c.deref.ensures.value c.in-Err.ensures.absent in
    let new : Column = record { attribute = c.args.attribute; cells = c.new-cells.result } in
    let P : List Column → Type 0 = λ z. IsColumnAt c.args.attribute z c.in-Err.place in
    subst P (sym c.in_ok-insert-in-Err.ensures.items)
    (opened-at c.args.attribute c.args.columns.now.items c.requires c.in-Err.place gap new refl c.new-cells.ensures.items c.new-cells.ensures.mark)

pub returns-in_ok-insert-in-Err-clause-in_order : goal.returns-in_ok-insert-in-Err-clause-in_order
returns-in_ok-insert-in-Err-clause-in_order c =
    let G : List Column → Type 0 = λ z. IsGapAt c.args.attribute z c.in-Err.place in
    let gap = subst G c.deref.ensures.value c.in-Err.ensures.absent in
    let new : Column = record { attribute = c.args.attribute; cells = c.new-cells.result } in
    let P : List Column → Type 0 = AreInOrder in
    subst P (sym c.in_ok-insert-in-Err.ensures.items)
    (opened-in_order c.args.attribute c.args.columns.now.items c.requires c.in-Err.place gap new refl c.new-cells.ensures.items c.new-cells.ensures.mark)

pub returns-in_ok-insert-in-Err-clause-triples : goal.returns-in_ok-insert-in-Err-clause-triples
returns-in_ok-insert-in-Err-clause-triples c =
    let G : List Column → Type 0 = λ z. IsGapAt c.args.attribute z c.in-Err.place in
    let gap = subst G c.deref.ensures.value c.in-Err.ensures.absent in
    let new : Column = record { attribute = c.args.attribute; cells = c.new-cells.result } in
    ap triples_of c.in_ok-insert-in-Err.ensures.items
    ∙ opened-triples c.args.attribute c.args.columns.now.items c.requires c.in-Err.place gap new refl c.new-cells.ensures.items c.new-cells.ensures.mark

pub returns-in_ok-insert-in-Err-clause-mark : goal.returns-in_ok-insert-in-Err-clause-mark
returns-in_ok-insert-in-Err-clause-mark c =
    let G : List Column → Type 0 = λ z. IsGapAt c.args.attribute z c.in-Err.place in
    let gap = subst G c.deref.ensures.value c.in-Err.ensures.absent in
    let new : Column = record { attribute = c.args.attribute; cells = c.new-cells.result } in
    ap marked_of c.in_ok-insert-in-Err.ensures.items
    ∙ opened-mark c.args.attribute c.args.columns.now.items c.requires c.in-Err.place gap new refl c.new-cells.ensures.items c.new-cells.ensures.mark
