use Rattle.std.proofs.Common.{◌≡◌, ◌<◌, length, ap, ◌∙◌, arith}
use Rattle.st_triples.specs.declared.column.Column.{Column}
use Rattle.st_triples.specs.Steps.{bare, marked}
use Rattle.st_triples.proofs.Steps.{column-is, halfway-more}
use Rattle.st_triples.proofs.whole.set_mark.Goals as goal

pub loop-place-preserved : goal.loop-place-preserved
loop-place-preserved c =
    let ys = c.loop-place.columns.items in
    let old : Column = c.index_mut.result.now in
    let new : Column = record { attribute = old.attribute; cells = c.set_mark.new.self } in
    let lt : c.loop-place.place < length ys = omega (arith, c.loop-place.columns.ok.0, c.loop-place.invariant.long, c.loop-place-test.true) in
    let step = λ (x : Column) (e : bare old ≡ bare x).
    column-is new (marked x) (ap (λ z. z.attribute) e) (c.set_mark.ensures.items ∙ ap (λ z. z.cells.items) e) (c.set_mark.ensures.mark ∙ ap (λ z. z.cells.items) e) in
    record {
      long = c.loop-place.invariant.long;
      changed = halfway-more marked c.args.columns.now.items ys c.loop-place.place lt c.loop-place.invariant.changed old new c.index_mut.ensures.value step;
    }
