use Rattle.std.proofs.Common.{◌≡◌, ◌<◌, length, ap, ◌∙◌, arith}
use Rattle.st_triples.specs.declared.column.Column.{Column}
use Rattle.st_triples.specs.Steps.{bare, rolled_back}
use Rattle.st_triples.proofs.Steps.{column-is, halfway-more}
use Rattle.st_triples.proofs.whole.roll_back.Goals as goal

pub loop-place-preserved : goal.loop-place-preserved
loop-place-preserved c =
    let ys = c.loop-place.columns.items in
    let old : Column = c.index_mut.result.now in
    let new : Column = record { attribute = old.attribute; cells = c.roll_back.new.self } in
    let lt : c.loop-place.place < length ys = omega (arith, c.loop-place.columns.ok.0, c.loop-place.invariant.long, c.loop-place-test.true) in
    let step = λ (x : Column) (e : bare old ≡ bare x).
    column-is new (rolled_back x) (ap (λ z. z.attribute) e) (c.roll_back.ensures.items ∙ ap (λ z. z.cells.mark) e) (c.roll_back.ensures.mark ∙ ap (λ z. z.cells.mark) e) in
    record {
      long = c.loop-place.invariant.long;
      changed = halfway-more rolled_back c.args.columns.now.items ys c.loop-place.place lt c.loop-place.invariant.changed old new c.index_mut.ensures.value step;
    }
