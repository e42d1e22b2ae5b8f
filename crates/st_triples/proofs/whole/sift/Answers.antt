use Rattle.std.proofs.Common.{◌≡◌, ◌<◌, length, refl, ap, ◌∙◌, arith, not}
use Rattle.std.specs.Prelude.{filter}
use Rattle.st_state.specs.State.{speaks_of}
use Rattle.st_triples.specs.declared.column.Column.{Column}
use Rattle.st_triples.specs.Steps.{bare, rid_of}
use Rattle.st_triples.proofs.Steps.{column-is, halfway-more, roomy-rest}
use Rattle.st_triples.proofs.whole.sift.Goals as goal

pub loop-place-preserved : goal.loop-place-preserved
loop-place-preserved c =
    let ys = c.loop-place.columns.items in
    let entity = c.args.entity in
    let old : Column = c.index_mut.result.now in
    let new : Column = record { attribute = old.attribute; cells = c.sift.new.self } in
    let lt : c.loop-place.place < length ys = omega (arith, c.loop-place.columns.ok.0, c.loop-place.invariant.long, c.loop-place-test.true) in
    let step = λ (x : Column) (e : bare old ≡ bare x).
    column-is new (rid_of entity x) (ap (λ z. z.attribute) e) (c.sift.ensures.items ∙ ap (λ z. filter (λ t. not (speaks_of entity t)) z.cells.items) e) (c.sift.ensures.mark ∙ ap (λ z. z.cells.mark) e) in
    record {
      long = c.loop-place.invariant.long;
      changed = halfway-more (rid_of entity) c.args.columns.now.items ys c.loop-place.place lt c.loop-place.invariant.changed old new c.index_mut.ensures.value step;
      room = roomy-rest entity ys c.loop-place.place lt new c.loop-place.invariant.room;
      sieve = refl;
    }
