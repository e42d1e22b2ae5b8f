use Rattle.std.proofs.Common.{◌≡◌, ◌<◌, ◌≤◌, length, refl, sym, ap, ◌∙◌, arith}
use Rattle.std.specs.Prelude.{filter}
use Rattle.st_state.specs.State.{speaks_of}
use Rattle.st_triples.specs.declared.column.Column.{Column}
use Rattle.st_triples.proofs.Steps.{column-is, bare-set, roomy-is, roomy-more}
use Rattle.st_triples.proofs.whole.make_room.Goals as goal

pub returns-in_err-make_room-clause-same : goal.returns-in_err-make_room-clause-same
returns-in_err-make_room-clause-same c =
    let ys = c.loop-place.columns.items in
    let entity = c.args.entity in
    let old : Column = c.index_mut.result.now in
    let new : Column = record { attribute = old.attribute; cells = c.make_room.new.self } in
    let lt : c.loop-place.place < length ys = omega (arith, c.loop-place.columns.ok.0, c.loop-place.invariant.long, c.loop-place-test.true) in
    let same = bare-set ys c.loop-place.place old new lt c.index_mut.ensures.value (column-is new old refl c.make_room.ensures.items c.make_room.ensures.mark) ∙ c.loop-place.invariant.same in
    same

pub loop-place-preserved : goal.loop-place-preserved
loop-place-preserved c =
    let ys = c.loop-place.columns.items in
    let entity = c.args.entity in
    let old : Column = c.index_mut.result.now in
    let new : Column = record { attribute = old.attribute; cells = c.make_room.new.self } in
    let lt : c.loop-place.place < length ys = omega (arith, c.loop-place.columns.ok.0, c.loop-place.invariant.long, c.loop-place-test.true) in
    let same = bare-set ys c.loop-place.place old new lt c.index_mut.ensures.value (column-is new old refl c.make_room.ensures.items c.make_room.ensures.mark) ∙ c.loop-place.invariant.same in
    let counted : c.count_of-count.result ≡ length (filter (speaks_of entity) new.cells.items) =
    c.count_of-count.ensures ∙ ap (λ z. length (filter (speaks_of entity) z)) (c.as_slice.ensures ∙ sym c.make_room.ensures.items) in
    let enough : length (filter (speaks_of entity) new.cells.items) ≤ new.cells.room = omega (arith, counted, c.in_ok-make_room.ensures.ok) in
    record {
      long = c.loop-place.invariant.long;
      same = same;
      room = roomy-more entity ys c.loop-place.place lt new c.loop-place.invariant.room (roomy-is entity new enough);
    }
