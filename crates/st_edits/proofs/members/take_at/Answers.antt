use Rattle.st_database.proofs.Frames.{StoreLaws}
use Rattle.st_index.proofs.Called.{PageLaws}
use Rattle.st_standing.proofs.RowLaws.{RowLaws}
use Rattle.st_edits.proofs.Membering.{takes-fault, takes-none, takes-out, takes-stopped}
use Rattle.st_edits.proofs.StoresPut.{puts-asked}
use Rattle.std.proofs.Common.{◌*◌}
use Rattle.st_values.specs.declared.value.Value.TheVariants.{Null}
use Rattle.st_database.specs.Touches.{pairs_added}
use Rattle.st_edits.proofs.members.take_at.Given as given
use Rattle.st_edits.proofs.members.take_at.Goals as goal

stores : (g : given.Over) → StoreLaws g.S.Store.holds g.S.Store.reach
stores g = record {
  basic = record { one = g.met.S.Store.one; has_first = g.met.S.Store.has_first; reached = g.met.S.Store.reached; bear = g.met.S.Store.bear; depends = g.met.S.Store.depends };
  once = g.met.S.Store.once;
  any_serial = g.met.S.Store.any_serial;
  extent_first = g.met.S.Store.extent_first;
}

laws : (g : given.Over) → PageLaws g.P.Pages.attempt g.P.Pages.follows g.P.Pages.asked
laws g = record {
  is_sound = g.met.P.Pages.is_sound;
  seen_stays = g.met.P.Pages.seen_stays;
  drawn_stays = g.met.P.Pages.drawn_stays;
  drawn_unwritten = g.met.P.Pages.drawn_unwritten;
  follows_on = g.met.P.Pages.follows_on;
  asked_more = g.met.P.Pages.asked_more;
  asked_on = g.met.P.Pages.asked_on;
  asked_tells = g.met.P.Pages.asked_tells;
}

pub returns-in-Ok-clause-kinds : goal.returns-in-Ok-clause-kinds
returns-in-Ok-clause-kinds g c = λ puts.
    puts-asked g.P.Pages.attempt g.P.Pages.follows g.P.Pages.asked (laws g) c.drop_pair.new.pages c.note_pair.new.pages c.note_pair.ensures.follows (17 * pairs_added c.args.number c.args.places.now c.args.value.now Null) c.note_pair.ensures.kinds
    (puts-asked g.P.Pages.attempt g.P.Pages.follows g.P.Pages.asked (laws g) c.args.pages.now c.drop_pair.new.pages c.drop_pair.ensures.follows 0 c.drop_pair.ensures.kinds puts)

pub returns-in-Ok-clause-takes : goal.returns-in-Ok-clause-takes
returns-in-Ok-clause-takes g c =
    let row_laws : RowLaws = record {
      key_width = c.laws_of_keys.ensures.width;
      key_order = c.laws_of_keys.ensures.order;
      width = c.laws_of_rows.ensures.width;
      pair_width = c.laws_of_rows.ensures.pair_width;
      pairs = c.laws_of_rows.ensures.pairs;
      serials = c.laws_of_rows.ensures.serials;
    } in
    takes-out g.P.Pages.attempt g.P.Pages.follows g.P.Pages.asked (laws g) g.S.Store.holds g.S.Store.reach (stores g) row_laws c.args.schema.now c.args.places.now c.requires.of c.args.number c.ranges.number.fits c.args.attribute.now c.requires.there
    c.args.place c.requires.set c.requires.at c.args.entity c.requires.entity c.args.value.now c.requires.fits c.laws_of_order.ensures c.laws_of_places.ensures.in_rows
    c.args.pages.now c.drop_pair.new.pages c.note_pair.new.pages c.drop_pair.ensures.follows c.note_pair.ensures.follows c.in-Ok-true.field-0 c.in-Ok-true.field-0-test c.in-Ok-true.ensures.leads c.in-Ok.field-0 c.in-Ok.ensures.leads

pub returns-in-Err-note_pair-clause-kinds : goal.returns-in-Err-note_pair-clause-kinds
returns-in-Err-note_pair-clause-kinds g c = λ puts.
    puts-asked g.P.Pages.attempt g.P.Pages.follows g.P.Pages.asked (laws g) c.drop_pair.new.pages c.note_pair.new.pages c.note_pair.ensures.follows (17 * pairs_added c.args.number c.args.places.now c.args.value.now Null) c.note_pair.ensures.kinds
    (puts-asked g.P.Pages.attempt g.P.Pages.follows g.P.Pages.asked (laws g) c.args.pages.now c.drop_pair.new.pages c.drop_pair.ensures.follows 0 c.drop_pair.ensures.kinds puts)

pub returns-in-Err-note_pair-clause-takes : goal.returns-in-Err-note_pair-clause-takes
returns-in-Err-note_pair-clause-takes g c =
    let row_laws : RowLaws = record {
      key_width = c.laws_of_keys.ensures.width;
      key_order = c.laws_of_keys.ensures.order;
      width = c.laws_of_rows.ensures.width;
      pair_width = c.laws_of_rows.ensures.pair_width;
      pairs = c.laws_of_rows.ensures.pairs;
      serials = c.laws_of_rows.ensures.serials;
    } in
    takes-stopped g.P.Pages.attempt g.P.Pages.follows g.P.Pages.asked (laws g) g.S.Store.holds g.S.Store.reach (stores g) row_laws c.args.schema.now c.args.places.now c.requires.of c.args.number c.ranges.number.fits c.args.attribute.now c.requires.there
    c.args.place c.requires.set c.requires.at c.args.entity c.requires.entity c.args.value.now c.requires.fits c.laws_of_order.ensures c.laws_of_places.ensures.in_rows
    c.args.pages.now c.drop_pair.new.pages c.note_pair.new.pages c.drop_pair.ensures.follows c.note_pair.ensures.follows c.in-Ok-true.field-0 c.in-Ok-true.field-0-test c.in-Ok-true.ensures.leads c.in-Err-note_pair.fault c.in-Err-note_pair.ensures.leads

pub returns-in-Ok-false-clause-kinds : goal.returns-in-Ok-false-clause-kinds
returns-in-Ok-false-clause-kinds g c =
    puts-asked g.P.Pages.attempt g.P.Pages.follows g.P.Pages.asked (laws g) c.args.pages.now c.drop_pair.new.pages c.drop_pair.ensures.follows 0 c.drop_pair.ensures.kinds

pub returns-in-Ok-false-clause-takes : goal.returns-in-Ok-false-clause-takes
returns-in-Ok-false-clause-takes g c =
    let row_laws : RowLaws = record {
      key_width = c.laws_of_keys.ensures.width;
      key_order = c.laws_of_keys.ensures.order;
      width = c.laws_of_rows.ensures.width;
      pair_width = c.laws_of_rows.ensures.pair_width;
      pairs = c.laws_of_rows.ensures.pairs;
      serials = c.laws_of_rows.ensures.serials;
    } in
    takes-none g.P.Pages.attempt g.P.Pages.follows g.P.Pages.asked (laws g) g.S.Store.holds g.S.Store.reach (stores g) row_laws c.args.schema.now c.args.places.now c.requires.of c.args.number c.ranges.number.fits c.args.attribute.now c.requires.there
    c.args.place c.requires.set c.requires.at c.args.entity c.requires.entity c.args.value.now c.requires.fits c.laws_of_order.ensures c.laws_of_places.ensures.in_rows
    c.args.pages.now c.drop_pair.new.pages c.in-Ok-false.field-0 c.in-Ok-false.field-0-test c.in-Ok-false.ensures.leads

pub returns-in-Err-clause-kinds : goal.returns-in-Err-clause-kinds
returns-in-Err-clause-kinds g c =
    puts-asked g.P.Pages.attempt g.P.Pages.follows g.P.Pages.asked (laws g) c.args.pages.now c.drop_pair.new.pages c.drop_pair.ensures.follows 0 c.drop_pair.ensures.kinds

pub returns-in-Err-clause-takes : goal.returns-in-Err-clause-takes
returns-in-Err-clause-takes g c =
    let row_laws : RowLaws = record {
      key_width = c.laws_of_keys.ensures.width;
      key_order = c.laws_of_keys.ensures.order;
      width = c.laws_of_rows.ensures.width;
      pair_width = c.laws_of_rows.ensures.pair_width;
      pairs = c.laws_of_rows.ensures.pairs;
      serials = c.laws_of_rows.ensures.serials;
    } in
    takes-fault g.P.Pages.attempt g.P.Pages.follows g.P.Pages.asked (laws g) g.S.Store.holds g.S.Store.reach (stores g) row_laws c.args.schema.now c.args.places.now c.requires.of c.args.number c.ranges.number.fits c.args.attribute.now c.requires.there
    c.args.place c.requires.set c.requires.at c.args.entity c.requires.entity c.args.value.now c.requires.fits c.laws_of_order.ensures c.laws_of_places.ensures.in_rows
    c.args.pages.now c.drop_pair.new.pages c.in-Err.fault c.in-Err.ensures.leads
