use Rattle.std.proofs.Common.{◌≡◌, Some, sym, ◌∙◌, subst}
use Rattle.std.specs.Prelude.{map}
use Rattle.st_lattice.specs.Lattice.{attributes_in}
use Rattle.st_lattice.specs.Outline.{Outline}
use Rattle.st_rows.specs.Rows.{AreHeld, cell_fields}
use Rattle.st_pages.specs.Attempt.{over}
use Rattle.st_pages.proofs.Carried.{Stays}
use Rattle.st_index.proofs.Called.{PageLaws, earlier}
use Rattle.st_database.specs.Database.{IsDatabase}
use Rattle.st_standing.specs.Standing.{view_of}
use Rattle.st_standing.proofs.RowLaws.{RowLaws}
use Rattle.st_edits.proofs.StoresPut.{puts-asked}
use Rattle.st_removals.specs.Taken.{left_of}
use Rattle.st_removals.proofs.Emptying.{clears-memory, empties, empties-not, held-left}
use Rattle.st_removals.proofs.references.empty_row.Given as given
use Rattle.st_removals.proofs.references.empty_row.Goals as goal

laws : (g : given.Over) → PageLaws g.P.Pages.attempt g.P.Pages.follows g.P.Pages.asked
laws g = record {
  is_sound = g.met.P.Pages.is_sound;
  seen_stays = g.met.P.Pages.seen_stays;
  drawn_stays = g.met.P.Pages.drawn_stays;
  drawn_unwritten = g.met.P.Pages.drawn_unwritten;
  follows_on = g.met.P.Pages.follows_on;
  asked_more = g.met.P.Pages.asked_more;
  asked_on = g.met.P.Pages.asked_on;
  asked_tells = g.met.P.Pages.asked_tells;
}

pub put_row-requires-clause-held : goal.put_row-requires-clause-held
put_row-requires-clause-held g c =
    subst (AreHeld (cell_fields c.args.schema.now c.args.other.ty)) (sym (c.as_slice.ensures ∙ c.in-Ok.ensures))
    (held-left (Some c.args.entity) (attributes_in c.args.schema.now c.args.other.ty) c.args.cells.now c.requires.held)

pub returns-in-Ok-put_row-clause-kinds : goal.returns-in-Ok-put_row-clause-kinds
returns-in-Ok-put_row-clause-kinds g c = λ puts.
    c.note_gone.ensures.kinds (puts-asked g.P.Pages.attempt g.P.Pages.follows g.P.Pages.asked (laws g) c.args.pages.now c.put_row.new.pages c.put_row.ensures.follows 17 c.put_row.ensures.kinds puts)

pub returns-in-Ok-put_row-clause-clears : goal.returns-in-Ok-put_row-clause-clears
returns-in-Ok-put_row-clause-clears g c =
    let row_laws : RowLaws = record {
      key_width = c.laws_of_keys.ensures.width;
      key_order = c.laws_of_keys.ensures.order;
      width = c.laws_of_rows.ensures.width;
      pair_width = c.laws_of_rows.ensures.pair_width;
      pairs = c.laws_of_rows.ensures.pairs;
      serials = c.laws_of_rows.ensures.serials;
    } in
    let A = g.P.Pages.attempt c.args.pages.now in
    let B = g.P.Pages.attempt c.put_row.new.pages in
    let C = g.P.Pages.attempt c.note_gone.new.pages in
    let schema = c.args.schema.now in
    let places = c.args.places.now in
    let is_left : c.as_slice.result.now ≡ map (left_of (Some c.args.entity)) c.args.cells.now = c.as_slice.ensures ∙ c.in-Ok.ensures in
    let stays : Stays B C = g.met.P.Pages.seen_stays c.put_row.new.pages c.note_gone.new.pages c.note_gone.ensures.follows in
    λ array s agrees same stands at live living apart cells_are has.
    let d = subst (λ (o : Outline). IsDatabase g.S.Store.holds (over A array) o places (view_of s)) same stands.database in
    empties g.P.Pages.attempt g.P.Pages.follows g.P.Pages.asked (laws g) g.S.Store.holds array places s row_laws (c.laws_of_places.ensures.in_rows (over A array) s.schema places stands.database.has) c.args.place c.args.other c.args.entity
    c.requires.extent.store_is live living apart schema same c.args.cells.now cells_are has c.as_slice.result.now is_left c.args.pages.now stands c.put_row.new.pages c.note_gone.new.pages c.put_row.ensures.follows c.note_gone.ensures.follows
    agrees c.in-Ok-put_row.field-0 c.note_gone.result (c.in-Ok-put_row.ensures.leads array schema places (view_of s) (earlier B C array stays agrees) d at) c.note_gone.ensures.notes

pub returns-in-Ok-clause-clears : goal.returns-in-Ok-clause-clears
returns-in-Ok-clause-clears g c =
    let row_laws : RowLaws = record {
      key_width = c.laws_of_keys.ensures.width;
      key_order = c.laws_of_keys.ensures.order;
      width = c.laws_of_rows.ensures.width;
      pair_width = c.laws_of_rows.ensures.pair_width;
      pairs = c.laws_of_rows.ensures.pairs;
      serials = c.laws_of_rows.ensures.serials;
    } in
    let A = g.P.Pages.attempt c.args.pages.now in
    let schema = c.args.schema.now in
    let places = c.args.places.now in
    let is_left : c.as_slice.result.now ≡ map (left_of (Some c.args.entity)) c.args.cells.now = c.as_slice.ensures ∙ c.in-Ok.ensures in
    λ array s agrees same stands at live living apart cells_are has.
    let d = subst (λ (o : Outline). IsDatabase g.S.Store.holds (over A array) o places (view_of s)) same stands.database in
    empties-not g.P.Pages.attempt g.P.Pages.follows g.P.Pages.asked (laws g) g.S.Store.holds array places s row_laws (c.laws_of_places.ensures.in_rows (over A array) s.schema places stands.database.has) c.args.place c.args.other c.args.entity
    c.requires.extent.store_is live living apart schema same c.args.cells.now cells_are has c.as_slice.result.now is_left c.args.pages.now stands c.put_row.new.pages c.in-Err-put_row.fault
    (c.in-Err-put_row.ensures.leads array schema places (view_of s) agrees d at)

pub returns-clause-clears : goal.returns-clause-clears
returns-clause-clears g c = λ array s agrees same stands at live living apart cells_are has.
    clears-memory g.P.Pages.attempt g.P.Pages.follows g.P.Pages.asked (laws g) g.S.Store.holds array c.args.places.now s g.met.P.Pages.asked_nothing c.args.pages.now c.args.entity _
