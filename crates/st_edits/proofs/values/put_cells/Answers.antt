use Rattle.std.proofs.Common.{◌≡◌, ℕ, ◌+◌, ◌*◌, Some, arith, if◌then◌else◌}
use Rattle.std.specs.Prelude.{IsSome}
use Rattle.std.specs.Int.{w32, to_be_bytes}
use Rattle.st_values.specs.Order.{same_value}
use Rattle.st_lattice.specs.Outline.{attribute}
use Rattle.st_pages.specs.Attempt.{over}
use Rattle.st_pages.specs.Places.{place_of}
use Rattle.st_pages.proofs.Carried.{Stays}
use Rattle.st_index.specs.Turned.{turned_places}
use Rattle.st_index.proofs.Called.{PageLaws, earlier, kinds-then}
use Rattle.st_database.specs.Database.{noted_view}
use Rattle.st_database.specs.Touches.{OfDatabase, added_by, changed_by, pairs_added, pairs_changed, stores_at}
use Rattle.st_edits.specs.Values.{its_row, put_view}
use Rattle.st_edits.proofs.Putting.{all-ok, leads-both, leads-first}
use Rattle.st_edits.proofs.values.put_cells.Given as given
use Rattle.st_edits.proofs.values.put_cells.Goals as goal

laws : (g : given.Over) → PageLaws g.P.Pages.attempt g.P.Pages.follows g.P.Pages.asked
laws g = record {
  is_sound = g.met.P.Pages.is_sound;
  seen_stays = g.met.P.Pages.seen_stays;
  drawn_stays = g.met.P.Pages.drawn_stays;
  drawn_unwritten = g.met.P.Pages.drawn_unwritten;
  follows_on = g.met.P.Pages.follows_on;
  asked_more = g.met.P.Pages.asked_more;
  asked_on = g.met.P.Pages.asked_on;
  asked_tells = g.met.P.Pages.asked_tells;
}

pub returns-in-Ok-clause-kinds : goal.returns-in-Ok-clause-kinds
returns-in-Ok-clause-kinds g c =
    kinds-then g.P.Pages.attempt g.P.Pages.follows g.P.Pages.asked (laws g) c.args.pages.now c.put_row.new.pages c.note_pair.new.pages c.put_row.ensures.follows c.note_pair.ensures.follows
    17 (17 * pairs_added c.args.number c.args.places.now c.args.old.now c.args.new.now) (17 + 17 * pairs_added c.args.number c.args.places.now c.args.old.now c.args.new.now) (omega arith)
    c.put_row.ensures.kinds c.note_pair.ensures.kinds

pub returns-in-Ok-clause-leads : goal.returns-in-Ok-clause-leads
returns-in-Ok-clause-leads g c =
    let schema = c.args.schema.now in
    let e = c.args.entity in
    let n = c.args.number in
    let old = c.args.old.now in
    let new = c.args.new.now in
    let row = its_row schema e c.args.cells.now in
    let store = c.args.place.store in
    leads-both g.P.Pages.attempt g.P.Pages.follows g.P.Pages.asked (laws g) g.S.Store.holds c.args.pages.now c.put_row.new.pages c.note_pair.new.pages c.put_row.ensures.follows schema c.args.places.now c.args.place c.note_pair.ensures.follows
    (λ view a. if same_value old new then view else noted_view n a.kind e old new view) (put_view schema store e c.args.cells.now) (stores_at (turned_places n c.args.places.now))
    (λ view. added_by 4 row (view.rows store)) (λ view. changed_by 4 row (view.rows store)) (pairs_added n c.args.places.now old new) (pairs_changed n c.args.places.now old new)
    (attribute schema n) c.in-Ok.field-0 c.note_pair.result c.in-Ok.ensures.leads c.note_pair.ensures.leads

pub returns-in-Ok-clause-put : goal.returns-in-Ok-clause-put
returns-in-Ok-clause-put g c =
    let A = g.P.Pages.attempt c.args.pages.now in
    let B = g.P.Pages.attempt c.put_row.new.pages in
    let C = g.P.Pages.attempt c.note_pair.new.pages in
    let place = c.args.place in
    let stays : Stays B C = g.met.P.Pages.seen_stays c.put_row.new.pages c.note_pair.new.pages c.note_pair.ensures.follows in
    all-ok (OfDatabase g.S.Store.holds A C c.args.schema.now c.args.places.now (λ array view. place_of place.store c.args.places.now ≡ Some place →
    (page : ℕ) × g.S.Store.spot place (over A array) (to_be_bytes w32 c.args.entity.serial) page × IsSome (C.written page))) c.note_pair.result
    (λ array view agrees d at.
    let x = c.in-Ok.ensures.put array c.args.schema.now c.args.places.now view (earlier B C array stays agrees) d at in
    (x.0, x.1, g.met.P.Pages.written_stays c.put_row.new.pages c.note_pair.new.pages c.note_pair.ensures.follows x.0 x.2))

pub returns-in-Err-clause-leads : goal.returns-in-Err-clause-leads
returns-in-Err-clause-leads g c =
    let schema = c.args.schema.now in
    let e = c.args.entity in
    let n = c.args.number in
    let old = c.args.old.now in
    let new = c.args.new.now in
    let row = its_row schema e c.args.cells.now in
    let store = c.args.place.store in
    leads-first g.P.Pages.attempt g.P.Pages.follows g.P.Pages.asked (laws g) g.S.Store.holds c.args.pages.now c.put_row.new.pages c.put_row.new.pages c.put_row.ensures.follows schema c.args.places.now c.args.place
    (λ view a. if same_value old new then view else noted_view n a.kind e old new view) (put_view schema store e c.args.cells.now) (stores_at (turned_places n c.args.places.now))
    (λ view. added_by 4 row (view.rows store)) (λ view. changed_by 4 row (view.rows store)) (pairs_added n c.args.places.now old new) (pairs_changed n c.args.places.now old new)
    (attribute schema n) c.in-Err.fault c.in-Err.ensures.leads
