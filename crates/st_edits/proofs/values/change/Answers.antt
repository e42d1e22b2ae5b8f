use Rattle.std.proofs.Common.{◌≡◌, ℕ, true, List, Some, sym, subst}
use Rattle.std.specs.Prelude.{IfSome, IsSome}
use Rattle.std.specs.Int.{w32, to_be_bytes}
use Rattle.st_values.specs.declared.value.Value.{Value}
use Rattle.st_lattice.specs.Lattice.{isa}
use Rattle.st_lattice.specs.Outline.{Outline, attribute}
use Rattle.st_pages.specs.Attempt.{over}
use Rattle.st_pages.specs.Places.{place_of}
use Rattle.st_database.specs.Database.{IsDatabase}
use Rattle.st_database.specs.Touches.{OfDatabase}
use Rattle.st_database.proofs.Frames.{StoreLaws}
use Rattle.st_index.proofs.Called.{PageLaws}
use Rattle.st_standing.specs.Standing.{view_of}
use Rattle.st_standing.proofs.RowLaws.{RowLaws}
use Rattle.st_lookups.specs.Looks.{OfState}
use Rattle.st_edits.specs.Values.{IsReplaced, IsToBeSet}
use Rattle.st_edits.proofs.Altering.{change-alters, has-cell, memory-alters}
use Rattle.st_edits.proofs.StoresPut.{puts-asked}
use Rattle.st_edits.proofs.Putting.{on-ok}
use Rattle.st_edits.proofs.Setting.{like-or-null}
use Rattle.st_edits.proofs.values.change.Given as given
use Rattle.st_edits.proofs.values.change.Goals as goal

stores : (g : given.Over) → StoreLaws g.S.Store.holds g.S.Store.reach
stores g = record {
  basic = record { one = g.met.S.Store.one; has_first = g.met.S.Store.has_first; reached = g.met.S.Store.reached; bear = g.met.S.Store.bear; depends = g.met.S.Store.depends };
  once = g.met.S.Store.once;
  any_serial = g.met.S.Store.any_serial;
  extent_first = g.met.S.Store.extent_first;
}

laws : (g : given.Over) → PageLaws g.P.Pages.attempt g.P.Pages.follows g.P.Pages.asked
laws g = record {
  is_sound = g.met.P.Pages.is_sound;
  seen_stays = g.met.P.Pages.seen_stays;
  drawn_stays = g.met.P.Pages.drawn_stays;
  drawn_unwritten = g.met.P.Pages.drawn_unwritten;
  follows_on = g.met.P.Pages.follows_on;
  asked_more = g.met.P.Pages.asked_more;
  asked_on = g.met.P.Pages.asked_on;
  asked_tells = g.met.P.Pages.asked_tells;
}

pub returns-in-Ok-Some-clause-alters : goal.returns-in-Ok-Some-clause-alters
returns-in-Ok-Some-clause-alters g c =
    let row_laws : RowLaws = record {
      key_width = c.laws_of_keys.ensures.width;
      key_order = c.laws_of_keys.ensures.order;
      width = c.laws_of_rows.ensures.width;
      pair_width = c.laws_of_rows.ensures.pair_width;
      pairs = c.laws_of_rows.ensures.pairs;
      serials = c.laws_of_rows.ensures.serials;
    } in
    let A = g.P.Pages.attempt c.args.pages.now in
    let schema = c.args.schema.now in
    let places = c.args.places.now in
    λ array s agrees same stands at to_be cells_are free.
    let d = subst (λ (o : Outline). IsDatabase g.S.Store.holds (over A array) o places (view_of s)) same stands.database in
    change-alters g.P.Pages.attempt g.P.Pages.follows g.P.Pages.asked (laws g) g.S.Store.holds g.S.Store.reach (stores g) c.args.pages.now c.put_cells.new.pages array row_laws s places stands
    (c.laws_of_order.ensures (over A array) s.schema places stands.database.has) (c.laws_of_places.ensures.in_rows (over A array) s.schema places stands.database.has) c.args.place c.args.entity c.requires.extent.store_is c.args.attribute.now c.args.value.now to_be
    c.args.cells cells_are free c.as_slice.result.now c.in-Ok-Some.old c.put_cells.result schema same c.requires.numbered (subst (λ (l : List Value). IsReplaced schema c.args.entity.ty c.args.attribute.now c.args.cells c.args.value.now l c.in-Ok-Some.old) (sym c.as_slice.ensures) (subst (λ o. IfSome o (λ pair. IsReplaced schema c.args.entity.ty c.args.attribute.now c.args.cells c.args.value.now pair.0 pair.1)) c.in-Ok-Some.field-0-is c.in-Ok-Some.ensures.is)) (c.put_cells.ensures.leads array (view_of s) agrees d at)

pub returns-in-Ok-Some-clause-put : goal.returns-in-Ok-Some-clause-put
returns-in-Ok-Some-clause-put g c =
    let A = g.P.Pages.attempt c.args.pages.now in
    let B = g.P.Pages.attempt c.put_cells.new.pages in
    let place = c.args.place in
    let schema = c.args.schema.now in
    let places = c.args.places.now in
    let key = to_be_bytes w32 c.args.entity.serial in
    on-ok (OfDatabase g.S.Store.holds A B schema places (λ array view. place_of place.store places ≡ Some place → (page : ℕ) × g.S.Store.spot place (over A array) key page × IsSome (B.written page)))
    (OfState g.S.Store.holds A B schema places (λ array s. place_of place.store places ≡ Some place → IsToBeSet s c.args.entity c.args.attribute.now c.args.value.now → (page : ℕ) × g.S.Store.spot place (over A array) key page × IsSome (B.written page)))
    c.put_cells.result
    (λ h array s agrees same stands at to_be. h array (view_of s) agrees (subst (λ (o : Outline). IsDatabase g.S.Store.holds (over A array) o places (view_of s)) same stands.database) at) c.put_cells.ensures.put

pub returns-in-Ok-None-clause-alters : goal.returns-in-Ok-None-clause-alters
returns-in-Ok-None-clause-alters g c = λ array s agrees same stands at to_be cells_are free.
    let a = c.args.attribute.now in
    let found = subst (λ (o : Outline). attribute o a.number ≡ Some a) (sym same) c.requires.numbered in
    let cell = has-cell s c.args.entity a c.args.value.now (c.laws_of_places.ensures.in_rows (over (g.P.Pages.attempt c.args.pages.now) array) s.schema c.args.places.now stands.database.has) found to_be in
    absurd (c.in-Ok-None.ensures.none c.in-Ok-None.field-0-is cell (subst (λ (o : Outline). isa o c.args.entity.ty a.owner ≡ true) same to_be.owner) (like-or-null s stands.program a.number a found c.args.value.now to_be.fits))

pub returns-in-Ok-None-clause-put : goal.returns-in-Ok-None-clause-put
returns-in-Ok-None-clause-put g c = λ array s agrees same stands at to_be.
    let a = c.args.attribute.now in
    let found = subst (λ (o : Outline). attribute o a.number ≡ Some a) (sym same) c.requires.numbered in
    let cell = has-cell s c.args.entity a c.args.value.now (c.laws_of_places.ensures.in_rows (over (g.P.Pages.attempt c.args.pages.now) array) s.schema c.args.places.now stands.database.has) found to_be in
    absurd (c.in-Ok-None.ensures.none c.in-Ok-None.field-0-is cell (subst (λ (o : Outline). isa o c.args.entity.ty a.owner ≡ true) same to_be.owner) (like-or-null s stands.program a.number a found c.args.value.now to_be.fits))

pub returns-in-Err-clause-alters : goal.returns-in-Err-clause-alters
returns-in-Err-clause-alters g c = λ array s agrees same stands at to_be cells_are free.
    memory-alters g.P.Pages.attempt g.P.Pages.follows g.P.Pages.asked (laws g) g.S.Store.holds g.S.Store.reach (stores g) g.met.P.Pages.asked_nothing c.args.pages.now array c.args.places.now s _

pub returns-in-Ok-Some-clause-kinds : goal.returns-in-Ok-Some-clause-kinds
returns-in-Ok-Some-clause-kinds g c = puts-asked g.P.Pages.attempt g.P.Pages.follows g.P.Pages.asked (laws g) c.args.pages.now c.put_cells.new.pages c.put_cells.ensures.follows _ c.put_cells.ensures.kinds
