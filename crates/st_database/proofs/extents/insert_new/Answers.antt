use Rattle.std.proofs.Common.{◌<◌, ◌≤◌, ◌||◌, [], ◌∷◌, true, Err, subst, sym, arith}
use Rattle.std.specs.Prelude.{⊤}
use Rattle.st_pages.specs.declared.places.Place.{Place}
use Rattle.st_pages.specs.Reading.{ForEach}
use Rattle.st_store.specs.Rows.{with_row}
use Rattle.st_store.specs.Stores.{ForBoth, Inserted, KeepNumbers, OfStore, changes, drew_between}
use Rattle.st_index.proofs.Called.{PageLaws, kinds-then}
use Rattle.st_database.specs.Database.{with_last, with_rows}
use Rattle.st_database.specs.Touches.{Leads, WithStore}
use Rattle.st_database.proofs.Frames.{StoreLaws}
use Rattle.st_database.proofs.Serials.{leads-new, leads-stopped}
use Rattle.st_database.proofs.extents.insert_new.Given as given
use Rattle.st_database.proofs.extents.insert_new.Goals as goal

stores : (g : given.Over) → StoreLaws g.S.Store.holds g.S.Store.reach
stores g = record {
  basic = record { one = g.met.S.Store.one; has_first = g.met.S.Store.has_first; reached = g.met.S.Store.reached; bear = g.met.S.Store.bear; depends = g.met.S.Store.depends };
  once = g.met.S.Store.once;
  any_serial = g.met.S.Store.any_serial;
  extent_first = g.met.S.Store.extent_first;
}

laws : (g : given.Over) → PageLaws g.P.Pages.attempt g.P.Pages.follows g.P.Pages.asked
laws g = record {
  is_sound = g.met.P.Pages.is_sound;
  seen_stays = g.met.P.Pages.seen_stays;
  drawn_stays = g.met.P.Pages.drawn_stays;
  drawn_unwritten = g.met.P.Pages.drawn_unwritten;
  follows_on = g.met.P.Pages.follows_on;
  asked_more = g.met.P.Pages.asked_more;
  asked_on = g.met.P.Pages.asked_on;
  asked_tells = g.met.P.Pages.asked_tells;
}

pub returns-in-Ok-clause-kinds : goal.returns-in-Ok-clause-kinds
returns-in-Ok-clause-kinds g c =
    kinds-then g.P.Pages.attempt g.P.Pages.follows g.P.Pages.asked (laws g) c.args.pages.now c.insert.new.pages c.set_last_serial.new.pages c.insert.ensures.follows c.set_last_serial.ensures.follows 17 0 17 (omega arith)
    c.insert.ensures.kinds c.set_last_serial.ensures.kinds

pub returns-in-Ok-clause-leads : goal.returns-in-Ok-clause-leads
returns-in-Ok-clause-leads g c =
    let attempt = g.P.Pages.attempt in
    let old = c.args.pages.now in
    let mid = c.insert.new.pages in
    let new = c.set_last_serial.new.pages in
    let place = c.args.place in
    let reach = g.S.Store.reach in
    let holds = g.S.Store.holds in
    let spot = g.S.Store.spot in
    let A = attempt old in
    let B = attempt mid in
    let is = c.at-store.ensures in
    λ array schema places view agrees d at.
    leads-new attempt g.P.Pages.follows g.P.Pages.asked (laws g) holds reach (stores g) place c.requires.extent old mid new c.insert.ensures.follows c.set_last_serial.ensures.follows array schema places view d at
    c.laws_of_order.ensures spot c.args.row.now c.args.serial c.ranges.serial.fits c.in-Ok.field-0 c.set_last_serial.result agrees
    (subst (λ (p : Place). ForEach A B (λ x. g.P.Pages.asked old mid (reach p x) (λ page. reach p x page || drew_between A B page) 17)) is c.insert.ensures.asked)
    (subst (λ (p : Place). ForBoth A B (λ before after. changes p.first before after ≤ 34)) is c.insert.ensures.few)
    (subst (λ (p : Place). ForBoth A B (λ before after. OfStore holds p before (λ _ _. KeepNumbers A B before after))) is c.insert.ensures.numbers)
    (subst (λ (p : Place). ForBoth A B (λ before after. OfStore holds p before (λ reached rows. Inserted holds spot (g.P.Pages.asked old mid) reach p A B before after reached c.args.row.now rows c.in-Ok.field-0))) is c.in-Ok.ensures.inserted)
    c.set_last_serial.ensures.asked c.set_last_serial.ensures.set c.set_last_serial.ensures.kept c.set_last_serial.ensures.bad

pub returns-clause-leads : goal.returns-clause-leads
returns-clause-leads g c =
    let A = g.P.Pages.attempt c.args.pages.now in
    let B = g.P.Pages.attempt c.insert.new.pages in
    let loc = g.S.Store.location c.at-store.result in
    subst (λ (p : Place). WithStore g.S.Store.holds A B p (λ array schema places view.
    Leads g.S.Store.holds (g.P.Pages.asked c.args.pages.now c.insert.new.pages) A B array schema places {A = Unit {0}} (with_last p.store c.args.serial (with_rows p.store (with_row p.key c.args.row.now (view.rows p.store)) view))
    (λ done. ⊤) (p.store ∷ []) true 17 34 (Err c.in-Err.fault))) c.at-store.ensures
    (leads-stopped g.P.Pages.attempt g.P.Pages.follows g.P.Pages.asked (laws g) g.S.Store.holds g.S.Store.reach (stores g) loc (subst (λ (p : Place). p.store < 65536) (sym c.at-store.ensures) c.requires.extent) c.args.pages.now c.insert.new.pages
    (λ view. with_last loc.store c.args.serial (with_rows loc.store (with_row loc.key c.args.row.now (view.rows loc.store)) view)) g.S.Store.bad g.met.S.Store.never_bad c.in-Err.fault
    c.insert.ensures.asked c.insert.ensures.few c.insert.ensures.numbers c.in-Err.ensures.bad)
