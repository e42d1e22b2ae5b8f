use Rattle.std.proofs.Common.{ℕ, ◌≡◌, ◌*◌, [], ◌∷◌, true, OnOk, subst}
use Rattle.std.specs.Prelude.{IsSome, is_some}
use Rattle.st_pages.specs.declared.places.Place.{Place}
use Rattle.st_pages.specs.Attempt.{over}
use Rattle.st_store.specs.Rows.{row_with, with_row}
use Rattle.st_store.specs.Stores.{Inserted}
use Rattle.st_index.proofs.Called.{PageLaws}
use Rattle.st_database.specs.Database.{with_rows}
use Rattle.st_database.specs.Touches.{Leads, WithStore, added_by, changed_by}
use Rattle.st_database.proofs.Frames.{StoreLaws}
use Rattle.st_database.proofs.Calling.{leads-inserted, put-in}
use Rattle.st_database.proofs.calls.insert_row.Given as given
use Rattle.st_database.proofs.calls.insert_row.Goals as goal

stores : (g : given.Over) → StoreLaws g.S.Store.holds g.S.Store.reach
stores g = record {
  basic = record { one = g.met.S.Store.one; has_first = g.met.S.Store.has_first; reached = g.met.S.Store.reached; bear = g.met.S.Store.bear; depends = g.met.S.Store.depends };
  once = g.met.S.Store.once;
  any_serial = g.met.S.Store.any_serial;
  extent_first = g.met.S.Store.extent_first;
}

laws : (g : given.Over) → PageLaws g.P.Pages.attempt g.P.Pages.follows g.P.Pages.asked
laws g = record {
  is_sound = g.met.P.Pages.is_sound;
  seen_stays = g.met.P.Pages.seen_stays;
  drawn_stays = g.met.P.Pages.drawn_stays;
  drawn_unwritten = g.met.P.Pages.drawn_unwritten;
  follows_on = g.met.P.Pages.follows_on;
  asked_more = g.met.P.Pages.asked_more;
  asked_on = g.met.P.Pages.asked_on;
  asked_tells = g.met.P.Pages.asked_tells;
}

pub returns-clause-leads : goal.returns-clause-leads
returns-clause-leads g c =
    let A = g.P.Pages.attempt c.args.pages.now in
    let B = g.P.Pages.attempt c.insert.new.pages in
    let loc = g.S.Store.location c.at-store.result in
    subst (λ (p : Place). WithStore g.S.Store.holds A B p (λ array schema places view.
    Leads g.S.Store.holds (g.P.Pages.asked c.args.pages.now c.insert.new.pages) A B array schema places (with_rows p.store (with_row p.key c.args.row.now (view.rows p.store)) view)
    (λ was. was ≡ is_some (row_with p.key c.args.row.now (view.rows p.store))) (p.store ∷ []) true (17 * added_by p.key c.args.row.now (view.rows p.store)) (34 * changed_by p.key c.args.row.now (view.rows p.store)) c.insert.result)) c.at-store.ensures
    (leads-inserted g.P.Pages.attempt g.P.Pages.follows g.P.Pages.asked (laws g) c.args.pages.now c.insert.new.pages g.S.Store.holds g.S.Store.reach (stores g) loc c.laws_of_order.ensures g.S.Store.spot
    g.S.Store.bad g.met.S.Store.never_bad c.args.row.now c.insert.result c.insert.ensures.few c.insert.ensures.numbers c.insert.ensures.bad c.insert.ensures.asked c.insert.ensures.there c.insert.ensures.same c.insert.ensures.inserted)

pub returns-clause-put : goal.returns-clause-put
returns-clause-put g c =
    let A = g.P.Pages.attempt c.args.pages.now in
    let B = g.P.Pages.attempt c.insert.new.pages in
    let loc = g.S.Store.location c.at-store.result in
    subst (λ (p : Place). OnOk c.insert.result (WithStore g.S.Store.holds A B p (λ array schema places view. (page : ℕ) × g.S.Store.spot p (over A array) c.args.row.now page × IsSome (B.written page)))) c.at-store.ensures
    (put-in g.P.Pages.attempt g.P.Pages.follows g.P.Pages.asked (laws g) c.args.pages.now c.insert.new.pages g.S.Store.holds g.S.Store.reach (stores g) loc g.S.Store.spot c.args.row.now
    (λ was before after reached rows. Inserted g.S.Store.holds g.S.Store.spot (g.P.Pages.asked c.args.pages.now c.insert.new.pages) g.S.Store.reach loc A B before after reached c.args.row.now rows was)
    (λ was before after reached rows x. (x.page, x.stood, x.put)) c.insert.result c.insert.ensures.inserted)
