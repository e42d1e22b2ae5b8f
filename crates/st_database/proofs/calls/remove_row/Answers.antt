use Rattle.std.proofs.Common.{ℕ, ◌≡◌, ◌*◌, [], ◌∷◌, true, OnOk, subst}
use Rattle.std.specs.Prelude.{IsSome, is_some}
use Rattle.st_pages.specs.declared.places.Place.{Place}
use Rattle.st_pages.specs.Attempt.{over}
use Rattle.st_store.specs.Rows.{row_with, without_row}
use Rattle.st_store.specs.Stores.{Removed}
use Rattle.st_index.proofs.Called.{PageLaws}
use Rattle.st_database.specs.Database.{with_rows}
use Rattle.st_database.specs.Touches.{Leads, WithStore, removed_by}
use Rattle.st_database.proofs.Frames.{StoreLaws}
use Rattle.st_database.proofs.Calling.{leads-removed, put-in}
use Rattle.st_database.proofs.calls.remove_row.Given as given
use Rattle.st_database.proofs.calls.remove_row.Goals as goal

stores : (g : given.Over) → StoreLaws g.S.Store.holds g.S.Store.reach
stores g = record {
  basic = record { one = g.met.S.Store.one; has_first = g.met.S.Store.has_first; reached = g.met.S.Store.reached; bear = g.met.S.Store.bear; depends = g.met.S.Store.depends };
  once = g.met.S.Store.once;
  any_serial = g.met.S.Store.any_serial;
  extent_first = g.met.S.Store.extent_first;
}

laws : (g : given.Over) → PageLaws g.P.Pages.attempt g.P.Pages.follows g.P.Pages.asked
laws g = record {
  is_sound = g.met.P.Pages.is_sound;
  seen_stays = g.met.P.Pages.seen_stays;
  drawn_stays = g.met.P.Pages.drawn_stays;
  drawn_unwritten = g.met.P.Pages.drawn_unwritten;
  follows_on = g.met.P.Pages.follows_on;
  asked_more = g.met.P.Pages.asked_more;
  asked_on = g.met.P.Pages.asked_on;
  asked_tells = g.met.P.Pages.asked_tells;
}

pub returns-clause-leads : goal.returns-clause-leads
returns-clause-leads g c =
    let A = g.P.Pages.attempt c.args.pages.now in
    let B = g.P.Pages.attempt c.remove.new.pages in
    let loc = g.S.Store.location c.at-store.result in
    subst (λ (p : Place). WithStore g.S.Store.holds A B p (λ array schema places view.
    Leads g.S.Store.holds (g.P.Pages.asked c.args.pages.now c.remove.new.pages) A B array schema places (with_rows p.store (without_row p.key c.args.key.now (view.rows p.store)) view)
    (λ was. was ≡ is_some (row_with p.key c.args.key.now (view.rows p.store))) (p.store ∷ []) true 0 (34 * removed_by p.key c.args.key.now (view.rows p.store)) c.remove.result)) c.at-store.ensures
    (leads-removed g.P.Pages.attempt g.P.Pages.follows g.P.Pages.asked (laws g) c.args.pages.now c.remove.new.pages g.S.Store.holds g.S.Store.reach (stores g) loc c.laws_of_order.ensures g.S.Store.spot
    g.S.Store.bad g.met.S.Store.never_bad c.args.key.now c.remove.result c.remove.ensures.few c.remove.ensures.numbers c.remove.ensures.bad c.remove.ensures.asked c.remove.ensures.same c.remove.ensures.removed)

pub returns-clause-put : goal.returns-clause-put
returns-clause-put g c =
    let A = g.P.Pages.attempt c.args.pages.now in
    let B = g.P.Pages.attempt c.remove.new.pages in
    let loc = g.S.Store.location c.at-store.result in
    subst (λ (p : Place). OnOk c.remove.result (WithStore g.S.Store.holds A B p (λ array schema places view. (page : ℕ) × g.S.Store.spot p (over A array) c.args.key.now page × IsSome (B.written page)))) c.at-store.ensures
    (put-in g.P.Pages.attempt g.P.Pages.follows g.P.Pages.asked (laws g) c.args.pages.now c.remove.new.pages g.S.Store.holds g.S.Store.reach (stores g) loc g.S.Store.spot c.args.key.now
    (λ was before after reached rows. Removed g.S.Store.holds g.S.Store.spot (g.P.Pages.asked c.args.pages.now c.remove.new.pages) g.S.Store.reach loc A B before after reached c.args.key.now rows was)
    (λ was before after reached rows x. (x.page, x.stood, x.put)) c.remove.result c.remove.ensures.removed)
