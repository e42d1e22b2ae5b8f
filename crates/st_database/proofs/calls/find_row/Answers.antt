use Rattle.std.proofs.Common.{ℕ, [], ◌∷◌, false, OnOk, subst}
use Rattle.std.specs.Prelude.{IsSome}
use Rattle.st_pages.specs.declared.places.Place.{Place}
use Rattle.st_pages.specs.Attempt.{over}
use Rattle.st_store.specs.Stores.{Found}
use Rattle.st_index.proofs.Called.{PageLaws}
use Rattle.st_database.specs.Touches.{Leads, WithStore}
use Rattle.st_database.proofs.Frames.{StoreLaws}
use Rattle.st_database.proofs.Calling.{leads-looked, seen-in}
use Rattle.st_database.proofs.calls.find_row.Given as given
use Rattle.st_database.proofs.calls.find_row.Goals as goal

stores : (g : given.Over) → StoreLaws g.S.Store.holds g.S.Store.reach
stores g = record {
  basic = record { one = g.met.S.Store.one; has_first = g.met.S.Store.has_first; reached = g.met.S.Store.reached; bear = g.met.S.Store.bear; depends = g.met.S.Store.depends };
  once = g.met.S.Store.once;
  any_serial = g.met.S.Store.any_serial;
  extent_first = g.met.S.Store.extent_first;
}

laws : (g : given.Over) → PageLaws g.P.Pages.attempt g.P.Pages.follows g.P.Pages.asked
laws g = record {
  is_sound = g.met.P.Pages.is_sound;
  seen_stays = g.met.P.Pages.seen_stays;
  drawn_stays = g.met.P.Pages.drawn_stays;
  drawn_unwritten = g.met.P.Pages.drawn_unwritten;
  follows_on = g.met.P.Pages.follows_on;
  asked_more = g.met.P.Pages.asked_more;
  asked_on = g.met.P.Pages.asked_on;
  asked_tells = g.met.P.Pages.asked_tells;
}

pub returns-clause-leads : goal.returns-clause-leads
returns-clause-leads g c =
    let A = g.P.Pages.attempt c.args.pages.now in
    let B = g.P.Pages.attempt c.find.new.pages in
    let loc = g.S.Store.location c.at-store.result in
    subst (λ (p : Place). WithStore g.S.Store.holds A B p (λ array schema places view.
    Leads g.S.Store.holds (g.P.Pages.asked c.args.pages.now c.find.new.pages) A B array schema places view (λ found. Found p.key c.args.key.now (view.rows p.store) found c.find.new.row) (p.store ∷ []) false 0 0 c.find.result)) c.at-store.ensures
    (leads-looked g.P.Pages.attempt g.P.Pages.follows g.P.Pages.asked (laws g) c.args.pages.now c.find.new.pages g.S.Store.holds g.S.Store.reach (stores g) loc (λ found rows. Found loc.key c.args.key.now rows found c.find.new.row)
    g.S.Store.bad g.met.S.Store.never_bad c.find.result c.find.ensures.written c.find.ensures.asked c.find.ensures.found c.find.ensures.bad)

pub returns-clause-seen : goal.returns-clause-seen
returns-clause-seen g c =
    let A = g.P.Pages.attempt c.args.pages.now in
    let B = g.P.Pages.attempt c.find.new.pages in
    let loc = g.S.Store.location c.at-store.result in
    subst (λ (p : Place). OnOk c.find.result (WithStore g.S.Store.holds A B p (λ array schema places view. (page : ℕ) × g.S.Store.spot p (over A array) c.args.key.now page × IsSome (B.seen page)))) c.at-store.ensures
    (seen-in g.P.Pages.attempt g.P.Pages.follows g.P.Pages.asked (laws g) c.args.pages.now c.find.new.pages g.S.Store.holds g.S.Store.reach (stores g) loc (λ x. (page : ℕ) × g.S.Store.spot loc x c.args.key.now page × IsSome (B.seen page)) c.find.result c.find.ensures.seen)
