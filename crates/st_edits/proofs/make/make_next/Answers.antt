use Rattle.std.proofs.Common.{sym, ap, ◌∙◌, subst}
use Rattle.st_lattice.specs.Outline.{Outline}
use Rattle.st_pages.specs.Places.{place_of}
use Rattle.st_index.proofs.Called.{PageLaws}
use Rattle.st_database.proofs.Frames.{StoreLaws}
use Rattle.st_standing.specs.Standing.{view_of}
use Rattle.st_standing.proofs.RowLaws.{RowLaws}
use Rattle.st_lookups.specs.Looks.{IsExtent}
use Rattle.st_edits.proofs.Making.{made-turns}
use Rattle.st_edits.proofs.Kept.{all-numbers}
use Rattle.st_edits.proofs.make.make_next.Given as given
use Rattle.st_edits.proofs.make.make_next.Goals as goal

stores : (g : given.Over) → StoreLaws g.S.Store.holds g.S.Store.reach
stores g = record {
  basic = record { one = g.met.S.Store.one; has_first = g.met.S.Store.has_first; reached = g.met.S.Store.reached; bear = g.met.S.Store.bear; depends = g.met.S.Store.depends };
  once = g.met.S.Store.once;
  any_serial = g.met.S.Store.any_serial;
  extent_first = g.met.S.Store.extent_first;
}

laws : (g : given.Over) → PageLaws g.P.Pages.attempt g.P.Pages.follows g.P.Pages.asked
laws g = record {
  is_sound = g.met.P.Pages.is_sound;
  seen_stays = g.met.P.Pages.seen_stays;
  drawn_stays = g.met.P.Pages.drawn_stays;
  drawn_unwritten = g.met.P.Pages.drawn_unwritten;
  follows_on = g.met.P.Pages.follows_on;
  asked_more = g.met.P.Pages.asked_more;
  asked_on = g.met.P.Pages.asked_on;
  asked_tells = g.met.P.Pages.asked_tells;
}

pub returns-clause-turns : goal.returns-clause-turns
returns-clause-turns g c =
    let row_laws : RowLaws = record {
      key_width = c.laws_of_keys.ensures.width;
      key_order = c.laws_of_keys.ensures.order;
      width = c.laws_of_rows.ensures.width;
      pair_width = c.laws_of_rows.ensures.pair_width;
      pairs = c.laws_of_rows.ensures.pairs;
      serials = c.laws_of_rows.ensures.serials;
    } in
    let place = c.in-Some.place in
    let ty = c.args.ty in
    λ array s agrees same stands.
    let extent = subst (λ (o : Outline). IsExtent o ty place) (sym same) c.in-Some.ensures.laid in
    let numbers = all-numbers s.schema stands.database.has.spells.readable stands.legal.orderly in
    made-turns g.P.Pages.attempt g.P.Pages.follows g.P.Pages.asked (laws g) row_laws g.S.Store.holds g.S.Store.reach (stores g) c.args.pages.now c.make_at.new.pages array s c.args.places.now stands ty place extent
    (c.laws_of_made.ensures.added s ty stands.legal numbers extent.known) (c.laws_of_made.ensures.changed s ty stands.legal numbers extent.known) c.make_at.result
    (c.make_at.ensures.makes array s.schema c.args.places.now (view_of s) agrees stands.database (ap (λ n. place_of n c.args.places.now) extent.store_is ∙ sym c.in-Some.ensures.value))
