use Rattle.std.proofs.Common.{◌≡◌, ◌*◌, Some, sym, ◌∙◌, subst, true≢false}
use Rattle.std.specs.Prelude.{not}
use Rattle.st_values.specs.declared.value.Value.TheVariants.{Null}
use Rattle.st_values.proofs.Tests.{left, right, not-true}
use Rattle.st_lattice.specs.declared.attribute.Attribute.{Attribute}
use Rattle.st_keys.specs.Keys.{Fits}
use Rattle.st_database.specs.Touches.{pairs_added}
use Rattle.st_database.proofs.Frames.{StoreLaws}
use Rattle.st_index.proofs.Called.{PageLaws}
use Rattle.st_standing.proofs.RowLaws.{RowLaws}
use Rattle.st_edits.proofs.StoresPut.{puts-asked}
use Rattle.st_removals.proofs.Leading.{notes-one}
use Rattle.st_removals.proofs.notes.note_value.Given as given
use Rattle.st_removals.proofs.notes.note_value.Goals as goal

stores : (g : given.Over) → StoreLaws g.S.Store.holds g.S.Store.reach
stores g = record {
  basic = record { one = g.met.S.Store.one; has_first = g.met.S.Store.has_first; reached = g.met.S.Store.reached; bear = g.met.S.Store.bear; depends = g.met.S.Store.depends };
  once = g.met.S.Store.once;
  any_serial = g.met.S.Store.any_serial;
  extent_first = g.met.S.Store.extent_first;
}

laws : (g : given.Over) → PageLaws g.P.Pages.attempt g.P.Pages.follows g.P.Pages.asked
laws g = record {
  is_sound = g.met.P.Pages.is_sound;
  seen_stays = g.met.P.Pages.seen_stays;
  drawn_stays = g.met.P.Pages.drawn_stays;
  drawn_unwritten = g.met.P.Pages.drawn_unwritten;
  follows_on = g.met.P.Pages.follows_on;
  asked_more = g.met.P.Pages.asked_more;
  asked_on = g.met.P.Pages.asked_on;
  asked_tells = g.met.P.Pages.asked_tells;
}

pub returns-clause-kinds : goal.returns-clause-kinds
returns-clause-kinds g c =
    puts-asked g.P.Pages.attempt g.P.Pages.follows g.P.Pages.asked (laws g) c.args.pages.now c.note_pair.new.pages c.note_pair.ensures.follows (17 * pairs_added c.args.attribute.now.number c.args.places.now c.args.value.now Null) c.note_pair.ensures.kinds

pub returns-clause-notes : goal.returns-clause-notes
returns-clause-notes g c = λ found cell fits.
    let row_laws : RowLaws = record {
      key_width = c.laws_of_keys.ensures.width;
      key_order = c.laws_of_keys.ensures.order;
      width = c.laws_of_rows.ensures.width;
      pair_width = c.laws_of_rows.ensures.pair_width;
      pairs = c.laws_of_rows.ensures.pairs;
      serials = c.laws_of_rows.ensures.serials;
    } in
    let a = c.args.attribute.now in
    notes-one g.P.Pages.attempt g.P.Pages.follows g.P.Pages.asked (laws g) g.S.Store.holds c.args.schema.now c.args.places.now c.args.entity g.S.Store.reach (stores g) row_laws c.requires.of c.laws_of_order.ensures c.requires.entity a found
    (not-true a.many (left (not a.many) (not a.column) cell)) (not-true a.column (right (not a.many) (not a.column) cell)) c.args.value.now fits c.args.pages.now c.note_pair.new.pages c.note_pair.result c.note_pair.ensures.leads

pub returns-then-not-fits-clause-notes : goal.returns-then-not-fits-clause-notes
returns-then-not-fits-clause-notes g c = λ found cell fits.
    absurd (true≢false (sym (c.if-not-fits.ensures.all (subst (λ (b : Attribute). Fits b.kind c.args.value.now) (sym (same c.in-Some.found.now c.args.attribute.now (c.in-Some.ensures ∙ found))) fits))))
  where
    same : (x y : Attribute) → Some x ≡ Some y → x ≡ y
    same x y e = cc
