use Rattle.st_database.proofs.Frames.{StoreLaws}
use Rattle.st_index.proofs.Called.{PageLaws}
use Rattle.st_standing.proofs.RowLaws.{RowLaws}
use Rattle.st_edits.proofs.StoresPut.{puts-asked}
use Rattle.st_removals.proofs.Removing.{removes-both, removes-fault}
use Rattle.st_removals.proofs.own.remove_at.Given as given
use Rattle.st_removals.proofs.own.remove_at.Goals as goal

stores : (g : given.Over) → StoreLaws g.S.Store.holds g.S.Store.reach
stores g = record {
  basic = record { one = g.met.S.Store.one; has_first = g.met.S.Store.has_first; reached = g.met.S.Store.reached; bear = g.met.S.Store.bear; depends = g.met.S.Store.depends };
  once = g.met.S.Store.once;
  any_serial = g.met.S.Store.any_serial;
  extent_first = g.met.S.Store.extent_first;
}

laws : (g : given.Over) → PageLaws g.P.Pages.attempt g.P.Pages.follows g.P.Pages.asked
laws g = record {
  is_sound = g.met.P.Pages.is_sound;
  seen_stays = g.met.P.Pages.seen_stays;
  drawn_stays = g.met.P.Pages.drawn_stays;
  drawn_unwritten = g.met.P.Pages.drawn_unwritten;
  follows_on = g.met.P.Pages.follows_on;
  asked_more = g.met.P.Pages.asked_more;
  asked_on = g.met.P.Pages.asked_on;
  asked_tells = g.met.P.Pages.asked_tells;
}

pub returns-in-Ok-clause-kinds : goal.returns-in-Ok-clause-kinds
returns-in-Ok-clause-kinds g c = λ puts.
    c.note_gone.ensures.kinds (puts-asked g.P.Pages.attempt g.P.Pages.follows g.P.Pages.asked (laws g) c.args.pages.now c.remove_row.new.pages c.remove_row.ensures.follows 0 c.remove_row.ensures.kinds puts)

pub returns-in-Ok-clause-removes : goal.returns-in-Ok-clause-removes
returns-in-Ok-clause-removes g c =
    let row_laws : RowLaws = record {
      key_width = c.laws_of_keys.ensures.width;
      key_order = c.laws_of_keys.ensures.order;
      width = c.laws_of_rows.ensures.width;
      pair_width = c.laws_of_rows.ensures.pair_width;
      pairs = c.laws_of_rows.ensures.pairs;
      serials = c.laws_of_rows.ensures.serials;
    } in
    removes-both g.P.Pages.attempt g.P.Pages.follows g.P.Pages.asked (laws g) g.S.Store.holds c.args.schema.now c.args.places.now c.args.entity c.args.place c.requires.extent c.to_be_bytes-key.result c.to_be_bytes-key.ensures c.args.cells.now
    g.S.Store.reach (stores g) row_laws c.laws_of_places.ensures.in_rows c.args.pages.now c.remove_row.new.pages c.note_gone.new.pages c.remove_row.ensures.follows c.note_gone.ensures.follows c.in-Ok.field-0 c.note_gone.result
    c.in-Ok.ensures.leads c.note_gone.ensures.notes

pub returns-in-Err-clause-kinds : goal.returns-in-Err-clause-kinds
returns-in-Err-clause-kinds g c =
    puts-asked g.P.Pages.attempt g.P.Pages.follows g.P.Pages.asked (laws g) c.args.pages.now c.remove_row.new.pages c.remove_row.ensures.follows 0 c.remove_row.ensures.kinds

pub returns-in-Err-clause-removes : goal.returns-in-Err-clause-removes
returns-in-Err-clause-removes g c =
    removes-fault g.P.Pages.attempt g.P.Pages.follows g.P.Pages.asked (laws g) g.S.Store.holds c.args.schema.now c.args.places.now c.args.entity c.args.place c.requires.extent c.to_be_bytes-key.result c.to_be_bytes-key.ensures c.args.cells.now
    c.args.pages.now c.remove_row.new.pages c.in-Err.fault c.in-Err.ensures.leads
