use Rattle.st_index.proofs.Called.{PageLaws}
use Rattle.st_lattice.specs.Outline.{attribute as numbered}
use Rattle.st_database.proofs.Frames.{StoreLaws}
use Rattle.st_database.proofs.Pairs.{kinds-counted, leads-counted}
use Rattle.st_database.proofs.turned.note_pair.Given as given
use Rattle.st_database.proofs.turned.note_pair.Goals as goal

stores : (g : given.Over) → StoreLaws g.S.Store.holds g.S.Store.reach
stores g = record {
  basic = record { one = g.met.S.Store.one; has_first = g.met.S.Store.has_first; reached = g.met.S.Store.reached; bear = g.met.S.Store.bear; depends = g.met.S.Store.depends };
  once = g.met.S.Store.once;
  any_serial = g.met.S.Store.any_serial;
  extent_first = g.met.S.Store.extent_first;
}

laws : (g : given.Over) → PageLaws g.P.Pages.attempt g.P.Pages.follows g.P.Pages.asked
laws g = record {
  is_sound = g.met.P.Pages.is_sound;
  seen_stays = g.met.P.Pages.seen_stays;
  drawn_stays = g.met.P.Pages.drawn_stays;
  drawn_unwritten = g.met.P.Pages.drawn_unwritten;
  follows_on = g.met.P.Pages.follows_on;
  asked_more = g.met.P.Pages.asked_more;
  asked_on = g.met.P.Pages.asked_on;
  asked_tells = g.met.P.Pages.asked_tells;
}

pub returns-clause-kinds : goal.returns-clause-kinds
returns-clause-kinds g c =
    kinds-counted g.P.Pages.attempt g.P.Pages.follows g.P.Pages.asked (laws g) c.args.pages.now c.note.new.pages c.note.ensures.follows g.S.Store.holds g.S.Store.reach (stores g) c.args.schema.now c.args.places.now c.args.attribute
    c.args.old.now c.args.new.now c.note.ensures.kinds c.note.ensures.same

pub returns-clause-leads : goal.returns-clause-leads
returns-clause-leads g c =
    leads-counted g.P.Pages.attempt g.P.Pages.follows g.P.Pages.asked (laws g) c.args.pages.now c.note.new.pages c.note.ensures.follows g.S.Store.holds g.S.Store.reach (stores g) c.args.schema.now c.args.places.now c.args.attribute
    c.laws_of_order.ensures c.args.entity c.args.old.now c.args.new.now (numbered c.args.schema.now c.args.attribute) c.note.result
    c.note.ensures.asked c.note.ensures.few c.note.ensures.numbers c.note.ensures.same c.note.ensures.noted c.note.ensures.bad
