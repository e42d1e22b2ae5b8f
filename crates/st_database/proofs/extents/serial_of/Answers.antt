use Rattle.st_index.proofs.Called.{PageLaws}
use Rattle.st_database.proofs.Frames.{StoreLaws}
use Rattle.st_database.proofs.Serials.{leads-serial}
use Rattle.st_database.proofs.extents.serial_of.Given as given
use Rattle.st_database.proofs.extents.serial_of.Goals as goal

stores : (g : given.Over) → StoreLaws g.S.Store.holds g.S.Store.reach
stores g = record {
  basic = record { one = g.met.S.Store.one; has_first = g.met.S.Store.has_first; reached = g.met.S.Store.reached; bear = g.met.S.Store.bear; depends = g.met.S.Store.depends };
  once = g.met.S.Store.once;
  any_serial = g.met.S.Store.any_serial;
  extent_first = g.met.S.Store.extent_first;
}

laws : (g : given.Over) → PageLaws g.P.Pages.attempt g.P.Pages.follows g.P.Pages.asked
laws g = record {
  is_sound = g.met.P.Pages.is_sound;
  seen_stays = g.met.P.Pages.seen_stays;
  drawn_stays = g.met.P.Pages.drawn_stays;
  drawn_unwritten = g.met.P.Pages.drawn_unwritten;
  follows_on = g.met.P.Pages.follows_on;
  asked_more = g.met.P.Pages.asked_more;
  asked_on = g.met.P.Pages.asked_on;
  asked_tells = g.met.P.Pages.asked_tells;
}

pub returns-clause-leads : goal.returns-clause-leads
returns-clause-leads g c =
    leads-serial g.P.Pages.attempt g.P.Pages.follows g.P.Pages.asked (laws g) g.S.Store.holds g.S.Store.reach (stores g) c.args.place c.requires.extent c.args.pages.now c.last_serial.new.pages c.last_serial.result
    c.last_serial.ensures.written c.last_serial.ensures.asked c.last_serial.ensures.serial c.last_serial.ensures.bad
