use Rattle.st_pages.proofs.Carried.{Stays}
use Rattle.st_index.proofs.Called.{PageLaws, earlier}
use Rattle.st_edits.proofs.StoresPut.{puts-asked, puts-looked}
use Rattle.st_edits.proofs.Making.{before-small, makes-fault, makes-none, makes-some}
use Rattle.st_edits.proofs.make.make_at.Given as given
use Rattle.st_edits.proofs.make.make_at.Goals as goal

laws : (g : given.Over) → PageLaws g.P.Pages.attempt g.P.Pages.follows g.P.Pages.asked
laws g = record {
  is_sound = g.met.P.Pages.is_sound;
  seen_stays = g.met.P.Pages.seen_stays;
  drawn_stays = g.met.P.Pages.drawn_stays;
  drawn_unwritten = g.met.P.Pages.drawn_unwritten;
  follows_on = g.met.P.Pages.follows_on;
  asked_more = g.met.P.Pages.asked_more;
  asked_on = g.met.P.Pages.asked_on;
  asked_tells = g.met.P.Pages.asked_tells;
}

pub returns-in-Ok-eq4294967295-clause-kinds : goal.returns-in-Ok-eq4294967295-clause-kinds
returns-in-Ok-eq4294967295-clause-kinds g c = puts-looked g.P.Pages.attempt g.P.Pages.follows g.P.Pages.asked (laws g) c.args.pages.now c.serial_of.new.pages c.serial_of.ensures.follows c.serial_of.ensures.written

pub returns-in-Ok-eq4294967295-clause-makes : goal.returns-in-Ok-eq4294967295-clause-makes
returns-in-Ok-eq4294967295-clause-makes g c = λ array schema places view agrees d at.
    makes-none g.P.Pages.attempt g.P.Pages.follows g.P.Pages.asked (laws g) g.S.Store.holds array schema places c.args.place view c.args.ty c.args.pages.now c.serial_of.new.pages c.in-Ok-eq4294967295.field-0 c.in-Ok-eq4294967295.field-0-test
    (c.in-Ok-eq4294967295.ensures.leads array schema places view agrees d at)

pub returns-in-Ok-clause-kinds : goal.returns-in-Ok-clause-kinds
returns-in-Ok-clause-kinds g c = λ puts.
    puts-asked g.P.Pages.attempt g.P.Pages.follows g.P.Pages.asked (laws g) c.serial_of.new.pages c.make_with.new.pages c.make_with.ensures.follows 17 c.make_with.ensures.kinds
    (puts-looked g.P.Pages.attempt g.P.Pages.follows g.P.Pages.asked (laws g) c.args.pages.now c.serial_of.new.pages c.serial_of.ensures.follows c.serial_of.ensures.written puts)

pub returns-in-Ok-clause-makes : goal.returns-in-Ok-clause-makes
returns-in-Ok-clause-makes g c = λ array schema places view agrees d at.
    let B = g.P.Pages.attempt c.serial_of.new.pages in
    let C = g.P.Pages.attempt c.make_with.new.pages in
    let stays : Stays B C = g.met.P.Pages.seen_stays c.serial_of.new.pages c.make_with.new.pages c.make_with.ensures.follows in
    makes-some g.P.Pages.attempt g.P.Pages.follows g.P.Pages.asked (laws g) g.S.Store.holds array schema places c.args.place view c.args.ty c.args.pages.now c.serial_of.new.pages c.make_with.new.pages c.serial_of.ensures.follows c.make_with.ensures.follows
    c.in-Ok.serial (before-small c.in-Ok.serial c.make_with.ensures.small) (c.in-Ok.ensures.leads array schema places view (earlier B C array stays agrees) d at) c.make_with.result
    (λ mid. c.make_with.ensures.leads array schema places view agrees mid at)

pub returns-in-Err-clause-kinds : goal.returns-in-Err-clause-kinds
returns-in-Err-clause-kinds g c = puts-looked g.P.Pages.attempt g.P.Pages.follows g.P.Pages.asked (laws g) c.args.pages.now c.serial_of.new.pages c.serial_of.ensures.follows c.serial_of.ensures.written

pub returns-in-Err-clause-makes : goal.returns-in-Err-clause-makes
returns-in-Err-clause-makes g c = λ array schema places view agrees d at.
    makes-fault g.P.Pages.attempt g.P.Pages.follows g.P.Pages.asked (laws g) g.S.Store.holds array schema places c.args.place view c.args.ty c.args.pages.now c.serial_of.new.pages c.in-Err.fault c.in-Err.ensures.looks
    (c.in-Err.ensures.leads array schema places view agrees d at)
