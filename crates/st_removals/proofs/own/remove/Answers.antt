use Rattle.std.proofs.Common.{false, refl, sym, ◌∙◌, arith}
use Rattle.st_pages.proofs.Carried.{Stays}
use Rattle.st_index.proofs.Called.{PageLaws, earlier}
use Rattle.st_lookups.proofs.Rowed.{stands-still}
use Rattle.st_lookups.proofs.Valued.{cells-dead, cells-live}
use Rattle.st_edits.proofs.StoresPut.{puts-looked}
use Rattle.st_removals.proofs.Removing.{removes-later, removes-none}
use Rattle.st_removals.proofs.own.remove.Given as given
use Rattle.st_removals.proofs.own.remove.Goals as goal

laws : (g : given.Over) → PageLaws g.P.Pages.attempt g.P.Pages.follows g.P.Pages.asked
laws g = record {
  is_sound = g.met.P.Pages.is_sound;
  seen_stays = g.met.P.Pages.seen_stays;
  drawn_stays = g.met.P.Pages.drawn_stays;
  drawn_unwritten = g.met.P.Pages.drawn_unwritten;
  follows_on = g.met.P.Pages.follows_on;
  asked_more = g.met.P.Pages.asked_more;
  asked_on = g.met.P.Pages.asked_on;
  asked_tells = g.met.P.Pages.asked_tells;
}

pub returns-in-Ok-Some-clause-kinds : goal.returns-in-Ok-Some-clause-kinds
returns-in-Ok-Some-clause-kinds g c = λ puts.
    c.remove_there.ensures.kinds (puts-looked g.P.Pages.attempt g.P.Pages.follows g.P.Pages.asked (laws g) c.args.pages.now c.cells_at.new.pages c.cells_at.ensures.keeps.below c.cells_at.ensures.keeps.written puts)

pub returns-in-Ok-Some-clause-removes : goal.returns-in-Ok-Some-clause-removes
returns-in-Ok-Some-clause-removes g c = λ array s agrees same stands live own.
    let X = g.P.Pages.attempt c.args.pages.now in
    let Y = g.P.Pages.attempt c.cells_at.new.pages in
    let Z = g.P.Pages.attempt c.remove_there.new.pages in
    let e = c.args.entity in
    let stays : Stays Y Z = g.met.P.Pages.seen_stays c.cells_at.new.pages c.remove_there.new.pages c.remove_there.ensures.follows in
    let found = c.in-Ok-Some.ensures.finds array s (earlier Y Z array stays agrees) same stands in
    let cells = cells-live s e c.in-Ok-Some.cells live (sym c.in-Ok-Some.field-0-is ∙ found.answers) in
    removes-later g.P.Pages.attempt g.P.Pages.follows g.P.Pages.asked (laws g) g.S.Store.holds c.args.schema.now c.args.places.now e array s c.args.pages.now c.cells_at.new.pages c.remove_there.new.pages c.cells_at.ensures.keeps.below c.remove_there.ensures.follows
    c.remove_there.result found.touches
    (c.remove_there.ensures.removes array s agrees same (stands-still g.S.Store.holds X Y array c.args.places.now s c.cells_at.ensures.keeps.written stands) live (c.as_slice.ensures ∙ cells) own)

pub returns-in-Ok-None-clause-removes : goal.returns-in-Ok-None-clause-removes
returns-in-Ok-None-clause-removes g c = λ array s agrees same stands live own.
    absurd (cells-dead s c.args.entity live (sym c.in-Ok-None.field-0-is ∙ (c.in-Ok-None.ensures.finds array s agrees same stands).answers))

pub returns-in-Err-clause-removes : goal.returns-in-Err-clause-removes
returns-in-Err-clause-removes g c = λ array s agrees same stands live own.
    let found = c.in-Err.ensures.finds array s agrees same stands in
    removes-none g.P.Pages.attempt g.P.Pages.follows g.P.Pages.asked (laws g) g.S.Store.holds c.args.schema.now c.args.places.now c.args.entity array s false 0 (omega arith) _ refl c.args.pages.now c.cells_at.new.pages c.in-Err.fault found.sound found.touches
