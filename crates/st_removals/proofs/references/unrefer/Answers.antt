use Rattle.std.proofs.Common.{IsTrue, sym, ◌∙◌, subst}
use Rattle.st_lattice.specs.declared.stores.StoreKind.TheVariants.{Extent}
use Rattle.st_lattice.specs.Outline.{Outline}
use Rattle.st_lattice.specs.Stores.{deleted, store}
use Rattle.st_pages.specs.Attempt.{Array}
use Rattle.st_pages.proofs.Carried.{Stays, over-same}
use Rattle.st_store.specs.Stores.{among}
use Rattle.st_index.proofs.Called.{PageLaws, earlier}
use Rattle.st_standing.specs.Standing.{NearlyStandsAt}
use Rattle.st_lookups.proofs.Valued.{cells-dead, cells-live}
use Rattle.st_edits.proofs.StoresPut.{puts-looked}
use Rattle.st_removals.proofs.Emptying.{clears-fault, clears-later}
use Rattle.st_removals.proofs.references.unrefer.Given as given
use Rattle.st_removals.proofs.references.unrefer.Goals as goal

laws : (g : given.Over) → PageLaws g.P.Pages.attempt g.P.Pages.follows g.P.Pages.asked
laws g = record {
  is_sound = g.met.P.Pages.is_sound;
  seen_stays = g.met.P.Pages.seen_stays;
  drawn_stays = g.met.P.Pages.drawn_stays;
  drawn_unwritten = g.met.P.Pages.drawn_unwritten;
  follows_on = g.met.P.Pages.follows_on;
  asked_more = g.met.P.Pages.asked_more;
  asked_on = g.met.P.Pages.asked_on;
  asked_tells = g.met.P.Pages.asked_tells;
}

pub returns-in-Ok-Some-clause-kinds : goal.returns-in-Ok-Some-clause-kinds
returns-in-Ok-Some-clause-kinds g c = λ puts.
    c.clear_row.ensures.kinds (puts-looked g.P.Pages.attempt g.P.Pages.follows g.P.Pages.asked (laws g) c.args.pages.now c.cells_at.new.pages c.cells_at.ensures.keeps.below c.cells_at.ensures.keeps.written puts)

pub returns-in-Ok-Some-clause-clears : goal.returns-in-Ok-Some-clause-clears
returns-in-Ok-Some-clause-clears g c = λ array s agrees same stands live living apart some.
    let X = g.P.Pages.attempt c.args.pages.now in
    let Y = g.P.Pages.attempt c.cells_at.new.pages in
    let Z = g.P.Pages.attempt c.clear_row.new.pages in
    let other = c.args.other in
    let stays : Stays Y Z = g.met.P.Pages.seen_stays c.cells_at.new.pages c.clear_row.new.pages c.clear_row.ensures.follows in
    let found = c.in-Ok-Some.ensures.finds array s (earlier Y Z array stays agrees) same stands in
    let cells = c.as_slice.ensures ∙ cells-live s other c.in-Ok-Some.cells living (sym c.in-Ok-Some.field-0-is ∙ found.answers) in
    let here = subst (λ (a : Array). NearlyStandsAt g.S.Store.holds a c.args.places.now s) (sym (over-same X Y array c.cells_at.ensures.keeps.written)) stands in
    clears-later g.P.Pages.attempt g.P.Pages.follows g.P.Pages.asked (laws g) g.S.Store.holds array c.args.places.now s c.args.entity _ (store Extent other.ty)
    (subst (λ (o : Outline). IsTrue (among (deleted o c.args.entity.ty) (store Extent other.ty))) (sym same) some) c.args.pages.now c.cells_at.new.pages found.touches c.clear_row.new.pages c.cells_at.ensures.keeps.below c.clear_row.ensures.follows c.clear_row.result
    (c.clear_row.ensures.clears array s agrees same here live living apart cells)

pub returns-in-Ok-None-clause-clears : goal.returns-in-Ok-None-clause-clears
returns-in-Ok-None-clause-clears g c = λ array s agrees same stands live living apart some.
    absurd (cells-dead s c.args.other living (sym c.in-Ok-None.field-0-is ∙ (c.in-Ok-None.ensures.finds array s agrees same stands).answers))

pub returns-in-Err-clause-clears : goal.returns-in-Err-clause-clears
returns-in-Err-clause-clears g c = λ array s agrees same stands live living apart some.
    let found = c.in-Err.ensures.finds array s agrees same stands in
    clears-fault g.P.Pages.attempt g.P.Pages.follows g.P.Pages.asked (laws g) g.S.Store.holds array c.args.places.now s c.args.entity _ (store Extent c.args.other.ty)
    (subst (λ (o : Outline). IsTrue (among (deleted o c.args.entity.ty) (store Extent c.args.other.ty))) (sym same) some) c.args.pages.now c.cells_at.new.pages found.touches c.in-Err.fault found.sound
