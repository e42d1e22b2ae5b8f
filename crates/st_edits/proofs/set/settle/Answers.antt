use Rattle.std.proofs.Common.{◌≡◌, Some, None, sym, ◌∙◌, subst}
use Rattle.st_lattice.specs.Outline.{Outline, attribute}
use Rattle.st_lattice.specs.Stores.{aside}
use Rattle.st_pages.specs.Attempt.{Array}
use Rattle.st_pages.proofs.Carried.{Stays, over-same}
use Rattle.st_state.specs.Bases.{shared_with}
use Rattle.st_state.specs.Calls.{Set}
use Rattle.st_index.proofs.Called.{PageLaws, earlier}
use Rattle.st_standing.specs.Standing.{NearlyStandsAt}
use Rattle.st_edits.specs.Steps.{IsSettled}
use Rattle.st_edits.proofs.StoresPut.{puts-looked}
use Rattle.std.specs.Int.{w32, to_be_bytes}
use Rattle.st_edits.proofs.Settling.{aside-called, free-of, settles-fault, settles-memory, settles-refused, settles-set, shared-is, turns-early}
use Rattle.st_edits.proofs.set.settle.Given as given
use Rattle.st_edits.proofs.set.settle.Goals as goal

laws : (g : given.Over) → PageLaws g.P.Pages.attempt g.P.Pages.follows g.P.Pages.asked
laws g = record {
  is_sound = g.met.P.Pages.is_sound;
  seen_stays = g.met.P.Pages.seen_stays;
  drawn_stays = g.met.P.Pages.drawn_stays;
  drawn_unwritten = g.met.P.Pages.drawn_unwritten;
  follows_on = g.met.P.Pages.follows_on;
  asked_more = g.met.P.Pages.asked_more;
  asked_on = g.met.P.Pages.asked_on;
  asked_tells = g.met.P.Pages.asked_tells;
}

pub returns-in-Ok-change-clause-kinds : goal.returns-in-Ok-change-clause-kinds
returns-in-Ok-change-clause-kinds g c = λ puts.
    c.change.ensures.kinds (puts-looked g.P.Pages.attempt g.P.Pages.follows g.P.Pages.asked (laws g) c.args.pages.now c.holder.new.pages c.holder.ensures.keeps.below c.holder.ensures.keeps.written puts)

pub returns-in-Err-change-clause-kinds : goal.returns-in-Err-change-clause-kinds
returns-in-Err-change-clause-kinds g c = λ puts.
    c.change.ensures.kinds (puts-looked g.P.Pages.attempt g.P.Pages.follows g.P.Pages.asked (laws g) c.args.pages.now c.holder.new.pages c.holder.ensures.keeps.below c.holder.ensures.keeps.written puts)

pub returns-in-Ok-Some-clause-kinds : goal.returns-in-Ok-Some-clause-kinds
returns-in-Ok-Some-clause-kinds g c =
    puts-looked g.P.Pages.attempt g.P.Pages.follows g.P.Pages.asked (laws g) c.args.pages.now c.holder.new.pages c.holder.ensures.keeps.below c.holder.ensures.keeps.written

pub returns-in-Err-shared_with-clause-kinds : goal.returns-in-Err-shared_with-clause-kinds
returns-in-Err-shared_with-clause-kinds g c =
    puts-looked g.P.Pages.attempt g.P.Pages.follows g.P.Pages.asked (laws g) c.args.pages.now c.holder.new.pages c.holder.ensures.keeps.below c.holder.ensures.keeps.written

pub returns-in-Err-clause-kinds : goal.returns-in-Err-clause-kinds
returns-in-Err-clause-kinds g c =
    puts-looked g.P.Pages.attempt g.P.Pages.follows g.P.Pages.asked (laws g) c.args.pages.now c.holder.new.pages c.holder.ensures.keeps.below c.holder.ensures.keeps.written

pub returns-in-Ok-change-clause-turns : goal.returns-in-Ok-change-clause-turns
returns-in-Ok-change-clause-turns g c = λ array s agrees same stands at to_be cells_are.
    let a = c.args.attribute.now in
    let X = g.P.Pages.attempt c.args.pages.now in
    let Y = g.P.Pages.attempt c.holder.new.pages in
    let Z = g.P.Pages.attempt c.change.new.pages in
    let stays : Stays Y Z = g.met.P.Pages.seen_stays c.holder.new.pages c.change.new.pages c.change.ensures.follows in
    let f = subst (λ (o : Outline). attribute o a.number ≡ Some a) (sym same) c.requires.numbered in
    let found = c.in-Ok.ensures.finds array s (earlier Y Z array stays agrees) same stands f in
    let none = subst (λ (o : Outline). shared_with o a c.in-Ok.other ≡ None) (sym same) (sym c.in-Ok-None.ensures ∙ c.in-Ok-None.field-0-is) in
    let here = subst (λ (x : Array). NearlyStandsAt g.S.Store.holds x c.args.places.now s) (sym (over-same X Y array c.holder.ensures.keeps.written)) stands in
    settles-set g.P.Pages.attempt g.P.Pages.follows g.P.Pages.asked (laws g) g.S.Store.holds array c.args.places.now s c.args.entity a c.args.value.now f c.in-Ok.other c.args.pages.now c.holder.new.pages c.holder.ensures.keeps.below found c.change.new.pages c.change.ensures.follows none c.in-Ok-change.field-0
    (c.in-Ok-change.ensures.alters array s agrees same here at to_be cells_are (free-of s c.args.entity a c.args.value.now c.in-Ok.other s.schema found.answers none))

pub returns-in-Ok-change-clause-put : goal.returns-in-Ok-change-clause-put
returns-in-Ok-change-clause-put g c = λ array s agrees same stands at to_be settled.
    let X = g.P.Pages.attempt c.args.pages.now in
    let Y = g.P.Pages.attempt c.holder.new.pages in
    let Z = g.P.Pages.attempt c.change.new.pages in
    let overs = over-same X Y array c.holder.ensures.keeps.written in
    let here = subst (λ (x : Array). NearlyStandsAt g.S.Store.holds x c.args.places.now s) (sym overs) stands in
    let put = c.in-Ok-change.ensures.put array s agrees same here at to_be in
    (put.0, subst (λ (x : Array). g.S.Store.spot c.args.place x (to_be_bytes w32 c.args.entity.serial) put.0) overs put.1, put.2)

pub returns-in-Err-change-clause-turns : goal.returns-in-Err-change-clause-turns
returns-in-Err-change-clause-turns g c = λ array s agrees same stands at to_be cells_are.
    let a = c.args.attribute.now in
    let X = g.P.Pages.attempt c.args.pages.now in
    let Y = g.P.Pages.attempt c.holder.new.pages in
    let Z = g.P.Pages.attempt c.change.new.pages in
    let stays : Stays Y Z = g.met.P.Pages.seen_stays c.holder.new.pages c.change.new.pages c.change.ensures.follows in
    let f = subst (λ (o : Outline). attribute o a.number ≡ Some a) (sym same) c.requires.numbered in
    let found = c.in-Ok.ensures.finds array s (earlier Y Z array stays agrees) same stands f in
    let none = subst (λ (o : Outline). shared_with o a c.in-Ok.other ≡ None) (sym same) (sym c.in-Ok-None.ensures ∙ c.in-Ok-None.field-0-is) in
    let here = subst (λ (x : Array). NearlyStandsAt g.S.Store.holds x c.args.places.now s) (sym (over-same X Y array c.holder.ensures.keeps.written)) stands in
    settles-fault g.P.Pages.attempt g.P.Pages.follows g.P.Pages.asked (laws g) g.S.Store.holds array c.args.places.now s c.args.entity a c.args.value.now f c.in-Ok.other c.args.pages.now c.holder.new.pages c.holder.ensures.keeps.below found c.change.new.pages c.change.ensures.follows none
    c.in-Err-change.fault (c.in-Err-change.ensures.alters array s agrees same here at to_be cells_are (free-of s c.args.entity a c.args.value.now c.in-Ok.other s.schema found.answers none))

pub returns-in-Err-shared_with-clause-turns : goal.returns-in-Err-shared_with-clause-turns
returns-in-Err-shared_with-clause-turns g c = λ array s agrees same stands at to_be cells_are.
    let a = c.args.attribute.now in
    let f = subst (λ (o : Outline). attribute o a.number ≡ Some a) (sym same) c.requires.numbered in
    let found = c.in-Ok.ensures.finds array s agrees same stands f in
    settles-memory g.P.Pages.attempt g.P.Pages.follows g.P.Pages.asked (laws g) g.S.Store.holds array c.args.places.now s c.args.entity a c.args.value.now f c.in-Ok.other c.args.pages.now c.holder.new.pages c.holder.ensures.keeps.below found

pub returns-in-Err-clause-turns : goal.returns-in-Err-clause-turns
returns-in-Err-clause-turns g c = λ array s agrees same stands at to_be cells_are.
    let a = c.args.attribute.now in
    let f = subst (λ (o : Outline). attribute o a.number ≡ Some a) (sym same) c.requires.numbered in
    let found = c.in-Err.ensures.finds array s agrees same stands f in
    turns-early g.P.Pages.attempt g.P.Pages.follows g.P.Pages.asked (laws g) array s (Set c.args.entity a.number c.args.value.now) (aside a) (aside-called s c.args.entity a c.args.value.now f)
    (IsSettled g.S.Store.holds (g.P.Pages.attempt c.holder.new.pages) array c.args.places.now s (Set c.args.entity a.number c.args.value.now)) c.in-Err.fault c.args.pages.now c.holder.new.pages found.sound c.in-Err.ensures.keeps.looks found.touches

pub returns-in-Ok-Some-clause-turns : goal.returns-in-Ok-Some-clause-turns
returns-in-Ok-Some-clause-turns g c = λ array s agrees same stands at to_be cells_are.
    let a = c.args.attribute.now in
    let X = g.P.Pages.attempt c.args.pages.now in
    let Y = g.P.Pages.attempt c.holder.new.pages in
    let f = subst (λ (o : Outline). attribute o a.number ≡ Some a) (sym same) c.requires.numbered in
    let found = c.in-Ok.ensures.finds array s agrees same stands f in
    let is = subst (λ (o : Outline). shared_with o a c.in-Ok.other ≡ Some c.in-Ok-Some.refusal) (sym same) (sym c.in-Ok-Some.ensures ∙ c.in-Ok-Some.field-0-is) in
    let here = subst (λ (x : Array). NearlyStandsAt g.S.Store.holds x c.args.places.now s) (sym (over-same X Y array c.holder.ensures.keeps.written)) stands in
    settles-refused g.P.Pages.attempt g.P.Pages.follows g.P.Pages.asked (laws g) g.S.Store.holds array c.args.places.now s c.args.entity a c.args.value.now f c.in-Ok.other c.args.pages.now c.holder.new.pages c.holder.ensures.keeps.below found c.in-Ok-Some.refusal is here

pub returns-in-Ok-Some-clause-own : goal.returns-in-Ok-Some-clause-own
returns-in-Ok-Some-clause-own g c = shared-is c.args.schema.now c.args.attribute.now c.in-Ok.other c.in-Ok-Some.refusal (sym c.in-Ok-Some.ensures ∙ c.in-Ok-Some.field-0-is)
