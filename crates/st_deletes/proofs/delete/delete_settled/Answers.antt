use Rattle.std.proofs.Common.{◌≡◌, Option, Some, None, Ok, Err, sym, subst}
use Rattle.st_lattice.specs.Outline.{Outline}
use Rattle.st_lattice.specs.Stores.{deleted}
use Rattle.st_pages.specs.Attempt.{Array}
use Rattle.st_pages.proofs.Carried.{Stays, over-same}
use Rattle.st_state.specs.declared.refusal.Refusal.{Refusal}
use Rattle.st_state.specs.Bases.{still_needed}
use Rattle.st_index.proofs.Called.{PageLaws, earlier}
use Rattle.st_standing.specs.Standing.{NearlyStandsAt}
use Rattle.st_lookups.specs.Looks.{Finds}
use Rattle.st_edits.proofs.Kept.{all-numbers}
use Rattle.st_edits.proofs.StoresPut.{puts-looked}
use Rattle.st_deletes.proofs.Ending.{settles-early, settles-fault, settles-gone, settles-needed}
use Rattle.st_deletes.proofs.delete.delete_settled.Given as given
use Rattle.st_deletes.proofs.delete.delete_settled.Goals as goal

laws : (g : given.Over) → PageLaws g.P.Pages.attempt g.P.Pages.follows g.P.Pages.asked
laws g = record {
  is_sound = g.met.P.Pages.is_sound;
  seen_stays = g.met.P.Pages.seen_stays;
  drawn_stays = g.met.P.Pages.drawn_stays;
  drawn_unwritten = g.met.P.Pages.drawn_unwritten;
  follows_on = g.met.P.Pages.follows_on;
  asked_more = g.met.P.Pages.asked_more;
  asked_on = g.met.P.Pages.asked_on;
  asked_tells = g.met.P.Pages.asked_tells;
}

pub returns-in-Ok-clause-kinds : goal.returns-in-Ok-clause-kinds
returns-in-Ok-clause-kinds g c = λ puts.
    c.clear_and_remove.ensures.kinds (puts-looked g.P.Pages.attempt g.P.Pages.follows g.P.Pages.asked (laws g) c.args.pages.now c.still_needed.new.pages c.still_needed.ensures.keeps.below c.still_needed.ensures.keeps.written puts)

pub returns-in-Ok-clause-turns : goal.returns-in-Ok-clause-turns
returns-in-Ok-clause-turns g c = λ array s agrees same stands live.
    let A = g.P.Pages.attempt c.args.pages.now in
    let B = g.P.Pages.attempt c.still_needed.new.pages in
    let places = c.args.places.now in
    let e = c.args.entity in
    let C = g.P.Pages.attempt c.clear_and_remove.new.pages in
    let stays : Stays B C = g.met.P.Pages.seen_stays c.still_needed.new.pages c.clear_and_remove.new.pages c.clear_and_remove.ensures.follows in
    let found : Finds (g.P.Pages.asked c.args.pages.now c.still_needed.new.pages) A B array (λ refusal. refusal ≡ still_needed s e) (deleted s.schema e.ty) (Ok None) =
    subst (λ (o : Outline). Finds (g.P.Pages.asked c.args.pages.now c.still_needed.new.pages) A B array (λ refusal. refusal ≡ still_needed s e) (deleted o e.ty) (Ok None)) (sym same)
    (subst (λ (r : Option Refusal). Finds (g.P.Pages.asked c.args.pages.now c.still_needed.new.pages) A B array (λ refusal. refusal ≡ still_needed s e) (deleted c.args.schema.now e.ty) (Ok r)) c.in-Ok-None.field-0-is
    (c.in-Ok-None.ensures.finds array s (earlier B C array stays agrees) same stands live)) in
    let here = subst (λ (x : Array). NearlyStandsAt g.S.Store.holds x places s) (sym (over-same A B array c.still_needed.ensures.keeps.written)) stands in
    let low = all-numbers s.schema stands.database.has.spells.readable stands.legal.orderly in
    let bound = c.laws_of_deleted.ensures.changed s e stands.legal low live in
    settles-gone g.P.Pages.attempt g.P.Pages.follows g.P.Pages.asked (laws g) g.S.Store.holds array c.args.places.now c.args.entity s c.args.pages.now c.still_needed.new.pages c.clear_and_remove.new.pages c.still_needed.ensures.keeps.below c.clear_and_remove.ensures.follows bound found (tt {0})
    (c.in-Ok.ensures.removes array s agrees same here live)

pub returns-in-Err-clear_and_remove-clause-kinds : goal.returns-in-Err-clear_and_remove-clause-kinds
returns-in-Err-clear_and_remove-clause-kinds g c = λ puts.
    c.clear_and_remove.ensures.kinds (puts-looked g.P.Pages.attempt g.P.Pages.follows g.P.Pages.asked (laws g) c.args.pages.now c.still_needed.new.pages c.still_needed.ensures.keeps.below c.still_needed.ensures.keeps.written puts)

pub returns-in-Err-clear_and_remove-clause-turns : goal.returns-in-Err-clear_and_remove-clause-turns
returns-in-Err-clear_and_remove-clause-turns g c = λ array s agrees same stands live.
    let A = g.P.Pages.attempt c.args.pages.now in
    let B = g.P.Pages.attempt c.still_needed.new.pages in
    let places = c.args.places.now in
    let e = c.args.entity in
    let C = g.P.Pages.attempt c.clear_and_remove.new.pages in
    let stays : Stays B C = g.met.P.Pages.seen_stays c.still_needed.new.pages c.clear_and_remove.new.pages c.clear_and_remove.ensures.follows in
    let found : Finds (g.P.Pages.asked c.args.pages.now c.still_needed.new.pages) A B array (λ refusal. refusal ≡ still_needed s e) (deleted s.schema e.ty) (Ok None) =
    subst (λ (o : Outline). Finds (g.P.Pages.asked c.args.pages.now c.still_needed.new.pages) A B array (λ refusal. refusal ≡ still_needed s e) (deleted o e.ty) (Ok None)) (sym same)
    (subst (λ (r : Option Refusal). Finds (g.P.Pages.asked c.args.pages.now c.still_needed.new.pages) A B array (λ refusal. refusal ≡ still_needed s e) (deleted c.args.schema.now e.ty) (Ok r)) c.in-Ok-None.field-0-is
    (c.in-Ok-None.ensures.finds array s (earlier B C array stays agrees) same stands live)) in
    let here = subst (λ (x : Array). NearlyStandsAt g.S.Store.holds x places s) (sym (over-same A B array c.still_needed.ensures.keeps.written)) stands in
    let low = all-numbers s.schema stands.database.has.spells.readable stands.legal.orderly in
    let bound = c.laws_of_deleted.ensures.changed s e stands.legal low live in
    settles-fault g.P.Pages.attempt g.P.Pages.follows g.P.Pages.asked (laws g) g.S.Store.holds array c.args.places.now c.args.entity s c.args.pages.now c.still_needed.new.pages c.clear_and_remove.new.pages c.still_needed.ensures.keeps.below c.clear_and_remove.ensures.follows bound found c.in-Err-clear_and_remove.fault
    (c.in-Err-clear_and_remove.ensures.removes array s agrees same here live)

pub returns-in-Ok-Some-clause-turns : goal.returns-in-Ok-Some-clause-turns
returns-in-Ok-Some-clause-turns g c = λ array s agrees same stands live.
    let A = g.P.Pages.attempt c.args.pages.now in
    let B = g.P.Pages.attempt c.still_needed.new.pages in
    let e = c.args.entity in
    let here = subst (λ (x : Array). NearlyStandsAt g.S.Store.holds x c.args.places.now s) (sym (over-same A B array c.still_needed.ensures.keeps.written)) stands in
    settles-needed g.P.Pages.attempt g.P.Pages.follows g.P.Pages.asked (laws g) g.S.Store.holds array c.args.places.now c.args.entity s c.args.pages.now c.still_needed.new.pages c.in-Ok-Some.refusal
    (subst (λ (o : Outline). Finds (g.P.Pages.asked c.args.pages.now c.still_needed.new.pages) A B array (λ refusal. refusal ≡ still_needed s e) (deleted o e.ty) (Ok (Some c.in-Ok-Some.refusal))) (sym same)
    (subst (λ (r : Option Refusal). Finds (g.P.Pages.asked c.args.pages.now c.still_needed.new.pages) A B array (λ refusal. refusal ≡ still_needed s e) (deleted c.args.schema.now e.ty) (Ok r)) c.in-Ok-Some.field-0-is
    (c.in-Ok-Some.ensures.finds array s agrees same stands live)))
    here

pub returns-in-Err-clause-turns : goal.returns-in-Err-clause-turns
returns-in-Err-clause-turns g c = λ array s agrees same stands live.
    let A = g.P.Pages.attempt c.args.pages.now in
    let B = g.P.Pages.attempt c.still_needed.new.pages in
    let e = c.args.entity in
    settles-early g.P.Pages.attempt g.P.Pages.follows g.P.Pages.asked (laws g) g.S.Store.holds array c.args.places.now c.args.entity s c.args.pages.now c.still_needed.new.pages c.in-Err.fault
    (subst (λ (o : Outline). Finds {A = Option Refusal} (g.P.Pages.asked c.args.pages.now c.still_needed.new.pages) A B array (λ refusal. refusal ≡ still_needed s e) (deleted o e.ty) (Err c.in-Err.fault)) (sym same) (c.in-Err.ensures.finds array s agrees same stands live))
    c.in-Err.ensures.keeps.looks
