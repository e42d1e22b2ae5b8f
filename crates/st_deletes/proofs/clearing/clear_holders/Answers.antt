use Rattle.std.proofs.Common.{◌≡◌, ◌+◌, ◌<◌, ◌≤◌, true, false, List, [], length, take, get_or, Ok, Err, IsTrue, ◌∙◌, subst, arith}
use Rattle.std.specs.List.{list_all}
use Rattle.std.proofs.lemmas.List.{take_all}
use Rattle.std.proofs.lemmas.List.Elements.{All-more}
use Rattle.st_values.specs.declared.value.EntityId.{EntityId}
use Rattle.st_values.specs.Order.{same_entity}
use Rattle.st_pages.proofs.Carried.{Stays}
use Rattle.st_index.proofs.Called.{PageLaws, earlier}
use Rattle.st_removals.specs.Clears.{Clears}
use Rattle.st_deletes.specs.Cleared.{AreUnheld, is_unheld}
use Rattle.st_deletes.proofs.Lasting.{holder-stays, live-stays, number-stays, unheld-stay}
use Rattle.st_deletes.proofs.Stepwise.{clears-begin, clears-fail, clears-then}
use Rattle.st_deletes.proofs.clearing.clear_holders.Given as given
use Rattle.st_deletes.proofs.clearing.clear_holders.Goals as goal

laws : (g : given.Over) → PageLaws g.P.Pages.attempt g.P.Pages.follows g.P.Pages.asked
laws g = record {
  is_sound = g.met.P.Pages.is_sound;
  seen_stays = g.met.P.Pages.seen_stays;
  drawn_stays = g.met.P.Pages.drawn_stays;
  drawn_unwritten = g.met.P.Pages.drawn_unwritten;
  follows_on = g.met.P.Pages.follows_on;
  asked_more = g.met.P.Pages.asked_more;
  asked_on = g.met.P.Pages.asked_on;
  asked_tells = g.met.P.Pages.asked_tells;
}

pub loop-holder-init : goal.loop-holder-init
loop-holder-init g c = record {
  follows = g.met.P.Pages.follows_itself c.args.pages.now;
  kinds = λ puts. puts;
  clears = λ array s agrees same stands live f names all. clears-begin g.P.Pages.attempt g.P.Pages.follows g.P.Pages.asked (laws g) g.S.Store.holds array c.args.places.now c.args.entity g.met.P.Pages.asked_nothing c.args.pages.now s (AreUnheld c.args.attribute.now.number c.args.entity ([])) (tt {0}) stands (λ k d l. absurd (omega (arith, l)));
}

pub loop-holder-preserved : goal.loop-holder-preserved
loop-holder-preserved g c =
    let A = g.P.Pages.attempt c.args.pages.now in
    let B = g.P.Pages.attempt c.loop-holder.pages in
    let C = g.P.Pages.attempt c.clear_holder.new.pages in
    let e = c.args.entity in
    let xs = c.args.holders.now in
    let i = c.loop-holder.holder-index in
    let d : EntityId = record { ty = 0; serial = 0 } in
    let x : EntityId = get_or xs i d in
    let within : i < length xs = omega arith in
    let stays : Stays B C = g.met.P.Pages.seen_stays c.loop-holder.pages c.clear_holder.new.pages c.clear_holder.ensures.follows in
    record {
      follows = g.met.P.Pages.follows_on c.args.pages.now c.loop-holder.pages c.clear_holder.new.pages c.loop-holder.invariant.follows c.clear_holder.ensures.follows;
      kinds = λ puts. c.clear_holder.ensures.kinds (c.loop-holder.invariant.kinds puts);
      clears = λ array s agrees same stands live f names all.
          clears-then g.P.Pages.attempt g.P.Pages.follows g.P.Pages.asked (laws g) g.S.Store.holds array c.args.places.now e c.args.pages.now c.loop-holder.pages c.clear_holder.new.pages c.loop-holder.invariant.follows c.clear_holder.ensures.follows s
          (AreUnheld c.args.attribute.now.number e (take i xs)) (λ t. same_entity x e ≡ false → IsTrue (list_all (is_unheld c.args.attribute.now.number e x) t.triples)) (AreUnheld c.args.attribute.now.number e (take (i + 1) xs)) (tt {0}) (Ok (tt {0}))
          (c.loop-holder.invariant.clears array s (earlier B C array stays agrees) same stands live f names all)
          (λ t less nearly had. c.in-Ok.ensures.clears array t agrees (less.schema ∙ same) nearly (live-stays e s t less e live) (number-stays e s t less c.args.attribute.now.number c.args.attribute.now f) names (holder-stays e s t less c.args.attribute.now x (all i d within)))
          (λ t u less had next found. All-more (λ h. same_entity h e ≡ false → list_all (is_unheld c.args.attribute.now.number e h) u.triples ≡ true) xs i d within (unheld-stay e t u next c.args.attribute.now.number e (take i xs) had) found);
    }

pub returns-in-Err-clause-follows : goal.returns-in-Err-clause-follows
returns-in-Err-clause-follows g c = g.met.P.Pages.follows_on c.args.pages.now c.loop-holder.pages c.clear_holder.new.pages c.loop-holder.invariant.follows c.clear_holder.ensures.follows

pub returns-in-Err-clause-kinds : goal.returns-in-Err-clause-kinds
returns-in-Err-clause-kinds g c = λ puts. c.clear_holder.ensures.kinds (c.loop-holder.invariant.kinds puts)

pub returns-in-Err-clause-clears : goal.returns-in-Err-clause-clears
returns-in-Err-clause-clears g c = λ array s agrees same stands live f names all.
    let A = g.P.Pages.attempt c.args.pages.now in
    let B = g.P.Pages.attempt c.loop-holder.pages in
    let C = g.P.Pages.attempt c.clear_holder.new.pages in
    let e = c.args.entity in
    let xs = c.args.holders.now in
    let i = c.loop-holder.holder-index in
    let d : EntityId = record { ty = 0; serial = 0 } in
    let x : EntityId = get_or xs i d in
    let within : i < length xs = omega arith in
    let stays : Stays B C = g.met.P.Pages.seen_stays c.loop-holder.pages c.clear_holder.new.pages c.clear_holder.ensures.follows in
    clears-fail g.P.Pages.attempt g.P.Pages.follows g.P.Pages.asked (laws g) g.S.Store.holds array c.args.places.now e c.args.pages.now c.clear_holder.new.pages s (AreUnheld c.args.attribute.now.number e (take (i + 1) xs)) (AreUnheld c.args.attribute.now.number e (xs)) c.in-Err.fault
    (clears-then g.P.Pages.attempt g.P.Pages.follows g.P.Pages.asked (laws g) g.S.Store.holds array c.args.places.now e c.args.pages.now c.loop-holder.pages c.clear_holder.new.pages c.loop-holder.invariant.follows c.clear_holder.ensures.follows s
    (AreUnheld c.args.attribute.now.number e (take i xs)) (λ t. same_entity x e ≡ false → IsTrue (list_all (is_unheld c.args.attribute.now.number e x) t.triples)) (AreUnheld c.args.attribute.now.number e (take (i + 1) xs)) (tt {0}) (Err c.in-Err.fault)
    (c.loop-holder.invariant.clears array s (earlier B C array stays agrees) same stands live f names all)
    (λ t less nearly had. c.in-Err.ensures.clears array t agrees (less.schema ∙ same) nearly (live-stays e s t less e live) (number-stays e s t less c.args.attribute.now.number c.args.attribute.now f) names (holder-stays e s t less c.args.attribute.now x (all i d within)))
    (λ t u less had next found. All-more (λ h. same_entity h e ≡ false → list_all (is_unheld c.args.attribute.now.number e h) u.triples ≡ true) xs i d within (unheld-stay e t u next c.args.attribute.now.number e (take i xs) had) found))

pub returns-clause-clears : goal.returns-clause-clears
returns-clause-clears g c = λ array s agrees same stands live f names all.
    let e = c.args.entity in
    let xs = c.args.holders.now in
    let past : length xs ≤ c.loop-holder.holder-index = omega arith in
    subst (λ (l : List EntityId). Clears {A = Unit {0}} g.S.Store.holds (g.P.Pages.asked c.args.pages.now c.loop-holder.pages) (g.P.Pages.attempt c.args.pages.now) (g.P.Pages.attempt c.loop-holder.pages) array c.args.places.now e s (AreUnheld c.args.attribute.now.number e (l)) (Ok (tt {0}))) (take_all c.loop-holder.holder-index xs past)
    (c.loop-holder.invariant.clears array s agrees same stands live f names all)
