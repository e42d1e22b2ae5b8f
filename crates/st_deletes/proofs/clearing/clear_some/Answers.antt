use Rattle.std.proofs.Common.{◌≡◌, ◌+◌, ◌<◌, ◌≤◌, true, List, [], length, take, Some, Ok, Err, IsTrue, sym, ◌∙◌, subst, arith}
use Rattle.std.specs.List.{list_all}
use Rattle.std.proofs.lemmas.List.{take_all}
use Rattle.std.proofs.lemmas.List.Elements.{All-more}
use Rattle.st_lattice.specs.declared.attribute.Attribute.{Attribute}
use Rattle.st_lattice.specs.Outline.{attribute}
use Rattle.st_pages.proofs.Carried.{Stays}
use Rattle.st_index.proofs.Called.{PageLaws, earlier}
use Rattle.st_removals.specs.Clears.{Clears}
use Rattle.st_deletes.specs.Cleared.{AreCleared, is_cleared}
use Rattle.st_deletes.proofs.Lasting.{cleared-stay, live-stays, number-stays}
use Rattle.st_deletes.proofs.Stepwise.{clears-begin, clears-fail, clears-then}
use Rattle.st_deletes.proofs.clearing.clear_some.Given as given
use Rattle.st_deletes.proofs.clearing.clear_some.Goals as goal

laws : (g : given.Over) → PageLaws g.P.Pages.attempt g.P.Pages.follows g.P.Pages.asked
laws g = record {
  is_sound = g.met.P.Pages.is_sound;
  seen_stays = g.met.P.Pages.seen_stays;
  drawn_stays = g.met.P.Pages.drawn_stays;
  drawn_unwritten = g.met.P.Pages.drawn_unwritten;
  follows_on = g.met.P.Pages.follows_on;
  asked_more = g.met.P.Pages.asked_more;
  asked_on = g.met.P.Pages.asked_on;
  asked_tells = g.met.P.Pages.asked_tells;
}

pub loop-attribute-init : goal.loop-attribute-init
loop-attribute-init g c = record {
  follows = g.met.P.Pages.follows_itself c.args.pages.now;
  kinds = λ puts. puts;
  clears = λ array s agrees same stands live all. clears-begin g.P.Pages.attempt g.P.Pages.follows g.P.Pages.asked (laws g) g.S.Store.holds array c.args.places.now c.args.entity g.met.P.Pages.asked_nothing c.args.pages.now s (AreCleared c.args.entity ([])) (tt {0}) stands (λ k d l. absurd (omega (arith, l)));
}

pub loop-attribute-preserved : goal.loop-attribute-preserved
loop-attribute-preserved g c =
    let A = g.P.Pages.attempt c.args.pages.now in
    let B = g.P.Pages.attempt c.loop-attribute.pages in
    let C = g.P.Pages.attempt c.clear_attribute.new.pages in
    let e = c.args.entity in
    let xs = c.args.attributes.now in
    let i = c.loop-attribute.attribute-index in
    let x : Attribute = c.attribute-item.result in
    let within : i < length xs = omega arith in
    let stays : Stays B C = g.met.P.Pages.seen_stays c.loop-attribute.pages c.clear_attribute.new.pages c.clear_attribute.ensures.follows in
    record {
      follows = g.met.P.Pages.follows_on c.args.pages.now c.loop-attribute.pages c.clear_attribute.new.pages c.loop-attribute.invariant.follows c.clear_attribute.ensures.follows;
      kinds = λ puts. c.clear_attribute.ensures.kinds (c.loop-attribute.invariant.kinds puts);
      clears = λ array s agrees same stands live all.
          clears-then g.P.Pages.attempt g.P.Pages.follows g.P.Pages.asked (laws g) g.S.Store.holds array c.args.places.now e c.args.pages.now c.loop-attribute.pages c.clear_attribute.new.pages c.loop-attribute.invariant.follows c.clear_attribute.ensures.follows s
          (AreCleared e (take i xs)) (λ t. IsTrue (list_all (is_cleared x e) t.triples)) (AreCleared e (take (i + 1) xs)) (tt {0}) (Ok (tt {0}))
          (c.loop-attribute.invariant.clears array s (earlier B C array stays agrees) same stands live all)
          (λ t less nearly had. c.in-Ok.ensures.clears array t agrees (less.schema ∙ same) nearly (live-stays e s t less e live) (number-stays e s t less x.number x (subst (λ (a : Attribute). attribute s.schema a.number ≡ Some a) (sym c.attribute-item.is) (all i x within))))
          (λ t u less had next found. All-more (λ a. list_all (is_cleared a e) u.triples ≡ true) xs i x within (cleared-stay e t u next e (take i xs) had) (subst (λ (a : Attribute). list_all (is_cleared a e) u.triples ≡ true) c.attribute-item.is found));
    }

pub returns-in-Err-clause-follows : goal.returns-in-Err-clause-follows
returns-in-Err-clause-follows g c = g.met.P.Pages.follows_on c.args.pages.now c.loop-attribute.pages c.clear_attribute.new.pages c.loop-attribute.invariant.follows c.clear_attribute.ensures.follows

pub returns-in-Err-clause-kinds : goal.returns-in-Err-clause-kinds
returns-in-Err-clause-kinds g c = λ puts. c.clear_attribute.ensures.kinds (c.loop-attribute.invariant.kinds puts)

pub returns-in-Err-clause-clears : goal.returns-in-Err-clause-clears
returns-in-Err-clause-clears g c = λ array s agrees same stands live all.
    let A = g.P.Pages.attempt c.args.pages.now in
    let B = g.P.Pages.attempt c.loop-attribute.pages in
    let C = g.P.Pages.attempt c.clear_attribute.new.pages in
    let e = c.args.entity in
    let xs = c.args.attributes.now in
    let i = c.loop-attribute.attribute-index in
    let x : Attribute = c.attribute-item.result in
    let within : i < length xs = omega arith in
    let stays : Stays B C = g.met.P.Pages.seen_stays c.loop-attribute.pages c.clear_attribute.new.pages c.clear_attribute.ensures.follows in
    clears-fail g.P.Pages.attempt g.P.Pages.follows g.P.Pages.asked (laws g) g.S.Store.holds array c.args.places.now e c.args.pages.now c.clear_attribute.new.pages s (AreCleared e (take (i + 1) xs)) (AreCleared e (xs)) c.in-Err.fault
    (clears-then g.P.Pages.attempt g.P.Pages.follows g.P.Pages.asked (laws g) g.S.Store.holds array c.args.places.now e c.args.pages.now c.loop-attribute.pages c.clear_attribute.new.pages c.loop-attribute.invariant.follows c.clear_attribute.ensures.follows s
    (AreCleared e (take i xs)) (λ t. IsTrue (list_all (is_cleared x e) t.triples)) (AreCleared e (take (i + 1) xs)) (tt {0}) (Err c.in-Err.fault)
    (c.loop-attribute.invariant.clears array s (earlier B C array stays agrees) same stands live all)
    (λ t less nearly had. c.in-Err.ensures.clears array t agrees (less.schema ∙ same) nearly (live-stays e s t less e live) (number-stays e s t less x.number x (subst (λ (a : Attribute). attribute s.schema a.number ≡ Some a) (sym c.attribute-item.is) (all i x within))))
    (λ t u less had next found. All-more (λ a. list_all (is_cleared a e) u.triples ≡ true) xs i x within (cleared-stay e t u next e (take i xs) had) (subst (λ (a : Attribute). list_all (is_cleared a e) u.triples ≡ true) c.attribute-item.is found)))

pub returns-clause-clears : goal.returns-clause-clears
returns-clause-clears g c = λ array s agrees same stands live all.
    let e = c.args.entity in
    let xs = c.args.attributes.now in
    let past : length xs ≤ c.loop-attribute.attribute-index = omega arith in
    subst (λ (l : List Attribute). Clears {A = Unit {0}} g.S.Store.holds (g.P.Pages.asked c.args.pages.now c.loop-attribute.pages) (g.P.Pages.attempt c.args.pages.now) (g.P.Pages.attempt c.loop-attribute.pages) array c.args.places.now e s (AreCleared e (l)) (Ok (tt {0}))) (take_all c.loop-attribute.attribute-index xs past)
    (c.loop-attribute.invariant.clears array s agrees same stands live all)
