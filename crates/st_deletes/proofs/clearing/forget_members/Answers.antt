use Rattle.std.proofs.Common.{◌≡◌, ◌+◌, ◌<◌, ◌≤◌, true, List, [], length, take, Ok, Err, IsTrue, sym, ◌∙◌, subst, arith}
use Rattle.std.specs.List.{list_all}
use Rattle.std.proofs.lemmas.List.{take_all}
use Rattle.std.proofs.lemmas.List.Elements.{All-more}
use Rattle.st_values.specs.declared.value.Value.{Value}
use Rattle.st_values.specs.declared.value.Value.TheVariants.{Entity}
use Rattle.st_values.specs.Order.{same_entity, same_value}
use Rattle.st_values.proofs.Entities.{same_entity-itself}
use Rattle.st_values.proofs.Tests.{first-of}
use Rattle.st_pages.proofs.Carried.{Stays}
use Rattle.st_state.specs.State.{State, member_taken}
use Rattle.st_state.specs.Calls.{CanHold}
use Rattle.st_index.proofs.Called.{PageLaws, earlier}
use Rattle.st_removals.specs.Clears.{Clears}
use Rattle.st_deletes.specs.Cleared.{AreWithout, is_without}
use Rattle.st_deletes.proofs.Holders.{taken-without}
use Rattle.st_deletes.proofs.Lasting.{hold-stays, live-stays, set-stays, without-stay}
use Rattle.st_deletes.proofs.Stepwise.{clears-begin, clears-fail, clears-less, clears-then}
use Rattle.st_deletes.proofs.clearing.forget_members.Given as given
use Rattle.st_deletes.proofs.clearing.forget_members.Goals as goal

laws : (g : given.Over) → PageLaws g.P.Pages.attempt g.P.Pages.follows g.P.Pages.asked
laws g = record {
  is_sound = g.met.P.Pages.is_sound;
  seen_stays = g.met.P.Pages.seen_stays;
  drawn_stays = g.met.P.Pages.drawn_stays;
  drawn_unwritten = g.met.P.Pages.drawn_unwritten;
  follows_on = g.met.P.Pages.follows_on;
  asked_more = g.met.P.Pages.asked_more;
  asked_on = g.met.P.Pages.asked_on;
  asked_tells = g.met.P.Pages.asked_tells;
}

pub loop-value-init : goal.loop-value-init
loop-value-init g c = record {
  follows = g.met.P.Pages.follows_itself c.args.pages.now;
  kinds = λ puts. puts;
  clears = λ array s agrees same stands live has all. clears-begin g.P.Pages.attempt g.P.Pages.follows g.P.Pages.asked (laws g) g.S.Store.holds array c.args.places.now c.args.entity g.met.P.Pages.asked_nothing c.args.pages.now s (AreWithout c.args.number c.args.entity ([])) (tt {0}) stands (λ k d l. absurd (omega (arith, l)));
}

pub loop-value-preserved : goal.loop-value-preserved
loop-value-preserved g c =
    let A = g.P.Pages.attempt c.args.pages.now in
    let B = g.P.Pages.attempt c.loop-value.pages in
    let C = g.P.Pages.attempt c.forget.new.pages in
    let e = c.args.entity in
    let xs = c.args.values.now in
    let i = c.loop-value.value-index in
    let x : Value = c.value-item.result in
    let within : i < length xs = omega arith in
    let stays : Stays B C = g.met.P.Pages.seen_stays c.loop-value.pages c.forget.new.pages c.forget.ensures.follows in
    record {
      follows = g.met.P.Pages.follows_on c.args.pages.now c.loop-value.pages c.forget.new.pages c.loop-value.invariant.follows c.forget.ensures.follows;
      kinds = λ puts. c.forget.ensures.kinds (c.loop-value.invariant.kinds puts);
      clears = λ array s agrees same stands live has all.
          clears-then g.P.Pages.attempt g.P.Pages.follows g.P.Pages.asked (laws g) g.S.Store.holds array c.args.places.now e c.args.pages.now c.loop-value.pages c.forget.new.pages c.loop-value.invariant.follows c.forget.ensures.follows s
          (AreWithout c.args.number e (take i xs)) (λ t. IsTrue (list_all (is_without c.args.number e x) t.triples)) (AreWithout c.args.number e (take (i + 1) xs)) (tt {0}) (Ok (tt {0}))
          (c.loop-value.invariant.clears array s (earlier B C array stays agrees) same stands live has all)
          (λ t less nearly had. clears-less g.P.Pages.attempt g.P.Pages.follows g.P.Pages.asked (laws g) g.S.Store.holds array c.args.places.now e c.loop-value.pages c.forget.new.pages t (λ u. u ≡ member_taken t c.args.number e x) (λ u. IsTrue (list_all (is_without c.args.number e x) u.triples)) (Ok (tt {0}))
          (λ u smaller near is. subst (λ (o : State). list_all (is_without c.args.number e x) o.triples ≡ true) (sym is) (taken-without c.args.number e x t))
          (c.in-Ok.ensures.clears array t agrees (less.schema ∙ same) nearly (set-stays e s t less e c.args.number has, hold-stays e s t less c.args.number x (subst (CanHold s c.args.number) (sym c.value-item.is) (all i x within)))
          e (live-stays e s t less e live) (first-of (same_entity e e) (same_value x (Entity e)) (same_entity-itself e))))
          (λ t u less had next found. All-more (λ v. list_all (is_without c.args.number e v) u.triples ≡ true) xs i x within (without-stay e t u next c.args.number e (take i xs) had) (subst (λ (v : Value). list_all (is_without c.args.number e v) u.triples ≡ true) c.value-item.is found));
    }

pub returns-in-Err-clause-follows : goal.returns-in-Err-clause-follows
returns-in-Err-clause-follows g c = g.met.P.Pages.follows_on c.args.pages.now c.loop-value.pages c.forget.new.pages c.loop-value.invariant.follows c.forget.ensures.follows

pub returns-in-Err-clause-kinds : goal.returns-in-Err-clause-kinds
returns-in-Err-clause-kinds g c = λ puts. c.forget.ensures.kinds (c.loop-value.invariant.kinds puts)

pub returns-in-Err-clause-clears : goal.returns-in-Err-clause-clears
returns-in-Err-clause-clears g c = λ array s agrees same stands live has all.
    let A = g.P.Pages.attempt c.args.pages.now in
    let B = g.P.Pages.attempt c.loop-value.pages in
    let C = g.P.Pages.attempt c.forget.new.pages in
    let e = c.args.entity in
    let xs = c.args.values.now in
    let i = c.loop-value.value-index in
    let x : Value = c.value-item.result in
    let within : i < length xs = omega arith in
    let stays : Stays B C = g.met.P.Pages.seen_stays c.loop-value.pages c.forget.new.pages c.forget.ensures.follows in
    clears-fail g.P.Pages.attempt g.P.Pages.follows g.P.Pages.asked (laws g) g.S.Store.holds array c.args.places.now e c.args.pages.now c.forget.new.pages s (AreWithout c.args.number e (take (i + 1) xs)) (AreWithout c.args.number e (xs)) c.in-Err.fault
    (clears-then g.P.Pages.attempt g.P.Pages.follows g.P.Pages.asked (laws g) g.S.Store.holds array c.args.places.now e c.args.pages.now c.loop-value.pages c.forget.new.pages c.loop-value.invariant.follows c.forget.ensures.follows s
    (AreWithout c.args.number e (take i xs)) (λ t. IsTrue (list_all (is_without c.args.number e x) t.triples)) (AreWithout c.args.number e (take (i + 1) xs)) (tt {0}) (Err c.in-Err.fault)
    (c.loop-value.invariant.clears array s (earlier B C array stays agrees) same stands live has all)
    (λ t less nearly had. clears-less g.P.Pages.attempt g.P.Pages.follows g.P.Pages.asked (laws g) g.S.Store.holds array c.args.places.now e c.loop-value.pages c.forget.new.pages t (λ u. u ≡ member_taken t c.args.number e x) (λ u. IsTrue (list_all (is_without c.args.number e x) u.triples)) (Err c.in-Err.fault)
    (λ u smaller near is. subst (λ (o : State). list_all (is_without c.args.number e x) o.triples ≡ true) (sym is) (taken-without c.args.number e x t))
    (c.in-Err.ensures.clears array t agrees (less.schema ∙ same) nearly (set-stays e s t less e c.args.number has, hold-stays e s t less c.args.number x (subst (CanHold s c.args.number) (sym c.value-item.is) (all i x within)))
    e (live-stays e s t less e live) (first-of (same_entity e e) (same_value x (Entity e)) (same_entity-itself e))))
    (λ t u less had next found. All-more (λ v. list_all (is_without c.args.number e v) u.triples ≡ true) xs i x within (without-stay e t u next c.args.number e (take i xs) had) (subst (λ (v : Value). list_all (is_without c.args.number e v) u.triples ≡ true) c.value-item.is found)))

pub returns-clause-clears : goal.returns-clause-clears
returns-clause-clears g c = λ array s agrees same stands live has all.
    let e = c.args.entity in
    let xs = c.args.values.now in
    let past : length xs ≤ c.loop-value.value-index = omega arith in
    subst (λ (l : List Value). Clears {A = Unit {0}} g.S.Store.holds (g.P.Pages.asked c.args.pages.now c.loop-value.pages) (g.P.Pages.attempt c.args.pages.now) (g.P.Pages.attempt c.loop-value.pages) array c.args.places.now e s (AreWithout c.args.number e (l)) (Ok (tt {0}))) (take_all c.loop-value.value-index xs past)
    (c.loop-value.invariant.clears array s agrees same stands live has all)
