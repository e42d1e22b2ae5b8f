use Rattle.std.proofs.Common.{◌≡◌, ℕ, ◌++◌, List, [], ◌∷◌, refl, sym, ap, ◌∙◌, subst, append_assoc, append-nil}
use Rattle.std.specs.Prelude.{Option, ◌⊎◌, IsSome}
use Rattle.st_values.specs.declared.value.EntityId.{EntityId}
use Rattle.st_pages.specs.Attempt.{over}
use Rattle.st_pages.specs.Calls.{no_page}
use Rattle.st_pages.specs.Reading.{ForEach}
use Rattle.st_pages.proofs.Carried.{Stays, under}
use Rattle.st_state.specs.State.{Pair}
use Rattle.st_index.specs.Turned.{AreOfPairs}
use Rattle.st_index.specs.Bad.{AreNamed, HasBadPair}
use Rattle.st_index.specs.Found.{front_with, IsNext}
use Rattle.st_index.proofs.Called.{earlier}
use Rattle.st_index.proofs.Changes.{damage-weaken}
use Rattle.st_index.proofs.Looked.{push-ok}
use Rattle.st_index.proofs.reading.gather.Goals as goal

pub returns-then-is_err-clause-asked : goal.returns-then-is_err-clause-asked
returns-then-is_err-clause-asked g c =
    let laws = g.met.P.Pages in
    let attempt = g.P.Pages.attempt in
    let place = g.S.Store.location c.args.store.now in
    let kind = c.args.attribute.now.kind in
    let value = c.args.value.now in
    let A = attempt c.args.pages.now in
    let B = attempt c.loop-entity.pages in
    let C = attempt c.next_with.new.pages in
    let stays : Stays B C = laws.seen_stays c.loop-entity.pages c.next_with.new.pages c.next_with.ensures.follows in
    λ pages agrees sits.
    let mid = earlier B C pages stays agrees in
    laws.asked_on c.args.pages.now c.loop-entity.pages c.next_with.new.pages (g.S.Store.reach place (over A pages)) no_page 0 0 c.loop-entity.invariant.follows c.next_with.ensures.follows (c.loop-entity.invariant.asked pages mid sits)
    (under A B C (λ a. g.S.Store.sits place a c.loop-entity.cursor → g.P.Pages.asked c.loop-entity.pages c.next_with.new.pages (g.S.Store.reach place a) no_page 0) c.loop-entity.invariant.written c.next_with.ensures.asked pages agrees
    (c.loop-entity.invariant.sits pages mid sits))

pub returns-in-Ok-None-clause-asked : goal.returns-in-Ok-None-clause-asked
returns-in-Ok-None-clause-asked g c =
    let laws = g.met.P.Pages in
    let attempt = g.P.Pages.attempt in
    let place = g.S.Store.location c.args.store.now in
    let kind = c.args.attribute.now.kind in
    let value = c.args.value.now in
    let A = attempt c.args.pages.now in
    let B = attempt c.loop-entity.pages in
    let C = attempt c.next_with.new.pages in
    let stays : Stays B C = laws.seen_stays c.loop-entity.pages c.next_with.new.pages c.next_with.ensures.follows in
    λ pages agrees sits.
    let mid = earlier B C pages stays agrees in
    laws.asked_on c.args.pages.now c.loop-entity.pages c.next_with.new.pages (g.S.Store.reach place (over A pages)) no_page 0 0 c.loop-entity.invariant.follows c.next_with.ensures.follows (c.loop-entity.invariant.asked pages mid sits)
    (under A B C (λ a. g.S.Store.sits place a c.loop-entity.cursor → g.P.Pages.asked c.loop-entity.pages c.next_with.new.pages (g.S.Store.reach place a) no_page 0) c.loop-entity.invariant.written c.next_with.ensures.asked pages agrees
    (c.loop-entity.invariant.sits pages mid sits))

pub returns-in-Err-clause-asked : goal.returns-in-Err-clause-asked
returns-in-Err-clause-asked g c =
    let laws = g.met.P.Pages in
    let attempt = g.P.Pages.attempt in
    let place = g.S.Store.location c.args.store.now in
    let kind = c.args.attribute.now.kind in
    let value = c.args.value.now in
    let A = attempt c.args.pages.now in
    let B = attempt c.loop-entity.pages in
    let C = attempt c.next_with.new.pages in
    let stays : Stays B C = laws.seen_stays c.loop-entity.pages c.next_with.new.pages c.next_with.ensures.follows in
    λ pages agrees sits.
    let mid = earlier B C pages stays agrees in
    laws.asked_on c.args.pages.now c.loop-entity.pages c.next_with.new.pages (g.S.Store.reach place (over A pages)) no_page 0 0 c.loop-entity.invariant.follows c.next_with.ensures.follows (c.loop-entity.invariant.asked pages mid sits)
    (under A B C (λ a. g.S.Store.sits place a c.loop-entity.cursor → g.P.Pages.asked c.loop-entity.pages c.next_with.new.pages (g.S.Store.reach place a) no_page 0) c.loop-entity.invariant.written c.next_with.ensures.asked pages agrees
    (c.loop-entity.invariant.sits pages mid sits))

pub returns-in-Err-clause-follows : goal.returns-in-Err-clause-follows
returns-in-Err-clause-follows g c = g.met.P.Pages.follows_on c.args.pages.now c.loop-entity.pages c.next_with.new.pages c.loop-entity.invariant.follows c.next_with.ensures.follows

pub loop-entity-preserved : goal.loop-entity-preserved
loop-entity-preserved g c =
    let laws = g.met.P.Pages in
    let attempt = g.P.Pages.attempt in
    let place = g.S.Store.location c.args.store.now in
    let kind = c.args.attribute.now.kind in
    let value = c.args.value.now in
    let A = attempt c.args.pages.now in
    let B = attempt c.loop-entity.pages in
    let C = attempt c.next_with.new.pages in
    let stays : Stays B C = laws.seen_stays c.loop-entity.pages c.next_with.new.pages c.next_with.ensures.follows in
    record {
      follows = laws.follows_on c.args.pages.now c.loop-entity.pages c.next_with.new.pages c.loop-entity.invariant.follows c.next_with.ensures.follows;
      written = c.next_with.ensures.written ∙ c.loop-entity.invariant.written;
      fits = c.next_with.ensures.fits;
      asked = λ pages agrees sits.
          let mid = earlier B C pages stays agrees in
          laws.asked_on c.args.pages.now c.loop-entity.pages c.next_with.new.pages (g.S.Store.reach place (over A pages)) no_page 0 0 c.loop-entity.invariant.follows c.next_with.ensures.follows (c.loop-entity.invariant.asked pages mid sits)
          (under A B C (λ a. g.S.Store.sits place a c.loop-entity.cursor → g.P.Pages.asked c.loop-entity.pages c.next_with.new.pages (g.S.Store.reach place a) no_page 0) c.loop-entity.invariant.written c.next_with.ensures.asked pages agrees
          (c.loop-entity.invariant.sits pages mid sits));
      sits = λ pages agrees sits.
          let mid = earlier B C pages stays agrees in
          under A B C (λ a. g.S.Store.sits place a c.loop-entity.cursor → g.S.Store.sits place a c.next_with.new.cursor) c.loop-entity.invariant.written c.in-Ok-Some.ensures.sits pages agrees (c.loop-entity.invariant.sits pages mid sits);
      found = λ pages agrees rest ahead pairs are.
          let mid = earlier B C pages stays agrees in
          let far = c.loop-entity.invariant.found pages mid rest ahead pairs are in
          let next = under A B C (λ a. (rest : List (List ℕ)) → g.S.Store.ahead place a c.loop-entity.cursor rest → (pairs : List Pair) → AreOfPairs kind rest pairs → IsNext (g.S.Store.ahead place a c.next_with.new.cursor) kind value pairs c.in-Ok-Some.field-0)
          c.loop-entity.invariant.written c.in-Ok-Some.ensures.next pages agrees far.0 far.2 far.1 far.3 in
          let on = subst (λ (o : Option EntityId). IsNext (g.S.Store.ahead place (over A pages) c.next_with.new.cursor) kind value far.1 o) c.in-Ok-Some.field-0-is next in
          let pushed = push-ok (c.push.new.self ≡ c.loop-entity.found ++ c.in-Ok-Some.entity ∷ []) c.push.result c.is_err.result c.is_err.ensures.value c.if-is_err.false c.push.ensures.ok in (
            on.0,
            on.1,
            on.2,
            on.3,
            far.4 ∙ ap (λ (l : List EntityId). c.loop-entity.found ++ l) on.4 ∙ sym (append_assoc c.loop-entity.found (c.in-Ok-Some.entity ∷ []) (front_with value on.1)) ∙ ap (λ (l : List EntityId). l ++ front_with value on.1) (sym pushed),
          );
      named = λ pages agrees rest ahead are.
          let mid = earlier B C pages stays agrees in
          let far = c.loop-entity.invariant.named pages mid rest ahead are in
          let some = subst (λ (o : Option EntityId). IsSome o) (sym c.in-Ok-Some.field-0-is) refl in
          under A B C (λ a. (rest : List (List ℕ)) → g.S.Store.ahead place a c.loop-entity.cursor rest → AreNamed c.args.schema.now c.args.attribute.now rest →
          (others : List (List ℕ)) × g.S.Store.ahead place a c.next_with.new.cursor others × AreNamed c.args.schema.now c.args.attribute.now others)
          c.loop-entity.invariant.written (c.in-Ok-Some.ensures.named some) pages agrees far.0 far.1 far.2;
    }

pub returns-in-Ok-None-clause-found : goal.returns-in-Ok-None-clause-found
returns-in-Ok-None-clause-found g c =
    let laws = g.met.P.Pages in
    let attempt = g.P.Pages.attempt in
    let place = g.S.Store.location c.args.store.now in
    let kind = c.args.attribute.now.kind in
    let value = c.args.value.now in
    let A = attempt c.args.pages.now in
    let B = attempt c.loop-entity.pages in
    let C = attempt c.next_with.new.pages in
    let stays : Stays B C = laws.seen_stays c.loop-entity.pages c.next_with.new.pages c.next_with.ensures.follows in
    λ pages agrees rest ahead pairs are.
    let mid = earlier B C pages stays agrees in
    let far = c.loop-entity.invariant.found pages mid rest ahead pairs are in
    let next = under A B C (λ a. (rest : List (List ℕ)) → g.S.Store.ahead place a c.loop-entity.cursor rest → (pairs : List Pair) → AreOfPairs kind rest pairs → IsNext (g.S.Store.ahead place a c.next_with.new.cursor) kind value pairs c.in-Ok-None.field-0)
    c.loop-entity.invariant.written c.in-Ok-None.ensures.next pages agrees far.0 far.2 far.1 far.3 in
    let on = subst (λ (o : Option EntityId). IsNext (g.S.Store.ahead place (over A pages) c.next_with.new.cursor) kind value far.1 o) c.in-Ok-None.field-0-is next in
    sym (far.4 ∙ ap (λ (l : List EntityId). c.loop-entity.found ++ l) on ∙ append-nil c.loop-entity.found)

pub returns-in-Err-clause-bad : goal.returns-in-Err-clause-bad
returns-in-Err-clause-bad g c =
    let laws = g.met.P.Pages in
    let attempt = g.P.Pages.attempt in
    let place = g.S.Store.location c.args.store.now in
    let kind = c.args.attribute.now.kind in
    let value = c.args.value.now in
    let A = attempt c.args.pages.now in
    let B = attempt c.loop-entity.pages in
    let C = attempt c.next_with.new.pages in
    let stays : Stays B C = laws.seen_stays c.loop-entity.pages c.next_with.new.pages c.next_with.ensures.follows in
    damage-weaken (λ page at. ForEach B C (λ array. g.S.Store.sits place array c.loop-entity.cursor → g.S.Store.bad place array page at ⊎ HasBadPair c.args.schema.now c.args.attribute.now place g.S.Store.reach array page at))
    (λ page at. ForEach A C (λ array. g.S.Store.sits place array c.args.cursor → g.S.Store.bad place array page at ⊎ HasBadPair c.args.schema.now c.args.attribute.now place g.S.Store.reach array page at))
    (λ page at wrong pages agrees sits.
    let mid = earlier B C pages stays agrees in
    under A B C (λ a. g.S.Store.sits place a c.loop-entity.cursor → g.S.Store.bad place a page at ⊎ HasBadPair c.args.schema.now c.args.attribute.now place g.S.Store.reach a page at) c.loop-entity.invariant.written wrong pages agrees
    (c.loop-entity.invariant.sits pages mid sits))
    c.in-Err.fault c.in-Err.ensures.bad

pub returns-in-Err-clause-sound : goal.returns-in-Err-clause-sound
returns-in-Err-clause-sound g c =
    let laws = g.met.P.Pages in
    let attempt = g.P.Pages.attempt in
    let place = g.S.Store.location c.args.store.now in
    let schema = c.args.schema.now in
    let a = c.args.attribute.now in
    let A = attempt c.args.pages.now in
    let B = attempt c.loop-entity.pages in
    let C = attempt c.next_with.new.pages in
    let stays : Stays B C = laws.seen_stays c.loop-entity.pages c.next_with.new.pages c.next_with.ensures.follows in
    damage-weaken (λ page at. ForEach B C (λ array. (rest : List (List ℕ)) → g.S.Store.ahead place array c.loop-entity.cursor rest → AreNamed schema a rest → g.S.Store.bad place array page at))
    (λ page at. ForEach A C (λ array. (rest : List (List ℕ)) → g.S.Store.ahead place array c.args.cursor rest → AreNamed schema a rest → g.S.Store.bad place array page at))
    (λ page at wrong pages agrees rest ahead are.
    let mid = earlier B C pages stays agrees in
    let far = c.loop-entity.invariant.named pages mid rest ahead are in
    under A B C (λ x. (rest : List (List ℕ)) → g.S.Store.ahead place x c.loop-entity.cursor rest → AreNamed schema a rest → g.S.Store.bad place x page at) c.loop-entity.invariant.written wrong pages agrees far.0 far.1 far.2)
    c.in-Err.fault c.in-Err.ensures.sound
