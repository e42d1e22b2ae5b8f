use Rattle.std.proofs.Common.{ℕ, List, ◌∙◌}
use Rattle.std.specs.List.{All}
use Rattle.st_pages.specs.Attempt.{over}
use Rattle.st_pages.specs.Calls.{no_page}
use Rattle.st_pages.specs.Reading.{ForEach}
use Rattle.st_pages.proofs.Carried.{Stays, under}
use Rattle.st_index.proofs.Called.{earlier}
use Rattle.st_index.proofs.Changes.{damage-weaken}
use Rattle.st_lookups.specs.Looks.{Stepped}
use Rattle.st_lookups.proofs.Walked.{TookRows, ahead-have, walk-done, walk-next}
use Rattle.st_lookups.proofs.walks.take_all.Goals as goal

pub returns-in-Ok-false-clause-asked : goal.returns-in-Ok-false-clause-asked
returns-in-Ok-false-clause-asked g c =
    let laws = g.met.P.Pages in
    let attempt = g.P.Pages.attempt in
    let place = g.S.Store.location c.args.store.now in
    let A = attempt c.args.pages.now in
    let B = attempt c.loop-fault.pages in
    let C = attempt c.step.new.pages in
    let stays : Stays B C = laws.seen_stays c.loop-fault.pages c.step.new.pages c.step.ensures.follows in
    λ pages agrees sits.
    let mid = earlier B C pages stays agrees in
    laws.asked_on c.args.pages.now c.loop-fault.pages c.step.new.pages (g.S.Store.reach place (over A pages)) no_page 0 0 c.loop-fault.invariant.follows c.step.ensures.follows (c.loop-fault.invariant.asked pages mid sits)
    (under A B C (λ a. g.S.Store.sits place a c.loop-fault.cursor → g.P.Pages.asked c.loop-fault.pages c.step.new.pages (g.S.Store.reach place a) no_page 0) c.loop-fault.invariant.written c.step.ensures.asked pages agrees
    (c.loop-fault.invariant.sits pages mid sits))

pub returns-in-Err-clause-asked : goal.returns-in-Err-clause-asked
returns-in-Err-clause-asked g c =
    let laws = g.met.P.Pages in
    let attempt = g.P.Pages.attempt in
    let place = g.S.Store.location c.args.store.now in
    let A = attempt c.args.pages.now in
    let B = attempt c.loop-fault.pages in
    let C = attempt c.step.new.pages in
    let stays : Stays B C = laws.seen_stays c.loop-fault.pages c.step.new.pages c.step.ensures.follows in
    λ pages agrees sits.
    let mid = earlier B C pages stays agrees in
    laws.asked_on c.args.pages.now c.loop-fault.pages c.step.new.pages (g.S.Store.reach place (over A pages)) no_page 0 0 c.loop-fault.invariant.follows c.step.ensures.follows (c.loop-fault.invariant.asked pages mid sits)
    (under A B C (λ a. g.S.Store.sits place a c.loop-fault.cursor → g.P.Pages.asked c.loop-fault.pages c.step.new.pages (g.S.Store.reach place a) no_page 0) c.loop-fault.invariant.written c.step.ensures.asked pages agrees
    (c.loop-fault.invariant.sits pages mid sits))

pub loop-fault-preserved : goal.loop-fault-preserved
loop-fault-preserved g c =
    let laws = g.met.P.Pages in
    let attempt = g.P.Pages.attempt in
    let place = g.S.Store.location c.args.store.now in
    let A = attempt c.args.pages.now in
    let B = attempt c.loop-fault.pages in
    let C = attempt c.step.new.pages in
    let T = g.V.Visit.told in
    let stays : Stays B C = laws.seen_stays c.loop-fault.pages c.step.new.pages c.step.ensures.follows in
    record {
      follows = laws.follows_on c.args.pages.now c.loop-fault.pages c.step.new.pages c.loop-fault.invariant.follows c.step.ensures.follows;
      written = c.step.ensures.written ∙ c.loop-fault.invariant.written;
      fits = c.step.ensures.fits;
      asked = λ pages agrees sits.
          let mid = earlier B C pages stays agrees in
          laws.asked_on c.args.pages.now c.loop-fault.pages c.step.new.pages (g.S.Store.reach place (over A pages)) no_page 0 0 c.loop-fault.invariant.follows c.step.ensures.follows (c.loop-fault.invariant.asked pages mid sits)
          (under A B C (λ a. g.S.Store.sits place a c.loop-fault.cursor → g.P.Pages.asked c.loop-fault.pages c.step.new.pages (g.S.Store.reach place a) no_page 0) c.loop-fault.invariant.written c.step.ensures.asked pages agrees
          (c.loop-fault.invariant.sits pages mid sits));
      sits = λ pages agrees sits.
          let mid = earlier B C pages stays agrees in
          under A B C (λ a. g.S.Store.sits place a c.loop-fault.cursor → g.S.Store.sits place a c.step.new.cursor) c.loop-fault.invariant.written c.in-Ok-true.ensures.sits pages agrees (c.loop-fault.invariant.sits pages mid sits);
      wide = λ width h. c.step.ensures.wide width (c.loop-fault.invariant.wide width h);
      sound = λ other h. c.step.ensures.sound other (c.loop-fault.invariant.sound other h);
      goes = c.step.ensures.goes ∙ c.loop-fault.invariant.goes;
      told = λ pages agrees rest ahead.
          let mid = earlier B C pages stays agrees in
          let far = c.loop-fault.invariant.told pages mid rest ahead in
          let on = under A B C (λ a. (rest : List (List ℕ)) → g.S.Store.ahead place a c.loop-fault.cursor rest → Stepped (g.S.Store.ahead place a c.step.new.cursor) (g.V.Visit.goes c.loop-fault.visit) (TookRows T c.loop-fault.visit c.step.new.visit) rest c.in-Ok-true.field-0)
          c.loop-fault.invariant.written c.in-Ok-true.ensures.next pages agrees far.others far.ahead in
          walk-next T (g.S.Store.ahead place (over A pages) c.loop-fault.cursor) (g.S.Store.ahead place (over A pages) c.step.new.cursor) (g.V.Visit.goes c.args.visit.now) (g.V.Visit.goes c.loop-fault.visit) c.args.visit.now c.loop-fault.visit c.step.new.visit rest
          c.in-Ok-true.field-0 c.loop-fault.invariant.goes c.in-Ok-true.field-0-test far on;
    }

pub returns-in-Ok-false-clause-told : goal.returns-in-Ok-false-clause-told
returns-in-Ok-false-clause-told g c =
    let laws = g.met.P.Pages in
    let attempt = g.P.Pages.attempt in
    let place = g.S.Store.location c.args.store.now in
    let A = attempt c.args.pages.now in
    let B = attempt c.loop-fault.pages in
    let C = attempt c.step.new.pages in
    let T = g.V.Visit.told in
    let stays : Stays B C = laws.seen_stays c.loop-fault.pages c.step.new.pages c.step.ensures.follows in
    λ pages agrees rest ahead.
    let mid = earlier B C pages stays agrees in
    let far = c.loop-fault.invariant.told pages mid rest ahead in
    let on = under A B C (λ a. (rest : List (List ℕ)) → g.S.Store.ahead place a c.loop-fault.cursor rest → Stepped (g.S.Store.ahead place a c.step.new.cursor) (g.V.Visit.goes c.loop-fault.visit) (TookRows T c.loop-fault.visit c.step.new.visit) rest c.in-Ok-false.field-0)
    c.loop-fault.invariant.written c.in-Ok-false.ensures.next pages agrees far.others far.ahead in
    walk-done T (g.S.Store.ahead place (over A pages) c.loop-fault.cursor) (g.S.Store.ahead place (over A pages) c.step.new.cursor) (g.V.Visit.goes c.args.visit.now) (g.V.Visit.goes c.loop-fault.visit) c.args.visit.now c.loop-fault.visit c.step.new.visit rest
    c.in-Ok-false.field-0 c.loop-fault.invariant.goes c.in-Ok-false.field-0-test far on

pub returns-in-Err-clause-bad : goal.returns-in-Err-clause-bad
returns-in-Err-clause-bad g c =
    let laws = g.met.P.Pages in
    let attempt = g.P.Pages.attempt in
    let place = g.S.Store.location c.args.store.now in
    let A = attempt c.args.pages.now in
    let B = attempt c.loop-fault.pages in
    let C = attempt c.step.new.pages in
    let stays : Stays B C = laws.seen_stays c.loop-fault.pages c.step.new.pages c.step.ensures.follows in
    damage-weaken (λ page at. ForEach B C (λ array. (rest : List (List ℕ)) → g.S.Store.ahead place array c.loop-fault.cursor rest → All (g.V.Visit.sound c.loop-fault.visit) rest → g.S.Store.bad place array page at))
    (λ page at. ForEach A C (λ array. (rest : List (List ℕ)) → g.S.Store.ahead place array c.args.cursor rest → All (g.V.Visit.sound c.args.visit.now) rest → g.S.Store.bad place array page at))
    (λ page at wrong pages agrees rest ahead all.
    let mid = earlier B C pages stays agrees in
    let far = c.loop-fault.invariant.told pages mid rest ahead in
    under A B C (λ a. (rest : List (List ℕ)) → g.S.Store.ahead place a c.loop-fault.cursor rest → All (g.V.Visit.sound c.loop-fault.visit) rest → g.S.Store.bad place a page at) c.loop-fault.invariant.written wrong pages agrees
    far.others far.ahead (ahead-have (g.V.Visit.sound c.args.visit.now) (g.V.Visit.sound c.loop-fault.visit) rest far.done far.others far.rest_is c.loop-fault.invariant.sound all))
    c.in-Err.fault c.in-Err.ensures.bad
