use Rattle.std.proofs.Common.{◌≡◌, ℕ, List, IfOk, IfErr, ap, ◌∙◌, subst}
use Rattle.std.specs.Prelude.{◌⊎◌, not, filter}
use Rattle.st_values.specs.Order.{value_before}
use Rattle.st_pages.specs.declared.places.Place.{Place}
use Rattle.st_pages.specs.Attempt.{over}
use Rattle.st_pages.specs.Calls.{no_page}
use Rattle.st_pages.specs.Reading.{ForEach, OfDamage}
use Rattle.st_pages.proofs.Carried.{Stays, under}
use Rattle.st_state.specs.State.{Pair}
use Rattle.st_store.specs.Rows.{rows_from}
use Rattle.st_store.specs.Stores.{OfStore}
use Rattle.st_index.specs.Turned.{turned_row, AreOfPairs, entities_with}
use Rattle.st_index.specs.Bad.{AreNamed, HasBadPair}
use Rattle.st_index.specs.Found.{front_with, least_entity}
use Rattle.st_index.proofs.Called.{earlier}
use Rattle.st_index.proofs.Changes.{damage-weaken}
use Rattle.st_index.proofs.Looked.{RowLaws, err-weaken, from-are, ok-weaken, with-are}
use Rattle.st_index.proofs.Named.{from-named}
use Rattle.st_index.proofs.reading.look.Goals as goal

pub returns-in-Ok-clause-asked : goal.returns-in-Ok-clause-asked
returns-in-Ok-clause-asked g c =
    let pages-laws = g.met.P.Pages in
    let attempt = g.P.Pages.attempt in
    let loc = g.S.Store.location c.at-store.result in
    let kind = c.args.attribute.now.kind in
    let value = c.args.value.now in
    let A = attempt c.args.pages.now in
    let B = attempt c.seek_value.new.pages in
    let C = attempt c.gather.new.pages in
    let stays : Stays B C = pages-laws.seen_stays c.seek_value.new.pages c.gather.new.pages c.gather.ensures.follows in
    subst (λ (p : Place). ForEach A C (λ array. g.P.Pages.asked c.args.pages.now c.gather.new.pages (g.S.Store.reach p array) no_page 0)) c.at-store.ensures
    (λ pages agrees.
    let mid = earlier B C pages stays agrees in
    pages-laws.asked_on c.args.pages.now c.seek_value.new.pages c.gather.new.pages (g.S.Store.reach loc (over A pages)) no_page 0 0 c.seek_value.ensures.follows c.gather.ensures.follows (c.seek_value.ensures.asked pages mid)
    (under A B C (λ a. g.S.Store.sits loc a c.in-Ok.cursor → g.P.Pages.asked c.seek_value.new.pages c.gather.new.pages (g.S.Store.reach loc a) no_page 0) c.seek_value.ensures.written c.gather.ensures.asked pages agrees (c.in-Ok.ensures.sits pages mid)))

pub returns-in-Ok-clause-found : goal.returns-in-Ok-clause-found
returns-in-Ok-clause-found g c =
    let pages-laws = g.met.P.Pages in
    let attempt = g.P.Pages.attempt in
    let loc = g.S.Store.location c.at-store.result in
    let kind = c.args.attribute.now.kind in
    let value = c.args.value.now in
    let A = attempt c.args.pages.now in
    let B = attempt c.seek_value.new.pages in
    let C = attempt c.gather.new.pages in
    let stays : Stays B C = pages-laws.seen_stays c.seek_value.new.pages c.gather.new.pages c.gather.ensures.follows in
    let laws : RowLaws = record { width = c.laws_of_rows.ensures.width; pair_width = c.laws_of_rows.ensures.pair_width; one_spelling = c.laws_of_rows.ensures.one_spelling; pairs = c.laws_of_rows.ensures.pairs } in
    let key-is = ap (λ (p : Place). p.key) c.at-store.ensures ∙ c.requires.turned.key in
    subst (λ (p : Place). IfOk c.gather.result (λ entities. ForEach A C (λ array. OfStore g.S.Store.holds p array (λ _ rows. (pairs : List Pair) → AreOfPairs kind rows pairs → entities ≡ entities_with value pairs)))) c.at-store.ensures
    (ok-weaken (λ entities. ForEach B C (λ array. (rest : List (List ℕ)) → g.S.Store.ahead loc array c.in-Ok.cursor rest → (pairs : List Pair) → AreOfPairs kind rest pairs → entities ≡ front_with value pairs))
    (λ entities. ForEach A C (λ array. OfStore g.S.Store.holds loc array (λ _ rows. (pairs : List Pair) → AreOfPairs kind rows pairs → entities ≡ entities_with value pairs)))
    c.gather.result
    (λ entities got pages agrees had rows holds pairs are.
    let mid = earlier B C pages stays agrees in
    let ahead = c.in-Ok.ensures.ahead pages mid had rows holds in
    let front = under A B C (λ a. (rest : List (List ℕ)) → g.S.Store.ahead loc a c.in-Ok.cursor rest → (more : List Pair) → AreOfPairs kind rest more → entities ≡ front_with value more) c.seek_value.ensures.written got pages agrees
    (rows_from loc.key (turned_row kind value least_entity) rows) ahead (filter (λ p. not (value_before p.value value)) pairs) (from-are laws kind value loc.key rows pairs key-is c.requires.value are) in
    front ∙ with-are laws kind value loc.key loc.width rows pairs key-is (g.met.S.Store.in_order loc (over A pages) had rows holds) are)
    c.gather.ensures.found)

pub returns-in-Ok-clause-bad : goal.returns-in-Ok-clause-bad
returns-in-Ok-clause-bad g c =
    let pages-laws = g.met.P.Pages in
    let attempt = g.P.Pages.attempt in
    let loc = g.S.Store.location c.at-store.result in
    let kind = c.args.attribute.now.kind in
    let value = c.args.value.now in
    let A = attempt c.args.pages.now in
    let B = attempt c.seek_value.new.pages in
    let C = attempt c.gather.new.pages in
    let stays : Stays B C = pages-laws.seen_stays c.seek_value.new.pages c.gather.new.pages c.gather.ensures.follows in
    let schema = c.args.schema.now in
    let a = c.args.attribute.now in
    subst (λ (p : Place). IfErr c.gather.result (OfDamage (λ page at. ForEach A C (λ array. g.S.Store.bad p array page at ⊎ HasBadPair schema a p g.S.Store.reach array page at)))) c.at-store.ensures
    (err-weaken (OfDamage (λ page at. ForEach B C (λ array. g.S.Store.sits loc array c.in-Ok.cursor → g.S.Store.bad loc array page at ⊎ HasBadPair schema a loc g.S.Store.reach array page at)))
    (OfDamage (λ page at. ForEach A C (λ array. g.S.Store.bad loc array page at ⊎ HasBadPair schema a loc g.S.Store.reach array page at))) c.gather.result
    (damage-weaken (λ page at. ForEach B C (λ array. g.S.Store.sits loc array c.in-Ok.cursor → g.S.Store.bad loc array page at ⊎ HasBadPair schema a loc g.S.Store.reach array page at))
    (λ page at. ForEach A C (λ array. g.S.Store.bad loc array page at ⊎ HasBadPair schema a loc g.S.Store.reach array page at))
    (λ page at wrong pages agrees.
    let mid = earlier B C pages stays agrees in
    under A B C (λ x. g.S.Store.sits loc x c.in-Ok.cursor → g.S.Store.bad loc x page at ⊎ HasBadPair schema a loc g.S.Store.reach x page at) c.seek_value.ensures.written wrong pages agrees (c.in-Ok.ensures.sits pages mid)))
    c.gather.ensures.bad)

pub returns-in-Ok-clause-sound : goal.returns-in-Ok-clause-sound
returns-in-Ok-clause-sound g c =
    let pages-laws = g.met.P.Pages in
    let attempt = g.P.Pages.attempt in
    let loc = g.S.Store.location c.at-store.result in
    let schema = c.args.schema.now in
    let a = c.args.attribute.now in
    let value = c.args.value.now in
    let A = attempt c.args.pages.now in
    let B = attempt c.seek_value.new.pages in
    let C = attempt c.gather.new.pages in
    let stays : Stays B C = pages-laws.seen_stays c.seek_value.new.pages c.gather.new.pages c.gather.ensures.follows in
    let laws : RowLaws = record { width = c.laws_of_rows.ensures.width; pair_width = c.laws_of_rows.ensures.pair_width; one_spelling = c.laws_of_rows.ensures.one_spelling; pairs = c.laws_of_rows.ensures.pairs } in
    let key-is = ap (λ (p : Place). p.key) c.at-store.ensures ∙ c.requires.turned.key in
    subst (λ (p : Place). IfErr c.gather.result (OfDamage (λ page at. ForEach A C (λ array. OfStore g.S.Store.holds p array (λ _ rows. AreNamed schema a rows → ⊥))))) c.at-store.ensures
    (err-weaken (OfDamage (λ page at. ForEach B C (λ array. (rest : List (List ℕ)) → g.S.Store.ahead loc array c.in-Ok.cursor rest → AreNamed schema a rest → g.S.Store.bad loc array page at)))
    (OfDamage (λ page at. ForEach A C (λ array. OfStore g.S.Store.holds loc array (λ _ rows. AreNamed schema a rows → ⊥)))) c.gather.result
    (damage-weaken (λ page at. ForEach B C (λ array. (rest : List (List ℕ)) → g.S.Store.ahead loc array c.in-Ok.cursor rest → AreNamed schema a rest → g.S.Store.bad loc array page at))
    (λ page at. ForEach A C (λ array. OfStore g.S.Store.holds loc array (λ _ rows. AreNamed schema a rows → ⊥)))
    (λ page at wrong pages agrees had rows holds named.
    let mid = earlier B C pages stays agrees in
    let ahead = c.in-Ok.ensures.ahead pages mid had rows holds in
    g.met.S.Store.never_bad loc (over A pages) had rows page at
    (under A B C (λ x. (rest : List (List ℕ)) → g.S.Store.ahead loc x c.in-Ok.cursor rest → AreNamed schema a rest → g.S.Store.bad loc x page at) c.seek_value.ensures.written wrong pages agrees
    (rows_from loc.key (turned_row a.kind value least_entity) rows) ahead (from-named schema a laws value loc.key rows key-is c.requires.value named)) holds))
    c.gather.ensures.sound)

pub returns-clause-sound : goal.returns-clause-sound
returns-clause-sound g c =
    let attempt = g.P.Pages.attempt in
    let loc = g.S.Store.location c.at-store.result in
    let schema = c.args.schema.now in
    let a = c.args.attribute.now in
    let A = attempt c.args.pages.now in
    let B = attempt c.seek_value.new.pages in
    subst (λ (p : Place). OfDamage (λ page at. ForEach A B (λ array. OfStore g.S.Store.holds p array (λ _ rows. AreNamed schema a rows → ⊥))) c.in-Err.fault) c.at-store.ensures
    (damage-weaken (λ page at. ForEach A B (λ array. g.S.Store.bad loc array page at))
    (λ page at. ForEach A B (λ array. OfStore g.S.Store.holds loc array (λ _ rows. AreNamed schema a rows → ⊥)))
    (λ page at wrong pages agrees had rows holds named. g.met.S.Store.never_bad loc (over A pages) had rows page at (wrong pages agrees) holds)
    c.in-Err.fault c.in-Err.ensures.bad)
