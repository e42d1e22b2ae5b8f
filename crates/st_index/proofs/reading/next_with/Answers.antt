use Rattle.std.proofs.Common.{◌≡◌, ℕ, ◌+◌, ◌*◌, ◌≤◌, List, IsTrue, sym, ap, ◌∙◌, subst, inr}
use Rattle.std.specs.Prelude.{slice_get, ◌⊎◌, IsSome}
use Rattle.st_image.specs.Fields.{rows_of}
use Rattle.st_pages.specs.Attempt.{over}
use Rattle.st_pages.specs.Reading.{ForEach, OfDamage}
use Rattle.st_state.specs.State.{Pair}
use Rattle.st_store.specs.Stores.{Advanced}
use Rattle.st_index.specs.Turned.{AreOfPairs}
use Rattle.st_index.specs.Bad.{AreNamed, HasBadPair, IsNamedRow}
use Rattle.st_index.specs.Found.{IsBadBehind, IsNext, IsPairOf}
use Rattle.st_index.proofs.Changes.{damage-weaken}
use Rattle.st_index.proofs.Looked.{RowLaws, err-weaken, next-of, none-next, ok-weaken, within-page}
use Rattle.st_index.proofs.Named.{any-ok, first-named, others-named}
use Rattle.st_index.proofs.reading.next_with.Goals as goal

pub entity_with-requires-clause-passed : goal.entity_with-requires-clause-passed
entity_with-requires-clause-passed g c =
    let place = g.S.Store.location c.args.store.now in
    let passed = c.in-Ok-true.ensures.row c.in-Ok-true.field-0-test in
    let fits = c.in-Ok-true.ensures.fits in
    (passed.0, passed.1, subst (λ (w : ℕ). passed.0 * w + w ≤ 4080) c.requires.turned.width (within-page fits.0 place.store place.key place.width passed.0 c.advance.new.cursor.page c.advance.new.row fits.1 passed.2))

pub returns-in-Ok-true-clause-met : goal.returns-in-Ok-true-clause-met
returns-in-Ok-true-clause-met g c = c.entity_with.ensures.met (g.P.Pages.met c.args.pages.now) (g.P.Pages.met c.advance.new.pages)

pub returns-in-Ok-true-clause-next : goal.returns-in-Ok-true-clause-next
returns-in-Ok-true-clause-next g c =
    let attempt = g.P.Pages.attempt in
    let place = g.S.Store.location c.args.store.now in
    let laws : RowLaws = record { width = c.laws_of_rows.ensures.width; pair_width = c.laws_of_rows.ensures.pair_width; one_spelling = c.laws_of_rows.ensures.one_spelling; pairs = c.laws_of_rows.ensures.pairs } in
    ok-weaken (λ next. IsPairOf c.args.attribute.now.kind c.args.value.now c.advance.new.row next)
    (λ next. ForEach (attempt c.args.pages.now) (attempt c.advance.new.pages) (λ array. (rest : List (List ℕ)) → g.S.Store.ahead place array c.args.cursor.now rest → (pairs : List Pair) → AreOfPairs c.args.attribute.now.kind rest pairs →
    IsNext (g.S.Store.ahead place array c.advance.new.cursor) c.args.attribute.now.kind c.args.value.now pairs next))
    c.entity_with.result
    (λ next is pages agrees rest ahead pairs are.
    let array = over (attempt c.args.pages.now) pages in
    next-of laws c.args.attribute.now.kind (g.S.Store.ahead place array c.advance.new.cursor) c.args.value.now c.advance.new.row rest pairs next is
    (subst (λ b. Advanced (g.S.Store.ahead place array c.advance.new.cursor) rest b c.advance.new.row) c.in-Ok-true.field-0-test (c.in-Ok-true.ensures.next pages agrees rest ahead)) are)
    c.entity_with.ensures.pair

pub returns-in-Ok-true-clause-bad : goal.returns-in-Ok-true-clause-bad
returns-in-Ok-true-clause-bad g c =
    let attempt = g.P.Pages.attempt in
    let place = g.S.Store.location c.args.store.now in
    let a = c.args.attribute.now in
    let schema = c.args.schema.now in
    let passed = c.in-Ok-true.ensures.row c.in-Ok-true.field-0-test in
    err-weaken (OfDamage (λ page at. (page ≡ c.advance.new.cursor.number) × IsBadBehind schema a c.advance.new.cursor c.advance.new.row at))
    (OfDamage (λ page at. ForEach (attempt c.args.pages.now) (attempt c.advance.new.pages) (λ array. g.S.Store.sits place array c.args.cursor.now → g.S.Store.bad place array page at ⊎ HasBadPair schema a place g.S.Store.reach array page at)))
    c.entity_with.result
    (damage-weaken (λ page at. (page ≡ c.advance.new.cursor.number) × IsBadBehind schema a c.advance.new.cursor c.advance.new.row at)
    (λ page at. ForEach (attempt c.args.pages.now) (attempt c.advance.new.pages) (λ array. g.S.Store.sits place array c.args.cursor.now → g.S.Store.bad place array page at ⊎ HasBadPair schema a place g.S.Store.reach array page at))
    (λ page at wrong pages agrees sits.
    let array = over (attempt c.args.pages.now) pages in
    let stands = g.met.S.Store.stands place array c.advance.new.cursor (c.in-Ok-true.ensures.sits pages agrees sits) in
    let bad = wrong.1 passed.0 passed.1 in
    inr (record {
      reached = subst (λ (p : ℕ). IsTrue (g.S.Store.reach place array p)) (sym wrong.0) stands.1;
      index = passed.0;
      row = c.advance.new.row;
      there = ap (λ (image : List ℕ). slice_get (rows_of place.width image) passed.0) (ap array wrong.0 ∙ stands.0) ∙ passed.2;
      offset = bad.0;
      bad = bad.1;
      at_is = subst (λ (w : ℕ). at ≡ 16 + passed.0 * w + bad.0) (sym c.requires.turned.width) bad.2;
    })))
    c.entity_with.ensures.bad

pub returns-in-Ok-false-clause-next : goal.returns-in-Ok-false-clause-next
returns-in-Ok-false-clause-next g c = λ pages agrees rest ahead pairs are.
    let place = g.S.Store.location c.args.store.now in
    let array = over (g.P.Pages.attempt c.args.pages.now) pages in
    none-next c.args.attribute.now.kind c.args.value.now rest pairs
    (subst (λ b. Advanced (g.S.Store.ahead place array c.advance.new.cursor) rest b c.advance.new.row) c.in-Ok-false.field-0-test (c.in-Ok-false.ensures.next pages agrees rest ahead)) are

pub returns-in-Ok-true-clause-named : goal.returns-in-Ok-true-clause-named
returns-in-Ok-true-clause-named g c =
    let attempt = g.P.Pages.attempt in
    let place = g.S.Store.location c.args.store.now in
    let a = c.args.attribute.now in
    let schema = c.args.schema.now in
    any-ok (λ next. IsSome next → ForEach (attempt c.args.pages.now) (attempt c.advance.new.pages) (λ array. (rest : List (List ℕ)) → g.S.Store.ahead place array c.args.cursor.now rest → AreNamed schema a rest →
    (others : List (List ℕ)) × g.S.Store.ahead place array c.advance.new.cursor others × AreNamed schema a others))
    c.entity_with.result
    (λ next some pages agrees rest ahead named.
    let array = over (attempt c.args.pages.now) pages in
    let on = subst (λ b. Advanced (g.S.Store.ahead place array c.advance.new.cursor) rest b c.advance.new.row) c.in-Ok-true.field-0-test (c.in-Ok-true.ensures.next pages agrees rest ahead) in
    (on.0, on.2, others-named schema a c.advance.new.row on.0 rest on.1 named))

pub returns-in-Ok-true-clause-sound : goal.returns-in-Ok-true-clause-sound
returns-in-Ok-true-clause-sound g c =
    let attempt = g.P.Pages.attempt in
    let place = g.S.Store.location c.args.store.now in
    let a = c.args.attribute.now in
    let schema = c.args.schema.now in
    err-weaken (OfDamage (λ page at. IsNamedRow schema a c.advance.new.row → ⊥))
    (OfDamage (λ page at. ForEach (attempt c.args.pages.now) (attempt c.advance.new.pages) (λ array. (rest : List (List ℕ)) → g.S.Store.ahead place array c.args.cursor.now rest → AreNamed schema a rest → g.S.Store.bad place array page at)))
    c.entity_with.result
    (damage-weaken (λ page at. IsNamedRow schema a c.advance.new.row → ⊥)
    (λ page at. ForEach (attempt c.args.pages.now) (attempt c.advance.new.pages) (λ array. (rest : List (List ℕ)) → g.S.Store.ahead place array c.args.cursor.now rest → AreNamed schema a rest → g.S.Store.bad place array page at))
    (λ page at none pages agrees rest ahead named.
    let array = over (attempt c.args.pages.now) pages in
    let on = subst (λ b. Advanced (g.S.Store.ahead place array c.advance.new.cursor) rest b c.advance.new.row) c.in-Ok-true.field-0-test (c.in-Ok-true.ensures.next pages agrees rest ahead) in
    absurd (none (first-named schema a c.advance.new.row on.0 rest on.1 named))))
    c.entity_with.ensures.sound

pub returns-in-Err-clause-sound : goal.returns-in-Err-clause-sound
returns-in-Err-clause-sound g c =
    let attempt = g.P.Pages.attempt in
    let place = g.S.Store.location c.args.store.now in
    let a = c.args.attribute.now in
    let schema = c.args.schema.now in
    damage-weaken (λ page at. ForEach (attempt c.args.pages.now) (attempt c.advance.new.pages) (λ array. g.S.Store.sits place array c.args.cursor.now → g.S.Store.bad place array page at))
    (λ page at. ForEach (attempt c.args.pages.now) (attempt c.advance.new.pages) (λ array. (rest : List (List ℕ)) → g.S.Store.ahead place array c.args.cursor.now rest → AreNamed schema a rest → g.S.Store.bad place array page at))
    (λ page at wrong pages agrees rest ahead named. wrong pages agrees (g.met.S.Store.ahead_sits place (over (attempt c.args.pages.now) pages) c.args.cursor.now rest ahead))
    c.in-Err.fault c.in-Err.ensures.bad
