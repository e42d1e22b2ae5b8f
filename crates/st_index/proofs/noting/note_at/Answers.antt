use Rattle.std.proofs.Common.{ℕ, ◌+◌, ◌*◌, ◌||◌, false, List, [], length, inl, inr, Option, Some, OnOk, sym, subst, arith}
use Rattle.std.proofs.lemmas.List.Elements.{All-head}
use Rattle.st_values.proofs.Tests.{first-of, one-of}
use Rattle.st_pages.specs.declared.places.Place.{Place}
use Rattle.st_pages.specs.Attempt.{over}
use Rattle.st_pages.specs.Reading.{ForEach}
use Rattle.st_store.specs.Stores.{Changed, ForBoth, KeepNumbers, OfStore, drew_between}
use Rattle.st_index.specs.Turned.{noted}
use Rattle.st_index.specs.Noted.{AllHold, reach_any, rows_for}
use Rattle.st_index.specs.Change.{Moved, one_place}
use Rattle.st_index.proofs.Counted.{differences-none, or-cases}
use Rattle.st_index.proofs.Changes.{Laws, moved-one, ok-weaken}
use Rattle.st_index.proofs.noting.note_at.Given as given
use Rattle.st_index.proofs.noting.note_at.Goals as goal

stores : (g : given.Over) → Laws g.S.Store.holds g.S.Store.reach
stores g = record { one = g.met.S.Store.one; has_first = g.met.S.Store.has_first; reached = g.met.S.Store.reached; bear = g.met.S.Store.bear; depends = g.met.S.Store.depends }

pub returns-in-Some-clause-asked : goal.returns-in-Some-clause-asked
returns-in-Some-clause-asked g c =
    let A = g.P.Pages.attempt c.args.pages.now in
    let C = g.P.Pages.attempt c.note_in.new.pages in
    let holds = g.S.Store.holds in
    let reach = g.S.Store.reach in
    let p = c.in-Some.place in
    let r : ℕ = rows_for c.args.new.now in
    subst (λ (o : Option Place). ForEach A C (λ array. AllHold holds reach (one_place o) array →
    g.P.Pages.asked c.args.pages.now c.note_in.new.pages (reach_any holds reach (one_place o) array) (λ page. reach_any holds reach (one_place o) array page || drew_between A C page) (17 * length (one_place o) * r)))
    (sym c.in-Some.is)
    (λ pages agrees all.
    let array = over A pages in
    let held = All-head (λ q. (had : List ℕ) × (rows : List (List ℕ)) × holds q array had rows) p [] all in
    g.met.P.Pages.asked_more c.args.pages.now c.note_in.new.pages (reach p array) (λ page. reach p array page || drew_between A C page) (λ page. reach p array page || false) (λ page. (reach p array page || false) || drew_between A C page)
    (17 * r) (17 * 1 * r)
    (λ page h. first-of (reach p array page) false h)
    (λ page h. elim (or-cases (reach p array page) (drew_between A C page) h) [
      | inl k ↦ first-of (reach p array page || false) (drew_between A C page) (first-of (reach p array page) false k)
      | inr d ↦ one-of (reach p array page || false) (drew_between A C page) d
    ])
    (omega arith) (c.note_in.ensures.asked pages agrees held.0 held.1 held.2))

pub returns-in-Some-clause-moved : goal.returns-in-Some-clause-moved
returns-in-Some-clause-moved g c =
    let A = g.P.Pages.attempt c.args.pages.now in
    let C = g.P.Pages.attempt c.note_in.new.pages in
    let holds = g.S.Store.holds in
    let reach = g.S.Store.reach in
    let p = c.in-Some.place in
    let change : List (List ℕ) → List (List ℕ) = λ rows. noted c.args.kind c.args.entity c.args.old.now c.args.new.now rows in
    subst (λ (o : Option Place). OnOk c.note_in.result (ForBoth A C (λ before after. AllHold holds reach (one_place o) before → Moved holds reach (one_place o) change A C before after)))
    (sym c.in-Some.is)
    (ok-weaken (ForBoth A C (λ before after. OfStore holds p before (λ had rows. Changed holds g.S.Store.spot (g.P.Pages.asked c.args.pages.now c.note_in.new.pages) reach p A C before after had (change rows))))
    (ForBoth A C (λ before after. AllHold holds reach (one_place (Some p)) before → Moved holds reach (one_place (Some p)) change A C before after)) c.note_in.result
    (λ first pages agrees all. moved-one holds reach (stores g) g.S.Store.spot (g.P.Pages.asked c.args.pages.now c.note_in.new.pages) p change A C (over A pages) (over C pages) (first pages agrees) all) c.note_in.ensures.changed)

pub returns-in-Some-clause-numbers : goal.returns-in-Some-clause-numbers
returns-in-Some-clause-numbers g c =
    let A = g.P.Pages.attempt c.args.pages.now in
    let C = g.P.Pages.attempt c.note_in.new.pages in
    let holds = g.S.Store.holds in
    let p = c.in-Some.place in
    subst (λ (o : Option Place). ForBoth A C (λ before after. AllHold holds g.S.Store.reach (one_place o) before → KeepNumbers A C before after)) (sym c.in-Some.is)
    (λ pages agrees all.
    let held = All-head (λ q. (had : List ℕ) × (rows : List (List ℕ)) × holds q (over A pages) had rows) p [] all in
    c.note_in.ensures.numbers pages agrees held.0 held.1 held.2)

pub returns-in-None-clause-few : goal.returns-in-None-clause-few
returns-in-None-clause-few g c = λ pages agrees. differences-none (over (g.P.Pages.attempt c.args.pages.now) pages) (34 * length (one_place c.args.place) * (rows_for c.args.old.now + rows_for c.args.new.now))
