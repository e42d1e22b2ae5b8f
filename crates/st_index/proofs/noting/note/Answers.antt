use Rattle.std.proofs.Common.{◌+◌, ◌*◌, ◌≤◌, ◌||◌, List, length, IfErr, subst, arith}
use Rattle.st_pages.specs.declared.places.Place.{Place}
use Rattle.st_pages.specs.Attempt.{over, may_put}
use Rattle.st_pages.specs.Reading.{ForEach, OfDamage}
use Rattle.st_store.specs.Stores.{ForBoth, HasPutStores, KeepNumbers, any_page, drew_between}
use Rattle.st_index.specs.Turned.{turned_places}
use Rattle.st_index.specs.Noted.{AllHold, reach_any, rows_for, differences}
use Rattle.st_index.specs.Change.{one_place, two_places}
use Rattle.st_index.proofs.Counted.{differences-none}
use Rattle.st_index.proofs.Called.{noted-of}
use Rattle.st_index.proofs.Placed.{apart-places, one-store, placed-turned, two-turned}
use Rattle.st_index.proofs.noting.note.Goals as goal

pub returns-in_default-clause-few : goal.returns-in_default-clause-few
returns-in_default-clause-few g c = λ pages agrees. differences-none (over (g.P.Pages.attempt c.args.pages.now) pages) (34 * length (turned_places c.args.attribute c.args.places.now) * (rows_for c.args.old.now + rows_for c.args.new.now))

pub returns-then-is_same-clause-few : goal.returns-then-is_same-clause-few
returns-then-is_same-clause-few g c = λ pages agrees. differences-none (over (g.P.Pages.attempt c.args.pages.now) pages) (34 * length (turned_places c.args.attribute c.args.places.now) * (rows_for c.args.old.now + rows_for c.args.new.now))

pub note_both-requires-clause-index : goal.note_both-requires-clause-index
note_both-requires-clause-index g c =
    placed-turned c.args.schema.now c.args.places.now c.args.attribute 2 c.store.result c.in-Some.found.now c.find-index.result c.requires.of c.requires.fair c.ranges.attribute.fits (omega arith) (omega arith)
    c.store.ensures c.in-Some.ensures c.find-index.ensures.place

pub note_both-requires-clause-inverse : goal.note_both-requires-clause-inverse
note_both-requires-clause-inverse g c =
    placed-turned c.args.schema.now c.args.places.now c.args.attribute 3 c.store-2.result c.in-Some.found.now c.find-inverse.result c.requires.of c.requires.fair c.ranges.attribute.fits (omega arith) (omega arith)
    c.store-2.ensures c.in-Some.ensures c.find-inverse.ensures.place

pub note_both-requires-clause-apart : goal.note_both-requires-clause-apart
note_both-requires-clause-apart g c =
    let i = c.store.ensures in
    let j = c.store-2.ensures in
    apart-places c.store.result c.store-2.result (one_place c.find-index.result) (one_place c.find-inverse.result) (omega (arith, i, j))
    (one-store c.args.places.now c.store.result c.find-index.result c.find-index.ensures.place) (one-store c.args.places.now c.store-2.result c.find-inverse.result c.find-inverse.ensures.place)

pub returns-clause-asked : goal.returns-clause-asked
returns-clause-asked g c =
    let A = g.P.Pages.attempt c.args.pages.now in
    let C = g.P.Pages.attempt c.note_both.new.pages in
    let holds = g.S.Store.holds in
    let reach = g.S.Store.reach in
    subst (λ (ps : List Place). ForEach A C (λ array. AllHold holds reach ps array →
    g.P.Pages.asked c.args.pages.now c.note_both.new.pages (reach_any holds reach ps array) (λ page. reach_any holds reach ps array page || drew_between A C page) (17 * length ps * rows_for c.args.new.now)))
    (two-turned c.args.attribute c.args.places.now c.store.result c.store-2.result c.find-index.result c.find-inverse.result c.find-index.ensures.in_order c.store.ensures c.store-2.ensures c.find-index.ensures.place c.find-inverse.ensures.place) c.note_both.ensures.asked

pub returns-clause-kinds : goal.returns-clause-kinds
returns-clause-kinds g c =
    let A = g.P.Pages.attempt c.args.pages.now in
    let C = g.P.Pages.attempt c.note_both.new.pages in
    subst (λ (ps : List Place). HasPutStores A → g.P.Pages.asked c.args.pages.now c.note_both.new.pages any_page (may_put C) (17 * length ps * rows_for c.args.new.now))
    (two-turned c.args.attribute c.args.places.now c.store.result c.store-2.result c.find-index.result c.find-inverse.result c.find-index.ensures.in_order c.store.ensures c.store-2.ensures c.find-index.ensures.place c.find-inverse.ensures.place) c.note_both.ensures.kinds

pub returns-clause-few : goal.returns-clause-few
returns-clause-few g c =
    let A = g.P.Pages.attempt c.args.pages.now in
    let C = g.P.Pages.attempt c.note_both.new.pages in
    subst (λ (ps : List Place). ForBoth A C (λ before after. differences before after ≤ 34 * length ps * (rows_for c.args.old.now + rows_for c.args.new.now)))
    (two-turned c.args.attribute c.args.places.now c.store.result c.store-2.result c.find-index.result c.find-inverse.result c.find-index.ensures.in_order c.store.ensures c.store-2.ensures c.find-index.ensures.place c.find-inverse.ensures.place) c.note_both.ensures.few

pub returns-clause-numbers : goal.returns-clause-numbers
returns-clause-numbers g c =
    let A = g.P.Pages.attempt c.args.pages.now in
    let C = g.P.Pages.attempt c.note_both.new.pages in
    subst (λ (ps : List Place). ForBoth A C (λ before after. AllHold g.S.Store.holds g.S.Store.reach ps before → KeepNumbers A C before after))
    (two-turned c.args.attribute c.args.places.now c.store.result c.store-2.result c.find-index.result c.find-inverse.result c.find-index.ensures.in_order c.store.ensures c.store-2.ensures c.find-index.ensures.place c.find-inverse.ensures.place) c.note_both.ensures.numbers

pub returns-clause-noted : goal.returns-clause-noted
returns-clause-noted g c =
    noted-of (g.P.Pages.attempt c.args.pages.now) (g.P.Pages.attempt c.note_both.new.pages) g.S.Store.holds g.S.Store.reach c.args.places.now c.args.attribute
    (two_places c.find-index.result c.find-inverse.result) (two-turned c.args.attribute c.args.places.now c.store.result c.store-2.result c.find-index.result c.find-inverse.result c.find-index.ensures.in_order c.store.ensures c.store-2.ensures c.find-index.ensures.place c.find-inverse.ensures.place) c.args.entity c.args.old.now c.args.new.now _ c.in-Some.found.now c.in-Some.ensures c.note_both.result c.note_both.ensures.moved

pub returns-clause-bad : goal.returns-clause-bad
returns-clause-bad g c =
    let A = g.P.Pages.attempt c.args.pages.now in
    let C = g.P.Pages.attempt c.note_both.new.pages in
    subst (λ (ps : List Place). IfErr c.note_both.result (OfDamage (λ page at. ForEach A C (λ array. AllHold g.S.Store.holds g.S.Store.reach ps array → ⊥))))
    (two-turned c.args.attribute c.args.places.now c.store.result c.store-2.result c.find-index.result c.find-inverse.result c.find-index.ensures.in_order c.store.ensures c.store-2.ensures c.find-index.ensures.place c.find-inverse.ensures.place) c.note_both.ensures.bad
