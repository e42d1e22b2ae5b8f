use Rattle.std.proofs.Common.{◌≡◌, List, sym, ◌∙◌, true≢false}
use Rattle.std.specs.Prelude.{IfSome}
use Rattle.std.specs.List.{All}
use Rattle.st_lattice.specs.Outline.{attribute as numbered}
use Rattle.st_pages.specs.Attempt.{over}
use Rattle.st_pages.specs.Reading.{ForEach, OfDamage}
use Rattle.st_state.specs.State.{Pair}
use Rattle.st_store.specs.Stores.{OfStore}
use Rattle.st_index.specs.Turned.{found_place, AreOfPairs, entities_with}
use Rattle.st_index.specs.Bad.{AreNamed, IsNamed}
use Rattle.st_index.proofs.Changes.{damage-weaken}
use Rattle.st_index.proofs.Looked.{any-some, err-weaken, none-found, ok-weaken, some-of}
use Rattle.st_index.proofs.Placed.{found-turned}
use Rattle.st_index.proofs.reading.lookup.Goals as goal

pub returns-then-not-fits-clause-found : goal.returns-then-not-fits-clause-found
returns-then-not-fits-clause-found g c = λ pages agrees.
    let array = over (g.P.Pages.attempt c.args.pages.now) pages in
    some-of (λ a. IfSome (found_place c.args.attribute c.args.places.now) (λ place. OfStore g.S.Store.holds place array (λ _ rows. (pairs : List Pair) → AreOfPairs a.kind rows pairs → c.new-then-not-fits.result ≡ entities_with c.args.value.now pairs)))
    (numbered c.args.schema.now c.args.attribute) c.in-Some.described.now c.in-Some.ensures
    (any-some (λ place. OfStore g.S.Store.holds place array (λ _ rows. (pairs : List Pair) → AreOfPairs c.in-Some.described.now.kind rows pairs → c.new-then-not-fits.result ≡ entities_with c.args.value.now pairs)) (found_place c.args.attribute c.args.places.now)
    (λ place had rows holds pairs are. none-found c.in-Some.described.now.kind c.args.value.now pairs c.new-then-not-fits.result c.new-then-not-fits.ensures (λ fit. true≢false (sym (c.fits.ensures.all fit) ∙ c.if-not-fits.true)) are.fit))

pub look-requires-clause-turned : goal.look-requires-clause-turned
look-requires-clause-turned g c =
    found-turned c.args.schema.now c.args.places.now c.args.attribute c.in-Some.described.now c.in-Some-found_place.place c.requires.of c.requires.fair c.ranges.attribute.fits c.in-Some.ensures c.in-Some-found_place.ensures

pub returns-clause-found : goal.returns-clause-found
returns-clause-found g c =
    let A = g.P.Pages.attempt c.args.pages.now in
    let C = g.P.Pages.attempt c.look.new.pages in
    let kind = c.in-Some.described.now.kind in
    ok-weaken (λ entities. ForEach A C (λ array. OfStore g.S.Store.holds c.in-Some-found_place.place array (λ _ rows. (pairs : List Pair) → AreOfPairs kind rows pairs → entities ≡ entities_with c.args.value.now pairs)))
    (λ entities. ForEach A C (λ array. IfSome (numbered c.args.schema.now c.args.attribute) (λ a. IfSome (found_place c.args.attribute c.args.places.now) (λ place. OfStore g.S.Store.holds place array (λ _ rows.
    (pairs : List Pair) → AreOfPairs a.kind rows pairs → entities ≡ entities_with c.args.value.now pairs)))))
    c.look.result
    (λ entities got pages agrees.
    let array = over A pages in
    some-of (λ a. IfSome (found_place c.args.attribute c.args.places.now) (λ place. OfStore g.S.Store.holds place array (λ _ rows. (pairs : List Pair) → AreOfPairs a.kind rows pairs → entities ≡ entities_with c.args.value.now pairs)))
    (numbered c.args.schema.now c.args.attribute) c.in-Some.described.now c.in-Some.ensures
    (some-of (λ place. OfStore g.S.Store.holds place array (λ _ rows. (pairs : List Pair) → AreOfPairs kind rows pairs → entities ≡ entities_with c.args.value.now pairs)) (found_place c.args.attribute c.args.places.now)
    c.in-Some-found_place.place c.in-Some-found_place.ensures (got pages agrees)))
    c.look.ensures.found

pub returns-clause-sound : goal.returns-clause-sound
returns-clause-sound g c =
    let A = g.P.Pages.attempt c.args.pages.now in
    let C = g.P.Pages.attempt c.look.new.pages in
    let schema = c.args.schema.now in
    let x = c.in-Some.described.now in
    err-weaken (OfDamage (λ page at. ForEach A C (λ array. OfStore g.S.Store.holds c.in-Some-found_place.place array (λ _ rows. AreNamed schema x rows → ⊥))))
    (OfDamage (λ page at. ForEach A C (λ array. IfSome (numbered schema c.args.attribute) (λ a. IfSome (found_place c.args.attribute c.args.places.now) (λ place. OfStore g.S.Store.holds place array (λ _ rows.
    (pairs : List Pair) → AreOfPairs a.kind rows pairs → All (IsNamed schema a) pairs → ⊥)))))) c.look.result
    (damage-weaken (λ page at. ForEach A C (λ array. OfStore g.S.Store.holds c.in-Some-found_place.place array (λ _ rows. AreNamed schema x rows → ⊥)))
    (λ page at. ForEach A C (λ array. IfSome (numbered schema c.args.attribute) (λ a. IfSome (found_place c.args.attribute c.args.places.now) (λ place. OfStore g.S.Store.holds place array (λ _ rows.
    (pairs : List Pair) → AreOfPairs a.kind rows pairs → All (IsNamed schema a) pairs → ⊥)))))
    (λ page at none pages agrees.
    let array = over A pages in
    some-of (λ a. IfSome (found_place c.args.attribute c.args.places.now) (λ place. OfStore g.S.Store.holds place array (λ _ rows. (pairs : List Pair) → AreOfPairs a.kind rows pairs → All (IsNamed schema a) pairs → ⊥)))
    (numbered schema c.args.attribute) x c.in-Some.ensures
    (some-of (λ place. OfStore g.S.Store.holds place array (λ _ rows. (pairs : List Pair) → AreOfPairs x.kind rows pairs → All (IsNamed schema x) pairs → ⊥)) (found_place c.args.attribute c.args.places.now)
    c.in-Some-found_place.place c.in-Some-found_place.ensures
    (λ had rows holds pairs are named. none pages agrees had rows holds (record { pairs = pairs; are = are; named = named })))))
    c.look.ensures.sound
