use Rattle.std.proofs.Common.{◌≡◌, ℕ, List, map, nat_lt, refl, sym, ap, ◌∙◌, subst, inl, inr, true}
use Rattle.st_image.specs.declared.wanted.Wanted.TheVariants.{Roots}
use Rattle.st_pages.specs.Attempt.{over}
use Rattle.st_catalog.specs.Catalog.{roots_in, stores_in}
use Rattle.st_catalog.specs.Stores.{placed}
use Rattle.st_values.specs.Arranged.{ascends}
use Rattle.st_catalog.specs.Reading.{Walked, IsUpTo}
use Rattle.st_catalog.proofs.Placing.{roots-known}
use Rattle.st_catalog.proofs.Gathered.{named, unnamed, not-true}
use Rattle.st_catalog.proofs.read.read_places.Goals as goal

pub returns-in-Ok-false-clause-broken : goal.returns-in-Ok-false-clause-broken
returns-in-Ok-false-clause-broken g c = λ pages agrees.
    let array = over (g.P.Pages.attempt c.args.pages.now) pages in
    inr (refl, refl, inl (subst (λ b. Walked b Roots array 0 (λ images. IsUpTo 262204 c.walk.new.gather.roots.items (roots_in images))) c.in-Ok-false.field-0-test (c.in-Ok-false.ensures.walked pages agrees)))

pub returns-in-Ok-false-are_of-clause-broken : goal.returns-in-Ok-false-are_of-clause-broken
returns-in-Ok-false-are_of-clause-broken g c = λ pages agrees.
    let array = over (g.P.Pages.attempt c.args.pages.now) pages in
    inr (
      refl,
      refl,
      unnamed array c.args.schema.now c.walk.new.gather.roots.items c.requires.orderly
          (subst (λ b. Walked b Roots array 0 (λ images. IsUpTo 262204 c.walk.new.gather.roots.items (roots_in images))) c.in-Ok-true.field-0-test (c.in-Ok-true.ensures.walked pages agrees))
          (λ same. not-true c.in-Ok-false-are_of.field-0 c.in-Ok-false-are_of.field-0-test (c.in-Ok-false-are_of.ensures.1 (ap stores_in c.as_slice-roots.ensures.value ∙ same))),
    )

pub places_of-requires-clause-known : goal.places_of-requires-clause-known
places_of-requires-clause-known g c = roots-known c.args.schema.now _ (c.in-Ok-true-are_of.ensures.0 c.in-Ok-true-are_of.field-0-test)

pub places_of-requires-clause-ascend : goal.places_of-requires-clause-ascend
places_of-requires-clause-ascend g c = subst (λ (xs : List ℕ). ascends nat_lt xs ≡ true) (sym (c.in-Ok-true-are_of.ensures.0 c.in-Ok-true-are_of.field-0-test)) (c.laws_of_stores.ensures c.args.schema.now c.requires.orderly)

pub returns-in-Ok-clause-names : goal.returns-in-Ok-clause-names
returns-in-Ok-clause-names g c = λ pages agrees.
    let array = over (g.P.Pages.attempt c.args.pages.now) pages in
    named array c.args.schema.now c.walk.new.gather.roots.items c.in-Ok.places c.requires.orderly
    (subst (λ b. Walked b Roots array 0 (λ images. IsUpTo 262204 c.walk.new.gather.roots.items (roots_in images))) c.in-Ok-true.field-0-test (c.in-Ok-true.ensures.walked pages agrees))
    (ap stores_in (sym c.as_slice-roots.ensures.value) ∙ c.in-Ok-true-are_of.ensures.0 c.in-Ok-true-are_of.field-0-test) (c.in-Ok.ensures ∙ ap (map (placed c.args.schema.now)) c.as_slice-roots.ensures.value)
