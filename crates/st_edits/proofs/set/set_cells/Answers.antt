use Rattle.std.proofs.Common.{◌≡◌, ℕ, Some, None, Ok, refl, sym, ap, ◌∙◌, subst, arith, true≢false}
use Rattle.std.specs.Prelude.{IsSome}
use Rattle.std.specs.Int.{w32, to_be_bytes}
use Rattle.st_lattice.specs.declared.stores.StoreKind.TheVariants.{Extent}
use Rattle.st_lattice.specs.Outline.{Outline, attribute}
use Rattle.st_lattice.specs.Stores.{store}
use Rattle.st_pages.specs.declared.places.Place.{Place}
use Rattle.st_pages.specs.Attempt.{over}
use Rattle.st_pages.specs.Places.{place_of}
use Rattle.st_state.specs.Calls.{Admits, Set}
use Rattle.st_lookups.specs.Looks.{OfState}
use Rattle.st_lookups.proofs.Lived.{names-most, type-dead}
use Rattle.st_edits.specs.Steps.{IsSettled, Turns}
use Rattle.st_edits.specs.Values.{IsToBeSet}
use Rattle.st_edits.proofs.Putting.{on-ok}
use Rattle.st_edits.proofs.Settling.{never-nil, number-of, to-be-set}
use Rattle.st_edits.proofs.set.set_cells.Goals as goal

pub returns-in_default-extent_of-clause-turns : goal.returns-in_default-extent_of-clause-turns
returns-in_default-extent_of-clause-turns g c = λ array s agrees same stands admits cells_are.
    absurd (true≢false (sym admits.0.live ∙ type-dead s stands.legal c.args.entity (names-most s.schema c.args.schema.now c.args.entity.ty same (c.in_default-extent_of.ensures.none refl))))

pub returns-then-entity-eq0-clause-turns : goal.returns-then-entity-eq0-clause-turns
returns-then-entity-eq0-clause-turns g c = λ array s agrees same stands admits cells_are.
    absurd (never-nil s c.args.entity c.args.number c.args.value.now stands.program.entities (grind (arith, c.if-entity-eq0.true)) admits)

pub returns-then-entity-eq0-clause-put : goal.returns-then-entity-eq0-clause-put
returns-then-entity-eq0-clause-put g c = λ array s agrees same stands admits settled place at.
    absurd (never-nil s c.args.entity c.args.number c.args.value.now stands.program.entities (grind (arith, c.if-entity-eq0.true)) admits)

pub settle-requires-clause-numbered : goal.settle-requires-clause-numbered
settle-requires-clause-numbered g c =
    let f = sym c.in-Some.ensures in
    ap (attribute c.args.schema.now) (number-of c.args.schema.now c.args.number c.in-Some.attribute.now f) ∙ f

pub returns-clause-turns : goal.returns-clause-turns
returns-clause-turns g c = λ array s agrees same stands admits cells_are.
    let a = c.in-Some.attribute.now in
    let f = subst (λ (o : Outline). attribute o c.args.number ≡ Some a) (sym same) (sym c.in-Some.ensures) in
    let is = number-of s.schema c.args.number a f in
    let at = ap (λ (n : ℕ). place_of n c.args.places.now) c.in-Some-extent_of.ensures.laid.store_is ∙ sym c.in-Some-extent_of.ensures.value in
    subst (λ (n : ℕ). Turns (g.P.Pages.asked c.args.pages.now c.settle.new.pages) (g.P.Pages.attempt c.args.pages.now) (g.P.Pages.attempt c.settle.new.pages) array s (Set c.args.entity n c.args.value.now)
    (IsSettled g.S.Store.holds (g.P.Pages.attempt c.settle.new.pages) array c.args.places.now s (Set c.args.entity n c.args.value.now)) c.settle.result) is
    (c.settle.ensures.turns array s agrees same stands at (to-be-set s c.args.entity c.args.number a c.args.value.now f admits) cells_are)

pub returns-clause-put : goal.returns-clause-put
returns-clause-put g c =
    let A = g.P.Pages.attempt c.args.pages.now in
    let B = g.P.Pages.attempt c.settle.new.pages in
    let schema = c.args.schema.now in
    let places = c.args.places.now in
    let a = c.in-Some.attribute.now in
    let e = c.args.entity in
    let here = c.in-Some-extent_of.place in
    let key = to_be_bytes w32 e.serial in
    let at = ap (λ (n : ℕ). place_of n places) c.in-Some-extent_of.ensures.laid.store_is ∙ sym c.in-Some-extent_of.ensures.value in
    on-ok (OfState g.S.Store.holds A B schema places (λ array s. place_of here.store places ≡ Some here → IsToBeSet s e a c.args.value.now → c.settle.result ≡ Ok None → (page : ℕ) × g.S.Store.spot here (over A array) key page × IsSome (B.written page)))
    (OfState g.S.Store.holds A B schema places (λ array s. Admits s (Set e c.args.number c.args.value.now) → c.settle.result ≡ Ok None → (place : Place) → place_of (store Extent e.ty) places ≡ Some place → (page : ℕ) × g.S.Store.spot place (over A array) key page × IsSome (B.written page)))
    c.settle.result
    (λ h array s agrees same stands admits settled place found.
    let f = subst (λ (o : Outline). attribute o c.args.number ≡ Some a) (sym same) (sym c.in-Some.ensures) in
    subst (λ (p : Place). (page : ℕ) × g.S.Store.spot p (over A array) key page × IsSome (B.written page)) (one-place here place (c.in-Some-extent_of.ensures.value ∙ found))
    (h array s agrees same stands at (to-be-set s e c.args.number a c.args.value.now f admits) settled))
    c.settle.ensures.put
  where
    one-place : (p q : Place) → Some p ≡ Some q → p ≡ q
    one-place p q h = cc
