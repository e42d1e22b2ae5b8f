-- A call that ends for want of memory behind a look-up.
use Rattle.std.proofs.Common.{◌≡◌, ℕ, Bool, false, List, Some, Result, Ok, Err, OnOk, sym, subst, ap, ◌∙◌}
use Rattle.st_page.specs.declared.fault.PageFault.{PageFault}
use Rattle.st_page.specs.declared.fault.PageFault.TheVariants.{Memory}
use Rattle.st_pages.specs.Attempt.{Array, Attempt}
use Rattle.st_pages.specs.Reading.{OfDamage}
use Rattle.st_pages.specs.declared.places.Place.{Place}
use Rattle.st_pages.specs.Places.{place_of}
use Rattle.st_lattice.specs.declared.stores.StoreKind.TheVariants.{Extent}
use Rattle.st_lattice.specs.Outline.{Outline}
use Rattle.st_lattice.specs.Stores.{store}
use Rattle.st_standing.specs.Standing.{view_of}
use Rattle.st_database.specs.Touches.{Touches, WithStore}
use Rattle.st_lookups.specs.Looks.{Finds, OfState}

pub finds-memory : {Self A : Type 0} (attempt : Self → Attempt) (asked : Self → Self → (ℕ → Bool) → (ℕ → Bool) → ℕ → Type 0) (a b c : Self) (array : Array) (right : A → Type 0) (stores : List ℕ) (fault : PageFault) → fault ≡ Memory → c ≡ b
    → Touches (asked a b) (attempt a) (attempt b) array stores false 0 0 → Finds (asked a c) (attempt a) (attempt c) array right stores (Err fault)
finds-memory attempt asked a b c array right stores fault is same touches = record {
  answers = tt;
  sound = subst (OfDamage (λ page at. ⊥)) (sym is) tt;
  touches = subst (λ x. Touches (asked a x) (attempt a) (attempt x) array stores false 0 0) (sym same) touches;
}

-- what was seen where there is the store of an extent was seen in each state
pub seen-extent : {A : Type 0} (form : Place → Array → List ℕ → List (List ℕ) → Type 0) (a b : Attempt) (schema : Outline) (places : List Place) (ty : ℕ) (place : Place) (Seen : Place → Array → Type 0)
    → Some place ≡ place_of (store Extent ty) places → place.store ≡ store Extent ty → (result : Result A PageFault) → OnOk result (WithStore form a b place (λ array outline others view. Seen place array))
    → OnOk result (OfState form a b schema places (λ array s. (other : Place) → place_of (store Extent ty) places ≡ Some other → Seen other array))
seen-extent form a b schema places ty place Seen at is (Err fault) h = tt
seen-extent form a b schema places ty place Seen at is (Ok x) h = λ array s agrees same stands other found.
    subst (λ (p : Place). Seen p array) (some-is place other (at ∙ found)) (h array s.schema places (view_of s) agrees stands.database (ap (λ (n : ℕ). place_of n places) is ∙ sym at))
  where
    some-is : (p q : Place) → Some p ≡ Some q → p ≡ q
    some-is p q e = cc
