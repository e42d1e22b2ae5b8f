-- Sets of pages that are asked for.
use Rattle.std.proofs.Common.{◌≡◌, ℕ, Bool, true, false, ◌==◌, ◌||◌, ◌&&◌, IsTrue, IfSome, IfOk, OnOk, Option, Some, None, Result, Ok, Err, refl, sym, ap, ◌∙◌, arith, true≢false}
use Rattle.std.proofs.lemmas.Bool.Decides.{nat_tests}
use Rattle.std.specs.Prelude.{not}
use Rattle.st_values.proofs.Tests.{both, either, first-of, left, one-of, right}
use Rattle.st_pages.specs.Attempt.{Array, Attempt}
use Rattle.st_pages.specs.Reading.{ForEach}
use Rattle.st_pages.specs.Calls.{IsWithin, no_page, only}
use Rattle.st_store.specs.Stores.{drew_between}
use Rattle.st_chain.specs.declared.walk.Spot.{Spot}
use Rattle.st_chain.specs.Changes.{either_of, is_in_front, is_previous, page_or_drawn, spot_or_previous}

pub nowhere : (pages : ℕ → Bool) → IsWithin no_page pages
nowhere pages = λ page here. absurd (true≢false (sym here))

pub itself : (pages : ℕ → Bool) → IsWithin pages pages
itself pages = λ page here. here

pub first-within : (page second : ℕ) → IsWithin (only page) (either_of page second)
first-within page second = λ other here. first-of (other == page) (other == second) here

pub second-within : (page second : ℕ) → IsWithin (only second) (either_of page second)
second-within page second = λ other here. one-of (other == page) (other == second) here

pub page-within : (a b : Attempt) (page : ℕ) → IsWithin (only page) (page_or_drawn a b page)
page-within a b page = λ other here. first-of (other == page) (drew_between a b other) here

-- ---- pages that a store may ask for

module _ (reach : ℕ → Bool) where
  pub reach-within : (a b d : Attempt) (page : ℕ) → IsTrue (reach page) → ((p : ℕ) → IsTrue (a.drawn p) → IsTrue (b.drawn p)) → IsWithin (page_or_drawn b d page) (λ p. reach p || drew_between a d p)
  reach-within a b d page here stays other is =
      either (other == page) (λ t. (other == page) ≡ t → (t || drew_between b d other) ≡ true → (reach other || drew_between a d other) ≡ true)
      (λ _ e _. first-of (reach other) (drew_between a d other) (ap reach (same other page e) ∙ here))
      (λ _ _ drew. one-of (reach other) (drew_between a d other) (drew-before (a.drawn other) (b.drawn other) (d.drawn other) (stays other) drew)) refl is
    where
      same : (p q : ℕ) → (p == q) ≡ true → p ≡ q
      same p q e = grind (arith, nat_tests)

      drew-before : (x y z : Bool) → (x ≡ true → y ≡ true) → (z && not y) ≡ true → (z && not x) ≡ true
      drew-before true y z h k = absurd (true≢false (sym (right z (not y) k) ∙ ap not (h refl)))
      drew-before false y z h k = both z true (left z (not y) k) refl

  in-front-within : (o : Option ℕ) → IfSome o (λ p. IsTrue (reach p)) → IsWithin (is_in_front o) reach
  in-front-within None here other is = absurd (true≢false (sym is))
  in-front-within (Some previous) here other is = ap reach (same other previous is) ∙ here
    where
      same : (p q : ℕ) → (p == q) ≡ true → p ≡ q
      same p q e = grind (arith, nat_tests)

  pub front-within : (spot : Spot) → IfSome spot.previous (λ p. IsTrue (reach p)) → IsWithin (is_previous spot) reach
  front-within spot here = in-front-within spot.previous here

  pub around-within : (spot : Spot) → IsTrue (reach spot.page) → IfSome spot.previous (λ p. IsTrue (reach p)) → IsWithin (spot_or_previous spot) reach
  around-within spot page front other is =
      either (other == spot.page) (λ t. (other == spot.page) ≡ t → (t || is_previous spot other) ≡ true → reach other ≡ true)
      (λ _ e _. ap reach (same other spot.page e) ∙ page)
      (λ _ _ k. front-within spot front other k) refl is
    where
      same : (p q : ℕ) → (p == q) ≡ true → p ≡ q
      same p q e = grind (arith, nat_tests)

-- what holds of the page in front, for each array
pub front-each : (o : Option ℕ) (a b : Attempt) (Holds : Array → ℕ → Type 0) → IfSome o (λ p. ForEach a b (λ x. Holds x p)) → ForEach a b (λ x. IfSome o (Holds x))
front-each None a b Holds each array agrees = tt
front-each (Some previous) a b Holds each array agrees = each array agrees

-- what is said of an answer by several clauses
pub if-ok : {A E : Type 0} (r : Result A E) (P Q : A → Type 0) (X : Type 0) (S : A → Type 0) → IfOk r P → IfOk r Q → OnOk r X → ((x : A) → P x → Q x → X → S x) → IfOk r S
if-ok (Ok x) P Q X S p q h f = f x p q h
if-ok (Err e) P Q X S p q h f = tt
