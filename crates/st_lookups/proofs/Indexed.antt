-- The rows of an attribute's index and inverse in a state, and the pairs that they are of.
use Rattle.std.proofs.Common.{◌≡◌, ℕ, ◌+◌, ◌*◌, ◌/◌, ◌%◌, ◌<◌, ◌≤◌, Bool, true, false, List, [], ◌∷◌, Option, Some, None, Result, map, refl, sym, ap, ◌∙◌, subst, arith}
use Rattle.std.specs.Prelude.{◌==◌, filter, nat_lt, if◌then◌else◌, is_some, IfSome, IsTrue}
use Rattle.std.specs.List.{All}
use Rattle.std.specs.Option.{option_or}
use Rattle.std.proofs.lemmas.Bool.Decides.{nat_tests}
use Rattle.std.proofs.lemmas.List.Elements.{All-head, All-map}
use Rattle.std.proofs.lemmas.List.Sorted.{All-permutation}
use Rattle.st_lattice.specs.declared.attribute.Attribute.{Attribute}
use Rattle.st_lattice.specs.declared.stores.StoreKind.TheVariants.{Index, Inverse}
use Rattle.st_lattice.specs.Outline.{attribute}
use Rattle.st_lattice.specs.Stores.{store}
use Rattle.st_pages.specs.declared.places.Place.{Place}
use Rattle.st_pages.specs.Places.{place_of}
use Rattle.st_index.specs.Bad.{IsNamed}
use Rattle.st_index.specs.Turned.{found_place}
use Rattle.st_index.proofs.Placed.{one-store}
use Rattle.st_state.specs.State.{State, converse, pair_of}
use Rattle.st_state.specs.Legal.{IsNearlyLegal}
use Rattle.st_state.proofs.Turned.{converse-permutation}
use Rattle.st_standing.specs.Standing.{attribute_rows, extent_rows, rows_at, turned_rows}
use Rattle.st_lookups.proofs.Membered.{triples-named}

not-less : (m n : ℕ) → n ≤ m → nat_lt m n ≡ false
not-less m n h = grind (arith, nat_tests, h)

rows-attribute : (s : State) (k n : ℕ) → 0 < k → n < 65536 → rows_at s (k * 65536 + n) ≡ attribute_rows s k (attribute s.schema n)
rows-attribute s k n p h =
    let of-kind : (k * 65536 + n) / 65536 ≡ k = omega (arith, h) in
    let in-kind : (k * 65536 + n) % 65536 ≡ n = omega (arith, h) in
    λ i. if not-less (k * 65536 + n) 65536 (omega (arith, p)) i then extent_rows s (k * 65536 + n) else attribute_rows s (of-kind i) (attribute s.schema (in-kind i))

module _ (s : State) (number : ℕ) (a : Attribute) (f : attribute s.schema number ≡ Some a) (small : number < 65536) where
  rows-index : rows_at s (store Index number) ≡ turned_rows a.kind (converse a.number s.triples)
  rows-index = rows-attribute s 2 number (omega arith) small ∙ ap (attribute_rows s 2) f

  rows-inverse : rows_at s (store Inverse number) ≡ turned_rows a.kind (converse a.number s.triples)
  rows-inverse = rows-attribute s 3 number (omega arith) small ∙ ap (attribute_rows s 3) f

  store-is : (places : List Place) (k : ℕ) (place : Place) → place_of k places ≡ Some place → place.store ≡ k
  store-is places k place at = All-head (λ (p : Place). p.store ≡ k) place [] (one-store places k (Some place) (sym at))

  -- where an attribute is looked up stand the rows of its pairs
  pub rows-found : (places : List Place) (place : Place) → found_place number places ≡ Some place → rows_at s place.store ≡ turned_rows a.kind (converse a.number s.triples)
  rows-found places place at = by (place_of (store Inverse number) places) refl at
    where
      some-is : (p q : Place) → Some p ≡ Some q → p ≡ q
      some-is p q e = cc

      by : (o : Option Place) → place_of (store Inverse number) places ≡ o → option_or o (place_of (store Index number) places) ≡ Some place → rows_at s place.store ≡ turned_rows a.kind (converse a.number s.triples)
      by None none h = ap (rows_at s) (store-is places (store Index number) place h) ∙ rows-index
      by (Some p) found h = ap (rows_at s) (store-is places (store Inverse number) place (found ∙ h)) ∙ rows-inverse

-- the pairs of an attribute name entities of its types
pub pairs-named : (s : State) (legal : IsNearlyLegal s) (number : ℕ) (a : Attribute) (f : attribute s.schema number ≡ Some a) → All (IsNamed s.schema a) (converse number s.triples)
pairs-named s legal number a f =
    All-permutation (IsNamed s.schema a) (map pair_of (filter (λ t. t.attribute == number) s.triples)) (converse number s.triples) (converse-permutation number s.triples legal.triples_ascend)
    (All-map (IsNamed s.schema a) pair_of (filter (λ t. t.attribute == number) s.triples) (triples-named s legal number a f))

pub of-some : {X : Type 0} (P : X → Type 0) (o : Option X) (x : X) → o ≡ Some x → IfSome o P → P x
of-some P o x e h = subst (λ (y : Option _). IfSome y P) e h

pub there-is : {X : Type 0} (o : Option X) → IsTrue (is_some o) → (x : X) × (o ≡ Some x)
there-is None h = absurd (none h)
  where
    none : IsTrue false → ⊥
    none k = Rattle.std.proofs.Common.true≢false (sym k)
there-is (Some x) h = (x, refl)
