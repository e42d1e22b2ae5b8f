-- The rows of a state's stores by the stores' numbers, and those that a change of one attribute's triples leaves alone.
use Rattle.std.proofs.Common.{◌≡◌, ℕ, ◌+◌, ◌*◌, ◌<◌, ◌≤◌, ◌/◌, ◌%◌, true, false, List, Option, Some, None, refl, sym, ap, ◌∙◌, arith}
use Rattle.std.specs.Prelude.{◌==◌, ◌||◌, nat_lt, map, if◌then◌else◌}
use Rattle.st_values.specs.Arranged.{arranged}
use Rattle.st_values.proofs.Tests.{never}
use Rattle.st_lattice.specs.declared.attribute.Attribute.{Attribute}
use Rattle.st_lattice.specs.declared.stores.StoreKind.TheVariants.{Set, Index, Inverse, Column}
use Rattle.st_lattice.specs.Outline.{Outline, attribute}
use Rattle.st_lattice.specs.Stores.{store}
use Rattle.st_state.specs.declared.triple.Triple.{Triple}
use Rattle.st_state.specs.State.{State, converse, pair_before, pair_of}
use Rattle.st_state.proofs.Changed.{number-is}
use Rattle.st_state.proofs.Members.{find-passes}
use Rattle.st_standing.specs.Standing.{attribute_rows, extent_rows, rows_at, triples_of, turned_rows, value_rows}

-- ---- stores by number

low : (at : ℕ) → at < 65536 → nat_lt at 65536 ≡ true
low at h = grind (arith, h)

not-low : (k number : ℕ) → 1 ≤ k → nat_lt (k * 65536 + number) 65536 ≡ false
not-low k number h = never (nat_lt (k * 65536 + number) 65536) (λ e. let less : k * 65536 + number < 65536 = grind (arith, e) in omega arith)

quotient : (k number : ℕ) → number < 65536 → (k * 65536 + number) / 65536 ≡ k
quotient k number h = omega arith

remainder : (k number : ℕ) → number < 65536 → (k * 65536 + number) % 65536 ≡ number
remainder k number h = omega arith

-- the extent of a type
pub rows_at-extent : (s : State) (ty : ℕ) → ty < 65536 → rows_at s ty ≡ extent_rows s ty
rows_at-extent s ty h = ap (λ b. if b then extent_rows s ty else attribute_rows s (ty / 65536) (attribute s.schema (ty % 65536))) (low ty h)

-- a store of an attribute, by the number of its kind
pub rows_at-attribute : (s : State) (k number : ℕ) → 1 ≤ k → number < 65536 → rows_at s (k * 65536 + number) ≡ attribute_rows s k (attribute s.schema number)
rows_at-attribute s k number some h =
    ap (λ b. if b then extent_rows s (k * 65536 + number) else attribute_rows s ((k * 65536 + number) / 65536) (attribute s.schema ((k * 65536 + number) % 65536))) (not-low k number some)
    ∙ (λ i. attribute_rows s (quotient k number h i) (attribute s.schema (remainder k number h i)))

-- the four kinds of them
module _ (s : State) (number : ℕ) (a : Attribute) (f : attribute s.schema number ≡ Some a) (h : number < 65536) where
  its-number : a.number ≡ number
  its-number = number-is a.number number (find-passes (λ b. b.number == number) a s.schema.attributes f)

  pub rows_at-set : rows_at s (store Set number) ≡ value_rows a.kind (triples_of number s.triples)
  rows_at-set = rows_at-attribute s 1 number (omega arith) h ∙ ap (attribute_rows s 1) f ∙ ap (λ z. value_rows a.kind (triples_of z s.triples)) its-number

  pub rows_at-column : rows_at s (store Column number) ≡ value_rows a.kind (triples_of number s.triples)
  rows_at-column = rows_at-attribute s 4 number (omega arith) h ∙ ap (attribute_rows s 4) f ∙ ap (λ z. value_rows a.kind (triples_of z s.triples)) its-number

  pub rows_at-index : rows_at s (store Index number) ≡ turned_rows a.kind (converse number s.triples)
  rows_at-index = rows_at-attribute s 2 number (omega arith) h ∙ ap (attribute_rows s 2) f ∙ ap (λ z. turned_rows a.kind (converse z s.triples)) its-number

  pub rows_at-inverse : rows_at s (store Inverse number) ≡ turned_rows a.kind (converse number s.triples)
  rows_at-inverse = rows_at-attribute s 3 number (omega arith) h ∙ ap (attribute_rows s 3) f ∙ ap (λ z. turned_rows a.kind (converse z s.triples)) its-number

-- a store of an attribute that is none of those of one number has another number
pub store-apart : (at number : ℕ) → nat_lt at 65536 ≡ false → at < 327680 → (at ≡ store Set number → ⊥) → (at ≡ store Index number → ⊥) → (at ≡ store Inverse number → ⊥) → (at ≡ store Column number → ⊥)
    → (at % 65536 == number) ≡ false
store-apart at number high within set index inverse column =
    never (at % 65536 == number) (λ e.
    let is : at % 65536 ≡ number = number-is (at % 65536) number e in
    let least : 65536 ≤ at = grind (arith, high) in
    omega arith)

-- ---- stores that stay

module _ (s t : State) (number : ℕ) (schema : t.schema ≡ s.schema) (others : (other : ℕ) → (other == number) ≡ false → triples_of other t.triples ≡ triples_of other s.triples) where
  rows-of-others : (k : ℕ) (a : Attribute) → (a.number == number) ≡ false → attribute_rows t k (Some a) ≡ attribute_rows s k (Some a)
  rows-of-others k a h =
      ap (λ (ts : List Triple). if (k == 1) || (k == 4) then value_rows a.kind ts else turned_rows a.kind (arranged pair_before (map pair_of ts))) (others a.number h)

  -- a store of an attribute with another number
  pub rows_at-others : (at : ℕ) → nat_lt at 65536 ≡ false → (at % 65536 == number) ≡ false → rows_at t at ≡ rows_at s at
  rows_at-others at high apart =
      ap (λ b. if b then extent_rows t at else attribute_rows t (at / 65536) (attribute t.schema (at % 65536))) high
      ∙ ap (λ (o : Outline). attribute_rows t (at / 65536) (attribute o (at % 65536))) schema
      ∙ by (attribute s.schema (at % 65536)) refl
      ∙ sym (ap (λ b. if b then extent_rows s at else attribute_rows s (at / 65536) (attribute s.schema (at % 65536))) high)
    where
      by : (o : Option Attribute) → attribute s.schema (at % 65536) ≡ o → attribute_rows t (at / 65536) o ≡ attribute_rows s (at / 65536) o
      by None f = refl
      by (Some a) f = rows-of-others (at / 65536) a (ap (λ z. z == number) (number-is a.number (at % 65536) (find-passes (λ b. b.number == at % 65536) a s.schema.attributes f)) ∙ apart)
