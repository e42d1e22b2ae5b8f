-- The value of an attribute stands among the cells of its entity's row.
use Rattle.std.proofs.Common.{◌≡◌, ℕ, ◌+◌, ◌<◌, Bool, true, false, cond, if◌then◌else◌, List, [], ◌∷◌, Option, Some, None, Result, Ok, Err, IfErr, length, get_or, map, refl, sym, ap, ◌∙◌, subst, arith, true≢false}
use Rattle.std.specs.Prelude.{◌&&◌, ◌||◌, ◌==◌, not, filter, find, nat_lt, position}
use Rattle.std.specs.List.{All, list_any, position_or_len}
use Rattle.std.proofs.lemmas.Bool.Decides.{nat_tests}
use Rattle.std.proofs.lemmas.List.{get_or-map}
use Rattle.std.proofs.lemmas.List.Quantifiers.{position-Some}
use Rattle.st_values.specs.declared.value.EntityId.{EntityId}
use Rattle.st_values.specs.declared.value.Value.{Value}
use Rattle.st_values.specs.declared.value.Value.TheVariants.{Null}
use Rattle.st_values.proofs.Tests.{both, either, first-of, left, one-of, right}
use Rattle.st_page.specs.declared.fault.PageFault.{PageFault}
use Rattle.st_page.specs.declared.fault.PageFault.TheVariants.{Memory}
use Rattle.st_pages.specs.Reading.{OfDamage}
use Rattle.st_lattice.specs.declared.attribute.Attribute.{Attribute}
use Rattle.st_lattice.specs.Lattice.{attributes_in, isa}
use Rattle.st_lattice.specs.Outline.{attribute}
use Rattle.st_lattice.specs.Stores.{passes}
use Rattle.st_state.specs.State.{State, is_live, value_at}
use Rattle.st_state.specs.Calls.{HasSingle}
use Rattle.st_state.specs.Rows.{entity_row}
use Rattle.st_state.proofs.Changed.{number-is}
use Rattle.st_standing.proofs.Fitting.{found-holds}
use Rattle.st_lookups.specs.Looks.{cells_of, is_cell, value_among}
use Rattle.st_lookups.proofs.Celled.{all-cells}

some-is : (x y : Attribute) → Some x ≡ Some y → x ≡ y
some-is x y e = cc

-- one that is found and kept is among those that are kept
kept-any : (test q : Attribute → Bool) (xs : List Attribute) (a : Attribute) → find test xs ≡ Some a → q a ≡ true → list_any test (filter q xs) ≡ true
kept-any test q [] a e k = absurd (none a e)
  where
    none : (x : Attribute) → None ≡ Some x → ⊥
    none x h = cc
kept-any test q (x ∷ xs) a e k =
    either (test x) (λ b. cond b (Some x) (find test xs) ≡ Some a → list_any test (cond (q x) (x ∷ filter q xs) (filter q xs)) ≡ true)
    (λ t f. subst (λ (b : Bool). list_any test (cond b (x ∷ filter q xs) (filter q xs)) ≡ true) (sym (ap q (some-is x a f) ∙ k)) (first-of (test x) (list_any test (filter q xs)) t))
    (λ t f. let rest = kept-any test q xs a f k in either (q x) (λ b. list_any test (cond b (x ∷ filter q xs) (filter q xs)) ≡ true) (λ _. one-of (test x) (list_any test (filter q xs)) rest) (λ _. rest)) e

place-less : (test : Attribute → Bool) (xs : List Attribute) → list_any test xs ≡ true → position_or_len test xs < length xs
place-less test [] h = absurd (true≢false (sym h))
place-less test (x ∷ xs) h =
    either (test x) (λ b. (b || list_any test xs) ≡ true → cond (not b) (1 + position_or_len test xs) 0 < length (x ∷ xs))
    (λ t k. omega arith) (λ t k. let rest = place-less test xs k in omega (arith, rest)) h

below : (m n : ℕ) → m < n → nat_lt m n ≡ true
below m n h = grind (arith, nat_tests)

-- the value of the attribute with a number, by its place among attributes
by-place : (number : ℕ) (f : ℕ → Value) (xs : List Attribute) (a : Attribute) → list_any (λ b. b.number == number) xs ≡ true → value_among (position (λ b. b.number == number) xs) (map (λ b. f b.number) xs) ≡ f number
by-place number f xs a h =
    let test : Attribute → Bool = λ b. b.number == number in
    let k = position_or_len test xs in
    let less = place-less test xs h in
    let is : position test xs ≡ Some k = ap (λ (b : Bool). cond b (Some k) None) (below k (length xs) less) in
    let here = position-Some test xs k a is in
    ap (λ (o : Option ℕ). value_among o (map (λ b. f b.number) xs)) is ∙ get_or-map (λ (b : Attribute). f b.number) xs k a Null less ∙ ap f (number-is (get_or xs k a).number number here.1)

pub value-cell : (s : State) (e : EntityId) (number : ℕ) → All (λ a. a.column ≡ false) s.schema.attributes → passes (λ a. isa s.schema e.ty a.owner && not a.many) (attribute s.schema number) ≡ true
    → value_among (position (λ a. a.number == number) (filter is_cell (attributes_in s.schema e.ty))) (entity_row s e).cells ≡ value_at number e s.triples
value-cell s e number in-rows single = by (attribute s.schema number) refl single
  where
    by : (o : Option Attribute) → attribute s.schema number ≡ o → passes (λ a. isa s.schema e.ty a.owner && not a.many) o ≡ true
        → value_among (position (λ a. a.number == number) (filter is_cell (attributes_in s.schema e.ty))) (entity_row s e).cells ≡ value_at number e s.triples
    by None f h = absurd (true≢false (sym h))
    by (Some a) f h =
        let row-wise : a.column ≡ false = found-holds (λ b. b.column ≡ false) (λ b. b.number == number) s.schema.attributes a in-rows f in
        let cell : (isa s.schema e.ty a.owner && is_cell a) ≡ true = both (isa s.schema e.ty a.owner) (is_cell a) (left (isa s.schema e.ty a.owner) (not a.many) h) (both (not a.many) (not a.column) (right (isa s.schema e.ty a.owner) (not a.many) h) (ap not row-wise)) in
        by-place number (λ n. value_at n e s.triples) (filter is_cell (attributes_in s.schema e.ty)) a
        (ap (list_any (λ b. b.number == number)) (all-cells s.schema e.ty) ∙ kept-any (λ b. b.number == number) (λ b. isa s.schema e.ty b.owner && is_cell b) s.schema.attributes a f cell)

pub value-there : (s : State) (e : EntityId) (number : ℕ) → All (λ a. a.column ≡ false) s.schema.attributes → HasSingle s e number
    → value_among (position (λ a. a.number == number) (filter is_cell (attributes_in s.schema e.ty))) (entity_row s e).cells ≡ value_at number e s.triples
value-there s e number in-rows has = value-cell s e number in-rows has.single

some-cells : (x y : List Value) → Some x ≡ Some y → x ≡ y
some-cells x y e = cc

none-some : (x : List Value) → None ≡ Some x → ⊥
none-some x e = cc

pub cells-live : (s : State) (e : EntityId) (cells : List Value) → is_live s e ≡ true → Some cells ≡ cells_of s e → cells ≡ (entity_row s e).cells
cells-live s e cells live is = some-cells cells (entity_row s e).cells (is ∙ ap (λ (b : Bool). if b then Some (entity_row s e).cells else None) live)

pub cells-dead : (s : State) (e : EntityId) → is_live s e ≡ true → None ≡ cells_of s e → ⊥
cells-dead s e live is = none-some (entity_row s e).cells (is ∙ ap (λ (b : Bool). if b then Some (entity_row s e).cells else None) live)

pub memory-sound : {A : Type 0} (result : Result A PageFault) → IfErr result (λ fault. fault ≡ Memory) → IfErr result (OfDamage (λ page at. ⊥))
memory-sound (Ok x) h = tt
memory-sound (Err fault) h = subst (OfDamage (λ page at. ⊥)) (sym h) tt
