-- The places of a schema that was read are such as stores may stand at.
use Rattle.std.proofs.Common.{◌≡◌, ℕ, zero, suc, ◌+◌, ◌*◌, ◌/◌, ◌%◌, ◌<◌, ◌≤◌, ◌==◌, Bool, true, false, cond, List, [], ◌∷◌, ◌++◌, Option, Some, None, refl, sym, ap, subst, arith, true≢false}
use Rattle.std.specs.Prelude.{nat_lt, filter, length, map}
use Rattle.std.specs.List.{All, range_with_len}
use Rattle.std.proofs.lemmas.Bool.Decides.{nat_tests}
use Rattle.std.proofs.lemmas.List.Elements.{All-append, All-cons, All-head, All-nil, All-tail}
use Rattle.st_values.proofs.Tests.{either}
use Rattle.st_lattice.specs.declared.attribute.Attribute.{Attribute}
use Rattle.st_lattice.specs.declared.stores.StoreKind.{StoreKind}
use Rattle.st_lattice.specs.declared.stores.StoreKind.TheVariants.{Extent, Set, Index, Inverse, Column}
use Rattle.st_lattice.specs.Outline.{Outline, IsOrderly, attribute}
use Rattle.st_lattice.specs.Lattice.{below}
use Rattle.st_lattice.specs.Stores.{store, stores_of, stores_below, keeps_one, kind_number, row_width, key_width}
use Rattle.st_image.specs.Grammar.{AreFair}
use Rattle.st_pages.specs.declared.places.Place.{Place}
use Rattle.st_store.specs.Stores.{IsPlace}
use Rattle.st_catalog.specs.Stores.{AreOf, IsPlaced, Layout, layout_of, pair_layout}
use Rattle.st_index.proofs.Placed.{found-holds}
use Rattle.st_database.proofs.Brief.{HasShortKey}

module _ (schema : Outline) (orderly : IsOrderly schema) (narrow : (ty : ℕ) → ty < length schema.names → row_width schema ty ≤ 1000) (short : All HasShortKey schema.attributes) where
  abbrev IsFairStore : ℕ → Type 0
  IsFairStore s = AreFair (layout_of schema s).key (layout_of schema s).width

  extent-fair : (ty : ℕ) → ty < length schema.names → IsFairStore (store Extent ty)
  extent-fair ty h =
      let few = orderly.few_types in
      let near : nat_lt (0 * 65536 + ty) 65536 ≡ true = grind (arith, nat_tests) in
      let is : layout_of schema (0 * 65536 + ty) ≡ record { key = 4; width = row_width schema (0 * 65536 + ty) } = (rw near refl) in
      let most : row_width schema (0 * 65536 + ty) ≤ 1000 = narrow (0 * 65536 + ty) (omega (arith, h)) in
      subst (λ (l : Layout). AreFair l.key l.width) (sym is) (record { least = omega arith; most = omega arith; within = omega arith; short = most })

  extents-fair : (from count : ℕ) → from + count ≤ length schema.names → All IsFairStore (map (store Extent) (range_with_len from count))
  extents-fair from zero h = All-nil IsFairStore
  extents-fair from (suc count) h =
      All-cons IsFairStore (store Extent from) (map (store Extent) (range_with_len (from + 1) count)) (extent-fair from (omega (arith, h))) (extents-fair (from + 1) count (omega (arith, h)))

  pair-fair : (k : ℕ) (a : Attribute) → key_width a.kind ≤ 201 → AreFair (pair_layout k (Some a)).key (pair_layout k (Some a)).width
  pair-fair k a h =
      either (k == 4) (λ b. AreFair (cond b 6 (6 + key_width a.kind)) (6 + key_width a.kind))
      (λ _. record { least = omega arith; most = omega arith; within = omega arith; short = omega (arith, h) })
      (λ _. record { least = omega arith; most = omega (arith, h); within = omega arith; short = omega (arith, h) })

  far : (kind : StoreKind) (k number : ℕ) → kind_number kind ≡ k → 0 < k → number < 65536 → keeps_one kind (attribute schema number) ≡ true → IsFairStore (store kind number)
  far kind k number is some small keeps =
      let s : ℕ = kind_number kind * 65536 + number in
      let at : s ≡ k * 65536 + number = ap (λ (n : ℕ). n * 65536 + number) is in
      let above : nat_lt s 65536 ≡ false = grind (arith, nat_tests) in
      let up : s / 65536 ≡ k = omega (arith, at, small) in
      let down : s % 65536 ≡ number = omega (arith, at, small) in
      let here : layout_of schema s ≡ pair_layout k (attribute schema number) = (rw (above, up, down) refl) in
      subst (λ (l : Layout). AreFair l.key l.width) (sym here) (kept (attribute schema number) refl keeps)
    where
      kept : (o : Option Attribute) → attribute schema number ≡ o → keeps_one kind o ≡ true → AreFair (pair_layout k o).key (pair_layout k o).width
      kept None e h = absurd (true≢false (sym h))
      kept (Some a) e h = pair-fair k a (found-holds (λ x. x.number == number) HasShortKey schema.attributes a e short).0

  kept-fair : (kind : StoreKind) (k : ℕ) → kind_number kind ≡ k → 0 < k → (from count : ℕ) → from + count ≤ 65536
      → All IsFairStore (map (store kind) (filter (λ number. keeps_one kind (attribute schema number)) (range_with_len from count)))
  kept-fair kind k is some from zero h = All-nil IsFairStore
  kept-fair kind k is some from (suc count) h =
      let rest = kept-fair kind k is some (from + 1) count (omega (arith, h)) in
      let others = filter (λ number. keeps_one kind (attribute schema number)) (range_with_len (from + 1) count) in
      by (keeps_one kind (attribute schema from)) refl others rest
    where
      by : (b : Bool) → keeps_one kind (attribute schema from) ≡ b → (others : List ℕ) → All IsFairStore (map (store kind) others) → All IsFairStore (map (store kind) (cond b (from ∷ others) others))
      by true e others rest = All-cons IsFairStore (store kind from) (map (store kind) others) (far kind k from is some (omega (arith, h)) e) rest
      by false e others rest = rest

  stores-fair : All IsFairStore (stores_of schema)
  stores-fair =
      let sets = stores_below schema Set schema.next in
      let indexes = stores_below schema Index schema.next in
      let inverses = stores_below schema Inverse schema.next in
      let columns = stores_below schema Column schema.next in
      let extents = map (store Extent) (below (length schema.names)) in
      let within : 0 + schema.next ≤ 65536 = (let n = orderly.next in omega (arith, n)) in
      let one = All-append IsFairStore extents sets (extents-fair 0 (length schema.names) (omega arith)) (kept-fair Set 1 refl (omega arith) 0 schema.next within) in
      let two = All-append IsFairStore (extents ++ sets) indexes one (kept-fair Index 2 refl (omega arith) 0 schema.next within) in
      let three = All-append IsFairStore (extents ++ sets ++ indexes) inverses two (kept-fair Inverse 3 refl (omega arith) 0 schema.next within) in
      All-append IsFairStore (extents ++ sets ++ indexes ++ inverses) columns three (kept-fair Column 4 refl (omega arith) 0 schema.next within)

  placed-fair : (places : List Place) → All IsFairStore (map (λ p. p.store) places) → All (IsPlaced schema) places → All IsPlace places
  placed-fair [] h placed = All-nil IsPlace
  placed-fair (p ∷ places) h placed =
      let here = All-head (IsPlaced schema) p places placed in
      let is : AreFair (layout_of schema p.store).key (layout_of schema p.store).width = All-head IsFairStore p.store (map (λ q. q.store) places) h in
      let one : AreFair p.key (layout_of schema p.store).width = subst (λ (n : ℕ). AreFair n (layout_of schema p.store).width) (sym here.key) is in
      All-cons IsPlace p places (record { first = here.first; fair = subst (λ (n : ℕ). AreFair p.key n) (sym here.width) one })
      (placed-fair places (All-tail IsFairStore p.store (map (λ q. q.store) places) h) (All-tail (IsPlaced schema) p places placed))

  pub fair-places : (places : List Place) → AreOf schema places → All IsPlace places
  fair-places places of = placed-fair places (subst (All IsFairStore) (sym of.stores) stores-fair) of.placed
