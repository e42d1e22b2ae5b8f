-- The places of extents, among all places of a schema.
use Rattle.std.proofs.Common.{◌≡◌, ℕ, zero, suc, ◌+◌, ◌*◌, ◌<◌, ◌≤◌, ◌==◌, true, false, cond, List, [], ◌∷◌, ◌++◌, Option, Some, None, refl, sym, ap, ◌∙◌, subst, arith, true≢false}
use Rattle.std.specs.Prelude.{nat_lt, filter, length, map, IfSome}
use Rattle.std.specs.List.{All, range_with_len}
use Rattle.std.proofs.lemmas.Bool.Decides.{nat_tests}
use Rattle.std.proofs.lemmas.List.Elements.{All-append, All-cons, All-head, All-nil, All-tail}
use Rattle.st_values.proofs.Tests.{either}
use Rattle.st_lattice.specs.declared.stores.StoreKind.TheVariants.{Extent, Set, Index, Inverse, Column}
use Rattle.st_lattice.specs.Outline.{Outline, attribute}
use Rattle.st_lattice.specs.Lattice.{below}
use Rattle.st_lattice.specs.Stores.{keeps_one, row_width, store, stores_below, stores_of}
use Rattle.st_pages.specs.declared.places.Place.{Place}
use Rattle.st_pages.specs.Places.{place_of}
use Rattle.st_store.specs.Stores.{IsPlace}
use Rattle.st_catalog.specs.Stores.{AreOf, IsPlaced, Layout, layout_of}
use Rattle.st_index.proofs.Changes.{all-first}
use Rattle.st_index.proofs.Placed.{found-holds}
use Rattle.st_lookups.specs.Looks.{IsExtent}

-- a store's number below those of attributes is that of one of so many types
abbrev Low : ℕ → ℕ → Type 0
Low count s = s < 65536 → s < count

low-extents : (count from many : ℕ) → from + many ≤ count → All (Low count) (map (store Extent) (range_with_len from many))
low-extents count from zero h = All-nil (Low count)
low-extents count from (suc many) h =
    All-cons (Low count) (store Extent from) (map (store Extent) (range_with_len (from + 1) many)) (λ less. omega (arith, h)) (low-extents count (from + 1) many (omega (arith, h)))

low-others : (count : ℕ) (f : ℕ → ℕ) → ((n : ℕ) → 65536 ≤ f n) → (ns : List ℕ) → All (Low count) (map f ns)
low-others count f far [] = All-nil (Low count)
low-others count f far (n ∷ ns) = All-cons (Low count) (f n) (map f ns) (λ less. let above = far n in absurd (omega (arith, less, above))) (low-others count f far ns)

low-all : (schema : Outline) → All (Low (length schema.names)) (stores_of schema)
low-all schema =
    let n = length schema.names in
    let sets = stores_below schema Set schema.next in
    let indexes = stores_below schema Index schema.next in
    let inverses = stores_below schema Inverse schema.next in
    let columns = stores_below schema Column schema.next in
    let extents = map (store Extent) (below n) in
    let one = All-append (Low n) extents sets (low-extents n 0 n (omega arith)) (low-others n (store Set) (λ k. omega arith) (filter (λ number. keeps_one Set (attribute schema number)) (below schema.next))) in
    let two = All-append (Low n) (extents ++ sets) indexes one (low-others n (store Index) (λ k. omega arith) (filter (λ number. keeps_one Index (attribute schema number)) (below schema.next))) in
    let three = All-append (Low n) (extents ++ sets ++ indexes) inverses two (low-others n (store Inverse) (λ k. omega arith) (filter (λ number. keeps_one Inverse (attribute schema number)) (below schema.next))) in
    All-append (Low n) (extents ++ sets ++ indexes ++ inverses) columns three (low-others n (store Column) (λ k. omega arith) (filter (λ number. keeps_one Column (attribute schema number)) (below schema.next)))

-- what holds of the stores of places holds of each place's store
pub by-store : (P : ℕ → Type 0) (places : List Place) → All P (map (λ p. p.store) places) → All (λ p. P p.store) places
by-store P [] all = All-nil (λ p. P p.store)
by-store P (p ∷ ps) all = All-cons (λ q. P q.store) p ps (All-head P p.store (map (λ q. q.store) ps) all) (by-store P ps (All-tail P p.store (map (λ q. q.store) ps) all))

is-number : (m n : ℕ) → (m == n) ≡ true → m ≡ n
is-number m n h = grind (arith, nat_tests)

-- where no place is found, none has the store
pub none-has : (s : ℕ) (places : List Place) → place_of s places ≡ None → All (λ t. t ≡ s → ⊥) (map (λ p. p.store) places)
none-has s [] e = All-nil (λ t. t ≡ s → ⊥)
none-has s (p ∷ ps) e =
    either (p.store == s) (λ b. cond b (Some p) (place_of s ps) ≡ None → All (λ t. t ≡ s → ⊥) (map (λ q. q.store) (p ∷ ps)))
    (λ h f. absurd (some-none p f))
    (λ h f. All-cons (λ t. t ≡ s → ⊥) p.store (map (λ q. q.store) ps) (λ same. true≢false (sym (number-is p.store s same) ∙ h)) (none-has s ps f)) e
  where
    some-none : (q : Place) → Some q ≡ None → ⊥
    some-none q f = cc

    number-is : (m n : ℕ) → m ≡ n → (m == n) ≡ true
    number-is m n f = grind (arith, nat_tests)

in-range : (P : ℕ → Type 0) (from many ty : ℕ) → from ≤ ty → ty < from + many → All P (map (store Extent) (range_with_len from many)) → P (store Extent ty)
in-range P from zero ty h k all = absurd (omega (arith, h, k))
in-range P from (suc many) ty h k all =
    either (from == ty) (λ b. P (store Extent ty))
    (λ e. subst (λ (n : ℕ). P (store Extent n)) (is-number from ty e) (All-head P (store Extent from) (map (store Extent) (range_with_len (from + 1) many)) all))
    (λ e. in-range P (from + 1) many ty (above from ty e h) (omega (arith, k)) (All-tail P (store Extent from) (map (store Extent) (range_with_len (from + 1) many)) all))
  where
    above : (m n : ℕ) → (m == n) ≡ false → m ≤ n → m + 1 ≤ n
    above m n e h = grind (arith, nat_tests)

-- what holds of all stores holds of the extents
of-extents : (P : ℕ → Type 0) (schema : Outline) → All P (stores_of schema) → All P (map (store Extent) (below (length schema.names)))
of-extents P schema all =
    let sets = stores_below schema Set schema.next in
    let indexes = stores_below schema Index schema.next in
    let inverses = stores_below schema Inverse schema.next in
    let columns = stores_below schema Column schema.next in
    let extents = map (store Extent) (below (length schema.names)) in
    all-first P extents sets (all-first P (extents ++ sets) indexes (all-first P (extents ++ sets ++ indexes) inverses (all-first P (extents ++ sets ++ indexes ++ inverses) columns all)))

less : (m n : ℕ) → nat_lt m n ≡ true → m < 0 + n
less m n h = grind (arith, nat_tests)

not-less : (m n : ℕ) → nat_lt m n ≡ false → n ≤ m
not-less m n h = grind (arith, nat_tests)

-- the extent of each type of the schema has a place
pub extent-there : (schema : Outline) (places : List Place) (ty : ℕ) → AreOf schema places → place_of (store Extent ty) places ≡ None → length schema.names ≤ ty
extent-there schema places ty of e =
    either (nat_lt ty (length schema.names)) (λ b. length schema.names ≤ ty)
    (λ h. absurd (in-range (λ t. t ≡ store Extent ty → ⊥) 0 (length schema.names) ty (omega arith) (less ty (length schema.names) h)
    (of-extents (λ t. t ≡ store Extent ty → ⊥) schema (subst (All (λ t. t ≡ store Extent ty → ⊥)) of.stores (none-has (store Extent ty) places e))) refl))
    (λ h. not-less ty (length schema.names) h)

near : (ty s : ℕ) → s ≡ 0 * 65536 + ty → ty < 65536 → nat_lt s 65536 ≡ true
near ty s e h = grind (arith, nat_tests)

-- and is laid out as an extent
pub extent-laid : (schema : Outline) (places : List Place) (ty : ℕ) (place : Place) → AreOf schema places → All IsPlace places → ty < 65536 → place_of (store Extent ty) places ≡ Some place → IsExtent schema ty place
extent-laid schema places ty place of fair small at =
    let low = by-store (Low (length schema.names)) places (subst (All (Low (length schema.names))) (sym of.stores) (low-all schema)) in
    let found = found-holds (λ q. q.store == store Extent ty) (λ q. IsPlaced schema q × IsPlace q × Low (length schema.names) q.store) places place at (λ i d w. (of.placed i d w, fair i d w, low i d w)) in
    let is : place.store ≡ 0 * 65536 + ty = is-number place.store (store Extent ty) found.1 in
    let same : place.store ≡ ty = omega (arith, is) in
    let close : nat_lt place.store 65536 ≡ true = near ty place.store is small in
    let here : layout_of schema place.store ≡ record { key = 4; width = row_width schema place.store } = (rw close refl) in
    record {
      is_place = found.0.1;
      store_is = is;
      key = found.0.0.key ∙ ap (λ (l : Layout). l.key) here;
      width = found.0.0.width ∙ ap (λ (l : Layout). l.width) here ∙ ap (row_width schema) same;
      known = (let known = found.0.2 (omega (arith, same, small)) in omega (arith, known, same));
    }

pub laid-found : (schema : Outline) (places : List Place) (ty : ℕ) (o : Option Place) → AreOf schema places → All IsPlace places → ty < 65536 → o ≡ place_of (store Extent ty) places → IfSome o (IsExtent schema ty)
laid-found schema places ty None of fair small at = tt
laid-found schema places ty (Some place) of fair small at = extent-laid schema places ty place of fair small (sym at)
