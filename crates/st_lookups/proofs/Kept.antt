-- Which stores of an attribute have a place: those that it keeps, and no others.
use Rattle.std.proofs.Common.{◌≡◌, ℕ, zero, suc, ◌+◌, ◌<◌, ◌≤◌, ◌==◌, Bool, true, false, cond, List, [], ◌∷◌, ◌++◌, Option, Some, None, refl, sym, ap, ◌∙◌, subst, arith, true≢false}
use Rattle.std.specs.Prelude.{◌||◌, filter, if◌then◌else◌, is_some, length, map, slice_index_or}
use Rattle.std.specs.List.{All, range_with_len}
use Rattle.std.specs.Option.{option_or}
use Rattle.std.proofs.lemmas.Bool.Decides.{nat_tests}
use Rattle.std.proofs.lemmas.List.Elements.{All-append, All-cons, All-filter, All-head, All-map, All-nil, All-tail, filter_passes}
use Rattle.st_values.proofs.Tests.{either, first-of, one-of}
use Rattle.st_lattice.specs.declared.attribute.Attribute.{Attribute}
use Rattle.st_lattice.specs.declared.stores.StoreKind.{StoreKind}
use Rattle.st_lattice.specs.declared.stores.StoreKind.TheVariants.{Extent, Set, Index, Inverse, Column}
use Rattle.st_lattice.specs.Lattice.{below}
use Rattle.st_lattice.specs.Outline.{Outline, attribute}
use Rattle.st_lattice.specs.Stores.{cell, extents, keeps_one, store, stores_below, stores_of, values_of}
use Rattle.st_pages.specs.declared.places.Place.{Place}
use Rattle.st_state.specs.Calls.{found_in}
use Rattle.st_store.specs.Stores.{among}
use Rattle.st_database.proofs.Touching.{AreAmong}
use Rattle.std.proofs.lemmas.List.Folds.{list_any-append}
use Rattle.st_pages.specs.Places.{place_of}
use Rattle.st_catalog.specs.Stores.{AreOf}
use Rattle.st_index.proofs.Changes.{all-first, all-second}
use Rattle.st_index.proofs.Placed.{found-holds, one-store}
use Rattle.st_index.specs.Turned.{found_place}
use Rattle.st_lookups.proofs.Placed.{by-store, none-has}

is-number : (m n : ℕ) → (m == n) ≡ true → m ≡ n
is-number m n h = grind (arith, nat_tests)

number-itself : (n : ℕ) → (n == n) ≡ true
number-itself n = grind (arith, nat_tests)

above : (m n : ℕ) → (m == n) ≡ false → m ≤ n → m + 1 ≤ n
above m n e h = grind (arith, nat_tests)

-- what holds of all numbers below one
each-below : (P : ℕ → Type 0) (count from many : ℕ) → from + many ≤ count → ((k : ℕ) → k < count → P k) → All P (range_with_len from many)
each-below P count from zero h w = All-nil P
each-below P count from (suc many) h w = All-cons P from (range_with_len (from + 1) many) (w from (omega (arith, h))) (each-below P count (from + 1) many (omega (arith, h)) w)

module _ (schema : Outline) where
  abbrev kept : StoreKind → ℕ → Bool
  kept kind n = keeps_one kind (attribute schema n)

  -- what holds of the stores of a kind holds of that of each attribute that keeps one
  of-kept : (P : ℕ → Type 0) (kind : StoreKind) (n from many : ℕ) → from ≤ n → n < from + many → kept kind n ≡ true → All P (map (store kind) (filter (kept kind) (range_with_len from many))) → P (store kind n)
  of-kept P kind n from zero l m k all = absurd (omega (arith, l, m))
  of-kept P kind n from (suc many) l m k all =
      let rest : List ℕ = filter (kept kind) (range_with_len (from + 1) many) in
      either (from == n) (λ b. P (store kind n))
      (λ e.
      let same = is-number from n e in
      let here : kept kind from ≡ true = ap (kept kind) same ∙ k in
      subst (λ (x : ℕ). P (store kind x)) same (All-head P (store kind from) (map (store kind) rest) (subst (λ (b : Bool). All P (map (store kind) (cond b (from ∷ rest) rest))) here all)))
      (λ e. of-kept P kind n (from + 1) many (above from n e l) (omega (arith, m)) k
      (either (kept kind from) (λ b. All P (map (store kind) (cond b (from ∷ rest) rest)) → All P (map (store kind) rest)) (λ _ a. All-tail P (store kind from) (map (store kind) rest) a) (λ _ a. a) all))

  abbrev extents_first : List ℕ
  extents_first = map (store Extent) (below (length schema.names))

  abbrev kind_stores : StoreKind → List ℕ
  kind_stores kind = stores_below schema kind schema.next

  of-indexes : (P : ℕ → Type 0) → All P (stores_of schema) → All P (kind_stores Index)
  of-indexes P all =
      all-second P (extents_first ++ kind_stores Set) (kind_stores Index)
      (all-first P ((extents_first ++ kind_stores Set) ++ kind_stores Index) (kind_stores Inverse) (all-first P (((extents_first ++ kind_stores Set) ++ kind_stores Index) ++ kind_stores Inverse) (kind_stores Column) all))

  of-inverses : (P : ℕ → Type 0) → All P (stores_of schema) → All P (kind_stores Inverse)
  of-inverses P all =
      all-second P ((extents_first ++ kind_stores Set) ++ kind_stores Index) (kind_stores Inverse) (all-first P (((extents_first ++ kind_stores Set) ++ kind_stores Index) ++ kind_stores Inverse) (kind_stores Column) all)

  module _ (places : List Place) (of : AreOf schema places) (number : ℕ) where
    -- an attribute that keeps an index has its place, and so for an inverse
    index-there : number < schema.next → kept Index number ≡ true → place_of (store Index number) places ≡ None → ⊥
    index-there less k none =
        of-kept (λ t. t ≡ store Index number → ⊥) Index number 0 schema.next (omega arith) (omega (arith, less)) k
        (of-indexes (λ t. t ≡ store Index number → ⊥) (subst (All (λ t. t ≡ store Index number → ⊥)) of.stores (none-has (store Index number) places none))) refl

    inverse-there : number < schema.next → kept Inverse number ≡ true → place_of (store Inverse number) places ≡ None → ⊥
    inverse-there less k none =
        of-kept (λ t. t ≡ store Inverse number → ⊥) Inverse number 0 schema.next (omega arith) (omega (arith, less)) k
        (of-inverses (λ t. t ≡ store Inverse number → ⊥) (subst (All (λ t. t ≡ store Inverse number → ⊥)) of.stores (none-has (store Inverse number) places none))) refl

    -- and one that keeps no inverse has none
    abbrev Only : ℕ → Type 0
    Only t = t ≡ store Inverse number → kept Inverse number ≡ true

    other-kinds : (kind : StoreKind) → ((k : ℕ) → k < schema.next → store kind k ≡ store Inverse number → ⊥) → All Only (kind_stores kind)
    other-kinds kind apart =
        All-map Only (store kind) (filter (kept kind) (below schema.next))
        (All-filter (kept kind) (λ k. Only (store kind k)) (below schema.next) (each-below (λ k. Only (store kind k)) schema.next 0 schema.next (omega arith) (λ k h same. absurd (apart k h same))))

    inverses-only : All Only (kind_stores Inverse)
    inverses-only =
        All-map Only (store Inverse) (filter (kept Inverse) (below schema.next))
        (λ k d l same.
        let m : ℕ = slice_index_or (filter (kept Inverse) (below schema.next)) k d in
        let is : m ≡ number = omega (arith, same) in
        sym (ap (kept Inverse) is) ∙ filter_passes (kept Inverse) (below schema.next) k d l)

    only-kept : length schema.names < 65536 → schema.next < 65536 → number < 65536 → All Only (stores_of schema)
    only-kept few next small =
        let extents = All-map Only (store Extent) (below (length schema.names)) (each-below (λ k. Only (store Extent k)) (length schema.names) 0 (length schema.names) (omega arith) (λ k h same. absurd (omega (arith, h, same, few)))) in
        let one = All-append Only extents_first (kind_stores Set) extents (other-kinds Set (λ k h same. omega (arith, h, same, next))) in
        let two = All-append Only (extents_first ++ kind_stores Set) (kind_stores Index) one (other-kinds Index (λ k h same. omega (arith, h, same, next))) in
        let three = All-append Only ((extents_first ++ kind_stores Set) ++ kind_stores Index) (kind_stores Inverse) two inverses-only in
        All-append Only (((extents_first ++ kind_stores Set) ++ kind_stores Index) ++ kind_stores Inverse) (kind_stores Column) three (other-kinds Column (λ k h same. omega (arith, h, same, small)))

    -- where an attribute with an inverse or an index is looked up
    pub found-there : length schema.names < 65536 → schema.next < 65536 → number < 65536 → number < schema.next → (inverse index : Bool) → kept Inverse number ≡ inverse → kept Index number ≡ index → (inverse || index) ≡ true
        → (place : Place) × (found_place number places ≡ Some place) × (place.store ≡ (if inverse then store Inverse number else store Index number))
    found-there few next small less inverse index e f h = by (place_of (store Inverse number) places) refl (place_of (store Index number) places) refl inverse index e f h
      where
        its-store : (k : ℕ) (p : Place) → place_of k places ≡ Some p → p.store ≡ k
        its-store k p at = All-head (λ (q : Place). q.store ≡ k) p [] (one-store places k (Some p) (sym at))

        place-kept : (p : Place) → place_of (store Inverse number) places ≡ Some p → kept Inverse number ≡ true
        place-kept p at =
            let found = found-holds (λ q. q.store == store Inverse number) (λ q. Only q.store) places p at (by-store Only places (subst (All Only) (sym of.stores) (only-kept few next small))) in
            found.0 (is-number p.store (store Inverse number) found.1)

        by : (o : Option Place) → place_of (store Inverse number) places ≡ o → (i : Option Place) → place_of (store Index number) places ≡ i → (b c : Bool) → kept Inverse number ≡ b → kept Index number ≡ c → (b || c) ≡ true
            → (place : Place) × (found_place number places ≡ Some place) × (place.store ≡ (if b then store Inverse number else store Index number))
        by (Some p) at i ati true c e f h = (p, ap (λ (o : Option Place). option_or o (place_of (store Index number) places)) at, its-store (store Inverse number) p at)
        by None at i ati true c e f h = absurd (inverse-there less e at)
        by (Some p) at i ati false c e f h = absurd (true≢false (sym (place-kept p at) ∙ e))
        by None at (Some p) ati false true e f h = (p, ap (λ (o : Option Place). option_or o (place_of (store Index number) places)) at ∙ ati, its-store (store Index number) p ati)
        by None at None ati false true e f h = absurd (index-there less f ati)
        by None at i ati false false e f h = absurd (true≢false (sym h))

-- ---- where an attribute is looked up

picked : (cs : List ℕ) (b i : Bool) (p n m : ℕ) → (b || i) ≡ true → p ≡ (if b then store Inverse n else store Index n) → m ≡ n → p ∷ [] ≡ (if b then store Inverse m ∷ [] else if i then store Index m ∷ [] else cs)
picked cs true i p n m h e same = ap (λ (k : ℕ). k ∷ []) (e ∙ ap (store Inverse) (sym same))
picked cs false true p n m h e same = ap (λ (k : ℕ). k ∷ []) (e ∙ ap (store Index) (sym same))
picked cs false false p n m h e same = absurd (true≢false (sym h))

kept-too : (i u : Bool) → (u ≡ true → i ≡ true) → (i || u) ≡ i
kept-too true u h = refl
kept-too false true h = absurd (true≢false (sym (h refl)))
kept-too false false h = refl

pub found-in : (schema : Outline) (places : List Place) → AreOf schema places → (number : ℕ) → length schema.names ≤ 64 → schema.next < 65536 → number < schema.next → (a : Attribute) → attribute schema number ≡ Some a → a.number ≡ number → (a.unique ≡ true → a.index ≡ true)
    → (is_some a.inverse || (a.index || a.unique)) ≡ true → (place : Place) × (found_place number places ≡ Some place) × (place.store ∷ [] ≡ found_in schema a)
found-in schema places of number few next less a f same unique h =
    let too = kept-too a.index a.unique unique in
    let test : (is_some a.inverse || a.index) ≡ true = ap (λ (b : Bool). is_some a.inverse || b) (sym too) ∙ h in
    let found = found-there schema places of number (omega (arith, few)) next (omega (arith, less, next)) less (is_some a.inverse) a.index (ap (keeps_one Inverse) f) (ap (keeps_one Index) f) test in (
      found.0,
      found.1,
      picked (cell schema a) (is_some a.inverse) (a.index || a.unique) found.0.store number a.number h found.2 same,
    )

pub in-cells : (xs ys cs : List ℕ) (b i : Bool) → (b || i) ≡ false → cs ≡ (if b then xs else if i then ys else cs)
in-cells xs ys cs true i h = absurd (true≢false h)
in-cells xs ys cs false true h = absurd (true≢false h)
in-cells xs ys cs false false h = refl

-- ---- the stores of an attribute's values

pub extents-first : (schema : Outline) (a : Attribute) → AreAmong (extents schema a.owner) (cell schema a)
extents-first schema a n m = list_any-append (λ k. k == n) (extents schema a.owner) (values_of a) ∙ first-of (among (extents schema a.owner) n) (among (values_of a) n) m

pub set-among : (schema : Outline) (a : Attribute) → AreAmong (store Set a.number ∷ []) (cell schema a)
set-among schema a n m =
    list_any-append (λ k. k == n) (extents schema a.owner) (values_of a)
    ∙ one-of (among (extents schema a.owner) n) (among (values_of a) n) (front (store Set a.number == n) (among (store Column a.number ∷ []) n) m)
  where
    front : (b c : Bool) → (b || false) ≡ true → (b || c) ≡ true
    front true c h = refl
    front false c h = absurd (true≢false (sym h))
