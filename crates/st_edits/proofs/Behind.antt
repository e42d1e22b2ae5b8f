-- What stands in the stores of a state behind a value that was put into a set, or taken out of it.
use Rattle.std.proofs.Common.{◌≡◌, ℕ, zero, suc, ◌+◌, ◌<◌, ◌≤◌, ◌==◌, ◌||◌, Bool, true, false, List, [], ◌∷◌, ◌++◌, length, map, Option, Some, None, refl, sym, ap, ◌∙◌, subst, inl, inr, arith, true≢false}
use Rattle.std.specs.Prelude.{◌⊎◌, IfSome, nat_lt, filter, is_some, if◌then◌else◌}
use Rattle.std.specs.List.{All, range_with_len}
use Rattle.std.proofs.lemmas.Bool.Decides.{nat_tests}
use Rattle.std.proofs.lemmas.List.Elements.{All-append, All-cons, All-filter, All-head, All-map, All-nil, All-tail, filter_passes}
use Rattle.st_values.specs.declared.value.EntityId.{EntityId}
use Rattle.st_values.specs.declared.value.Value.{Value}
use Rattle.st_values.proofs.Tests.{either, first-of, one-of}
use Rattle.st_lattice.specs.declared.attribute.Attribute.{Attribute}
use Rattle.st_lattice.specs.declared.stores.StoreKind.{StoreKind}
use Rattle.st_lattice.specs.declared.stores.StoreKind.TheVariants.{Extent, Set, Index, Inverse, Column}
use Rattle.st_lattice.specs.Lattice.{below}
use Rattle.st_lattice.specs.Outline.{Outline, attribute}
use Rattle.st_lattice.specs.Stores.{aside, keeps, keeps_one, store, stores_below, stores_of}
use Rattle.st_pages.specs.declared.places.Place.{Place}
use Rattle.st_pages.specs.Places.{place_of}
use Rattle.st_store.specs.Stores.{among}
use Rattle.st_index.specs.Turned.{is_turned_store, noted, turned_places}
use Rattle.st_index.proofs.Counted.{or-cases}
use Rattle.st_index.proofs.Placed.{one-store, placed-turned}
use Rattle.st_index.specs.Change.{IsTurned}
use Rattle.st_store.specs.Stores.{IsPlace}
use Rattle.st_edits.specs.Steps.{IsSet}
use Rattle.st_catalog.specs.Stores.{AreOf}
use Rattle.st_database.specs.Database.{noted_view, with_rows}
use Rattle.st_database.specs.Touches.{stores_at}
use Rattle.st_database.proofs.Touching.{AreAmong}
use Rattle.st_state.specs.State.{State, converse}
use Rattle.st_state.specs.Legal.{IsNearlyLegal}
use Rattle.st_state.specs.Calls.{changed_stores, stores_by}
use Rattle.st_state.proofs.Changed.{number-is, number-itself}
use Rattle.st_state.proofs.Members.{find-passes}
use Rattle.st_standing.specs.Standing.{rows_at, triples_of, turned_rows, view_of}
use Rattle.st_standing.proofs.Extents.{apart-rows}
use Rattle.st_standing.proofs.Others.{rows_at-extent, rows_at-index, rows_at-inverse, rows_at-others, store-apart}

-- ---- the stores of a schema

pub is-number : (m n : ℕ) → (m == n) ≡ true → m ≡ n
is-number m n h = grind (arith, nat_tests)

low-range : (from many top : ℕ) → from + many ≤ top → All (λ n. n < top) (range_with_len from many)
low-range from zero top h = All-nil (λ n. n < top)
low-range from (suc many) top h = All-cons (λ n. n < top) from (range_with_len (from + 1) many) (omega (arith, h)) (low-range (from + 1) many top (omega (arith, h)))

module _ (number : ℕ) (a : Attribute) (small : number < 65536) where
  -- a store of a schema that has the attribute: no column of it, and an index or an inverse only where it keeps one
  pub record IsKept (at : ℕ) : Type 0 where
    pub within : at < 327680
    pub column : at ≡ store Column number → ⊥
    pub index : at ≡ store Index number → a.index ≡ true
    pub inverse : at ≡ store Inverse number → is_some a.inverse ≡ true

  module _ (schema : Outline) (f : attribute schema number ≡ Some a) (none : a.column ≡ false) (next : schema.next < 65536) where
    its : (kind : StoreKind) (n : ℕ) → n ≡ number → keeps_one kind (attribute schema n) ≡ true → keeps kind a ≡ true
    its kind n e h = sym (ap (keeps_one kind) (ap (attribute schema) e ∙ f)) ∙ h

    kept-extents : (from many : ℕ) → from + many ≤ 65536 → All IsKept (map (store Extent) (range_with_len from many))
    kept-extents from zero h = All-nil IsKept
    kept-extents from (suc many) h =
        All-cons IsKept (store Extent from) (map (store Extent) (range_with_len (from + 1) many))
        (record { within = omega (arith, h); column = λ e. omega (arith, h, e); index = λ e. absurd (omega (arith, h, e)); inverse = λ e. absurd (omega (arith, h, e)) })
        (kept-extents (from + 1) many (omega (arith, h)))

    one-kept : (kind : StoreKind) → ((n : ℕ) → n < 65536 → keeps_one kind (attribute schema n) ≡ true → IsKept (store kind n)) → All IsKept (stores_below schema kind schema.next)
    one-kept kind h =
        All-map IsKept (store kind) (filter (λ n. keeps_one kind (attribute schema n)) (below schema.next))
        (λ k d l. h _ (let low = All-filter (λ n. keeps_one kind (attribute schema n)) (λ n. n < schema.next) (below schema.next) (low-range 0 schema.next schema.next (omega arith)) k d l in omega (arith, low, next))
        (filter_passes (λ n. keeps_one kind (attribute schema n)) (below schema.next) k d l))

    kept-sets : All IsKept (stores_below schema Set schema.next)
    kept-sets = one-kept Set (λ n low k. record { within = omega (arith, low); column = λ e. omega (arith, low, small, e); index = λ e. absurd (omega (arith, low, small, e)); inverse = λ e. absurd (omega (arith, low, small, e)) })

    kept-indexes : All IsKept (stores_below schema Index schema.next)
    kept-indexes = one-kept Index (λ n low k. record { within = omega (arith, low); column = λ e. omega (arith, low, small, e); index = λ e. its Index n (omega (arith, low, small, e)) k; inverse = λ e. absurd (omega (arith, low, small, e)) })

    kept-inverses : All IsKept (stores_below schema Inverse schema.next)
    kept-inverses = one-kept Inverse (λ n low k. record { within = omega (arith, low); column = λ e. omega (arith, low, small, e); index = λ e. absurd (omega (arith, low, small, e)); inverse = λ e. its Inverse n (omega (arith, low, small, e)) k })

    kept-columns : All IsKept (stores_below schema Column schema.next)
    kept-columns = one-kept Column (λ n low k. record {
      within = omega (arith, low);
      column = λ e. true≢false (sym (its Column n (omega (arith, low, small, e)) k) ∙ none);
      index = λ e. absurd (omega (arith, low, small, e));
      inverse = λ e. absurd (omega (arith, low, small, e));
    })

    kept-all : length schema.names ≤ 64 → All IsKept (stores_of schema)
    kept-all few =
        let extents = map (store Extent) (below (length schema.names)) in
        let sets = stores_below schema Set schema.next in
        let indexes = stores_below schema Index schema.next in
        let inverses = stores_below schema Inverse schema.next in
        All-append IsKept (extents ++ sets ++ indexes ++ inverses) (stores_below schema Column schema.next)
        (All-append IsKept (extents ++ sets ++ indexes) inverses
        (All-append IsKept (extents ++ sets) indexes (All-append IsKept extents sets (kept-extents 0 (length schema.names) (omega (arith, few))) kept-sets) kept-indexes) kept-inverses) kept-columns

    by-store : (P : ℕ → Type 0) (places : List Place) → All P (map (λ p. p.store) places) → All (λ p. P p.store) places
    by-store P [] all = All-nil (λ p. P p.store)
    by-store P (p ∷ ps) all = All-cons (λ q. P q.store) p ps (All-head P p.store (map (λ q. q.store) ps) all) (by-store P ps (All-tail P p.store (map (λ q. q.store) ps) all))

    pub kept-places : (places : List Place) → AreOf schema places → length schema.names ≤ 64 → All (λ p. IsKept p.store) places
    kept-places places of few = by-store IsKept places (subst (All IsKept) (sym of.stores) (kept-all few))

  -- ---- the stores that a change touches

  turned-in : (places : List Place) (t : ℕ) → among (stores_at (turned_places number places)) t ≡ true → is_turned_store number t ≡ true
  turned-in [] t h = absurd (true≢false (sym h))
  turned-in (p ∷ ps) t h =
      either (is_turned_store number p.store) (λ b. among (stores_at (if b then p ∷ turned_places number ps else turned_places number ps)) t ≡ true → is_turned_store number t ≡ true)
      (λ e k. either (p.store == t) (λ b. (b || among (stores_at (turned_places number ps)) t) ≡ true → is_turned_store number t ≡ true)
      (λ m l. subst (λ z. is_turned_store number z ≡ true) (is-number p.store t m) e) (λ m l. turned-in ps t l) k)
      (λ e k. turned-in ps t k) h

  turned-number : (m n : ℕ) → (m == n) ≡ true → (n == m) ≡ true
  turned-number m n h = grind (arith, nat_tests)

  abbrev others : ℕ → List ℕ
  others n = store Set n ∷ store Column n ∷ store Index n ∷ store Inverse n ∷ []

  in-others : (t : ℕ) → (t == store Set number) ≡ true ⊎ is_turned_store number t ≡ true → among (others number) t ≡ true
  in-others t (inl h) = first-of (store Set number == t) (among (store Column number ∷ store Index number ∷ store Inverse number ∷ []) t) (turned-number t (store Set number) h)
  in-others t (inr h) =
      one-of (store Set number == t) (among (store Column number ∷ store Index number ∷ store Inverse number ∷ []) t)
      (one-of (store Column number == t) (among (store Index number ∷ store Inverse number ∷ []) t)
      (elim (or-cases (t == store Index number) (t == store Inverse number) h) [
        | inl k ↦ first-of (store Index number == t) (among (store Inverse number ∷ []) t) (turned-number t (store Index number) k)
        | inr k ↦ one-of (store Index number == t) (among (store Inverse number ∷ []) t) (first-of (store Inverse number == t) false (turned-number t (store Inverse number) k))
      ]))

  pub aside-has : (schema : Outline) (f : attribute schema number ≡ Some a) (places : List Place) (e : EntityId) (at : ℕ) → at ≡ store Set number → AreAmong (at ∷ stores_at (turned_places number places)) (changed_stores schema e number)
  aside-has schema f places e at is t h =
      one-of (store Extent e.ty == t) (among (stores_by aside (attribute schema number)) t)
      (subst (λ (o : Option Attribute). among (stores_by aside o) t ≡ true) (sym f)
      (subst (λ n. among (others n) t ≡ true) (sym (number-is a.number number (find-passes (λ b. b.number == number) a schema.attributes f)))
      (in-others t (elim (or-cases (at == t) (among (stores_at (turned_places number places)) t) h) [
        | inl m ↦ inl (turned-number (store Set number) t (ap (λ z. z == t) (sym is) ∙ m))
        | inr l ↦ inr (turned-in places t l)
      ]))))

  pub set-alone : (places : List Place) (at : ℕ) → AreAmong (at ∷ []) (at ∷ stores_at (turned_places number places))
  set-alone places at t h = elim (or-cases (at == t) false h) [
    | inl m ↦ first-of (at == t) (among (stores_at (turned_places number places)) t) m
    | inr l ↦ absurd (true≢false (sym l))
  ]

-- ---- the rows behind a change

less-low : (at : ℕ) → nat_lt at 65536 ≡ true → at < 65536
less-low at h = grind (arith, nat_tests, h)

module _ (s t : State) (n : IsNearlyLegal s) (number : ℕ) (a : Attribute) (small : number < 65536) (f : attribute s.schema number ≡ Some a) (many : a.many ≡ true) (schema : t.schema ≡ s.schema) (live : t.live ≡ s.live)
    (apart : (other : ℕ) → (other == number) ≡ false → triples_of other t.triples ≡ triples_of other s.triples) (e : EntityId) (old new : Value) (st : ℕ) (is : st ≡ store Set number) (W : List (List ℕ))
    (set : rows_at t (store Set number) ≡ W) (turned : turned_rows a.kind (converse number t.triples) ≡ noted a.kind e old new (turned_rows a.kind (converse number s.triples))) where
  tf : attribute t.schema number ≡ Some a
  tf = ap (λ (o : Outline). attribute o number) schema ∙ f

  not-at : (at x : ℕ) → (at == x) ≡ false → at ≡ x → ⊥
  not-at at x h k = true≢false (sym (number-itself at) ∙ ap (λ z. at == z) k ∙ h)

  pub rows-behind : (at : ℕ) → IsKept number a small at → rows_at t at ≡ (noted_view number a.kind e old new (with_rows st W (view_of s))).rows at
  rows-behind at kept = by (at == store Index number) (at == store Inverse number) (at == st) refl refl refl
    where
      by : (i v q : Bool) → (at == store Index number) ≡ i → (at == store Inverse number) ≡ v → (at == st) ≡ q
          → rows_at t at ≡ (if i || v then noted a.kind e old new (if q then W else rows_at s at) else (if q then W else rows_at s at))
      by true v true hi hv hq = let x = is-number at (store Index number) hi in let y = is-number at st hq in absurd (omega (arith, x, y, is, small))
      by true v false hi hv hq =
          let x = is-number at (store Index number) hi in
          ap (rows_at t) x ∙ rows_at-index t number a tf small ∙ turned ∙ ap (noted a.kind e old new) (sym (ap (rows_at s) x ∙ rows_at-index s number a f small))
      by false true true hi hv hq = let x = is-number at (store Inverse number) hv in let y = is-number at st hq in absurd (omega (arith, x, y, is, small))
      by false true false hi hv hq =
          let x = is-number at (store Inverse number) hv in
          ap (rows_at t) x ∙ rows_at-inverse t number a tf small ∙ turned ∙ ap (noted a.kind e old new) (sym (ap (rows_at s) x ∙ rows_at-inverse s number a f small))
      by false false true hi hv hq = ap (rows_at t) (is-number at st hq ∙ is) ∙ set
      by false false false hi hv hq =
          either (nat_lt at 65536) (λ _. rows_at t at ≡ rows_at s at)
          (λ low. let l = less-low at low in rows_at-extent t at l ∙ apart-rows s t number a f (first-of a.many a.column many) n.consistent.numbers schema live apart at ∙ sym (rows_at-extent s at l))
          (λ high. rows_at-others s t number schema apart at high
          (store-apart at number high kept.within (λ k. not-at at st hq (k ∙ sym is)) (not-at at (store Index number) hi) (not-at at (store Inverse number) hv) kept.column))

-- ---- the place of a set

pub set-laid : (schema : Outline) (places : List Place) (number : ℕ) (a : Attribute) (o : Option Place) → AreOf schema places → All IsPlace places → number < 65536 → attribute schema number ≡ Some a → o ≡ place_of (store Set number) places → IfSome o (IsSet number a)
set-laid schema places number a None of fair small f at = tt
set-laid schema places number a (Some p) of fair small f at =
    let laid = All-head (IsTurned a.kind) p [] (placed-turned schema places number 1 (store Set number) a (Some p) of fair small (omega arith) (omega arith) refl (sym f) at) in
    let same = All-head (λ (q : Place). q.store ≡ store Set number) p [] (one-store places (store Set number) (Some p) at) in
    record { is_place = laid.is_place; store_is = same; key = laid.key; width = laid.width }
