-- Which pages of an array were got where an entity's row was.
use Rattle.std.proofs.Common.{◌≡◌, ℕ, ◌<◌, ◌≤◌, ◌==◌, Bool, true, false, List, Option, Some, None, IsSome, IsTrue, take, refl, sym, ap, ◌∙◌, subst, inl, inr, arith, true≢false}
use Rattle.std.specs.Prelude.{◌&&◌, ◌⊎◌, nat_le, is_some, slice_get}
use Rattle.std.specs.Int.{w32, to_be_bytes}
use Rattle.std.proofs.lemmas.Bool.{eqb-true}
use Rattle.std.proofs.lemmas.Bool.Decides.{nat_tests}
use Rattle.std.proofs.lemmas.List.Folds.{list_any-append}
use Rattle.st_values.specs.declared.value.EntityId.{EntityId}
use Rattle.st_values.proofs.Tests.{left, right}
use Rattle.st_lattice.specs.declared.stores.StoreKind.TheVariants.{Extent}
use Rattle.st_lattice.specs.Outline.{Outline}
use Rattle.st_lattice.specs.Stores.{store}
use Rattle.st_image.specs.Fields.{kind_of, rows_of, store_of}
use Rattle.st_pages.specs.declared.places.Place.{Place}
use Rattle.st_pages.specs.Attempt.{Array, Attempt, IsSound, image_or, over}
use Rattle.st_pages.specs.Places.{place_of}
use Rattle.st_pages.proofs.Carried.{Stays}
use Rattle.st_state.proofs.Members.{find-passes}
use Rattle.st_store.specs.Stores.{among, is_page_of}
use Rattle.st_index.proofs.Changes.{any-of}
use Rattle.st_index.proofs.Counted.{not-blank, or-cases}
use Rattle.st_database.specs.Database.{IsDatabase, View, chain_pages, store_pages}
use Rattle.st_database.proofs.Chained.{chain-kinds}
use Rattle.st_database.proofs.Listed.{among-flat, found-at}
use Rattle.st_paged.specs.Paged.{HasRow, IsReached, Parts}

-- the laws of stores that tell on which page a row is
pub record SpotLaws (form : Place → Array → List ℕ → List (List ℕ) → Type 0) (spot : Place → Array → List ℕ → ℕ → Type 0) : Type 0 where
  pub bear : (p : Place) (a : Array) (pages : List ℕ) (rows : List (List ℕ)) (page : ℕ) → form p a pages rows → IsTrue (among pages page) → (page < 65536) × (store_of (a page) ≡ p.store) × (2 ≤ kind_of (a page)) × (kind_of (a page) ≤ 4)
  pub one_spot : (p : Place) (a : Array) (pages : List ℕ) (rows : List (List ℕ)) (key : List ℕ) (page other : ℕ) → form p a pages rows → spot p a key page → spot p a key other → page ≡ other
  pub spot_of_key : (p : Place) (a : Array) (row other : List ℕ) (page : ℕ) → take p.key row ≡ take p.key other → spot p a row page → spot p a other page
  pub stands_there : (p : Place) (a : Array) (pages : List ℕ) (rows : List (List ℕ)) (row : List ℕ) (page index : ℕ) → form p a pages rows → IsTrue (among pages page) → kind_of (a page) < 4
      → slice_get (rows_of p.width (a page)) index ≡ Some row → spot p a row page

least : (m n : ℕ) → nat_le m n ≡ true → m ≤ n
least m n h = grind (arith, nat_tests)

-- a page of a chain is none of a store
no-chain : (kind : ℕ) → (kind ≡ 1) ⊎ (kind ≡ 5) → 2 ≤ kind → kind ≤ 4 → ⊥
no-chain kind (inl e) low high = omega (arith, e, low)
no-chain kind (inr e) low high = omega (arith, e, high)

module _ (form : Place → Array → List ℕ → List (List ℕ) → Type 0) (spot : Place → Array → List ℕ → ℕ → Type 0) (laws : SpotLaws form spot) where
  -- a page that is one of a store by its bytes is among the store's pages
  in-store : (array : Array) (schema : Outline) (places : List Place) (view : View) (d : IsDatabase form array schema places view) (number page : ℕ) → page < 65536 → IsTrue (is_page_of number (array page)) → IsTrue (among (d.pages number) page)
  in-store array schema places view d number page low is =
      let bears = left (store_of (array page) == number) (nat_le 2 (kind_of (array page)) && nat_le (kind_of (array page)) 4) is in
      let kinds = right (store_of (array page) == number) (nat_le 2 (kind_of (array page)) && nat_le (kind_of (array page)) 4) is in
      let lowest = least 2 (kind_of (array page)) (left (nat_le 2 (kind_of (array page))) (nat_le (kind_of (array page)) 4) kinds) in
      let highest = least (kind_of (array page)) 4 (right (nat_le 2 (kind_of (array page))) (nat_le (kind_of (array page)) 4) kinds) in
      elim (d.others page low) [
        | inl m ↦ elim (or-cases (among (chain_pages array) page) (among (store_pages d.pages places) page) (sym (list_any-append (λ q. q == page) (chain_pages array) (store_pages d.pages places)) ∙ m)) [
          | inl c ↦ absurd (no-chain (kind_of (array page)) (chain-kinds array schema places d.has page c) lowest highest)
          | inr c ↦
              let found = any-of (λ q. form q array (d.pages q.store) (view.rows q.store)) (λ q. among (d.pages q.store) page) places d.stores (sym (among-flat (λ q. d.pages q.store) places page) ∙ c) in
              let same : found.0.store ≡ number = sym ((laws.bear found.0 array (d.pages found.0.store) (view.rows found.0.store) page found.1 found.2).1) ∙ eqb-true (store_of (array page)) number bears in
              subst (λ (n : ℕ). IsTrue (among (d.pages n) page)) same found.2
        ]
        | inr b ↦ absurd (not-blank (array page) b lowest)
      ]

  -- the page on which a row of a database is, is that of its key's spot
  row-spot : (array : Array) (schema : Outline) (places : List Place) (view : View) → IsDatabase form array schema places view → (place : Place) → place_of place.store places ≡ Some place → (key : List ℕ) (page other : ℕ)
      → HasRow place array key page → spot place array key other → page ≡ other
  row-spot array schema places view d place at key page other has stood =
      let held = found-at (λ q. form q array (d.pages q.store) (view.rows q.store)) place.store place places at d.stores in
      let here = in-store array schema places view d place.store page has.within has.of_store in
      laws.one_spot place array (d.pages place.store) (view.rows place.store) key page other held
      (laws.spot_of_key place array has.row key page has.has_key (laws.stands_there place array (d.pages place.store) (view.rows place.store) has.row page has.index held here has.of_rows has.is_row))
      stood

  some-is : (o : Option (List ℕ)) → is_some o ≡ false → o ≡ None
  some-is None h = refl
  some-is (Some x) h = absurd (true≢false h)

  -- where the page was seen on which a row is under what was written, that on which it is in the array itself was seen
  module _ {P : Type 0} (attempt : P → Attempt) (follows : P → P → Type 0) (is_sound : (a : P) → IsSound (attempt a)) (seen_stays : (a b : P) → follows a b → Stays (attempt a) (attempt b)) where
    pub reached-by : (p q : P) → follows p q → (array : Array) (schema : Outline) (places : List Place) (view : View) → IsDatabase form (over (attempt p) array) schema places view → (b : Parts P) → b.pages ≡ q → b.places ≡ places → (e : EntityId)
        → ((place : Place) → place_of (store Extent e.ty) places ≡ Some place → (page : ℕ) × spot place (over (attempt p) array) (to_be_bytes w32 e.serial) page × IsSome ((attempt q).seen page))
        → IsReached attempt b array e
    reached-by p q pq array schema places view d b same-pages same-places e seen = λ place at page has.
        let A = attempt p in
        let Q = attempt q in
        let there = subst (λ (ps : List Place). place_of (store Extent e.ty) ps ≡ Some place) same-places at in
        let found = seen place there in
        subst (λ (x : P). IsSome ((attempt x).seen page)) (sym same-pages)
        (by-seen p q pq array schema places view d place (own-place place e.ty places there) (to_be_bytes w32 e.serial) page found.0 has found.1 found.2 (is_some (Q.seen page)) refl)
      where
        own-place : (place : Place) (ty : ℕ) (places : List Place) → place_of (store Extent ty) places ≡ Some place → place_of place.store places ≡ Some place
        own-place place ty places at = subst (λ (n : ℕ). place_of n places ≡ Some place) (sym (eqb-true place.store (store Extent ty) (find-store (store Extent ty) places place at))) at
          where
            find-store : (n : ℕ) (places : List Place) (place : Place) → place_of n places ≡ Some place → (place.store == n) ≡ true
            find-store n places place at = find-passes (λ q. q.store == n) place places at

        stays-unwritten : (p q : P) → follows p q → (page : ℕ) → (attempt q).seen page ≡ None → (o : Option (List ℕ)) → (attempt p).written page ≡ o → o ≡ None
        stays-unwritten p q pq page unseen None w = refl
        stays-unwritten p q pq page unseen (Some image) w = absurd (none-seen (is_some ((attempt p).seen page)) ((attempt p).seen page) refl ((is_sound p).written page image w).1)
          where
            none-seen : (b : Bool) (o : Option (List ℕ)) → (attempt p).seen page ≡ o → IsSome o → ⊥
            none-seen b None e h = true≢false (sym h)
            none-seen b (Some image) e h = let later = seen_stays p q pq page image e in cc

        by-seen : (p q : P) → follows p q → (array : Array) (schema : Outline) (places : List Place) (view : View) → IsDatabase form (over (attempt p) array) schema places view → (place : Place) → place_of place.store places ≡ Some place → (key : List ℕ) (page other : ℕ)
            → HasRow place array key page → spot place (over (attempt p) array) key other → IsSome ((attempt q).seen other) → (b : Bool) → is_some ((attempt q).seen page) ≡ b → IsSome ((attempt q).seen page)
        by-seen p q pq array schema places view d place at key page other has stood seen true e = e
        by-seen p q pq array schema places view d place at key page other has stood seen false e =
            let unwritten = stays-unwritten p q pq page (some-is ((attempt q).seen page) e) ((attempt p).written page) refl in
            let same : array page ≡ over (attempt p) array page = ap (λ (o : Option (List ℕ)). image_or (array page) o) (sym unwritten) in
            let moved : HasRow place (over (attempt p) array) key page = record {
              within = has.within;
              of_store = subst (λ (image : List ℕ). IsTrue (is_page_of place.store image)) same has.of_store;
              of_rows = subst (λ (image : List ℕ). kind_of image < 4) same has.of_rows;
              index = has.index;
              row = has.row;
              is_row = subst (λ (image : List ℕ). slice_get (rows_of place.width image) has.index ≡ Some has.row) same has.is_row;
              has_key = has.has_key;
            } in
            subst (λ (n : ℕ). IsSome ((attempt q).seen n)) (sym (row-spot (over (attempt p) array) schema places view d place at key page other moved stood)) seen
