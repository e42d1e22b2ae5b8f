-- A database stays one where some of its stores change, and all else stays.
use Rattle.std.proofs.Common.{◌≡◌, ℕ, ◌<◌, ◌≤◌, ◌^◌, ◌==◌, ◌||◌, Bool, true, false, if◌then◌else◌, List, [], ◌∷◌, Some, IsTrue, refl, sym, ap, ◌∙◌, subst, inl, inr, arith, true≢false}
use Rattle.std.specs.Prelude.{◌⊎◌, not, filter, slice_index_or}
use Rattle.std.specs.List.{All, list_all}
use Rattle.std.proofs.lemmas.Bool.{eqb-true}
use Rattle.std.proofs.lemmas.List.Elements.{All-cons, All-filter, All-nil}
use Rattle.std.proofs.lemmas.List.Folds.{list_any-append}
use Rattle.st_values.specs.Arranged.{each_pair}
use Rattle.st_values.specs.declared.value.EntityId.{EntityId}
use Rattle.st_values.specs.declared.value.Kind.{Kind}
use Rattle.st_values.specs.declared.value.Value.{Value}
use Rattle.st_values.proofs.Tests.{either, first-of, never, one-of}
use Rattle.st_lattice.specs.Outline.{Outline}
use Rattle.st_image.specs.Fields.{blank, count_of, kind_of, store_of, last_serial_of, with_last_serial}
use Rattle.st_image.specs.Grammar.{IsRowPage}
use Rattle.st_image.proofs.Written.{serial-stays}
use Rattle.st_pages.specs.declared.places.Place.{Place}
use Rattle.st_pages.specs.Attempt.{Array, Attempt}
use Rattle.st_pages.specs.Places.{AscendByStore, place_of}
use Rattle.st_store.specs.Stores.{Changed, among, drew_between}
use Rattle.st_store.proofs.Ordering.{pairs-append, pairs-left}
use Rattle.st_catalog.specs.Catalog.{Has}
use Rattle.st_catalog.specs.Reading.{SetsSerial}
use Rattle.st_index.specs.Turned.{noted, is_turned_store}
use Rattle.st_index.specs.Noted.{AllHold, IsNoted, Rewritten, reach_any}
use Rattle.st_index.proofs.Counted.{not-blank, or-cases}
use Rattle.st_index.proofs.Changes.{Laws, any-of, any-same}
use Rattle.st_database.specs.Database.{IsDatabase, View, chain_pages, noted_view, reached_pages, store_pages, with_last, with_rows}
use Rattle.st_database.proofs.Listed.{all-among, all-kept, among-all, among-flat, any-either, any-filter, apart, choose, chosen, differ, flat-once, found-at, is-number, kept-pass, one-kept}
use Rattle.st_database.proofs.Chained.{chain-kinds, chains-same, has-same}

-- the laws of stores that are needed here
pub record StoreLaws (form : Place → Array → List ℕ → List (List ℕ) → Type 0) (reach : Place → Array → ℕ → Bool) : Type 0 where
  pub basic : Laws form reach
  pub once : (p : Place) (a : Array) (pages : List ℕ) (rows : List (List ℕ)) → form p a pages rows → each_pair differ pages ≡ true
  pub any_serial : (p : Place) (a b : Array) (pages : List ℕ) (rows : List (List ℕ)) (serial : ℕ) → p.store < 65536 → serial < 2 ^ 32 → form p a pages rows
      → ((page : ℕ) → b page ≡ (if page == p.first then with_last_serial serial (a page) else a page)) → form p b pages rows
  pub extent_first : (p : Place) (a : Array) (pages : List ℕ) (rows : List (List ℕ)) → form p a pages rows → p.store < 65536 → IsRowPage 2 p.store p.key p.width (a p.first)

-- a page of a chain bears no store's kind
no-store : (page : List ℕ) → (kind_of page ≡ 1) ⊎ (kind_of page ≡ 5) → 2 ≤ kind_of page → kind_of page ≤ 4 → ⊥
no-store page (inl e) h k = omega (arith, e, h)
no-store page (inr e) h k = omega (arith, e, k)

blank-kind : kind_of blank ≡ 0
unfolding blank
blank-kind = refl

chain-not-blank : (page : List ℕ) → (kind_of page ≡ 1) ⊎ (kind_of page ≡ 5) → page ≡ blank → ⊥
chain-not-blank page (inl e) h = let none = ap kind_of h ∙ blank-kind in omega (arith, none, e)
chain-not-blank page (inr e) h = let none = ap kind_of h ∙ blank-kind in omega (arith, none, e)

-- pages that are as they were have something, as before
filled-same : (before after : Array) (ps : List ℕ) → ((p : ℕ) → IsTrue (among ps p) → after p ≡ before p) → list_all (λ page. not (count_of (before page) == 0)) ps ≡ true → list_all (λ page. not (count_of (after page) == 0)) ps ≡ true
filled-same before after ps same h = all-among (λ page. not (count_of (after page) == 0)) ps (λ n m. ap (λ (image : List ℕ). not (count_of image == 0)) (same n m) ∙ among-all (λ page. not (count_of (before page) == 0)) ps n h m)

-- What calls on stores at places leave, where each one's rows change in the same way: all other pages are as they were, and those
-- that were drawn were blank, and are theirs or blank again.
pub record Moves (form : Place → Array → List ℕ → List (List ℕ) → Type 0) (reach : Place → Array → ℕ → Bool) (places : List Place) (change : List (List ℕ) → List (List ℕ)) (a b : Attempt) (before after : Array) : Type 0 where
  pub each : All (λ place. (pages : List ℕ) (rows : List (List ℕ)) → form place before pages rows → Rewritten form reach place a b before after pages (change rows)) places
  pub others : (page : ℕ) → IsTrue (reach_any form reach places before page || drew_between a b page) ⊎ (after page ≡ before page)
  pub drawn : (page : ℕ) → IsTrue (drew_between a b page) → before page ≡ blank
  pub used : (page : ℕ) → IsTrue (drew_between a b page) → IsTrue (reach_any form reach places after page) ⊎ (after page ≡ blank)

module _ (form : Place → Array → List ℕ → List (List ℕ) → Type 0) (reach : Place → Array → ℕ → Bool) (laws : StoreLaws form reach) where
  -- ---- what a database is

  -- the pages that are reached, by the stores' own tests
  reached-is : (array : Array) (pages : ℕ → List ℕ) (rows : ℕ → List (List ℕ)) (places : List Place) → All (λ q. form q array (pages q.store) (rows q.store)) places → (page : ℕ)
      → among (reached_pages array pages places) page ≡ (among (chain_pages array) page || reach_any form reach places array page)
  reached-is array pages rows places all page =
      list_any-append (λ n. n == page) (chain_pages array) (store_pages pages places)
      ∙ ap (λ (b : Bool). among (chain_pages array) page || b)
      (among-flat (λ q. pages q.store) places page
      ∙ any-same (λ q. among (pages q.store) page) (λ q. reach q array page) places
      (λ k d w. let q : Place = slice_index_or places k d in sym (laws.basic.reached q array (pages q.store) (rows q.store) page (all k d w))))

  -- pages that have a schema, and the stores of its places in pages of their own, are a database
  pub database-of : (array : Array) (schema : Outline) (places : List Place) (view : View) → AscendByStore places → Has array schema places → list_all (λ page. not (count_of (array page) == 0)) (chain_pages array) ≡ true
      → each_pair differ (chain_pages array) ≡ true → All (λ q. (now : List ℕ) × form q array now (view.rows q.store)) places
      → All (λ q. q.store < 65536 → last_serial_of (array q.first) ≡ view.last q.store) places
      → ((page : ℕ) → page < 65536 → IsTrue (among (chain_pages array) page || reach_any form reach places array page) ⊎ (array page ≡ blank))
      → IsDatabase form array schema places view
  database-of array schema places view ascend has filled apart-chains held serials others =
      let pages : ℕ → List ℕ = choose (λ q now. form q array now (view.rows q.store)) places held in
      let all = chosen (λ q now. form q array now (view.rows q.store)) places held ascend in
      let kinds = chain-kinds array schema places has in
      record {
        has = has;
        filled = filled;
        pages = pages;
        stores = all;
        serials = serials;
        once = pairs-append differ (chain_pages array) (store_pages pages places) apart-chains
            (flat-once (λ n. store_of (array n)) (λ q. pages q.store) places ascend
            (λ k d w.
            let q : Place = slice_index_or places k d in (
              laws.once q array (pages q.store) (view.rows q.store) (all k d w),
              all-among (λ n. store_of (array n) == q.store) (pages q.store)
                  (λ n m. is-number (store_of (array n)) q.store (laws.basic.bear q array (pages q.store) (view.rows q.store) n (all k d w) m).1),
            )))
            (apart (is-chained array) (is-stored array) (never-both array) (chain_pages array) (store_pages pages places)
            (all-among (is-chained array) (chain_pages array) (λ n m. chained-is array n (kinds n m)))
            (all-among (is-stored array) (store_pages pages places)
            (λ n m.
            let found = any-of (λ q. form q array (pages q.store) (view.rows q.store)) (λ q. among (pages q.store) n) places all (sym (among-flat (λ q. pages q.store) places n) ∙ m) in
            let bears = laws.basic.bear found.0 array (pages found.0.store) (view.rows found.0.store) n found.1 found.2 in
            stored-is array n bears.2 bears.3)));
        others = λ page low. elim (others page low) [
          | inl m ↦ inl (reached-is array pages view.rows places all page ∙ m)
          | inr n ↦ inr n
        ];
      }
    where
      is-chained : Array → ℕ → Bool
      is-chained array n = (kind_of (array n) == 1) || (kind_of (array n) == 5)

      is-stored : Array → ℕ → Bool
      is-stored array n = not (is-chained array n)

      never-both : (array : Array) (n : ℕ) → is-chained array n ≡ true → is-stored array n ≡ true → ⊥
      never-both array n e f = true≢false (sym f ∙ ap not e)

      chained-is : (array : Array) (n : ℕ) → (kind_of (array n) ≡ 1) ⊎ (kind_of (array n) ≡ 5) → is-chained array n ≡ true
      chained-is array n (inl e) = first-of (kind_of (array n) == 1) (kind_of (array n) == 5) (is-number (kind_of (array n)) 1 e)
      chained-is array n (inr e) = one-of (kind_of (array n) == 1) (kind_of (array n) == 5) (is-number (kind_of (array n)) 5 e)

      stored-is : (array : Array) (n : ℕ) → 2 ≤ kind_of (array n) → kind_of (array n) ≤ 4 → is-stored array n ≡ true
      stored-is array n h k = ap not (never (is-chained array n) (λ e. elim (or-cases (kind_of (array n) == 1) (kind_of (array n) == 5) e) [
        | inl f ↦ no-store (array n) (inl (eqb-true (kind_of (array n)) 1 f)) h k
        | inr f ↦ no-store (array n) (inr (eqb-true (kind_of (array n)) 5 f)) h k
      ]))

  module _ (array : Array) (schema : Outline) (places : List Place) (view : View) (d : IsDatabase form array schema places view) where
    pub held-of : AllHold form reach places array
    held-of = λ k e w. let q : Place = slice_index_or places k e in (d.pages q.store, view.rows q.store, d.stores k e w)

    -- the store at a place that is found
    pub held-at : (place : Place) → place_of place.store places ≡ Some place → form place array (d.pages place.store) (view.rows place.store)
    held-at place at = found-at (λ q. form q array (d.pages q.store) (view.rows q.store)) place.store place places at d.stores

    pub serial-at : (place : Place) → place_of place.store places ≡ Some place → place.store < 65536 → last_serial_of (array place.first) ≡ view.last place.store
    serial-at place at = found-at (λ q. q.store < 65536 → last_serial_of (array q.first) ≡ view.last q.store) place.store place places at d.serials

    -- a page is one of a chain or of a store, or blank
    pub others-of : (page : ℕ) → page < 65536 → IsTrue (among (chain_pages array) page || reach_any form reach places array page) ⊎ (array page ≡ blank)
    others-of page low = elim (d.others page low) [
      | inl m ↦ inl (sym (reached-is array d.pages view.rows places d.stores page) ∙ m)
      | inr n ↦ inr n
    ]

    pub chains-once : each_pair differ (chain_pages array) ≡ true
    chains-once = pairs-left differ (chain_pages array) (store_pages d.pages places) d.once

  -- ---- some stores change

  -- what each place has behind the change: its rows by a view, the last serial as it was, and each page that it had or that is blank
  abbrev Now : Array → Array → (ℕ → List (List ℕ)) → Place → Type 0
  Now before after rows q =
      ((now : List ℕ) × form q after now (rows q.store)) × (last_serial_of (after q.first) ≡ last_serial_of (before q.first)) × ((page : ℕ) → reach q before page ≡ true → (reach q after page ≡ true) ⊎ (after page ≡ blank))

  module _ (a b : Attempt) (before after : Array) (schema : Outline) (places : List Place) (view : View) (test : ℕ → Bool) (change : List (List ℕ) → List (List ℕ)) (ascend : AscendByStore places)
      (d : IsDatabase form before schema places view) (x : Moves form reach (filter (λ q. test q.store) places) change a b before after) where
    changing : List Place
    changing = filter (λ q. test q.store) places

    held : AllHold form reach changing before
    unfolding changing
    held = All-filter (λ q. test q.store) (λ q. (pages : List ℕ) × (rows : List (List ℕ)) × form q before pages rows) places (held-of before schema places view d)

    -- a page that a changing store had bears the number of one that changes, and is of a store's kind
    reach-by : (page : ℕ) → IsTrue (reach_any form reach changing before page) → (test (store_of (before page)) ≡ true) × (2 ≤ kind_of (before page)) × (kind_of (before page) ≤ 4)
    unfolding changing
    reach-by page h =
        let found = any-of (λ q. ((pages : List ℕ) × (rows : List (List ℕ)) × form q before pages rows) × (test q.store ≡ true)) (λ q. reach q before page) changing
        (λ k e w. (held k e w, kept-pass (λ q. test q.store) places k e w)) h in
        let had = found.1.0 in
        let bears = laws.basic.bear found.0 before had.0 had.1 page had.2 (sym (laws.basic.reached found.0 before had.0 had.1 page had.2) ∙ found.2) in
        (ap test bears.1 ∙ found.1.1, bears.2, bears.3)

    -- a page that isn't one of a changing store, and isn't blank, is as it was
    stays : (page : ℕ) → (IsTrue (reach_any form reach changing before page) → ⊥) → (before page ≡ blank → ⊥) → after page ≡ before page
    unfolding changing
    stays page foreign some = elim (x.others page) [
      | inl o ↦ elim (or-cases (reach_any form reach changing before page) (drew_between a b page) o) [
        | inl h ↦ absurd (foreign h)
        | inr e ↦ absurd (some (x.drawn page e))
      ]
      | inr s ↦ s
    ]

    -- so the pages of chains are as they were, and those of the other stores
    chain-kept : (page : ℕ) → IsTrue (among (chain_pages before) page) → after page ≡ before page
    chain-kept page m =
        let kind = chain-kinds before schema places d.has page m in
        stays page (λ h. let by = reach-by page h in no-store (before page) kind by.1 by.2) (chain-not-blank (before page) kind)

    store-kept : (q : Place) (pages : List ℕ) (rows : List (List ℕ)) → form q before pages rows → test q.store ≡ false → (page : ℕ) → IsTrue (among pages page) → after page ≡ before page
    store-kept q pages rows holds t page m =
        let bears = laws.basic.bear q before pages rows page holds m in
        stays page (λ h. true≢false (sym (reach-by page h).0 ∙ ap test bears.1 ∙ t)) (λ n. not-blank (before page) n bears.2)

    rows-now : ℕ → List (List ℕ)
    rows-now s = if test s then change (view.rows s) else view.rows s

    each-now : All (Now before after rows-now) places
    unfolding changing rows-now
    each-now = λ k e w.
        let q : Place = slice_index_or places k e in
        let was = d.stores k e w in
        either (test q.store) (λ c. ((now : List ℕ) × form q after now (if c then change (view.rows q.store) else view.rows q.store)) × (last_serial_of (after q.first) ≡ last_serial_of (before q.first)) × ((page : ℕ) → reach q before page ≡ true → (reach q after page ≡ true) ⊎ (after page ≡ blank)))
        (λ t.
        let r = all-kept (λ p. (pages : List ℕ) (rows : List (List ℕ)) → form p before pages rows → Rewritten form reach p a b before after pages (change rows)) (λ p. test p.store) places x.each k e w t (d.pages q.store) (view.rows q.store) was in (
          (r.pages_now, r.has),
          r.serial,
          λ page h. elim (r.left page (sym (laws.basic.reached q before (d.pages q.store) (view.rows q.store) page was) ∙ h)) [
            | inl m ↦ inl (laws.basic.reached q after r.pages_now (change (view.rows q.store)) page r.has ∙ m)
            | inr n ↦ inr n
          ],
        ))
        (λ t.
        let same = store-kept q (d.pages q.store) (view.rows q.store) was t in
        let now = laws.basic.depends q before after (d.pages q.store) (view.rows q.store) was same in (
          (d.pages q.store, now),
          ap last_serial_of (same q.first (laws.basic.has_first q before (d.pages q.store) (view.rows q.store) was)),
          λ page h. inl (laws.basic.reached q after (d.pages q.store) (view.rows q.store) page now ∙ sym (laws.basic.reached q before (d.pages q.store) (view.rows q.store) page was) ∙ h),
        ))

    all-others : (page : ℕ) → page < 65536 → IsTrue (among (chain_pages after) page || reach_any form reach places after page) ⊎ (after page ≡ blank)
    unfolding changing
    all-others page low =
        let chains = chains-same before after chain-kept in
        let by-store : (reach_any form reach places after page ≡ true) ⊎ (after page ≡ blank) → IsTrue (among (chain_pages after) page || reach_any form reach places after page) ⊎ (after page ≡ blank) = λ o.
        elim o [
          | inl h ↦ inl (one-of (among (chain_pages after) page) (reach_any form reach places after page) h)
          | inr n ↦ inr n
        ] in
        elim (others-of before schema places view d page low) [
          | inl o ↦ elim (or-cases (among (chain_pages before) page) (reach_any form reach places before page) o) [
            | inl m ↦ inl (first-of (among (chain_pages after) page) (reach_any form reach places after page) (ap (λ (ps : List ℕ). among ps page) chains ∙ m))
            | inr h ↦ by-store (any-either (λ q. reach q before page) (λ q. reach q after page) (after page ≡ blank) places (λ k e w. (each-now k e w).2 page) h)
          ]
          | inr n ↦ elim (x.others page) [
            | inl o ↦ elim (or-cases (reach_any form reach changing before page) (drew_between a b page) o) [
              | inl h ↦ absurd (not-blank (before page) n (reach-by page h).1)
              | inr e ↦ elim (x.used page e) [
                | inl h ↦ by-store (inl (any-filter (λ q. reach q after page) (λ q. test q.store) places h))
                | inr k ↦ inr k
              ]
            ]
            | inr s ↦ inr (s ∙ n)
          ]
        ]

    pub database-moved : IsDatabase form after schema places (record { rows = λ s. if test s then change (view.rows s) else view.rows s; last = view.last })
    unfolding rows-now
    database-moved =
        let chains = chains-same before after chain-kept in
        database-of after schema places (record { rows = λ s. if test s then change (view.rows s) else view.rows s; last = view.last }) ascend (has-same before after chain-kept schema places d.has)
        (subst (λ (ps : List ℕ). list_all (λ page. not (count_of (after page) == 0)) ps ≡ true) (sym chains) (filled-same before after (chain_pages before) chain-kept d.filled))
        (subst (λ (ps : List ℕ). each_pair differ ps ≡ true) (sym chains) (chains-once before schema places view d))
        (λ k e w. (each-now k e w).0)
        (λ k e w extent. (each-now k e w).1 ∙ d.serials k e w extent)
        all-others

  -- ---- one store changes

  -- a database stays one where a store of it has other rows
  pub database-changed : (spot : Place → Array → List ℕ → ℕ → Type 0) (asked : (ℕ → Bool) → (ℕ → Bool) → ℕ → Type 0) (place : Place) (a b : Attempt) (before after : Array) (schema : Outline) (places : List Place) (view : View) (rows : List (List ℕ))
      → AscendByStore places → (d : IsDatabase form before schema places view) → place_of place.store places ≡ Some place → Changed form spot asked reach place a b before after (d.pages place.store) rows
      → IsDatabase form after schema places (with_rows place.store rows view)
  database-changed spot asked place a b before after schema places view rows ascend d at x =
      let one = one-kept place.store place places ascend at in
      let here : form place before (d.pages place.store) (view.rows place.store) = held-at before schema places view d place at in
      let was : (page : ℕ) → reach place before page ≡ among (d.pages place.store) page = λ page. laws.basic.reached place before (d.pages place.store) (view.rows place.store) page here in
      let Each : Place → Type 0 = λ p. (pages : List ℕ) (had : List (List ℕ)) → form p before pages had → Rewritten form reach p a b before after pages rows in
      let moves : Moves form reach (place ∷ []) (λ _. rows) a b before after = record {
        each = All-cons Each place []
            (λ pages had holds. subst (λ (ps : List ℕ). Rewritten form reach place a b before after ps rows) (laws.basic.one place before (d.pages place.store) pages (view.rows place.store) had here holds).0
            (record { pages_now = x.pages_now; has = x.has; taken = x.taken; left = λ page k. x.left page (first-of (among (d.pages place.store) page) (drew_between a b page) k); serial = x.serial }))
            (All-nil Each);
        others = λ page. elim (x.others page) [
          | inl o ↦ inl (elim (or-cases (among (d.pages place.store) page) (drew_between a b page) o) [
            | inl k ↦ first-of (reach place before page || false) (drew_between a b page) (first-of (reach place before page) false (was page ∙ k))
            | inr e ↦ one-of (reach place before page || false) (drew_between a b page) e
          ])
          | inr s ↦ inr s
        ];
        drawn = x.drawn;
        used = λ page e. elim (x.left page (one-of (among (d.pages place.store) page) (drew_between a b page) e)) [
          | inl m ↦ inl (first-of (reach place after page) false (laws.basic.reached place after x.pages_now rows page x.has ∙ m))
          | inr n ↦ inr n
        ];
      } in
      database-moved a b before after schema places view (λ s. s == place.store) (λ _. rows) ascend d (subst (λ (ps : List Place). Moves form reach ps (λ _. rows) a b before after) (sym one) moves)

  -- a database stays one where an extent of it has another last serial
  module _ (place : Place) (serial : ℕ) (before after : Array) (schema : Outline) (places : List Place) (view : View) (ascend : AscendByStore places) (d : IsDatabase form before schema places view)
      (at : place_of place.store places ≡ Some place) (extent : place.store < 65536) (within : serial < 2 ^ 32) (x : SetsSerial place serial before after) where
    abbrev set-when : Bool → ℕ → List ℕ
    set-when b page = if b then with_last_serial serial (before place.first) else before page

    here : form place before (d.pages place.store) (view.rows place.store)
    here = held-at before schema places view d place at

    first-bears : (place.first < 65536) × (store_of (before place.first) ≡ place.store) × (2 ≤ kind_of (before place.first)) × (kind_of (before place.first) ≤ 4)
    first-bears = laws.basic.bear place before (d.pages place.store) (view.rows place.store) place.first here (laws.basic.has_first place before (d.pages place.store) (view.rows place.store) here)

    -- a page that isn't the first one of the extent is as it was
    elsewhere : (page : ℕ) → (page ≡ place.first → ⊥) → after page ≡ before page
    elsewhere page other = x.pages page ∙ ap (λ (b : Bool). set-when b page) (never (page == place.first) (λ e. other (eqb-true page place.first e)))

    -- and so are the pages of the chains
    chain-stays : (page : ℕ) → IsTrue (among (chain_pages before) page) → after page ≡ before page
    chain-stays page m = elsewhere page (λ e. no-store (before page) (chain-kinds before schema places d.has page m) (subst (λ (n : ℕ). 2 ≤ kind_of (before n)) (sym e) first-bears.2) (subst (λ (n : ℕ). kind_of (before n) ≤ 4) (sym e) first-bears.3))

    with-serial : (page : ℕ) → after page ≡ (if page == place.first then with_last_serial serial (before page) else before page)
    with-serial page =
        x.pages page
        ∙ either (page == place.first) (λ b. set-when b page ≡ (if b then with_last_serial serial (before page) else before page))
        (λ e. ap (λ (n : ℕ). with_last_serial serial (before n)) (sym (eqb-true page place.first e))) (λ e. refl)

    -- the only place of the store is that which is found
    only-one : All (λ q. (q.store == place.store) ≡ true → q ≡ place) places
    only-one = all-kept (λ q. q ≡ place) (λ q. q.store == place.store) places (subst (All (λ q. q ≡ place)) (sym (one-kept place.store place places ascend at)) (All-cons (λ q. q ≡ place) place [] refl (All-nil (λ q. q ≡ place))))

    -- pages of other stores are as they were
    other-stays : (q : Place) (pages : List ℕ) (rows : List (List ℕ)) → form q before pages rows → (q.store == place.store) ≡ false → (page : ℕ) → IsTrue (among pages page) → after page ≡ before page
    other-stays q pages rows holds differs page m =
        elsewhere page (λ e. true≢false (sym (is-number q.store place.store (sym (laws.basic.bear q before pages rows page holds m).1 ∙ ap (λ (n : ℕ). store_of (before n)) e ∙ first-bears.1)) ∙ differs))

    abbrev After : Place → Type 0
    After q =
        ((now : List ℕ) × form q after now (view.rows q.store)) × (q.store < 65536 → last_serial_of (after q.first) ≡ (if q.store == place.store then serial else view.last q.store))
        × ((page : ℕ) → reach q before page ≡ true → reach q after page ≡ true)

    each-after : All After places
    each-after = λ k e w.
        let q : Place = slice_index_or places k e in
        let was = d.stores k e w in
        either (q.store == place.store) (λ b. ((now : List ℕ) × form q after now (view.rows q.store)) × (q.store < 65536 → last_serial_of (after q.first) ≡ (if b then serial else view.last q.store)) × ((page : ℕ) → reach q before page ≡ true → reach q after page ≡ true))
        (λ t.
        let is : q ≡ place = only-one k e w t in
        let now : form q after (d.pages q.store) (view.rows q.store) =
        laws.any_serial q before after (d.pages q.store) (view.rows q.store) serial (subst (λ (p : Place). p.store < 65536) (sym is) extent) within was
        (λ page. subst (λ (p : Place). after page ≡ (if page == p.first then with_last_serial serial (before page) else before page)) (sym is) (with-serial page)) in (
          (d.pages q.store, now),
          λ _. ap (λ (p : Place). last_serial_of (after p.first)) is ∙ ap last_serial_of (x.pages place.first ∙ ap (λ (b : Bool). set-when b place.first) (is-number place.first place.first refl))
              ∙ (serial-stays 2 place.store place.key place.width serial (before place.first) extent within x.page).3,
          λ page h. laws.basic.reached q after (d.pages q.store) (view.rows q.store) page now ∙ sym (laws.basic.reached q before (d.pages q.store) (view.rows q.store) page was) ∙ h,
        ))
        (λ t.
        let stays = other-stays q (d.pages q.store) (view.rows q.store) was t in
        let now = laws.basic.depends q before after (d.pages q.store) (view.rows q.store) was stays in (
          (d.pages q.store, now),
          λ small. ap last_serial_of (stays q.first (laws.basic.has_first q before (d.pages q.store) (view.rows q.store) was)) ∙ d.serials k e w small,
          λ page h. laws.basic.reached q after (d.pages q.store) (view.rows q.store) page now ∙ sym (laws.basic.reached q before (d.pages q.store) (view.rows q.store) page was) ∙ h,
        ))

    pub database-serial : IsDatabase form after schema places (with_last place.store serial view)
    database-serial =
        let chains = chains-same before after chain-stays in
        database-of after schema places (with_last place.store serial view) ascend (has-same before after chain-stays schema places d.has)
        (subst (λ (ps : List ℕ). list_all (λ page. not (count_of (after page) == 0)) ps ≡ true) (sym chains) (filled-same before after (chain_pages before) chain-stays d.filled))
        (subst (λ (ps : List ℕ). each_pair differ ps ≡ true) (sym chains) (chains-once before schema places view d))
        (λ k e w. (each-after k e w).0) (λ k e w. (each-after k e w).1)
        (λ page low. elim (others-of before schema places view d page low) [
          | inl o ↦ inl (elim (or-cases (among (chain_pages before) page) (reach_any form reach places before page) o) [
            | inl m ↦ first-of (among (chain_pages after) page) (reach_any form reach places after page) (ap (λ (ps : List ℕ). among ps page) chains ∙ m)
            | inr h ↦ one-of (among (chain_pages after) page) (reach_any form reach places after page) (no-bottom (any-either (λ q. reach q before page) (λ q. reach q after page) ⊥ places (λ k e w h. inl ((each-after k e w).2 page h)) h))
          ])
          | inr n ↦ inr (elsewhere page (λ e. not-blank (before page) n (subst (λ (m : ℕ). 2 ≤ kind_of (before m)) (sym e) first-bears.2)) ∙ n)
        ])
      where
        no-bottom : {P : Type 0} → P ⊎ ⊥ → P
        no-bottom (inl p) = p
        no-bottom (inr e) = absurd e

  -- ---- an attribute's index and inverse change

  pub database-noted : (a b : Attempt) (before after : Array) (schema : Outline) (places : List Place) (view : View) (number : ℕ) (kind : Kind) (entity : EntityId) (old new : Value)
      → AscendByStore places → IsDatabase form before schema places view → IsNoted form reach places number kind entity old new a b before after
      → IsDatabase form after schema places (noted_view number kind entity old new view)
  database-noted a b before after schema places view number kind entity old new ascend d x =
      database-moved a b before after schema places view (is_turned_store number) (λ rows. noted kind entity old new rows) ascend d
      (record { each = x.each; others = x.others; drawn = x.drawn; used = x.used })

  -- ---- the same database

  -- arrays that have the same at each page are one array
  pub database-same : (before after : Array) (schema : Outline) (places : List Place) (view : View) → ((page : ℕ) → after page ≡ before page) → IsDatabase form before schema places view → IsDatabase form after schema places view
  database-same before after schema places view same d = let one : before ≡ after = λ i page. sym (same page) i in subst (λ (array : Array). IsDatabase form array schema places view) one d

  -- of a view only the stores of the places matter
  pub database-alike : (array : Array) (schema : Outline) (places : List Place) (view other : View) → All (λ q. (other.rows q.store ≡ view.rows q.store) × (other.last q.store ≡ view.last q.store)) places
      → IsDatabase form array schema places view → IsDatabase form array schema places other
  database-alike array schema places view other same d = record {
    has = d.has;
    filled = d.filled;
    pages = d.pages;
    stores = λ k e w. let q : Place = slice_index_or places k e in subst (form q array (d.pages q.store)) (sym (same k e w).0) (d.stores k e w);
    serials = λ k e w extent. d.serials k e w extent ∙ sym (same k e w).1;
    once = d.once;
    others = d.others;
  }
