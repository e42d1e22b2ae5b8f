-- Changes of stores, one behind the other.
use Rattle.std.proofs.Common.{◌≡◌, ℕ, ◌<◌, ◌≤◌, ◌||◌, Bool, true, false, List, [], ◌∷◌, ◌++◌, Result, Ok, Err, IsTrue, IfErr, OnOk, refl, sym, ap, ◌∙◌, subst, inl, inr, true≢false}
use Rattle.std.specs.Prelude.{◌⊎◌, slice_index_or}
use Rattle.std.specs.List.{All, list_any}
use Rattle.std.proofs.lemmas.List.Elements.{All-append, All-cons, All-head, All-nil, All-tail}
use Rattle.std.proofs.lemmas.List.Folds.{list_any-append}
use Rattle.st_values.specs.declared.value.EntityId.{EntityId}
use Rattle.st_values.specs.declared.value.Kind.{Kind}
use Rattle.st_values.specs.declared.value.Value.{Value}
use Rattle.st_values.specs.declared.value.Value.TheVariants.{Null, Int, Bool as Truth, Text, Entity}
use Rattle.st_values.proofs.Tests.{first-of, one-of}
use Rattle.st_page.specs.declared.fault.PageFault.{PageFault}
use Rattle.st_page.specs.declared.fault.PageFault.TheVariants.{BadPage, Conflict, Full, TooManyPages, DiskFault, Closed, Memory}
use Rattle.st_image.specs.Fields.{blank, kind_of, store_of, last_serial_of}
use Rattle.st_rows.specs.Rows.{pair_width}
use Rattle.st_pages.specs.declared.places.Place.{Place}
use Rattle.st_pages.specs.Attempt.{Array, Attempt, over}
use Rattle.st_pages.specs.Reading.{OfDamage}
use Rattle.st_store.specs.Rows.{with_row}
use Rattle.st_store.specs.Stores.{Changed, ForBoth, OfStore, among, drew_between}
use Rattle.st_index.specs.Turned.{turned_row, with_value}
use Rattle.st_index.specs.Noted.{AllHold, Rewritten, reach_any, rows_for}
use Rattle.st_index.specs.Change.{AreApart, Moved}
use Rattle.st_index.proofs.Counted.{Drawn, or-cases, not-blank, drew-first, drew-second, drew-either, drew-apart}

-- ---- values that aren't null

pub one-row : (value : Value) → (value ≡ Null → ⊥) → rows_for value ≡ 1
one-row Null h = absurd (h refl)
one-row (Int n) h = refl
one-row (Truth b) h = refl
one-row (Text t) h = refl
one-row (Entity e) h = refl

pub with-row : (kind : Kind) (entity : EntityId) (value : Value) → (value ≡ Null → ⊥) → (rows : List (List ℕ)) → with_row (pair_width kind) (turned_row kind value entity) rows ≡ with_value kind entity value rows
with-row kind entity Null h rows = absurd (h refl)
with-row kind entity (Int n) h rows = refl
with-row kind entity (Truth b) h rows = refl
with-row kind entity (Text t) h rows = refl
with-row kind entity (Entity e) h rows = refl

-- ---- answers

pub damage-weaken : (P Q : ℕ → ℕ → Type 0) → ((page at : ℕ) → P page at → Q page at) → (fault : PageFault) → OfDamage P fault → OfDamage Q fault
damage-weaken P Q w (BadPage page at) h = w page at h
damage-weaken P Q w (Conflict page holder) h = tt
damage-weaken P Q w (Full in_use) h = tt
damage-weaken P Q w (TooManyPages count) h = tt
damage-weaken P Q w DiskFault h = tt
damage-weaken P Q w Closed h = tt
damage-weaken P Q w Memory h = tt

pub bad-weaken : (P Q : ℕ → ℕ → Type 0) (answer : Result Unit PageFault) → ((page at : ℕ) → P page at → Q page at) → IfErr answer (OfDamage P) → IfErr answer (OfDamage Q)
bad-weaken P Q (Ok x) w h = tt
bad-weaken P Q (Err fault) w h = damage-weaken P Q w fault h

pub ok-weaken : (P Q : Type 0) (answer : Result Unit PageFault) → (P → Q) → OnOk answer P → OnOk answer Q
ok-weaken P Q (Ok x) w h = w h
ok-weaken P Q (Err fault) w h = tt

-- ---- lists of places

module _ {X : Type 0} where
  -- an element that passes a test, with what holds of all
  pub any-of : (P : X → Type 0) (t : X → Bool) (xs : List X) → All P xs → list_any t xs ≡ true → (x : X) × P x × (t x ≡ true)
  any-of P t [] all h = absurd (true≢false (sym h))
  any-of P t (x ∷ xs) all h = elim (or-cases (t x) (list_any t xs) h) [
    | inl e ↦ (x, All-head P x xs all, e)
    | inr e ↦ any-of P t xs (All-tail P x xs all) e
  ]

  pub any-same : (t u : X → Bool) (xs : List X) → All (λ x. t x ≡ u x) xs → list_any t xs ≡ list_any u xs
  any-same t u [] all = refl
  any-same t u (x ∷ xs) all =
      ap (λ (b : Bool). b || list_any t xs) (All-head (λ x. t x ≡ u x) x xs all)
      ∙ ap (λ (b : Bool). u x || b) (any-same t u xs (All-tail (λ x. t x ≡ u x) x xs all))

  pub all-first : (P : X → Type 0) (xs ys : List X) → All P (xs ++ ys) → All P xs
  all-first P [] ys all = All-nil P
  all-first P (x ∷ xs) ys all = All-cons P x xs (All-head P x (xs ++ ys) all) (all-first P xs ys (All-tail P x (xs ++ ys) all))

  pub all-second : (P : X → Type 0) (xs ys : List X) → All P (xs ++ ys) → All P ys
  all-second P [] ys all = all
  all-second P (x ∷ xs) ys all = all-second P xs ys (All-tail P x (xs ++ ys) all)

-- ---- stores

-- the laws of stores that are needed here
pub record Laws (form : Place → Array → List ℕ → List (List ℕ) → Type 0) (reach : Place → Array → ℕ → Bool) : Type 0 where
  pub one : (p : Place) (a : Array) (pages others : List ℕ) (rows more : List (List ℕ)) → form p a pages rows → form p a others more → (pages ≡ others) × (rows ≡ more)
  pub has_first : (p : Place) (a : Array) (pages : List ℕ) (rows : List (List ℕ)) → form p a pages rows → IsTrue (among pages p.first)
  pub reached : (p : Place) (a : Array) (pages : List ℕ) (rows : List (List ℕ)) (page : ℕ) → form p a pages rows → reach p a page ≡ among pages page
  pub bear : (p : Place) (a : Array) (pages : List ℕ) (rows : List (List ℕ)) (page : ℕ) → form p a pages rows → IsTrue (among pages page) → (page < 65536) × (store_of (a page) ≡ p.store) × (2 ≤ kind_of (a page)) × (kind_of (a page) ≤ 4)
  pub depends : (p : Place) (a b : Array) (pages : List ℕ) (rows : List (List ℕ)) → form p a pages rows → ((page : ℕ) → IsTrue (among pages page) → b page ≡ a page) → form p b pages rows

-- ---- one store

module _ (form : Place → Array → List ℕ → List (List ℕ) → Type 0) (spot : Place → Array → List ℕ → ℕ → Type 0) (reach : Place → Array → ℕ → Bool) where
  -- the same change of rows, said by an equation
  pub ok-changed : (asked : (ℕ → Bool) → (ℕ → Bool) → ℕ → Type 0) (place : Place) (a b : Attempt) (answer : Result Unit PageFault) (f g : List (List ℕ) → List (List ℕ)) → ((rows : List (List ℕ)) → f rows ≡ g rows)
      → OnOk answer (ForBoth a b (λ before after. OfStore form place before (λ had rows. Changed form spot asked reach place a b before after had (f rows))))
      → OnOk answer (ForBoth a b (λ before after. OfStore form place before (λ had rows. Changed form spot asked reach place a b before after had (g rows))))
  ok-changed asked place a b (Ok x) f g e h = λ pages agrees had rows holds. subst (λ (r : List (List ℕ)). Changed form spot asked reach place a b (over a pages) (over b pages) had r) (e rows) (h pages agrees had rows holds)
  ok-changed asked place a b (Err fault) f g e h = tt

  -- two changes of one store
  pub change-then : (asked-ab asked-bc asked-ac : (ℕ → Bool) → (ℕ → Bool) → ℕ → Type 0) (place : Place) (a b c : Attempt) → Drawn a b → Drawn b c → (before mid after : Array) (pages : List ℕ) (rows more : List (List ℕ))
      → ((page : ℕ) → IsTrue (drew_between a c page) → before page ≡ blank)
      → (first : Changed form spot asked-ab reach place a b before mid pages rows) → Changed form spot asked-bc reach place b c mid after first.pages_now more → Changed form spot asked-ac reach place a c before after pages more
  change-then asked-ab asked-bc asked-ac place a b c ab bc before mid after pages rows more fresh x y = record {
    pages_now = y.pages_now;
    has = y.has;
    taken = λ page t. elim (or-cases (among x.pages_now page) (drew_between b c page) (y.taken page t)) [
      | inl m ↦ elim (or-cases (among pages page) (drew_between a b page) (x.taken page m)) [
        | inl k ↦ first-of (among pages page) (drew_between a c page) k
        | inr d ↦ one-of (among pages page) (drew_between a c page) (drew-first a b c ab bc page d)
      ]
      | inr d ↦ one-of (among pages page) (drew_between a c page) (drew-second a b c ab bc page d)
    ];
    left = λ page t. elim (or-cases (among pages page) (drew_between a c page) t) [
      | inl k ↦ on page (first-of (among pages page) (drew_between a b page) k)
      | inr d ↦ elim (drew-either a b c ab bc page d) [
        | inl e ↦ on page (one-of (among pages page) (drew_between a b page) e)
        | inr e ↦ y.left page (one-of (among x.pages_now page) (drew_between b c page) e)
      ]
    ];
    drawn = fresh;
    others = λ page. elim (x.others page) [
      | inl o ↦ inl (elim (or-cases (among pages page) (drew_between a b page) o) [
        | inl k ↦ first-of (among pages page) (drew_between a c page) k
        | inr d ↦ one-of (among pages page) (drew_between a c page) (drew-first a b c ab bc page d)
      ])
      | inr s ↦ elim (y.others page) [
        | inl o ↦ inl (elim (or-cases (among x.pages_now page) (drew_between b c page) o) [
          | inl m ↦ elim (or-cases (among pages page) (drew_between a b page) (x.taken page m)) [
            | inl k ↦ first-of (among pages page) (drew_between a c page) k
            | inr d ↦ one-of (among pages page) (drew_between a c page) (drew-first a b c ab bc page d)
          ]
          | inr d ↦ one-of (among pages page) (drew_between a c page) (drew-second a b c ab bc page d)
        ])
        | inr t ↦ inr (t ∙ s)
      ]
    ];
    serial = y.serial ∙ x.serial;
  }
    where
      -- what the first change left, behind the second one
      on : (page : ℕ) → IsTrue (among pages page || drew_between a b page) → IsTrue (among y.pages_now page) ⊎ (after page ≡ blank)
      on page o = elim (x.left page o) [
        | inl m ↦ y.left page (first-of (among x.pages_now page) (drew_between b c page) m)
        | inr n ↦ elim (y.others page) [
          | inl p ↦ y.left page p
          | inr s ↦ inr (s ∙ n)
        ]
      ]

-- ---- several stores

module _ (form : Place → Array → List ℕ → List (List ℕ) → Type 0) (reach : Place → Array → ℕ → Bool) where
  module _ (laws : Laws form reach) where
    -- one store's change as that of a list of one
    pub moved-one : (spot : Place → Array → List ℕ → ℕ → Type 0) (asked : (ℕ → Bool) → (ℕ → Bool) → ℕ → Type 0) (place : Place) (change : List (List ℕ) → List (List ℕ)) (a b : Attempt) (before after : Array)
        → OfStore form place before (λ had rows. Changed form spot asked reach place a b before after had (change rows)) → AllHold form reach (place ∷ []) before → Moved form reach (place ∷ []) change a b before after
    moved-one spot asked place change a b before after each all =
        let held = All-head (λ p. (pages : List ℕ) × (rows : List (List ℕ)) × form p before pages rows) place [] all in
        let x = each held.0 held.1 held.2 in
        let was : (page : ℕ) → reach place before page ≡ among held.0 page = λ page. laws.reached place before held.0 held.1 page held.2 in
        record {
          each = All-cons (λ p. (pages : List ℕ) (rows : List (List ℕ)) → form p before pages rows → Rewritten form reach p a b before after pages (change rows)) place []
              (λ pages rows h. let r = each pages rows h in record {
                pages_now = r.pages_now;
                has = r.has;
                taken = r.taken;
                left = λ page k. r.left page (first-of (among pages page) (drew_between a b page) k);
                serial = r.serial;
              })
              (All-nil (λ p. (pages : List ℕ) (rows : List (List ℕ)) → form p before pages rows → Rewritten form reach p a b before after pages (change rows)));
          others = λ page. elim (x.others page) [
            | inl o ↦ inl (elim (or-cases (among held.0 page) (drew_between a b page) o) [
              | inl k ↦ first-of (reach place before page || false) (drew_between a b page) (first-of (reach place before page) false (was page ∙ k))
              | inr d ↦ one-of (reach place before page || false) (drew_between a b page) d
            ])
            | inr s ↦ inr s
          ];
          drawn = x.drawn;
          used = λ page d. elim (x.left page (one-of (among held.0 page) (drew_between a b page) d)) [
            | inl m ↦ inl (first-of (reach place after page) false (laws.reached place after x.pages_now (change held.1) page x.has ∙ m))
            | inr n ↦ inr n
          ];
        }

    -- a page that stores of an array have: its store, and that it isn't blank
    reached-by : (places : List Place) (array : Array) (page : ℕ) → AllHold form reach places array → IsTrue (reach_any form reach places array page)
        → (P : Place → Type 0) → All P places → (p : Place) × P p × (store_of (array page) ≡ p.store) × (2 ≤ kind_of (array page))
    reached-by places array page all h P more =
        let found = any-of (λ p. ((pages : List ℕ) × (rows : List (List ℕ)) × form p array pages rows) × P p) (λ p. reach p array page) places (λ k d w. (all k d w, more k d w)) h in
        let held = found.1.0 in
        let bears = laws.bear found.0 array held.0 held.1 page held.2 (sym (laws.reached found.0 array held.0 held.1 page held.2) ∙ found.2) in
        (found.0, found.1.1, bears.1, bears.2)

    any-blank : (places : List Place) (array : Array) (page : ℕ) → AllHold form reach places array → IsTrue (reach_any form reach places array page) → array page ≡ blank → ⊥
    any-blank places array page all h e =
        let by = reached-by places array page all h (λ _. Unit {0}) (λ k d w. tt) in
        not-blank (array page) e by.3

    -- the pages of another store are as they were
    pub kept-pages : (ps : List Place) (change : List (List ℕ) → List (List ℕ)) (a b : Attempt) (before after : Array) → Moved form reach ps change a b before after → AllHold form reach ps before
        → (q : Place) → All (λ p. p.store ≡ q.store → ⊥) ps → (pages : List ℕ) (rows : List (List ℕ)) → form q before pages rows → (page : ℕ) → IsTrue (among pages page) → after page ≡ before page
    kept-pages ps change a b before after x all q apart pages rows holds page k =
        let bears = laws.bear q before pages rows page holds k in
        let foreign : IsTrue (reach_any form reach ps before page) → ⊥ = λ h.
        let by = reached-by ps before page all h (λ p. p.store ≡ q.store → ⊥) apart in
        by.1 (sym by.2 ∙ bears.1) in
        elim (x.others page) [
          | inl o ↦ elim (or-cases (reach_any form reach ps before page) (drew_between a b page) o) [
            | inl h ↦ absurd (foreign h)
            | inr d ↦ absurd (not-blank (before page) (x.drawn page d) bears.2)
          ]
          | inr s ↦ s
        ]

    swap : (ps qs : List Place) → AreApart ps qs → All (λ q. All (λ p. p.store ≡ q.store → ⊥) ps) qs
    swap ps qs apart = λ j e w k d v. apart k d v j e w

    turn : (ps qs : List Place) → AreApart ps qs → All (λ p. All (λ q. q.store ≡ p.store → ⊥) qs) ps
    turn ps qs apart = λ k d v j e w same. apart k d v j e w (sym same)

    pub hold-later : (ps qs : List Place) (change : List (List ℕ) → List (List ℕ)) (a b : Attempt) (before after : Array) → AreApart ps qs → Moved form reach ps change a b before after → AllHold form reach ps before
        → AllHold form reach qs before → AllHold form reach qs after
    hold-later ps qs change a b before after apart x all more = λ j e w.
        let q = slice_index_or qs j e in
        let held = more j e w in
        (held.0, held.1, laws.depends q before after held.0 held.1 held.2 (kept-pages ps change a b before after x all q (swap ps qs apart j e w) held.0 held.1 held.2))

    pub reach-later : (ps qs : List Place) (change : List (List ℕ) → List (List ℕ)) (a b : Attempt) (before after : Array) → AreApart ps qs → Moved form reach ps change a b before after → AllHold form reach ps before
        → AllHold form reach qs before → (page : ℕ) → reach_any form reach qs after page ≡ reach_any form reach qs before page
    reach-later ps qs change a b before after apart x all more page =
        any-same (λ q. reach q after page) (λ q. reach q before page) qs (λ j e w.
        let q = slice_index_or qs j e in
        let held = more j e w in
        let later = laws.depends q before after held.0 held.1 held.2 (kept-pages ps change a b before after x all q (swap ps qs apart j e w) held.0 held.1 held.2) in
        laws.reached q after held.0 held.1 page later ∙ sym (laws.reached q before held.0 held.1 page held.2))

    -- ---- several stores, and then others

    module _ (ps qs : List Place) (change : List (List ℕ) → List (List ℕ)) (a b c : Attempt) (ab : Drawn a b) (bc : Drawn b c) (before mid after : Array) (apart : AreApart ps qs)
        (x : Moved form reach ps change a b before mid) (y : Moved form reach qs change b c mid after) (held-ps : AllHold form reach ps before) (held-qs : AllHold form reach qs before)
        (fresh : (page : ℕ) → IsTrue (drew_between a c page) → before page ≡ blank) where
      mid-qs : AllHold form reach qs mid
      mid-qs = hold-later ps qs change a b before mid apart x held-ps held-qs

      -- what the first stores have behind their change
      now-ps : All (λ p. (pages : List ℕ) × (rows : List (List ℕ)) × form p mid pages rows) ps
      now-ps = λ k d w.
          let held = held-ps k d w in
          let r = x.each k d w held.0 held.1 held.2 in
          (r.pages_now, change held.1, r.has)

      in-either : (page : ℕ) → (reach_any form reach ps before page ≡ true) ⊎ (reach_any form reach qs before page ≡ true) → reach_any form reach (ps ++ qs) before page ≡ true
      in-either page h =
          list_any-append (λ p. reach p before page) ps qs ∙ elim h as (λ _. (reach_any form reach ps before page || reach_any form reach qs before page) ≡ true) [
            | inl k ↦ first-of (reach_any form reach ps before page) (reach_any form reach qs before page) k
            | inr k ↦ one-of (reach_any form reach ps before page) (reach_any form reach qs before page) k
          ]

      each-first : All (λ place. (pages : List ℕ) (rows : List (List ℕ)) → form place before pages rows → Rewritten form reach place a c before after pages (change rows)) ps
      each-first = λ k d w pages rows holds.
          let p = slice_index_or ps k d in
          let r = x.each k d w pages rows holds in
          let still : (page : ℕ) → IsTrue (among r.pages_now page) → after page ≡ mid page = kept-pages qs change b c mid after y mid-qs p (turn ps qs apart k d w) r.pages_now (change rows) r.has in
          record {
            pages_now = r.pages_now;
            has = laws.depends p mid after r.pages_now (change rows) r.has still;
            taken = λ page t. elim (or-cases (among pages page) (drew_between a b page) (r.taken page t)) [
              | inl m ↦ first-of (among pages page) (drew_between a c page) m
              | inr e ↦ one-of (among pages page) (drew_between a c page) (drew-first a b c ab bc page e)
            ];
            left = λ page t. elim (r.left page t) [
              | inl m ↦ inl m
              | inr n ↦ elim (y.others page) [
                | inl o ↦ elim (or-cases (reach_any form reach qs mid page) (drew_between b c page) o) [
                  | inl h ↦ absurd (any-blank qs mid page mid-qs h n)
                  | inr e ↦ absurd (not-blank (before page) (fresh page (drew-second a b c ab bc page e)) (laws.bear p before pages rows page holds t).2)
                ]
                | inr s ↦ inr (s ∙ n)
              ]
            ];
            serial = ap last_serial_of (still p.first (laws.has_first p mid r.pages_now (change rows) r.has)) ∙ r.serial;
          }

      each-second : All (λ place. (pages : List ℕ) (rows : List (List ℕ)) → form place before pages rows → Rewritten form reach place a c before after pages (change rows)) qs
      each-second = λ k d w pages rows holds.
          let q = slice_index_or qs k d in
          let still : (page : ℕ) → IsTrue (among pages page) → mid page ≡ before page = kept-pages ps change a b before mid x held-ps q (swap ps qs apart k d w) pages rows holds in
          let r = y.each k d w pages rows (laws.depends q before mid pages rows holds still) in
          record {
            pages_now = r.pages_now;
            has = r.has;
            taken = λ page t. elim (or-cases (among pages page) (drew_between b c page) (r.taken page t)) [
              | inl m ↦ first-of (among pages page) (drew_between a c page) m
              | inr e ↦ one-of (among pages page) (drew_between a c page) (drew-second a b c ab bc page e)
            ];
            left = r.left;
            serial = r.serial ∙ ap last_serial_of (still q.first (laws.has_first q before pages rows holds));
          }

      pub moved-then : Moved form reach (ps ++ qs) change a c before after
      moved-then = record {
        each = All-append (λ place. (pages : List ℕ) (rows : List (List ℕ)) → form place before pages rows → Rewritten form reach place a c before after pages (change rows)) ps qs each-first each-second;
        others = λ page. elim (x.others page) [
          | inl o ↦ inl (elim (or-cases (reach_any form reach ps before page) (drew_between a b page) o) [
            | inl h ↦ first-of (reach_any form reach (ps ++ qs) before page) (drew_between a c page) (in-either page (inl h))
            | inr e ↦ one-of (reach_any form reach (ps ++ qs) before page) (drew_between a c page) (drew-first a b c ab bc page e)
          ])
          | inr s ↦ elim (y.others page) [
            | inl o ↦ inl (elim (or-cases (reach_any form reach qs mid page) (drew_between b c page) o) [
              | inl h ↦ first-of (reach_any form reach (ps ++ qs) before page) (drew_between a c page) (in-either page (inr (sym (reach-later ps qs change a b before mid apart x held-ps held-qs page) ∙ h)))
              | inr e ↦ one-of (reach_any form reach (ps ++ qs) before page) (drew_between a c page) (drew-second a b c ab bc page e)
            ])
            | inr t ↦ inr (t ∙ s)
          ]
        ];
        drawn = fresh;
        used = λ page d. elim (drew-either a b c ab bc page d) [
          | inl e ↦ elim (x.used page e) [
            | inl h ↦ inl (list_any-append (λ p. reach p after page) ps qs
                ∙ first-of (reach_any form reach ps after page) (reach_any form reach qs after page) (reach-later qs ps change b c mid after (λ j e w k d v same. apart k d v j e w (sym same)) y mid-qs now-ps page ∙ h))
            | inr n ↦ elim (y.others page) [
              | inl o ↦ elim (or-cases (reach_any form reach qs mid page) (drew_between b c page) o) [
                | inl h ↦ absurd (any-blank qs mid page mid-qs h n)
                | inr f ↦ absurd (drew-apart a b c ab bc page e f)
              ]
              | inr s ↦ inr (s ∙ n)
            ]
          ]
          | inr e ↦ elim (y.used page e) [
            | inl h ↦ inl (list_any-append (λ p. reach p after page) ps qs ∙ one-of (reach_any form reach ps after page) (reach_any form reach qs after page) h)
            | inr n ↦ inr n
          ]
        ];
      }
