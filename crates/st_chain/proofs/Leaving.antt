-- What a change of a store leaves, in a chain that is changed in one or two pages.
use Rattle.std.proofs.Common.{◌≡◌, ◌≢◌, ℕ, ◌⊎◌, ◌==◌, ◌||◌, Bool, true, false, List, [], ◌∷◌, ◌++◌, IsTrue, refl, sym, ap, subst, ◌∙◌, inl, inr, true≢false}
use Rattle.std.proofs.lemmas.List.Folds.{list_any-append}
use Rattle.st_values.proofs.Tests.{first-of, one-of}
use Rattle.st_image.specs.Fields.{blank, last_serial_of}
use Rattle.st_pages.specs.Attempt.{Array, Attempt}
use Rattle.st_pages.specs.declared.places.Place.{Place}
use Rattle.st_store.specs.Chain.{Follow, IsChainOf, IsChainPage, IsSpot, is_on_chain}
use Rattle.st_store.specs.Stores.{Changed, among, drew_between}
use Rattle.st_chain.specs.Changes.{Elsewhere, ElsewhereBoth, NoneDrawn}
use Rattle.st_chain.proofs.Putting.{no-page-of-blank, page-itself, same-page}

page-or-not : (p page : ℕ) → (p ≡ page) ⊎ (p ≢ page)
page-or-not p page = go (p == page) refl
  where
    go : (b : Bool) → (p == page) ≡ b → (p ≡ page) ⊎ (p ≢ page)
    go true e = inl (same-page p page e)
    go false e = inr (λ k. true≢false (sym (ap (λ (m : ℕ). m == page) k ∙ page-itself page) ∙ e))

first-sound : (place : Place) (array : Array) (first : ℕ) (pages : List ℕ) → Follow place array first pages → IsChainPage place (array first)
first-sound place array first [] follow = absurd follow
first-sound place array first (page ∷ []) follow = subst (λ (p : ℕ). IsChainPage place (array p)) follow.0 follow.1
first-sound place array first (page ∷ other ∷ pages) follow = subst (λ (p : ℕ). IsChainPage place (array p)) follow.0 follow.1

-- the first page isn't blank
pub first-not : (place : Place) (array : Array) (pages : List ℕ) (rows : List (List ℕ)) (page : ℕ) → IsChainOf place array pages rows → array page ≡ blank → place.first ≢ page
first-not place array pages rows page chain gone e =
    no-page-of-blank (array place.first) (ap array e ∙ gone) (first-sound place array place.first pages chain.follow).has_header.kind

pub among-middle : (front behind : List ℕ) (page p : ℕ) → among (front ++ page ∷ behind) p ≡ (among front p || ((page == p) || among behind p))
among-middle front behind page p = list_any-append (λ other. other == p) front (page ∷ behind)

pub among-there : (front behind : List ℕ) (page : ℕ) → IsTrue (among (front ++ page ∷ behind) page)
among-there front behind page =
    among-middle front behind page page
    ∙ one-of (among front page) ((page == page) || among behind page) (first-of (page == page) (among behind page) (page-itself page))

-- ---- one page

module _ (asked : (ℕ → Bool) → (ℕ → Bool) → ℕ → Type 0) (place : Place) (a b : Attempt) (before after : Array) (pages : List ℕ) where
  abbrev pub Leaves : List (List ℕ) → Type 0
  Leaves rows = Changed IsChainOf IsSpot asked is_on_chain place a b before after pages rows

  pub leaves-one : (rows : List (List ℕ)) (page : ℕ) → IsChainOf place after pages rows → IsTrue (among pages page) → NoneDrawn (drew_between a b) → Elsewhere before after page
      → last_serial_of (after page) ≡ last_serial_of (before page) → Leaves rows
  leaves-one rows page chain here none elsewhere serial = record {
    pages_now = pages;
    has = chain;
    taken = λ p h. first-of (among pages p) (drew_between a b p) h;
    left = λ p h. inl (in-pages p h);
    drawn = λ p h. absurd (true≢false (sym h ∙ none p));
    others = λ p. elim (page-or-not p page) [
      | inl e ↦ inl (first-of (among pages p) (drew_between a b p) (ap (among pages) e ∙ here))
      | inr ne ↦ inr (elsewhere p ne)
    ];
    serial = elim (page-or-not place.first page) [
      | inl e ↦ ap (λ (p : ℕ). last_serial_of (after p)) e ∙ serial ∙ sym (ap (λ (p : ℕ). last_serial_of (before p)) e)
      | inr ne ↦ ap last_serial_of (elsewhere place.first ne)
    ];
  }
    where
      in-pages : (p : ℕ) → IsTrue (among pages p || drew_between a b p) → IsTrue (among pages p)
      in-pages p h = first-is (among pages p) (drew_between a b p) (none p) h
        where
          first-is : (x y : Bool) → y ≡ false → (x || y) ≡ true → x ≡ true
          first-is true y e k = refl
          first-is false y e k = absurd (true≢false (sym k ∙ e))

  -- nothing changed
  pub leaves-none : (rows : List (List ℕ)) → IsChainOf place before pages rows → NoneDrawn (drew_between a b) → ((p : ℕ) → after p ≡ before p) → Leaves rows
  leaves-none rows chain none same =
      let path : before ≡ after = λ i p. (sym (same p)) i in
      record {
        pages_now = pages;
        has = subst (λ (x : Array). IsChainOf place x pages rows) path chain;
        taken = λ p h. first-of (among pages p) (drew_between a b p) h;
        left = λ p h. inl (first-is (among pages p) (drew_between a b p) (none p) h);
        drawn = λ p h. absurd (true≢false (sym h ∙ none p));
        others = λ p. inr (same p);
        serial = ap last_serial_of (same place.first);
      }
    where
      first-is : (x y : Bool) → y ≡ false → (x || y) ≡ true → x ≡ true
      first-is true y e k = refl
      first-is false y e k = absurd (true≢false (sym k ∙ e))

-- ---- a page more

now-taken : (front here new behind drew : Bool) → (new ≡ true → drew ≡ true) → (front || (here || (new || behind))) ≡ true → ((front || (here || behind)) || drew) ≡ true
now-taken true here new behind drew h k = refl
now-taken false true new behind drew h k = refl
now-taken false false true true drew h k = refl
now-taken false false true false drew h k = h refl
now-taken false false false true drew h k = refl
now-taken false false false false drew h k = absurd (true≢false (sym k))

still-there : (front here new behind : Bool) → (front || (here || behind)) ≡ true → (front || (here || (new || behind))) ≡ true
still-there true here new behind k = refl
still-there false true new behind k = refl
still-there false false true behind k = refl
still-there false false false behind k = k

either-is : (x y : Bool) → (x || y) ≡ true → (x ≡ true) ⊎ (y ≡ true)
either-is true y k = inl refl
either-is false y k = inr k

module _ (asked : (ℕ → Bool) → (ℕ → Bool) → ℕ → Type 0) (place : Place) (a b : Attempt) (before after : Array) (front behind : List ℕ) (page drawn : ℕ) where
  two-middle : (p : ℕ) → among (front ++ page ∷ drawn ∷ behind) p ≡ (among front p || ((page == p) || ((drawn == p) || among behind p)))
  two-middle p = among-middle front (drawn ∷ behind) page p

  pub leaves-more : (rows had : List (List ℕ)) → IsChainOf place before (front ++ page ∷ behind) had → IsChainOf place after (front ++ page ∷ drawn ∷ behind) rows → IsTrue (drew_between a b drawn)
      → ((p : ℕ) → IsTrue (drew_between a b p) → before p ≡ blank) → ElsewhereBoth before after page drawn → last_serial_of (after page) ≡ last_serial_of (before page)
      → Changed IsChainOf IsSpot asked is_on_chain place a b before after (front ++ page ∷ behind) rows
  leaves-more rows had old chain drew blanks elsewhere serial = record {
    pages_now = front ++ page ∷ drawn ∷ behind;
    has = chain;
    taken = λ p h.
        ap (λ (t : Bool). t || drew_between a b p) (among-middle front behind page p)
        ∙ now-taken (among front p) (page == p) (drawn == p) (among behind p) (drew_between a b p) (λ e. ap (drew_between a b) (sym (same-page drawn p e)) ∙ drew) (sym (two-middle p) ∙ h);
    left = λ p h. elim (either-is (among (front ++ page ∷ behind) p) (drew_between a b p) h) [
      | inl here ↦ inl (stays p here)
      | inr new ↦ elim (page-or-not p page) [
        | inl e ↦ inl (ap (among (front ++ page ∷ drawn ∷ behind)) e ∙ among-there front (drawn ∷ behind) page)
        | inr ne ↦ elim (page-or-not p drawn) [
          | inl e ↦ inl (ap (among (front ++ page ∷ drawn ∷ behind)) e ∙ drawn-there)
          | inr differs ↦ inr (elsewhere p ne differs ∙ blanks p new)
        ]
      ]
    ];
    drawn = blanks;
    others = λ p. elim (page-or-not p page) [
      | inl e ↦ inl (first-of (among (front ++ page ∷ behind) p) (drew_between a b p) (ap (among (front ++ page ∷ behind)) e ∙ among-there front behind page))
      | inr ne ↦ elim (page-or-not p drawn) [
        | inl e ↦ inl (one-of (among (front ++ page ∷ behind) p) (drew_between a b p) (ap (drew_between a b) e ∙ drew))
        | inr differs ↦ inr (elsewhere p ne differs)
      ]
    ];
    serial = elim (page-or-not place.first page) [
      | inl e ↦ ap (λ (p : ℕ). last_serial_of (after p)) e ∙ serial ∙ sym (ap (λ (p : ℕ). last_serial_of (before p)) e)
      | inr ne ↦ ap last_serial_of (elsewhere place.first ne (first-not place before (front ++ page ∷ behind) had drawn old (blanks drawn drew)))
    ];
  }
    where
      stays : (p : ℕ) → IsTrue (among (front ++ page ∷ behind) p) → IsTrue (among (front ++ page ∷ drawn ∷ behind) p)
      stays p here = two-middle p ∙ still-there (among front p) (page == p) (drawn == p) (among behind p) (sym (among-middle front behind page p) ∙ here)

      drawn-there : IsTrue (among (front ++ page ∷ drawn ∷ behind) drawn)
      drawn-there =
          two-middle drawn
          ∙ one-of (among front drawn) ((page == drawn) || ((drawn == drawn) || among behind drawn))
          (one-of (page == drawn) ((drawn == drawn) || among behind drawn) (first-of (drawn == drawn) (among behind drawn) (page-itself drawn)))

  -- ---- a page less, which is here the second one

  pub leaves-less : (rows : List (List ℕ)) → IsChainOf place after (front ++ page ∷ behind) rows → NoneDrawn (drew_between a b) → ElsewhereBoth before after page drawn → after drawn ≡ blank
      → last_serial_of (after page) ≡ last_serial_of (before page)
      → Changed IsChainOf IsSpot asked is_on_chain place a b before after (front ++ page ∷ drawn ∷ behind) rows
  leaves-less rows chain none elsewhere gone serial = record {
    pages_now = front ++ page ∷ behind;
    has = chain;
    taken = λ p h. first-of (among (front ++ page ∷ drawn ∷ behind) p) (drew_between a b p)
        (two-middle p ∙ still-there (among front p) (page == p) (drawn == p) (among behind p) (sym (among-middle front behind page p) ∙ h));
    left = λ p h. elim (page-or-not p drawn) [
      | inl e ↦ inr (ap after e ∙ gone)
      | inr ne ↦ inl (among-middle front behind page p ∙ without (among front p) (page == p) (drawn == p) (among behind p) (not-it p ne) (sym (two-middle p) ∙ first-is _ (drew_between a b p) (none p) h))
    ];
    drawn = λ p h. absurd (true≢false (sym h ∙ none p));
    others = λ p. elim (page-or-not p page) [
      | inl e ↦ inl (first-of (among (front ++ page ∷ drawn ∷ behind) p) (drew_between a b p) (ap (among (front ++ page ∷ drawn ∷ behind)) e ∙ among-there front (drawn ∷ behind) page))
      | inr ne ↦ elim (page-or-not p drawn) [
        | inl e ↦ inl (first-of (among (front ++ page ∷ drawn ∷ behind) p) (drew_between a b p) (ap (among (front ++ page ∷ drawn ∷ behind)) e ∙ drawn-too))
        | inr differs ↦ inr (elsewhere p ne differs)
      ]
    ];
    serial = elim (page-or-not place.first page) [
      | inl e ↦ ap (λ (p : ℕ). last_serial_of (after p)) e ∙ serial ∙ sym (ap (λ (p : ℕ). last_serial_of (before p)) e)
      | inr ne ↦ ap last_serial_of (elsewhere place.first ne (first-not place after (front ++ page ∷ behind) rows drawn chain gone))
    ];
  }
    where
      first-is : (x y : Bool) → y ≡ false → (x || y) ≡ true → x ≡ true
      first-is true y e k = refl
      first-is false y e k = absurd (true≢false (sym k ∙ e))

      without : (f h n r : Bool) → n ≡ false → (f || (h || (n || r))) ≡ true → (f || (h || r)) ≡ true
      without true h n r e k = refl
      without false true n r e k = refl
      without false false true r e k = absurd (true≢false e)
      without false false false r e k = k

      not-it : (p : ℕ) → p ≢ drawn → (drawn == p) ≡ false
      not-it p ne = elim (test p) [ inl e ↦ absurd (ne (sym (same-page drawn p e))) | inr e ↦ e ]
        where
          test : (p : ℕ) → ((drawn == p) ≡ true) ⊎ ((drawn == p) ≡ false)
          test p = by (drawn == p)
            where
              by : (t : Bool) → (t ≡ true) ⊎ (t ≡ false)
              by true = inl refl
              by false = inr refl

      drawn-too : IsTrue (among (front ++ page ∷ drawn ∷ behind) drawn)
      drawn-too =
          two-middle drawn
          ∙ one-of (among front drawn) ((page == drawn) || ((drawn == drawn) || among behind drawn))
          (one-of (page == drawn) ((drawn == drawn) || among behind drawn) (first-of (drawn == drawn) (among behind drawn) (page-itself drawn)))
