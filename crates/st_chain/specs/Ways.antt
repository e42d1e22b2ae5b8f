-- The pages of a chain: those in front of one and those behind it, and what holds of them in another array.
use Rattle.std.proofs.Common.{◌≡◌, ◌≢◌, ℕ, ◌<◌, ◌⊎◌, ◌==◌, Bool, true, List, [], ◌∷◌, ◌++◌, drop, IsTrue, refl, sym, ap, subst, ◌∙◌, inl, inr, arith, true≢false}
use Rattle.std.specs.Prelude.{not, ◌&&◌}
use Rattle.std.specs.List.{list_all}
use Rattle.std.proofs.lemmas.Bool.{eqb-true}
use Rattle.std.proofs.lemmas.Bool.Decides.{nat_tests}
use Rattle.std.proofs.lemmas.Grind.{flat_map-append}
use Rattle.st_values.specs.Arranged.{each_pair}
use Rattle.st_values.proofs.Tests.{both, either, first-of, left, not-true, one-of, other-of, right}
use Rattle.st_image.specs.Fields.{count_of, next_of, last_serial_of, rows_of}
use Rattle.st_image.specs.Grammar.{HasHeader, rows_header}
use Rattle.st_pages.specs.declared.places.Place.{Place}
use Rattle.st_pages.specs.Attempt.{Array}
use Rattle.st_store.specs.Stores.{among}
use Rattle.st_store.specs.Chain.{AreLater, Follow, IsChainOf, IsChainPage, LeadTo, rows_in}
use Rattle.st_store.proofs.Ordering.{all-append, all-left, all-right, pairs-append, pairs-between, pairs-left, pairs-right}

-- ---- tests

pub itself : (n : ℕ) → (n == n) ≡ true
itself n = grind (arith, nat_tests)

pub differs : (n m : ℕ) → n ≢ m → not (n == m) ≡ true
differs n m h = either (n == m) (λ b. not b ≡ true) (λ e. absurd (h (eqb-true n m e))) (λ e. refl)

pub differ : (n m : ℕ) → not (n == m) ≡ true → n ≢ m
differ n m h e = absurd (true≢false (sym (ap (λ (k : ℕ). n == k) (sym e) ∙ itself n) ∙ not-true (n == m) h))

pub cons-none : {X : Type 0} (x : X) (xs : List X) → (x ∷ xs) ≡ [] → ⊥
cons-none x xs e = cc

append-some : {X : Type 0} (xs : List X) (y : X) (ys : List X) → (xs ++ y ∷ ys) ≡ [] → ⊥
append-some [] y ys e = cons-none y ys e
append-some (x ∷ xs) y ys e = cons-none x (xs ++ y ∷ ys) e

-- ---- which pages are among some

pub here : (page : ℕ) (rest : List ℕ) → IsTrue (among (page ∷ rest) page)
here page rest = first-of (page == page) (among rest page) (itself page)

pub there : (page : ℕ) (rest : List ℕ) (q : ℕ) → IsTrue (among rest q) → IsTrue (among (page ∷ rest) q)
there page rest q h = one-of (page == q) (among rest q) h

pub among-left : (xs ys : List ℕ) (q : ℕ) → IsTrue (among xs q) → IsTrue (among (xs ++ ys) q)
among-left [] ys q h = absurd (true≢false (sym h))
among-left (x ∷ xs) ys q h =
    either (x == q) (λ b. IsTrue (among (x ∷ xs ++ ys) q))
    (λ e. first-of (x == q) (among (xs ++ ys) q) e)
    (λ e. there x (xs ++ ys) q (among-left xs ys q (other-of (x == q) (among xs q) h e)))

pub among-right : (xs ys : List ℕ) (q : ℕ) → IsTrue (among ys q) → IsTrue (among (xs ++ ys) q)
among-right [] ys q h = h
among-right (x ∷ xs) ys q h = there x (xs ++ ys) q (among-right xs ys q h)

-- where a page is among some, there are those in front of it and those behind
pub cut-at : (pages : List ℕ) (q : ℕ) → IsTrue (among pages q) → (front : List ℕ) × (behind : List ℕ) × (pages ≡ front ++ q ∷ behind)
cut-at [] q h = absurd (true≢false (sym h))
cut-at (x ∷ xs) q h =
    either (x == q) (λ b. (front : List ℕ) × (behind : List ℕ) × ((x ∷ xs) ≡ front ++ q ∷ behind))
    (λ e. ([], xs, ap (λ (n : ℕ). n ∷ xs) (eqb-true x q e)))
    (λ e. let r = cut-at xs q (other-of (x == q) (among xs q) h e) in (x ∷ r.0, r.1, ap (λ (l : List ℕ). x ∷ l) r.2))

-- what holds of all holds of each
pub of-all : (test : ℕ → Bool) (xs : List ℕ) (q : ℕ) → list_all test xs ≡ true → IsTrue (among xs q) → test q ≡ true
of-all test [] q h k = absurd (true≢false (sym k))
of-all test (x ∷ xs) q h k =
    either (x == q) (λ b. test q ≡ true)
    (λ e. subst (λ (n : ℕ). test n ≡ true) (eqb-true x q e) (left (test x) (list_all test xs) h))
    (λ e. of-all test xs q (right (test x) (list_all test xs) h) (other-of (x == q) (among xs q) k e))

pub all-on : (test other : ℕ → Bool) (xs : List ℕ) → ((q : ℕ) → IsTrue (among xs q) → test q ≡ true → other q ≡ true) → list_all test xs ≡ true → list_all other xs ≡ true
all-on test other [] turn h = refl
all-on test other (x ∷ xs) turn h =
    both (other x) (list_all other xs) (turn x (here x xs) (left (test x) (list_all test xs) h))
    (all-on test other xs (λ q k. turn q (there x xs q k)) (right (test x) (list_all test xs) h))

-- ---- what follows a page

-- a page is the last one, or others follow it
abbrev pub Goes : Place → Array → ℕ → List ℕ → Type 0
Goes place array page rest =
    ((rest ≡ []) × (next_of (array page) ≡ 0)) ⊎ ((0 < next_of (array page)) × Follow place array (next_of (array page)) rest)

-- a page is the first one, or has what one behind it has
abbrev pub Stands : List ℕ → List ℕ → Type 0
Stands front image = (front ≡ []) ⊎ ((count_of image ≢ 0) × (last_serial_of image ≡ 0))

-- in another array a page of a chain is one that names the same page
abbrev pub IsLike : Place → Array → Array → ℕ → Type 0
IsLike place a b page = IsChainPage place (a page) → IsChainPage place (b page) × (next_of (b page) ≡ next_of (a page))

pub follow-page : (place : Place) (array : Array) (first page : ℕ) (rest : List ℕ) → Follow place array first (page ∷ rest)
    → (page ≡ first) × IsChainPage place (array page) × Goes place array page rest
follow-page place array first page [] h = (h.0, h.1, inl (refl, h.2))
follow-page place array first page (other ∷ rest) h = (h.0, h.1, inr (h.2, h.3))

pub follow-from : (place : Place) (array : Array) (first page : ℕ) (rest : List ℕ) → page ≡ first → IsChainPage place (array page) → Goes place array page rest
    → Follow place array first (page ∷ rest)
follow-from place array first page [] e sound (inl g) = (e, sound, g.1)
follow-from place array first page [] e sound (inr g) = absurd g.1
follow-from place array first page (other ∷ rest) e sound (inl g) = absurd (cons-none other rest g.0)
follow-from place array first page (other ∷ rest) e sound (inr g) = (e, sound, g.0, g.1)

pub follow-like : (place : Place) (a b : Array) (first : ℕ) (pages : List ℕ) → ((q : ℕ) → IsTrue (among pages q) → IsLike place a b q) → Follow place a first pages → Follow place b first pages
follow-like place a b first [] like h = h
follow-like place a b first (page ∷ rest) like h =
    let p = follow-page place a first page rest h in
    let l = like page (here page rest) p.1 in
    follow-from place b first page rest p.0 l.0 (elim (p.2) [
      | inl g ↦ inl (g.0, l.1 ∙ g.1)
      | inr g ↦ inr (subst (λ (n : ℕ). 0 < n) (sym l.1) g.0, subst (λ (n : ℕ). Follow place b n rest) (sym l.1) (follow-like place a b (next_of (a page)) rest (λ q m. like q (there page rest q m)) g.1))
    ])

pub lead-like : (place : Place) (a b : Array) (first : ℕ) (front : List ℕ) (end : ℕ) → ((q : ℕ) → IsTrue (among front q) → IsLike place a b q) → LeadTo place a first front end → LeadTo place b first front end
lead-like place a b first [] end like h = h
lead-like place a b first (page ∷ front) end like h =
    let l = like page (here page front) h.1 in
    (h.0, l.0, subst (λ (n : ℕ). 0 < n) (sym l.1) h.2, subst (λ (n : ℕ). LeadTo place b n front end) (sym l.1) (lead-like place a b (next_of (a page)) front end (λ q m. like q (there page front q m)) h.3))

-- a way along a chain leads to one of its pages
pub at-way : (place : Place) (array : Array) (first : ℕ) (front : List ℕ) (page : ℕ) (pages : List ℕ) → LeadTo place array first front page → Follow place array first pages
    → (behind : List ℕ) × (pages ≡ front ++ page ∷ behind)
at-way place array first [] page [] l h = absurd h
at-way place array first [] page (q ∷ rest) l h =
    let p = follow-page place array first q rest h in
    (rest, ap (λ (n : ℕ). n ∷ rest) (p.0 ∙ sym l))
at-way place array first (f ∷ front) page [] l h = absurd h
at-way place array first (f ∷ front) page (q ∷ rest) l h =
    let p = follow-page place array first q rest h in
    let e : q ≡ f = p.0 ∙ sym l.0 in
    elim (subst (λ (n : ℕ). Goes place array n rest) e p.2) [
      | inl g ↦ absurd (omega (arith, g.1, l.2))
      | inr g ↦ let r = at-way place array (next_of (array f)) front page rest l.3 g.1 in (r.0, ap (λ (n : ℕ). n ∷ rest) e ∙ ap (λ (xs : List ℕ). f ∷ xs) r.1)
    ]

-- the pages in front of one lead to it, and those behind follow it
pub lead-of : (place : Place) (array : Array) (first : ℕ) (front : List ℕ) (page : ℕ) (behind : List ℕ) → Follow place array first (front ++ page ∷ behind)
    → LeadTo place array first front page × IsChainPage place (array page) × Goes place array page behind
lead-of place array first [] page behind h = follow-page place array first page behind h
lead-of place array first (f ∷ front) page behind h =
    let p = follow-page place array first f (front ++ page ∷ behind) h in
    elim (p.2) [
      | inl g ↦ absurd (append-some front page behind g.0)
      | inr g ↦ let r = lead-of place array (next_of (array f)) front page behind g.1 in ((p.0, p.1, g.0, r.0), r.1, r.2)
    ]

pub lead-on : (place : Place) (array : Array) (first : ℕ) (front : List ℕ) (page : ℕ) (behind : List ℕ) → LeadTo place array first front page → IsChainPage place (array page) → Goes place array page behind
    → Follow place array first (front ++ page ∷ behind)
lead-on place array first [] page behind l sound goes = follow-from place array first page behind l sound goes
lead-on place array first (f ∷ front) page behind l sound goes =
    follow-from place array first f (front ++ page ∷ behind) l.0 l.1 (inr (l.2, lead-on place array (next_of (array f)) front page behind l.3 sound goes))

-- the last page on a way names the one that it leads to
pub lead-last : (place : Place) (array : Array) (first : ℕ) (front : List ℕ) (previous page : ℕ) → LeadTo place array first (front ++ previous ∷ []) page
    → LeadTo place array first front previous × IsChainPage place (array previous) × (0 < next_of (array previous)) × (page ≡ next_of (array previous))
lead-last place array first [] previous page l = (l.0, l.1, l.2, l.3)
lead-last place array first (f ∷ front) previous page l =
    let r = lead-last place array (next_of (array f)) front previous page l.3 in
    ((l.0, l.1, l.2, r.0), r.1, r.2, r.3)

pub follow-sound : (place : Place) (array : Array) (first : ℕ) (pages : List ℕ) (q : ℕ) → Follow place array first pages → IsTrue (among pages q) → IsChainPage place (array q)
follow-sound place array first [] q h k = absurd h
follow-sound place array first (page ∷ rest) q h k =
    let p = follow-page place array first page rest h in
    either (page == q) (λ b. IsChainPage place (array q))
    (λ e. subst (λ (n : ℕ). IsChainPage place (array n)) (eqb-true page q e) p.1)
    (λ e. let m = other-of (page == q) (among rest q) k e in
    elim (p.2) [
      | inl g ↦ absurd (true≢false (sym m ∙ ap (λ (xs : List ℕ). among xs q) g.0))
      | inr g ↦ follow-sound place array (next_of (array page)) rest q g.1 m
    ])

-- a page names one that there is
pub next-within : (place : Place) (image : List ℕ) → IsChainPage place image → next_of image < 65536
next-within place image sound =
    let fields : HasHeader (rows_header 2 place.store place.width) image = sound.has_header in
    omega (arith, fields.next)

-- ---- rows and last serials

pub later-test : (image : List ℕ) → (not (count_of image == 0) && (last_serial_of image == 0)) ≡ true → (count_of image ≢ 0) × (last_serial_of image ≡ 0)
later-test image h =
    (differ (count_of image) 0 (left (not (count_of image == 0)) (last_serial_of image == 0) h), eqb-true (last_serial_of image) 0 (right (not (count_of image == 0)) (last_serial_of image == 0) h))

pub test-later : (image : List ℕ) → (count_of image ≢ 0) × (last_serial_of image ≡ 0) → (not (count_of image == 0) && (last_serial_of image == 0)) ≡ true
test-later image h =
    both (not (count_of image == 0)) (last_serial_of image == 0) (differs (count_of image) 0 h.0) (ap (λ (n : ℕ). n == 0) h.1)

pub later-parts : (array : Array) (front : List ℕ) (page : ℕ) (behind : List ℕ) → AreLater array (drop 1 (front ++ page ∷ behind)) → AreLater array (drop 1 front) × Stands front (array page) × AreLater array behind
later-parts array [] page behind h = (refl, inl refl, h)
later-parts array (f ∷ front) page behind h =
    let test : ℕ → Bool = λ q. not (count_of (array q) == 0) && (last_serial_of (array q) == 0) in
    let rest : (test page && list_all test behind) ≡ true = all-right test front (page ∷ behind) h in
    (all-left test front (page ∷ behind) h, inr (later-test (array page) (left (test page) (list_all test behind) rest)), right (test page) (list_all test behind) rest)

pub later-whole : (array : Array) (front : List ℕ) (page : ℕ) (behind : List ℕ) → AreLater array (drop 1 front) → Stands front (array page) → AreLater array behind → AreLater array (drop 1 (front ++ page ∷ behind))
later-whole array [] page behind h s k = k
later-whole array (f ∷ front) page behind h (inl e) k = absurd (cons-none f front e)
later-whole array (f ∷ front) page behind h (inr s) k =
    let test : ℕ → Bool = λ q. not (count_of (array q) == 0) && (last_serial_of (array q) == 0) in
    all-append test front (page ∷ behind) h (both (test page) (list_all test behind) (test-later (array page) s) k)

-- an array is as another one on some pages
abbrev pub SameOn : List ℕ → Array → Array → Type 0
SameOn pages a b = (page : ℕ) → IsTrue (among pages page) → b page ≡ a page

pub same-rest : (page : ℕ) (pages : List ℕ) (a b : Array) → SameOn (page ∷ pages) a b → SameOn pages a b
same-rest page pages a b same q h = same q (there page pages q h)

pub same-drop : (pages : List ℕ) (a b : Array) → SameOn pages a b → SameOn (drop 1 pages) a b
same-drop [] a b same = same
same-drop (page ∷ pages) a b same = same-rest page pages a b same

pub same-append : (xs ys : List ℕ) (a b : Array) → SameOn xs a b → SameOn ys a b → SameOn (xs ++ ys) a b
same-append [] ys a b same too = too
same-append (x ∷ xs) ys a b same too = λ q m.
    either (x == q) (λ c. b q ≡ a q)
    (λ e. same q (first-of (x == q) (among xs q) e))
    (λ e. same-append xs ys a b (same-rest x xs a b same) too q (other-of (x == q) (among (xs ++ ys) q) m e))

pub same-like : (place : Place) (a b : Array) (page : ℕ) → b page ≡ a page → IsLike place a b page
same-like place a b page e sound = (subst (λ (image : List ℕ). IsChainPage place image) (sym e) sound, ap next_of e)

pub later-same : (a b : Array) (pages : List ℕ) → SameOn pages a b → AreLater a pages → AreLater b pages
later-same a b pages same h =
    all-on (λ q. not (count_of (a q) == 0) && (last_serial_of (a q) == 0)) (λ q. not (count_of (b q) == 0) && (last_serial_of (b q) == 0)) pages
    (λ q m k. subst (λ (image : List ℕ). (not (count_of image == 0) && (last_serial_of image == 0)) ≡ true) (sym (same q m)) k) h

pub rows-alike : (place : Place) (a b : Array) (pages : List ℕ) → ((q : ℕ) → IsTrue (among pages q) → rows_of place.width (b q) ≡ rows_of place.width (a q)) → rows_in place b pages ≡ rows_in place a pages
rows-alike place a b [] same = refl
rows-alike place a b (page ∷ pages) same =
    ap (λ (xs : List (List ℕ)). xs ++ rows_in place b pages) (same page (here page pages))
    ∙ ap (λ (xs : List (List ℕ)). rows_of place.width (a page) ++ xs) (rows-alike place a b pages (λ q m. same q (there page pages q m)))

pub rows-same : (place : Place) (a b : Array) (pages : List ℕ) → SameOn pages a b → rows_in place b pages ≡ rows_in place a pages
rows-same place a b pages same = rows-alike place a b pages (λ q m. ap (rows_of place.width) (same q m))

pub rows-append : (place : Place) (array : Array) (xs ys : List ℕ) → rows_in place array (xs ++ ys) ≡ rows_in place array xs ++ rows_in place array ys
rows-append place array xs ys = flat_map-append (λ page. rows_of place.width (array page)) xs ys

-- ---- none twice

abbrev pub Once : List ℕ → Type 0
Once pages = IsTrue (each_pair (λ page other. not (page == other)) pages)

pub apart-front : (front : List ℕ) (page : ℕ) (behind : List ℕ) (q : ℕ) → Once (front ++ page ∷ behind) → IsTrue (among front q) → q ≢ page
apart-front front page behind q h m =
    let test : ℕ → ℕ → Bool = λ page other. not (page == other) in
    let all = of-all (λ x. list_all (test x) (page ∷ behind)) front q (pairs-between test front (page ∷ behind) h) m in
    differ q page (left (test q page) (list_all (test q) behind) all)

pub apart-behind : (front : List ℕ) (page : ℕ) (behind : List ℕ) (q : ℕ) → Once (front ++ page ∷ behind) → IsTrue (among behind q) → q ≢ page
apart-behind front page behind q h m =
    let test : ℕ → ℕ → Bool = λ page other. not (page == other) in
    let all = left (list_all (test page) behind) (each_pair test behind) (pairs-right test front (page ∷ behind) h) in
    let d = differ page q (of-all (test page) behind q all m) in
    λ e. d (sym e)

all-more : (test : ℕ → Bool) (xs : List ℕ) (y : ℕ) (ys : List ℕ) → test y ≡ true → list_all test (xs ++ ys) ≡ true → list_all test (xs ++ y ∷ ys) ≡ true
all-more test xs y ys h k =
    all-append test xs (y ∷ ys) (all-left test xs ys k) (both (test y) (list_all test ys) h (all-right test xs ys k))

pub once-more : (xs : List ℕ) (y : ℕ) (ys : List ℕ) → Once (xs ++ ys) → ((q : ℕ) → IsTrue (among (xs ++ ys) q) → q ≢ y) → Once (xs ++ y ∷ ys)
once-more [] y ys h apart =
    let test : ℕ → ℕ → Bool = λ page other. not (page == other) in
    both (list_all (test y) ys) (each_pair test ys) (all-of ys apart) h
  where
    all-of : (ys : List ℕ) → ((q : ℕ) → IsTrue (among ys q) → q ≢ y) → list_all (λ other. not (y == other)) ys ≡ true
    all-of [] apart = refl
    all-of (x ∷ ys) apart =
        both (not (y == x)) (list_all (λ other. not (y == other)) ys) (differs y x (λ e. apart x (here x ys) (sym e))) (all-of ys (λ q m. apart q (there x ys q m)))
once-more (x ∷ xs) y ys h apart =
    let test : ℕ → ℕ → Bool = λ page other. not (page == other) in
    both (list_all (test x) (xs ++ y ∷ ys)) (each_pair test (xs ++ y ∷ ys))
    (all-more (test x) xs y ys (differs x y (apart x (here x (xs ++ ys)))) (left (list_all (test x) (xs ++ ys)) (each_pair test (xs ++ ys)) h))
    (once-more xs y ys (right (list_all (test x) (xs ++ ys)) (each_pair test (xs ++ ys)) h) (λ q m. apart q (there x (xs ++ ys) q m)))

-- pairs without some in the middle
pub pairs-less : {X : Type 0} (test : X → X → Bool) (xs ys zs : List X) → each_pair test (xs ++ (ys ++ zs)) ≡ true → each_pair test (xs ++ zs) ≡ true
pairs-less {X = X} test xs ys zs h =
    pairs-append test xs zs (pairs-left test xs (ys ++ zs) h) (pairs-right test ys zs (pairs-right test xs (ys ++ zs) h)) (each xs (pairs-between test xs (ys ++ zs) h))
  where
    each : (us : List X) → list_all (λ x. list_all (test x) (ys ++ zs)) us ≡ true → list_all (λ x. list_all (test x) zs) us ≡ true
    each [] k = refl
    each (u ∷ us) k =
        both (list_all (test u) zs) (list_all (λ x. list_all (test x) zs) us)
        (all-right (test u) ys zs (left (list_all (test u) (ys ++ zs)) (list_all (λ x. list_all (test x) (ys ++ zs)) us) k))
        (each us (right (list_all (test u) (ys ++ zs)) (list_all (λ x. list_all (test x) (ys ++ zs)) us) k))

-- ---- a chain around one of its pages

pub record Parted (place : Place) (array : Array) (front : List ℕ) (page : ℕ) (behind : List ℕ) (rows : List (List ℕ)) : Type 0 where
  pub leads : LeadTo place array place.first front page
  pub sound : IsChainPage place (array page)
  pub goes : Goes place array page behind
  pub later_front : AreLater array (drop 1 front)
  pub later : Stands front (array page)
  pub later_behind : AreLater array behind
  pub rows_are : rows ≡ rows_in place array front ++ (rows_of place.width (array page) ++ rows_in place array behind)
  pub apart_front : (q : ℕ) → IsTrue (among front q) → q ≢ page
  pub apart_behind : (q : ℕ) → IsTrue (among behind q) → q ≢ page

pub parted : (place : Place) (array : Array) (front : List ℕ) (page : ℕ) (behind : List ℕ) (rows : List (List ℕ)) → IsChainOf place array (front ++ page ∷ behind) rows → Parted place array front page behind rows
parted place array front page behind rows chain =
    let lead = lead-of place array place.first front page behind chain.follow in
    let later = later-parts array front page behind chain.later in
    record {
      leads = lead.0;
      sound = lead.1;
      goes = lead.2;
      later_front = later.0;
      later = later.1;
      later_behind = later.2;
      rows_are = chain.are ∙ rows-append place array front (page ∷ behind);
      apart_front = λ q m. apart-front front page behind q chain.once m;
      apart_behind = λ q m. apart-behind front page behind q chain.once m;
    }
