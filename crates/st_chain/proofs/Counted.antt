-- How many pages calls change at most, which they draw, and which they may put.
use Rattle.std.proofs.Common.{◌≡◌, ◌≢◌, ℕ, zero, suc, ◌+◌, ◌<◌, ◌≤◌, ◌==◌, ◌&&◌, ◌||◌, Bool, true, false, if◌then◌else◌, List, Option, Some, None, IsSome, IsTrue, IfSome, refl, sym, ap, subst, ◌∙◌, inl, inr, arith, true≢false}
use Rattle.std.specs.Prelude.{not}
use Rattle.std.specs.Str.{bytes_eq}
use Rattle.st_values.proofs.Tests.{either, first-of, left, never, one-of, other-of}
use Rattle.st_image.specs.Fields.{blank, kind_of}
use Rattle.st_pages.specs.Attempt.{Array, Attempt, Agrees, IsSound, draws, how_many, image_or, is_of_store, may_put, over, page_count}
use Rattle.st_pages.specs.Calls.{HasAsked, IsWithin, no_page}
use Rattle.st_pages.specs.Reading.{ForEach}
use Rattle.st_pages.proofs.Carried.{Stays}
use Rattle.st_store.specs.Stores.{HasPutStores, changes, drew_between}
use Rattle.st_store.proofs.Ordering.{same-bytes}
use Rattle.st_chain.specs.declared.walk.Spot.{Spot}
use Rattle.st_chain.specs.Changes.{is_in_front, is_previous, page_or_drawn, spot_or_previous}
use Rattle.st_chain.proofs.Putting.{kind-blank, same-page, other-page, page-itself}

-- ---- how many

abbrev one : Bool → ℕ
one b = if b then 1 else 0

more-one : (b c : Bool) → (b ≡ true → c ≡ true) → one b ≤ one c
more-one true true h = omega arith
more-one true false h = absurd (true≢false (sym (h refl)))
more-one false true h = omega arith
more-one false false h = omega arith

counted-more : (f g : ℕ → Bool) → ((p : ℕ) → f p ≡ true → g p ≡ true) → (n : ℕ) → how_many f n ≤ how_many g n
counted-more f g h zero = omega arith
counted-more f g h (suc n) =
    let below : how_many f n ≤ how_many g n = counted-more f g h n in
    let here : one (f n) ≤ one (g n) = more-one (f n) (g n) (h n) in
    omega (arith, below, here)

or-one : (b c : Bool) → one (b || c) ≤ one b + one c
or-one true true = omega arith
or-one true false = omega arith
or-one false true = omega arith
or-one false false = omega arith

counted-or : (f g : ℕ → Bool) (n : ℕ) → how_many (λ p. f p || g p) n ≤ how_many f n + how_many g n
counted-or f g zero = omega arith
counted-or f g (suc n) =
    let below : how_many (λ p. f p || g p) n ≤ how_many f n + how_many g n = counted-or f g n in
    let here : one (f n || g n) ≤ one (f n) + one (g n) = or-one (f n) (g n) in
    omega (arith, below, here)

counted-none : (n : ℕ) → how_many (λ _. false) n ≡ 0
counted-none zero = refl
counted-none (suc n) = let below : how_many (λ _. false) n ≡ 0 = counted-none n in omega (arith, below)

not-yet : (page n : ℕ) → n ≤ page → how_many (λ p. p == page) n ≡ 0
not-yet page zero h = refl
not-yet page (suc n) h =
    let below : how_many (λ p. p == page) n ≡ 0 = not-yet page n (omega arith) in
    let here : one (n == page) ≡ 0 = ap one (other-page n page (omega arith)) in
    omega (arith, below, here)

counted-one : (page n : ℕ) → how_many (λ p. p == page) n ≤ 1
counted-one page zero = omega arith
counted-one page (suc n) = go (n == page) refl (counted-one page n)
  where
    go : (b : Bool) → (n == page) ≡ b → how_many (λ p. p == page) n ≤ 1 → how_many (λ p. p == page) n + one (n == page) ≤ 1
    go true e below =
        let same : n ≡ page = same-page n page e in
        let none : how_many (λ p. p == page) n ≡ 0 = not-yet page n (omega arith) in
        let here : one (n == page) ≡ 1 = ap one e in
        omega (arith, none, here)
    go false e below = let here : one (n == page) ≡ 0 = ap one e in omega (arith, below, here)

between-one : (b c : Bool) → (b ≡ true → c ≡ true) → one (c && not b) + one b ≤ one c
between-one true true h = omega arith
between-one true false h = absurd (true≢false (sym (h refl)))
between-one false true h = omega arith
between-one false false h = omega arith

counted-between : (f g : ℕ → Bool) → ((p : ℕ) → f p ≡ true → g p ≡ true) → (n : ℕ) → how_many (λ p. g p && not (f p)) n + how_many f n ≤ how_many g n
counted-between f g h zero = omega arith
counted-between f g h (suc n) =
    let below : how_many (λ p. g p && not (f p)) n + how_many f n ≤ how_many g n = counted-between f g h n in
    let here : one (g n && not (f n)) + one (f n) ≤ one (g n) = between-one (f n) (g n) (h n) in
    omega (arith, below, here)

counted-some : (f : ℕ → Bool) (page n : ℕ) → page < n → f page ≡ true → 1 ≤ how_many f n
counted-some f page zero h is = absurd (omega arith)
counted-some f page (suc n) h is = go (n == page) refl (λ lower. counted-some f page n lower is)
  where
    go : (b : Bool) → (n == page) ≡ b → (page < n → 1 ≤ how_many f n) → 1 ≤ how_many f n + one (f n)
    go true e below =
        let here : one (f n) ≡ 1 = ap one (ap f (same-page n page e) ∙ is) in
        omega (arith, here)
    go false e below =
        let ne : n ≢ page = λ k. true≢false (sym (ap (λ (m : ℕ). m == page) k ∙ page-itself page) ∙ e) in
        let more : 1 ≤ how_many f n = below (omega arith) in
        omega (arith, more)

-- ---- few pages change

kept-bytes : (a b : Attempt) (array : Array) (p : ℕ) → b.written p ≡ a.written p → bytes_eq (over a array p) (over b array p) ≡ true
kept-bytes a b array p e = same-bytes (over a array p) (over b array p) (ap (image_or (array p)) (sym e))

pub few : (a b : Attempt) (got put : ℕ → Bool) (most k first : ℕ) (array : Array) → HasAsked a b got put most → how_many put page_count ≤ k → changes first (over a array) (over b array) ≤ 1 + k
few a b got put most k first array asked counts =
    let more : changes first (over a array) (over b array) ≤ how_many (λ p. (p == first) || put p) page_count = counted-more _ (λ p. (p == first) || put p) here page_count in
    let parts : how_many (λ p. (p == first) || put p) page_count ≤ how_many (λ p. p == first) page_count + how_many put page_count = counted-or (λ p. p == first) put page_count in
    let first_one : how_many (λ p. p == first) page_count ≤ 1 = counted-one first page_count in
    omega (arith, more, parts, first_one, counts)
  where
    here : (p : ℕ) → ((p == first) || not (bytes_eq (over a array p) (over b array p))) ≡ true → ((p == first) || put p) ≡ true
    here p h =
        either (p == first) (λ t. (t || put p) ≡ true) (λ e. refl)
        (λ e. elim (asked.put_only p) [
          | inl same ↦ absurd (true≢false (sym (other-of (p == first) (not (bytes_eq (over a array p) (over b array p))) h e) ∙ ap not (kept-bytes a b array p same)))
          | inr is ↦ is
        ])

pub few-none : (n : ℕ) → how_many no_page n ≤ 0
few-none n = let e : how_many (λ _. false) n ≡ 0 = counted-none n in omega arith

pub few-drawn : (a b : Attempt) (got put : ℕ → Bool) (page : ℕ) → HasAsked a b got put 2 → ((p : ℕ) → IsTrue (a.drawn p) → IsTrue (b.drawn p)) → how_many (page_or_drawn a b page) page_count ≤ 3
few-drawn a b got put page asked stays =
    let parts : how_many (page_or_drawn a b page) page_count ≤ how_many (λ p. p == page) page_count + how_many (drew_between a b) page_count = counted-or (λ p. p == page) (drew_between a b) page_count in
    let page_one : how_many (λ p. p == page) page_count ≤ 1 = counted-one page page_count in
    let between : how_many (drew_between a b) page_count + draws a ≤ draws b = counted-between a.drawn b.drawn stays page_count in
    let most : draws b ≤ draws a + 2 = asked.drew_most in
    omega (arith, parts, page_one, between, most)

in-front-one : (o : Option ℕ) (n : ℕ) → how_many (is_in_front o) n ≤ 1
in-front-one None n = let e : how_many (λ _. false) n ≡ 0 = counted-none n in omega arith
in-front-one (Some previous) n = counted-one previous n

pub few-around : (spot : Spot) (n : ℕ) → how_many (spot_or_previous spot) n ≤ 2
few-around spot n =
    let parts : how_many (spot_or_previous spot) n ≤ how_many (λ p. p == spot.page) n + how_many (is_previous spot) n = counted-or (λ p. p == spot.page) (is_previous spot) n in
    let page_one : how_many (λ p. p == spot.page) n ≤ 1 = counted-one spot.page n in
    let front_one : how_many (is_previous spot) n ≤ 1 = in-front-one spot.previous n in
    omega (arith, parts, page_one, front_one)

-- ---- nothing was drawn

below-count : (p : ℕ) → p < 65536 → p < page_count
unfolding page_count
below-count p h = h

drawn-below : (b : Attempt) → IsSound b → (p : ℕ) → IsTrue (b.drawn p) → p < page_count
drawn-below b sound p drawn = below-count p (sound.within p (subst IsSome (sym (sound.drawn p drawn)) refl))

pub drew-none : (a b : Attempt) (got put : ℕ → Bool) → HasAsked a b got put 0 → ((p : ℕ) → IsTrue (a.drawn p) → IsTrue (b.drawn p)) → IsSound b → (p : ℕ) → drew_between a b p ≡ false
drew-none a b got put asked stays sound p =
    never (drew_between a b p) (λ h.
    let between : how_many (drew_between a b) page_count + draws a ≤ draws b = counted-between a.drawn b.drawn stays page_count in
    let most : draws b ≤ draws a + 0 = asked.drew_most in
    let some : 1 ≤ how_many (drew_between a b) page_count = counted-some (drew_between a b) p page_count (drawn-below b sound p (left (b.drawn p) (not (a.drawn p)) h)) h in
    omega (arith, between, most, some))

same-drawn : (x y : Bool) → (x ≡ true → y ≡ true) → (y && not x) ≡ false → y ≡ x
same-drawn true true h none = refl
same-drawn true false h none = h refl
same-drawn false true h none = none
same-drawn false false h none = refl

-- what was drawn since is what was drawn since a later value, where nothing was drawn up to it
pub drew-same : (a b d : Attempt) → ((p : ℕ) → IsTrue (a.drawn p) → IsTrue (b.drawn p)) → ((p : ℕ) → drew_between a b p ≡ false) → drew_between b d ≡ drew_between a d
drew-same a b d stays none = λ i p. (ap (λ (t : Bool). d.drawn p && not t) (same-drawn (a.drawn p) (b.drawn p) (stays p) (none p))) i

-- ---- which pages may be put

pub may-grow : (a b : Attempt) (page : ℕ) → Stays a b → ((p : ℕ) → IsTrue (a.drawn p) → IsTrue (b.drawn p)) → IsTrue (may_put a page) → IsTrue (may_put b page)
may-grow a b page stays drawn may = go (a.seen page) refl
  where
    go : (o : Option (List ℕ)) → a.seen page ≡ o → IsTrue (may_put b page)
    go None e =
        first-of (b.drawn page) (is_of_store (b.seen page))
        (drawn page (either (a.drawn page) (λ t. (t || is_of_store (a.seen page)) ≡ true → t ≡ true) (λ _ _. refl) (λ _ h. absurd (true≢false (sym h ∙ ap is_of_store e))) may))
    go (Some image) e =
        either (a.drawn page) (λ t. (t ≡ true → b.drawn page ≡ true) → (t || is_of_store (a.seen page)) ≡ true → IsTrue (may_put b page))
        (λ _ is _. first-of (b.drawn page) (is_of_store (b.seen page)) (is refl))
        (λ _ _ h. one-of (b.drawn page) (is_of_store (b.seen page)) (ap is_of_store (stays page image e) ∙ sym (ap is_of_store e) ∙ h))
        (drawn page) may

-- the array that has what was seen, and else blank pages
abbrev pub seen_array : Attempt → Array
seen_array a = λ page. image_or blank (a.seen page)

pub seen-agrees : (a : Attempt) → Agrees a (seen_array a)
seen-agrees a page image e = ap (image_or blank) e

kind-two : (image : List ℕ) → kind_of image ≡ 2 → is_of_store (Some image) ≡ true
kind-two image e = rw e refl

pub may-put-page : (a b : Attempt) (page : ℕ) → HasPutStores a → b.written ≡ a.written → Stays a b → ((p : ℕ) → IsTrue (a.drawn p) → IsTrue (b.drawn p))
    → ForEach a b (λ array. kind_of (array page) ≡ 2) → IsTrue (may_put b page)
may-put-page a b page stores unwritten stays drawn kinds = go (a.written page) refl
  where
    seen-kind : (o : Option (List ℕ)) → b.seen page ≡ o → kind_of (image_or blank o) ≡ 2 → is_of_store (b.seen page) ≡ true
    seen-kind None e k = absurd (let zero : kind_of blank ≡ 0 = kind-blank in omega arith)
    seen-kind (Some image) e k = ap is_of_store e ∙ kind-two image k

    go : (o : Option (List ℕ)) → a.written page ≡ o → IsTrue (may_put b page)
    go (Some image) e = may-grow a b page stays drawn (stores page (subst IsSome (sym e) refl))
    go None e =
        let kind : kind_of (over a (seen_array b) page) ≡ 2 = kinds (seen_array b) (seen-agrees b) in
        one-of (b.drawn page) (is_of_store (b.seen page)) (seen-kind (b.seen page) refl (sym (ap (λ (o : Option (List ℕ)). kind_of (image_or (seen_array b page) o)) e) ∙ kind))

pub front-may : (o : Option ℕ) (a b : Attempt) → HasPutStores a → b.written ≡ a.written → Stays a b → ((p : ℕ) → IsTrue (a.drawn p) → IsTrue (b.drawn p))
    → ForEach a b (λ array. IfSome o (λ p. kind_of (array p) ≡ 2)) → IfSome o (λ p. IsTrue (may_put b p))
front-may None a b stores unwritten stays drawn kinds = tt
front-may (Some page) a b stores unwritten stays drawn kinds = may-put-page a b page stores unwritten stays drawn kinds

pub some-both : (o : Option ℕ) (P Q : ℕ → Type 0) → ((p : ℕ) → P p → Q p) → IfSome o P → IfSome o Q
some-both None P Q f h = tt
some-both (Some p) P Q f h = f p h

-- a page that may be put, or one that was drawn
pub may-within : (b d : Attempt) (page : ℕ) → IsTrue (may_put d page) → IsWithin (page_or_drawn b d page) (may_put d)
may-within b d page may other is =
    either (other == page) (λ t. (other == page) ≡ t → (t || drew_between b d other) ≡ true → may_put d other ≡ true)
    (λ _ e _. ap (may_put d) (same-page other page e) ∙ may)
    (λ _ _ drew. first-of (d.drawn other) (is_of_store (d.seen other)) (left (d.drawn other) (not (b.drawn other)) drew)) refl is

-- nothing was drawn by two calls in a row
pub drew-more : (a b d : Attempt) → ((p : ℕ) → IsTrue (a.drawn p) → IsTrue (b.drawn p)) → ((p : ℕ) → drew_between a b p ≡ false) → ((p : ℕ) → drew_between b d p ≡ false) → (p : ℕ) → drew_between a d p ≡ false
drew-more a b d stays none more p = sym (ap (λ (f : ℕ → Bool). f p) (drew-same a b d stays none)) ∙ more p
