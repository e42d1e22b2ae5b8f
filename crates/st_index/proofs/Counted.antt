-- How many pages differ, and which were drawn.
use Rattle.std.proofs.Common.{◌≡◌, ℕ, zero, suc, ◌+◌, ◌<◌, ◌≤◌, ◌==◌, ◌||◌, Bool, true, false, if◌then◌else◌, List, Option, Some, None, IsTrue, refl, sym, ap, ◌∙◌, subst, inl, inr, arith, true≢false}
use Rattle.std.specs.Prelude.{not, ◌&&◌, ◌⊎◌, IsSome}
use Rattle.std.proofs.lemmas.Bool.Decides.{nat_tests}
use Rattle.std.specs.Str.{bytes_eq}
use Rattle.st_values.proofs.Tests.{both, left, right, either, never, not-true, not-false, one-of, first-of}
use Rattle.st_image.specs.Fields.{blank, kind_of}
use Rattle.st_pages.specs.Attempt.{Array, Attempt, Agrees, IsSound, over, image_or, how_many, draws, may_put, is_of_store, page_count}
use Rattle.st_pages.specs.Calls.{HasAsked, IsWithin}
use Rattle.st_pages.proofs.Carried.{Stays}
use Rattle.st_store.specs.Stores.{HasPutStores, KeepNumbers, any_page, changes, drew_between}
use Rattle.st_store.proofs.Ordering.{bytes-same, same-bytes}
use Rattle.st_index.specs.Noted.{differences}

-- ---- truth values

pub or-cases : (a b : Bool) → (a || b) ≡ true → (a ≡ true) ⊎ (b ≡ true)
or-cases true b h = inl refl
or-cases false b h = inr h

-- ---- counting

step : (a b : Bool) (m n : ℕ) → (a ≡ true → b ≡ true) → m ≤ n → m + (if a then 1 else 0) ≤ n + (if b then 1 else 0)
step true true m n w h = omega (arith, h)
step true false m n w h = absurd (true≢false (sym (w refl)))
step false true m n w h = omega (arith, h)
step false false m n w h = omega (arith, h)

pub how_many-le : (f g : ℕ → Bool) → ((p : ℕ) → f p ≡ true → g p ≡ true) → (n : ℕ) → how_many f n ≤ how_many g n
how_many-le f g w zero = omega arith
how_many-le f g w (suc n) = step (f n) (g n) (how_many f n) (how_many g n) (w n) (how_many-le f g w n)

step-two : (a b c : Bool) (l m n : ℕ) → (a ≡ true → (b || c) ≡ true) → l ≤ m + n → l + (if a then 1 else 0) ≤ (m + (if b then 1 else 0)) + (n + (if c then 1 else 0))
step-two true true true l m n w h = omega (arith, h)
step-two true true false l m n w h = omega (arith, h)
step-two true false true l m n w h = omega (arith, h)
step-two true false false l m n w h = absurd (true≢false (sym (w refl)))
step-two false true true l m n w h = omega (arith, h)
step-two false true false l m n w h = omega (arith, h)
step-two false false true l m n w h = omega (arith, h)
step-two false false false l m n w h = omega (arith, h)

how_many-two : (f g h : ℕ → Bool) → ((p : ℕ) → f p ≡ true → (g p || h p) ≡ true) → (n : ℕ) → how_many f n ≤ how_many g n + how_many h n
how_many-two f g h w zero = omega arith
how_many-two f g h w (suc n) = step-two (f n) (g n) (h n) (how_many f n) (how_many g n) (how_many h n) (w n) (how_many-two f g h w n)

how_many-none : (f : ℕ → Bool) → ((p : ℕ) → f p ≡ false) → (n : ℕ) → how_many f n ≡ 0
how_many-none f w zero = refl
how_many-none f w (suc n) =
    let rest = how_many-none f w n in
    ap (λ b. how_many f n + (if b then 1 else 0)) (w n) ∙ omega (arith, rest)

step-more : (a b : Bool) (m n : ℕ) → (a ≡ true → b ≡ true) → m + 1 ≤ n → (m + (if a then 1 else 0)) + 1 ≤ n + (if b then 1 else 0)
step-more true true m n w h = omega (arith, h)
step-more true false m n w h = absurd (true≢false (sym (w refl)))
step-more false true m n w h = omega (arith, h)
step-more false false m n w h = omega (arith, h)

step-here : (a b : Bool) (m n : ℕ) → a ≡ false → b ≡ true → m ≤ n → (m + (if a then 1 else 0)) + 1 ≤ n + (if b then 1 else 0)
step-here true b m n e f h = absurd (true≢false e)
step-here false true m n e f h = omega (arith, h)
step-here false false m n e f h = absurd (true≢false (sym f))

same-number : (k n : ℕ) → (k == n) ≡ true → k ≡ n
same-number k n e = grind (arith, nat_tests)

other-number : (k n : ℕ) → (k == n) ≡ false → k < suc n → k < n
other-number k n e h = grind (arith, nat_tests)

how_many-strict : (f g : ℕ → Bool) → ((p : ℕ) → f p ≡ true → g p ≡ true) → (k n : ℕ) → k < n → f k ≡ false → g k ≡ true → how_many f n + 1 ≤ how_many g n
how_many-strict f g w k zero h e t = absurd (omega (arith, h))
how_many-strict f g w k (suc n) h e t =
    either (k == n) (λ _. how_many f (suc n) + 1 ≤ how_many g (suc n))
    (λ s. step-here (f n) (g n) (how_many f n) (how_many g n) (subst (λ p. f p ≡ false) (same-number k n s) e) (subst (λ p. g p ≡ true) (same-number k n s) t) (how_many-le f g w n))
    (λ s. step-more (f n) (g n) (how_many f n) (how_many g n) (w n) (how_many-strict f g w k n (other-number k n s h) e t))

-- ---- how many bytes differ

differs-one : (x y z : List ℕ) → not (bytes_eq x z) ≡ true → (not (bytes_eq x y) || not (bytes_eq y z)) ≡ true
differs-one x y z h =
    either (bytes_eq x y) (λ b. (not b || not (bytes_eq y z)) ≡ true)
    (λ e. not-false (bytes_eq y z) (never (bytes_eq y z) (λ k. true≢false (sym (same-bytes x z (bytes-same x y e ∙ bytes-same y z k)) ∙ not-true (bytes_eq x z) h))))
    (λ e. refl)

pub differences-then : (a b c : Array) (m n : ℕ) → differences a b ≤ m → differences b c ≤ n → differences a c ≤ m + n
differences-then a b c m n h k =
    let sum = how_many-two (λ p. not (bytes_eq (a p) (c p))) (λ p. not (bytes_eq (a p) (b p))) (λ p. not (bytes_eq (b p) (c p))) (λ p e. differs-one (a p) (b p) (c p) e) page_count in
    omega (arith, sum, h, k)

pub differences-none : (a : Array) (n : ℕ) → differences a a ≤ n
differences-none a n =
    let none = how_many-none (λ p. not (bytes_eq (a p) (a p))) (λ p. ap not (same-bytes (a p) (a p) refl)) page_count in
    omega (arith, none)

pub differences-few : (first : ℕ) (a b : Array) (n : ℕ) → changes first a b ≤ n → differences a b ≤ n
differences-few first a b n h =
    let less = how_many-le (λ p. not (bytes_eq (a p) (b p))) (λ p. (p == first) || not (bytes_eq (a p) (b p))) (λ p e. one-of (p == first) (not (bytes_eq (a p) (b p))) e) page_count in
    omega (arith, less, h)

-- ---- what was drawn

abbrev pub Drawn : Attempt → Attempt → Type 0
Drawn a b = (page : ℕ) → IsTrue (a.drawn page) → IsTrue (b.drawn page)

blank-kind : kind_of blank ≡ 0
unfolding blank
blank-kind = refl

-- a page of a store isn't blank
pub not-blank : (page : List ℕ) → page ≡ blank → 2 ≤ kind_of page → ⊥
not-blank page e h = let none = ap kind_of e ∙ blank-kind in omega (arith, none, h)

some-within : (a : Attempt) (page : ℕ) (o : Option (List ℕ)) → a.seen page ≡ o → IsSound a → o ≡ Some blank → page < 65536
some-within a page None e s h = absurd (cc)
some-within a page (Some image) e s h = s.within page (subst IsSome (sym e) refl)

pub drawn-within : (a : Attempt) → IsSound a → (page : ℕ) → IsTrue (a.drawn page) → page < page_count
unfolding page_count
drawn-within a s page h = some-within a page (a.seen page) refl s (s.drawn page h)

-- where as many are drawn, none was drawn
pub none-drawn : (a b : Attempt) → Drawn a b → IsSound b → draws b ≤ draws a + 0 → (page : ℕ) → drew_between a b page ≡ false
none-drawn a b w s few page =
    never (drew_between a b page) (λ t.
    let here = left (b.drawn page) (not (a.drawn page)) t in
    let before = not-true (a.drawn page) (right (b.drawn page) (not (a.drawn page)) t) in
    let more = how_many-strict a.drawn b.drawn w page page_count (drawn-within b s page here) before here in
    absurd (omega (arith, more, few)))

pub drew-none : (a : Attempt) (page : ℕ) → drew_between a a page ≡ false
drew-none a page = itself (a.drawn page)
  where
    itself : (b : Bool) → (b && not b) ≡ false
    itself true = refl
    itself false = refl

module _ (a b c : Attempt) (ab : Drawn a b) (bc : Drawn b c) (page : ℕ) where
  pub drew-first : drew_between a b page ≡ true → drew_between a c page ≡ true
  drew-first h = both (c.drawn page) (not (a.drawn page)) (bc page (left (b.drawn page) (not (a.drawn page)) h)) (right (b.drawn page) (not (a.drawn page)) h)

  pub drew-second : drew_between b c page ≡ true → drew_between a c page ≡ true
  drew-second h =
      both (c.drawn page) (not (a.drawn page)) (left (c.drawn page) (not (b.drawn page)) h)
      (not-false (a.drawn page) (never (a.drawn page) (λ k. true≢false (sym (ab page k) ∙ not-true (b.drawn page) (right (c.drawn page) (not (b.drawn page)) h)))))

  pub drew-either : drew_between a c page ≡ true → (drew_between a b page ≡ true) ⊎ (drew_between b c page ≡ true)
  drew-either h =
      let no = right (c.drawn page) (not (a.drawn page)) h in
      let now = left (c.drawn page) (not (a.drawn page)) h in
      either (b.drawn page) (λ x. ((x && not (a.drawn page)) ≡ true) ⊎ ((c.drawn page && not x) ≡ true))
      (λ _. inl no)
      (λ _. inr (both (c.drawn page) true now refl))

  pub drew-apart : drew_between a b page ≡ true → drew_between b c page ≡ true → ⊥
  drew-apart h k = true≢false (sym (left (b.drawn page) (not (a.drawn page)) h) ∙ not-true (b.drawn page) (right (c.drawn page) (not (b.drawn page)) k))

-- a page that is of a store behind two changes was of it in front of them, or was drawn
pub numbers-then : (a b c : Attempt) → Drawn a b → Drawn b c → (before mid after : Array) → KeepNumbers a b before mid → KeepNumbers b c mid after → KeepNumbers a c before after
numbers-then a b c ab bc before mid after first second store page is = elim (second store page is) [
  | inl was ↦ elim (first store page was) [
    | inl k ↦ inl k
    | inr d ↦ inr (drew-first a b c ab bc page d)
  ]
  | inr d ↦ inr (drew-second a b c ab bc page d)
]

-- ---- what may be put

of-store-stays : (o p : Option (List ℕ)) → ((image : List ℕ) → o ≡ Some image → p ≡ Some image) → is_of_store o ≡ true → is_of_store p ≡ true
of-store-stays None p w h = absurd (true≢false (sym h))
of-store-stays (Some image) p w h = subst (λ (q : Option (List ℕ)). is_of_store q ≡ true) (sym (w image refl)) h

pub may-stay : (a b : Attempt) → Drawn a b → Stays a b → IsWithin (may_put a) (may_put b)
may-stay a b w s page h = elim (or-cases (a.drawn page) (is_of_store (a.seen page)) h) [
  | inl d ↦ first-of (b.drawn page) (is_of_store (b.seen page)) (w page d)
  | inr o ↦ one-of (b.drawn page) (is_of_store (b.seen page)) (of-store-stays (a.seen page) (b.seen page) (s page) o)
]

pub puts-stay : (a b : Attempt) (most : ℕ) → Drawn a b → Stays a b → HasPutStores a → HasAsked a b any_page (may_put b) most → HasPutStores b
puts-stay a b most w s puts asked page h = elim (asked.put_only page) [
  | inl e ↦ may-stay a b w s page (puts page (subst IsSome e h))
  | inr may ↦ may
]

-- a page that was drawn was blank before, since it wasn't written
pub drew-blank : (a c : Attempt) (pages : Array) → IsSound c → ((page : ℕ) → IsTrue (c.drawn page) → IsTrue (a.drawn page) ⊎ (a.written page ≡ None)) → Agrees c pages → (page : ℕ) → IsTrue (drew_between a c page) → over a pages page ≡ blank
drew-blank a c pages sound unwritten agrees page h =
    let drawn = left (c.drawn page) (not (a.drawn page)) h in
    let other = not-true (a.drawn page) (right (c.drawn page) (not (a.drawn page)) h) in
    let none : a.written page ≡ None = elim (unwritten page drawn) [
      | inl d ↦ absurd (true≢false (sym d ∙ other))
      | inr e ↦ e
    ] in
    ap (λ (o : Option (List ℕ)). image_or (pages page) o) none ∙ agrees page blank (sound.drawn page drawn)
