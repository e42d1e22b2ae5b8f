-- Lists of entries with one image more.
use Rattle.std.proofs.Common.{◌≡◌, ℕ, zero, suc, ◌+◌, ◌<◌, Bool, true, false, cond, List, [], ◌∷◌, length, get_or, set, Option, Some, None, refl, sym, ap, subst, ◌∙◌, inl, inr, arith, true≢false}
use Rattle.std.specs.Prelude.{◌==◌, nat_lt, find, insert, slice_get, is_some, IsSome}
use Rattle.std.specs.List.{list_all}
use Rattle.std.specs.Option.{option_map}
use Rattle.std.proofs.lemmas.Bool.{cases_lt, ltb-true}
use Rattle.st_values.specs.Arranged.{ascends}
use Rattle.st_values.proofs.Tests.{both, left, right, either, all-weaken}
use Rattle.st_pages.specs.Attempt.{how_many}
use Rattle.st_pages.specs.Images.{Entry, entry, image_of, with_image}
use Rattle.st_pages.specs.Searched.{IsBelowUpTo, IsFoundAt, IsGapAt}
use Rattle.st_pages.proofs.Searched.{lower, lower-chain, lower-differs, higher-differs, is-number, number-is, not-lower, find-past, find-here, none-behind, none-again, differs, found}

abbrev number : Entry → ℕ
number e = e.page

abbrev is : ℕ → Entry → Bool
is page e = e.page == page

abbrev image_in : Option Entry → Option (List ℕ)
image_in o = option_map (λ e. e.image) o

some-is : {X : Type 0} (x y : X) → Some x ≡ Some y → x ≡ y
some-is x y e = cc

some-none : {X : Type 0} (x : X) → Some x ≡ None → ⊥
some-none x e = cc

module _ (page : ℕ) (image : List ℕ) where
  abbrev new : Entry
  new = entry page image

  with-behind : (e : Entry) (es : List Entry) → nat_lt e.page page ≡ true → with_image page image (e ∷ es) ≡ e ∷ with_image page image es
  with-behind e es h = ap (λ b. cond b (e ∷ with_image page image es) (new ∷ cond (e.page == page) es (e ∷ es))) h

  with-here : (e : Entry) (es : List Entry) → nat_lt e.page page ≡ false → with_image page image (e ∷ es) ≡ new ∷ cond (e.page == page) es (e ∷ es)
  with-here e es h = ap (λ b. cond b (e ∷ with_image page image es) (new ∷ cond (e.page == page) es (e ∷ es))) h

  -- ---- how it is put

  pub set-there : (es : List Entry) (place : ℕ) (d : Entry) → IsBelowUpTo number page es place → place < length es → (get_or es place d).page ≡ page → set es place new ≡ with_image page image es
  set-there [] place d f lt e = absurd (omega arith)
  set-there (x ∷ xs) zero d f lt e = sym (with-here x xs f ∙ ap (λ b. new ∷ cond b xs (x ∷ xs)) (is-number x.page page e))
  set-there (x ∷ xs) (suc place) d f lt e = ap (λ z. x ∷ z) (set-there xs place d f.1 (omega arith) e) ∙ sym (with-behind x xs f.0)

  pub insert-gap : (es : List Entry) (place : ℕ) → IsBelowUpTo number page es place → find (is page) es ≡ None → insert es place new ≡ with_image page image es
  insert-gap [] place f n = ap (λ i. insert [] i new) f
  insert-gap (x ∷ xs) zero f n =
      either (x.page == page) (λ b. new ∷ x ∷ xs ≡ with_image page image (x ∷ xs)) (λ k. absurd (some-none x (sym (find-here (is page) x xs k) ∙ n)))
      (λ k. sym (with-here x xs f ∙ ap (λ b. new ∷ cond b xs (x ∷ xs)) k))
  insert-gap (x ∷ xs) (suc place) f n =
      ap (λ z. x ∷ z) (insert-gap xs place f.1 (sym (find-past (is page) x xs (lower-differs x.page page f.0)) ∙ n)) ∙ sym (with-behind x xs f.0)

  -- ---- what it leaves

  pub all-with : (p : Entry → Bool) (es : List Entry) → p new ≡ true → list_all p es ≡ true → list_all p (with_image page image es) ≡ true
  all-with p [] h a = both (p new) true h refl
  all-with p (x ∷ xs) h a =
      either (nat_lt x.page page) (λ _. list_all p (with_image page image (x ∷ xs)) ≡ true)
      (λ k. ap (list_all p) (with-behind x xs k)
      ∙ both (p x) (list_all p (with_image page image xs)) (left (p x) (list_all p xs) a) (all-with p xs h (right (p x) (list_all p xs) a)))
      (λ k. ap (list_all p) (with-here x xs k)
      ∙ both (p new) (list_all p (cond (x.page == page) xs (x ∷ xs))) h
      (either (x.page == page) (λ b. list_all p (cond b xs (x ∷ xs)) ≡ true) (λ _. right (p x) (list_all p xs) a) (λ _. a)))

  pub ascends-with : (es : List Entry) → ascends (lower number) es ≡ true → ascends (lower number) (with_image page image es) ≡ true
  ascends-with [] a = refl
  ascends-with (x ∷ xs) a =
      let behind = left (list_all (lower number x) xs) (ascends (lower number) xs) a in
      let rest = right (list_all (lower number x) xs) (ascends (lower number) xs) a in
      either (nat_lt x.page page) (λ _. ascends (lower number) (with_image page image (x ∷ xs)) ≡ true)
      (λ k. ap (ascends (lower number)) (with-behind x xs k)
      ∙ both (list_all (lower number x) (with_image page image xs)) (ascends (lower number) (with_image page image xs)) (all-with (lower number x) xs k behind) (ascends-with xs rest))
      (λ k. ap (ascends (lower number)) (with-here x xs k)
      ∙ either (x.page == page) (λ b. ascends (lower number) (new ∷ cond b xs (x ∷ xs)) ≡ true)
      (λ m. both (list_all (lower number new) xs) (ascends (lower number) xs)
      (all-weaken (lower number x) (lower number new) (λ y h. ap (λ n. nat_lt n y.page) (sym (number-is x.page page m)) ∙ h) xs behind) rest)
      (λ m.
      let first : nat_lt page x.page ≡ true = not-lower x.page page k m in
      both (list_all (lower number new) (x ∷ xs)) (ascends (lower number) (x ∷ xs))
      (both (nat_lt page x.page) (list_all (lower number new) xs) first
      (all-weaken (lower number x) (lower number new) (λ y h. lower-chain page x.page y.page first h) xs behind)) a))

  found-with : (es : List Entry) → find (is page) (with_image page image es) ≡ Some new
  found-with [] = find-here (is page) new [] (is-number page page refl)
  found-with (x ∷ xs) =
      either (nat_lt x.page page) (λ _. find (is page) (with_image page image (x ∷ xs)) ≡ Some new)
      (λ k. ap (find (is page)) (with-behind x xs k) ∙ find-past (is page) x (with_image page image xs) (lower-differs x.page page k) ∙ found-with xs)
      (λ k. ap (find (is page)) (with-here x xs k) ∙ find-here (is page) new (cond (x.page == page) xs (x ∷ xs)) (is-number page page refl))

  pub image_of-with : (es : List Entry) → image_of page (with_image page image es) ≡ Some image
  image_of-with es = ap image_in (found-with es)

  others-found : (other : ℕ) → (page == other) ≡ false → (es : List Entry) → find (is other) (with_image page image es) ≡ find (is other) es
  others-found other h [] = find-past (is other) new [] h
  others-found other h (x ∷ xs) =
      either (nat_lt x.page page) (λ _. find (is other) (with_image page image (x ∷ xs)) ≡ find (is other) (x ∷ xs))
      (λ k. ap (find (is other)) (with-behind x xs k) ∙ ap (λ o. cond (x.page == other) (Some x) o) (others-found other h xs))
      (λ k. ap (find (is other)) (with-here x xs k) ∙ find-past (is other) new (cond (x.page == page) xs (x ∷ xs)) h
      ∙ either (x.page == page) (λ b. find (is other) (cond b xs (x ∷ xs)) ≡ find (is other) (x ∷ xs))
      (λ m. sym (find-past (is other) x xs (ap (λ n. n == other) (number-is x.page page m) ∙ h))) (λ _. refl))

  pub image_of-others : (es : List Entry) (other : ℕ) → (other ≡ page → ⊥) → image_of other (with_image page image es) ≡ image_of other es
  image_of-others es other h = ap image_in (others-found other (differs page other (λ e. h (sym e))) es)

  pub image_of-each : (es : List Entry) (other : ℕ) → image_of other (with_image page image es) ≡ cond (other == page) (Some image) (image_of other es)
  image_of-each es other =
      either (other == page) (λ b. image_of other (with_image page image es) ≡ cond b (Some image) (image_of other es))
      (λ k. subst (λ n. image_of n (with_image page image es) ≡ Some image) (sym (number-is other page k)) (image_of-with es))
      (λ k. image_of-others es other (λ e. true≢false (sym (is-number other page e) ∙ k)))

  -- how many there are
  abbrev more : Option (List ℕ) → ℕ
  more o = cond (is_some o) 0 1

  pub length-with : (es : List Entry) → ascends (lower number) es ≡ true → length (with_image page image es) ≡ length es + more (image_of page es)
  length-with [] a = refl
  length-with (x ∷ xs) a =
      either (nat_lt x.page page) (λ _. length (with_image page image (x ∷ xs)) ≡ length (x ∷ xs) + more (image_of page (x ∷ xs)))
      (λ k.
      let rest = length-with xs (right (list_all (lower number x) xs) (ascends (lower number) xs) a) in
      let same : image_of page (x ∷ xs) ≡ image_of page xs = ap image_in (find-past (is page) x xs (lower-differs x.page page k)) in
      ap length (with-behind x xs k) ∙ ap suc rest ∙ omega (arith, ap more same))
      (λ k. ap length (with-here x xs k)
      ∙ either (x.page == page) (λ b. length (new ∷ cond b xs (x ∷ xs)) ≡ length (x ∷ xs) + more (image_of page (x ∷ xs)))
      (λ m.
      let there : more (image_of page (x ∷ xs)) ≡ 0 = ap (λ o. more (image_in o)) (find-here (is page) x xs m) in
      omega (arith, there))
      (λ m.
      let gone : more (image_of page (x ∷ xs)) ≡ 1 = ap (λ o. more (image_in o)) (find-past (is page) x xs m ∙ none-behind number x xs page a (not-lower x.page page k m)) in
      omega (arith, gone)))

-- ---- entries and their images

pub image_of-found : (page : ℕ) (es : List Entry) (place : ℕ) (d : Entry) → IsFoundAt number page es place → image_of page es ≡ Some ((get_or es place d).image)
image_of-found page es place d f = ap image_in (found number page es place d f.front f.within (f.is d))

-- where a page has an image, there is no gap for it
pub no-gap : (page : ℕ) (es : List Entry) (place : ℕ) → IsGapAt number page es place → IsSome (image_of page es) → ⊥
no-gap page es place g h = absurd (true≢false (sym (subst (λ o. IsSome (image_in o)) g.none h)))

all-got : (p : Entry → Bool) (es : List Entry) (place : ℕ) (e : Entry) → list_all p es ≡ true → slice_get es place ≡ Some e → p e ≡ true
all-got p [] place e a h = absurd (some-none e (sym h))
all-got p (x ∷ xs) zero e a h = ap p (sym (some-is x e h)) ∙ left (p x) (list_all p xs) a
all-got p (x ∷ xs) (suc place) e a h = all-got p xs place e (right (p x) (list_all p xs) a) h

-- each entry's page has its image
pub image_of-entry : (es : List Entry) (place : ℕ) (e : Entry) → ascends (lower number) es ≡ true → slice_get es place ≡ Some e → image_of e.page es ≡ Some e.image
image_of-entry [] place e a h = absurd (some-none e (sym h))
image_of-entry (x ∷ xs) zero e a h =
    subst (λ z. image_of z.page (x ∷ xs) ≡ Some (z.image)) (some-is x e h) (ap image_in (find-here (is x.page) x xs (is-number x.page x.page refl)))
image_of-entry (x ∷ xs) (suc place) e a h =
    let low = all-got (lower number x) xs place e (left (list_all (lower number x) xs) (ascends (lower number) xs) a) h in
    ap image_in (find-past (is e.page) x xs (lower-differs x.page e.page low))
    ∙ image_of-entry xs place e (right (list_all (lower number x) xs) (ascends (lower number) xs) a) h

-- and each image that a page has is that of an entry
pub listed : (page : ℕ) (image : List ℕ) (es : List Entry) → image_of page es ≡ Some image → (place : ℕ) × (slice_get es place ≡ Some (entry page image))
listed page image [] h = absurd (some-none image (sym h))
listed page image (x ∷ xs) h =
    either (x.page == page) (λ _. (place : ℕ) × (slice_get (x ∷ xs) place ≡ Some (entry page image)))
    (λ k.
    let same : x.image ≡ image = some-is x.image image (sym (ap image_in (find-here (is page) x xs k)) ∙ h) in
    let at_page : x.page ≡ page = number-is x.page page k in
    (0, λ i. Some (entry (at_page i) (same i))))
    (λ k.
    let rest = listed page image xs (sym (ap image_in (find-past (is page) x xs k)) ∙ h) in
    (suc rest.0, rest.1))

-- ---- how many pages have an image

abbrev one : Bool → ℕ
one b = cond b 1 0

none-counted : (n : ℕ) → how_many (λ _. false) n ≡ 0
none-counted zero = refl
none-counted (suc n) = omega (arith, none-counted n)

same-counted : (f g : ℕ → Bool) (n : ℕ) → ((p : ℕ) → p < n → f p ≡ g p) → how_many f n ≡ how_many g n
same-counted f g zero h = refl
same-counted f g (suc n) h = λ i. same-counted f g n (λ p lt. h p (omega arith)) i + one (h n (omega arith) i)

-- two tests that differ at one number
one-more : (f g : ℕ → Bool) (m : ℕ) → f m ≡ true → g m ≡ false → ((p : ℕ) → (p ≡ m → ⊥) → f p ≡ g p) → (n : ℕ) → m < n → how_many f n ≡ how_many g n + 1
one-more f g m h k others zero lt = absurd (omega arith)
one-more f g m h k others (suc n) lt =
    elim (cases_lt m n) [
      | inl low ↦
          let here : one (f n) ≡ one (g n) = ap one (others n (λ e. omega arith)) in
          omega (arith, one-more f g m h k others n low, here)
      | inr high ↦
          let at_n : m ≡ n = omega arith in
          let more : one (f n) ≡ 1 = ap one (ap f (sym at_n) ∙ h) in
          let none : one (g n) ≡ 0 = ap one (ap g (sym at_n) ∙ k) in
          let below : how_many f n ≡ how_many g n = same-counted f g n (λ p lower. others p (λ e. omega arith)) in
          omega (arith, below, more, none)
    ]

pub how_many-images : (es : List Entry) (n : ℕ) → ascends (lower number) es ≡ true → list_all (λ e. nat_lt e.page n) es ≡ true → how_many (λ page. is_some (image_of page es)) n ≡ length es
how_many-images [] n a h = none-counted n
how_many-images (x ∷ xs) n a h =
    let rest = how_many-images xs n (right (list_all (lower number x) xs) (ascends (lower number) xs) a) (right (nat_lt x.page n) (list_all (λ e. nat_lt e.page n) xs) h) in
    let first = ltb-true x.page n (left (nat_lt x.page n) (list_all (λ e. nat_lt e.page n) xs) h) in
    let step = one-more (λ page. is_some (image_of page (x ∷ xs))) (λ page. is_some (image_of page xs)) x.page
    (ap (λ o. is_some (image_in o)) (find-here (is x.page) x xs (is-number x.page x.page refl)))
    (ap (λ o. is_some (image_in o)) (none-again number x xs a))
    (λ p differs_here. ap (λ o. is_some (image_in o)) (find-past (is p) x xs (differs x.page p (λ e. differs_here (sym e)))))
    n first in
    step ∙ omega (arith, rest)

-- ---- lists with the same images

-- two lists in order begin with one page where each page has one image
first-same : (x y : Entry) (xs ys : List Entry) → ascends (lower number) (y ∷ ys) ≡ true → ((page : ℕ) → image_of page (x ∷ xs) ≡ image_of page (y ∷ ys)) → nat_lt x.page y.page ≡ true → ⊥
first-same x y xs ys b s k =
    let here : image_of x.page (x ∷ xs) ≡ Some (x.image) = ap image_in (find-here (is x.page) x xs (is-number x.page x.page refl)) in
    let gone : image_of x.page (y ∷ ys) ≡ None = ap image_in (find-past (is x.page) y ys (higher-differs y.page x.page k) ∙ none-behind number y ys x.page b k) in
    some-none x.image (sym here ∙ s x.page ∙ gone)

same-page : (m n : ℕ) → (nat_lt m n ≡ true → ⊥) → (nat_lt n m ≡ true → ⊥) → m ≡ n
same-page m n h k = either (m == n) (λ _. m ≡ n) (λ e. number-is m n e) (λ e. either (nat_lt m n) (λ _. m ≡ n) (λ l. absurd (h l)) (λ l. absurd (k (not-lower m n l e))))

pub same-images : (es fs : List Entry) → ascends (lower number) es ≡ true → ascends (lower number) fs ≡ true → ((page : ℕ) → image_of page es ≡ image_of page fs) → es ≡ fs
same-images [] [] a b s = refl
same-images [] (y ∷ ys) a b s = absurd (some-none y.image (sym (ap image_in (find-here (is y.page) y ys (is-number y.page y.page refl))) ∙ sym (s y.page)))
same-images (x ∷ xs) [] a b s = absurd (some-none x.image (sym (ap image_in (find-here (is x.page) x xs (is-number x.page x.page refl))) ∙ s x.page))
same-images (x ∷ xs) (y ∷ ys) a b s =
    let page : x.page ≡ y.page = same-page x.page y.page (first-same x y xs ys b s) (first-same y x ys xs a (λ p. sym (s p))) in
    let image : x.image ≡ y.image =
    some-is x.image y.image (sym (ap image_in (find-here (is x.page) x xs (is-number x.page x.page refl))) ∙ s x.page ∙ ap image_in (find-here (is x.page) y ys (is-number y.page x.page (sym page)))) in
    let rest : (p : ℕ) → image_of p xs ≡ image_of p ys = λ p.
    either (x.page == p) (λ _. image_of p xs ≡ image_of p ys)
    (λ k.
    let at_x : x.page ≡ p = number-is x.page p k in
    ap image_in (subst (λ n. find (is n) xs ≡ None) at_x (none-again number x xs a))
    ∙ sym (ap image_in (subst (λ n. find (is n) ys ≡ None) (sym page ∙ at_x) (none-again number y ys b))))
    (λ k.
    sym (ap image_in (find-past (is p) x xs k)) ∙ s p ∙ ap image_in (find-past (is p) y ys (ap (λ n. n == p) (sym page) ∙ k))) in
    λ i. record { page = page i; image = image i } ∷ same-images xs ys (right (list_all (lower number x) xs) (ascends (lower number) xs) a) (right (list_all (lower number y) ys) (ascends (lower number) ys) b) rest i
