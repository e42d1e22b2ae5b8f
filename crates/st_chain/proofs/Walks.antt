-- How a walk goes on along a chain.
use Rattle.std.proofs.Common.{◌≡◌, ◌≢◌, ℕ, zero, suc, ◌+◌, ◌*◌, ◌/◌, ◌^◌, ◌<◌, ◌≤◌, ◌⊎◌, inl, inr, ◌==◌, Bool, true, false, if◌then◌else◌, List, [], ◌∷◌, ◌++◌, length, drop, Some, None, IsTrue, refl, sym, ap, ◌∙◌, subst, append_assoc, append-nil, arith}
use Rattle.std.proofs.Math.Nat.{mul-le-mul_right, div-mul-le_self}
use Rattle.std.proofs.lemmas.Bool.Decides.{nat_tests}
use Rattle.std.proofs.lemmas.Grind.{flat_map-append}
use Rattle.std.proofs.lemmas.List.{length-append, length-drop}
use Rattle.std.specs.Prelude.{not}
use Rattle.std.specs.List.{list_all, list_any}
use Rattle.st_values.specs.Arranged.{ascends}
use Rattle.st_values.proofs.Tests.{all-weaken, both, first-of, left, one-of, right}
use Rattle.st_image.specs.Bytes.{IsBytes}
use Rattle.st_image.specs.Fields.{body_of, count_of, next_of, rows_of}
use Rattle.st_image.specs.Grammar.{row_before}
use Rattle.st_image.proofs.Laid.{all-keys, length-pieces}
use Rattle.st_image.proofs.Numbers.{bytes-drop}
use Rattle.st_image.proofs.Ordered.{AllKeys}
use Rattle.st_pages.specs.declared.places.Place.{Place}
use Rattle.st_pages.specs.Attempt.{Array}
use Rattle.st_pages.specs.Chains.{way}
use Rattle.st_store.specs.Stores.{IsPlace, IsRowsOf}
use Rattle.st_store.specs.Chain.{IsBadPage, IsChainPage, IsMisplaced, IsWay, LeadTo, is_on_chain, rows_in, top}
use Rattle.st_store.proofs.Ordering.{all-append, before-trans, pairs-append, pairs-between, pairs-right}
use Rattle.st_page_rows.specs.PageRows.{Laid}
use Rattle.st_chain.specs.declared.walk.Spot.{Spot}
use Rattle.st_chain.specs.Walks.{HasCome, IsAbove, IsBelow, IsNoNext}
use Rattle.st_chain.proofs.Keys.{few-below, keys-append, top-grows, top-most}

-- ---- a page of rows

room-of : (count width : ℕ) → count ≤ 4080 / width → count * width ≤ 4080
room-of count width h =
    let up : count * width ≤ 4080 / width * width = mul-le-mul_right width h in
    let most = div-mul-le_self 4080 width in
    omega (arith, up, most)

body-wide : (page : List ℕ) → length page ≡ 4096 → length (body_of page) ≡ 4080
body-wide page h = length-drop 16 page ∙ omega (arith, h)

pub laid-rows : (place : Place) (page : List ℕ) → IsPlace place → IsRowsOf place page → Laid place.width page
laid-rows place page here sound =
    let fair = here.fair in
    let least = fair.least in
    let within = fair.within in
    record {
      some = omega (arith, least, within);
      size = sound.1.size;
      bytes = sound.1.bytes;
      room = room-of (count_of page) place.width sound.1.has_header.most;
      behind = sound.1.body.behind;
    }

pub page-keys : (place : Place) (page : List ℕ) → IsPlace place → IsRowsOf place page → AllKeys place.key (rows_of place.width page)
page-keys place page here sound =
    let wide = body-wide page sound.1.size in
    let room = room-of (count_of page) place.width sound.1.has_header.most in
    all-keys place.key place.width (count_of page) (body_of page) here.fair.within (omega (arith, wide, room)) (bytes-drop 16 page sound.1.bytes)

pub count-rows : (place : Place) (page : List ℕ) → length (rows_of place.width page) ≡ count_of page
count-rows place page = length-pieces (count_of page) place.width (body_of page)

-- ---- numbers

pub nought : (n : ℕ) → (n ≡ 0) ⊎ (n ≢ 0)
nought zero = inl refl
nought (suc n) = inr (λ e. omega (arith, e))

some-count : (n : ℕ) → n ≢ 0 → not (n == 0) ≡ true
some-count n h = ap not (isnt n h)
  where
    isnt : (n : ℕ) → n ≢ 0 → (n == 0) ≡ false
    isnt n h = grind (arith, nat_tests)

count-some : (n : ℕ) → not (n == 0) ≡ true → 1 ≤ n
count-some n h = grind (arith, nat_tests)

itself : (n : ℕ) → (n == n) ≡ true
itself n = grind (arith, nat_tests)

goes-on : (n : ℕ) (xs : List ℕ) → 0 < n → (if n == 0 then [] else xs) ≡ xs
goes-on n xs h =
    let some : (n == 0) ≡ false = grind (arith, nat_tests) in
    rw some refl

pub at-least : (n : ℕ) → n ≢ 0 → 1 ≤ n
at-least zero h = absurd (h refl)
at-least (suc n) h = omega arith

-- ---- rows part by part

pub ascend-three : (key : ℕ) (xs ys zs : List (List ℕ)) → ascends (row_before key) (xs ++ ys) ≡ true → ascends (row_before key) (ys ++ zs) ≡ true → (xs ≡ []) ⊎ (1 ≤ length ys)
    → ascends (row_before key) ((xs ++ ys) ++ zs) ≡ true
ascend-three key xs ys zs h k some =
    let t : List ℕ → List ℕ → Bool = row_before key in
    pairs-append t (xs ++ ys) zs h (pairs-right t ys zs k)
    (all-append (λ x. list_all (t x) zs) xs ys (across xs ys h k some) (pairs-between t ys zs k))
  where
    across : (xs ys : List (List ℕ)) → ascends (row_before key) (xs ++ ys) ≡ true → ascends (row_before key) (ys ++ zs) ≡ true → (xs ≡ []) ⊎ (1 ≤ length ys) → list_all (λ x. list_all (row_before key x) zs) xs ≡ true
    across [] ys h k some = refl
    across (x ∷ xs) [] h k (inl none) = absurd (cc)
    across (x ∷ xs) [] h k (inr more) = absurd (omega arith)
    across (x ∷ xs) (y ∷ ys) h k some =
        all-weaken (λ a. list_all (row_before key a) (y ∷ ys)) (λ a. list_all (row_before key a) zs)
        (λ a m. all-weaken (row_before key y) (row_before key a) (λ z l. before-trans key a y z (left (row_before key a y) (list_all (row_before key a) ys) m) l) zs
        (left (list_all (row_before key y) zs) (list_all (λ b. list_all (row_before key b) zs) ys) (pairs-between (row_before key) (y ∷ ys) zs k)))
        (x ∷ xs) (pairs-between (row_before key) (x ∷ xs) (y ∷ ys) h)

pub rows-more : (place : Place) (array : Array) (pages : List ℕ) (page : ℕ) (image : List ℕ) → array page ≡ image
    → rows_in place array (pages ++ page ∷ []) ≡ rows_in place array pages ++ rows_of place.width image
rows-more place array pages page image at =
    flat_map-append (λ p. rows_of place.width (array p)) pages (page ∷ [])
    ∙ ap (λ (l : List (List ℕ)). rows_in place array pages ++ l) (append-nil (rows_of place.width (array page)) ∙ ap (rows_of place.width) at)

-- ---- the way to a page, and to the one behind it

pub first-way : (place : Place) (array : Array) → IsWay place array [] place.first
first-way place array = record { leads = refl; filled = refl; ascend = refl }

lead-more : (place : Place) (array : Array) (first : ℕ) (pages : List ℕ) (page : ℕ) → LeadTo place array first pages page → IsChainPage place (array page) → 0 < next_of (array page)
    → LeadTo place array first (pages ++ page ∷ []) (next_of (array page))
lead-more place array first [] page leads sound more = (leads, sound, more, refl)
lead-more place array first (other ∷ pages) page leads sound more =
    (leads.0, leads.1, leads.2, lead-more place array (next_of (array other)) pages page leads.3 sound more)

filled-more : (array : Array) (pages : List ℕ) (page : ℕ) → list_all (λ p. not (count_of (array p) == 0)) (drop 1 pages) ≡ true → (pages ≡ []) ⊎ (count_of (array page) ≢ 0)
    → list_all (λ p. not (count_of (array p) == 0)) (drop 1 (pages ++ page ∷ [])) ≡ true
filled-more array [] page h some = refl
filled-more array (first ∷ pages) page h (inl none) = absurd (cc)
filled-more array (first ∷ pages) page h (inr some) =
    all-append (λ p. not (count_of (array p) == 0)) pages (page ∷ []) h (both (not (count_of (array page) == 0)) true (some-count (count_of (array page)) some) refl)

pub way-on : (place : Place) (array : Array) (pages : List ℕ) (page : ℕ) (image : List ℕ) → IsWay place array pages page → array page ≡ image → IsChainPage place image → 0 < next_of image
    → (pages ≡ []) ⊎ (count_of image ≢ 0) → ascends (row_before place.key) (rows_in place array pages ++ rows_of place.width image) ≡ true → IsWay place array (pages ++ page ∷ []) (next_of image)
way-on place array pages page image h at sound more some ascend =
    let back = sym at in
    record {
      leads = subst (λ (i : List ℕ). LeadTo place array place.first (pages ++ page ∷ []) (next_of i)) at
          (lead-more place array place.first pages page h.leads (subst (IsChainPage place) back sound) (subst (λ (i : List ℕ). 0 < next_of i) back more));
      filled = filled-more array pages page h.filled (subst (λ (i : List ℕ). (pages ≡ []) ⊎ (count_of i ≢ 0)) back some);
      ascend = ap (ascends (row_before place.key)) (rows-more place array pages page image at) ∙ ascend;
    }

-- ---- how many pages there are on the way

few-pages : (place : Place) (array : Array) (pages : List ℕ) → list_all (λ p. not (count_of (array p) == 0)) pages ≡ true → length pages ≤ length (rows_in place array pages)
few-pages place array [] h = omega arith
few-pages place array (page ∷ pages) h =
    let here : 1 ≤ count_of (array page) = count-some (count_of (array page)) (left (not (count_of (array page) == 0)) (list_all (λ p. not (count_of (array p) == 0)) pages) h) in
    let rest = few-pages place array pages (right (not (count_of (array page) == 0)) (list_all (λ p. not (count_of (array p) == 0)) pages) h) in
    let size = count-rows place (array page) in
    let sum = length-append (rows_of place.width (array page)) (rows_in place array pages) in
    omega (arith, here, rest, size, sum)

pub all-but-one : (place : Place) (array : Array) (pages : List ℕ) → list_all (λ p. not (count_of (array p) == 0)) (drop 1 pages) ≡ true → length pages ≤ length (rows_in place array pages) + 1
all-but-one place array [] h = omega arith
all-but-one place array (page ∷ pages) h =
    let rest = few-pages place array pages h in
    let sum = length-append (rows_of place.width (array page)) (rows_in place array pages) in
    omega (arith, rest, sum)

pub way-keys : (place : Place) (array : Array) (first : ℕ) (pages : List ℕ) (end : ℕ) → IsPlace place → LeadTo place array first pages end → AllKeys place.key (rows_in place array pages)
way-keys place array first [] end here leads = tt
way-keys place array first (page ∷ pages) end here leads =
    keys-append place.key (rows_of place.width (array page)) (rows_in place array pages) (page-keys place (array page) here (2, leads.1)) (way-keys place array (next_of (array page)) pages end here leads.3)

pages-rows : (pages rows more count : ℕ) → pages ≤ rows + 1 → more ≡ count → 1 ≤ count → pages ≤ rows + more
pages-rows pages rows more count h k l = omega arith

come-pages : (place : Place) (array : Array) (key : List ℕ) (spot : Spot) (image : List ℕ) → (come : HasCome place array key spot image) → length come.pages ≤ length (rows_in place array come.pages ++ rows_of place.width image)
come-pages place array key spot image come =
    by come.pages come.way.filled come.filled
  where
    by : (pages : List ℕ) → list_all (λ p. not (count_of (array p) == 0)) (drop 1 pages) ≡ true → (pages ≡ []) ⊎ (count_of image ≢ 0) → length pages ≤ length (rows_in place array pages ++ rows_of place.width image)
    by pages filled (inl none) = let e : length pages ≡ 0 = ap length none in omega (arith, e)
    by pages filled (inr some) =
        let most = all-but-one place array pages filled in
        let size = count-rows place image in
        let least = at-least (count_of image) some in
        let sum = length-append (rows_in place array pages) (rows_of place.width image) in
        omega (arith, most, size, least, sum)

on-way : (place : Place) (array : Array) (first page most : ℕ) (pages : List ℕ) → LeadTo place array first pages page → length pages < most → list_any (λ other. other == page) (way most array first) ≡ true
on-way place array first page zero pages leads few = absurd (omega (arith, few))
on-way place array first page (suc most) [] leads few =
    first-of (first == page) (list_any (λ other. other == page) (if next_of (array first) == 0 then [] else way most array (next_of (array first)))) (ap (λ (p : ℕ). first == p) leads ∙ itself first)
on-way place array first page (suc most) (other ∷ pages) leads few =
    let rest = on-way place array (next_of (array other)) page most pages leads.3 (omega (arith, few)) in
    let here : list_any (λ o. o == page) (way most array (next_of (array first))) ≡ true = subst (λ (p : ℕ). list_any (λ o. o == page) (way most array (next_of (array p))) ≡ true) leads.0 rest in
    let more : 0 < next_of (array first) = subst (λ (p : ℕ). 0 < next_of (array p)) leads.0 leads.2 in
    one-of (first == page) (list_any (λ o. o == page) (if next_of (array first) == 0 then [] else way most array (next_of (array first))))
    (subst (λ (xs : List ℕ). list_any (λ o. o == page) xs ≡ true) (sym (goes-on (next_of (array first)) (way most array (next_of (array first))) more)) here)

pub is-on : (place : Place) (array : Array) (pages : List ℕ) (page : ℕ) → IsWay place array pages page → length pages ≤ 256 ^ place.key → IsTrue (is_on_chain place array page)
unfolding is_on_chain
is-on place array pages page h few = on-way place array place.first page (suc (suc (256 ^ place.key))) pages h.leads (omega (arith, few))

-- with one page more
pub on-more : (place : Place) (array : Array) (pages : List ℕ) (page : ℕ) → IsWay place array pages page → length pages ≤ 256 ^ place.key + 1 → list_any (λ other. other == page) (way (suc (suc (256 ^ place.key))) array place.first) ≡ true
on-more place array pages page h few = on-way place array place.first page (suc (suc (256 ^ place.key))) pages h.leads (omega (arith, few))

-- ---- one step of a walk

pub come-first : (place : Place) (array : Array) (key image : List ℕ) (spot : Spot) → spot ≡ record { page = place.first; previous = None } → array place.first ≡ image → IsChainPage place image → HasCome place array key spot image
come-first place array key image spot e at sound =
    subst (λ (s : Spot). HasCome place array key s image) (sym e) (record {
      pages = [];
      way = first-way place array;
      behind = refl;
      at = at;
      filled = inl refl;
      ascend = sound.body.ascend;
      below = refl;
    })

come-way : (place : Place) (array : Array) (key : List ℕ) (spot : Spot) (image : List ℕ) → (come : HasCome place array key spot image) → IsChainPage place image → IsBelow place key image
    → IsWay place array (come.pages ++ spot.page ∷ []) (next_of image)
come-way place array key spot image come sound below = way-on place array come.pages spot.page image come.way come.at sound below.more come.filled come.ascend

-- the page behind the one that a walk has come to is on the chain
pub come-on : (place : Place) (array : Array) (key : List ℕ) (spot : Spot) (image : List ℕ) → IsPlace place → length key ≡ place.key → IsBytes key → HasCome place array key spot image → IsChainPage place image → IsBelow place key image
    → IsTrue (is_on_chain place array (next_of image))
come-on place array key spot image here wide bytes come sound below =
    let rows = rows_in place array come.pages ++ rows_of place.width image in
    let keys = keys-append place.key (rows_in place array come.pages) (rows_of place.width image) (way-keys place array place.first come.pages spot.page here come.way.leads) (page-keys place image here (2, sound)) in
    let few : length rows < 256 ^ place.key = few-below place.key key rows wide bytes keys come.ascend (all-append (λ row. row_before place.key row key) (rows_in place array come.pages) (rows_of place.width image) come.below below.rows) in
    let most = come-pages place array key spot image come in
    let size = length-append come.pages (spot.page ∷ []) in
    is-on place array (come.pages ++ spot.page ∷ []) (next_of image) (come-way place array key spot image come sound below) (omega (arith, few, most, size))

pub filled-rows : (place : Place) (pages : List ℕ) (array : Array) (image : List ℕ) → (pages ≡ []) ⊎ (count_of image ≢ 0) → (rows_in place array pages ≡ []) ⊎ (1 ≤ length (rows_of place.width image))
filled-rows place pages array image (inl none) = inl (ap (rows_in place array) none)
filled-rows place pages array image (inr some) =
    let size = count-rows place image in
    let least = at-least (count_of image) some in
    inr (omega (arith, size, least))

pub come-next : (place : Place) (array : Array) (key : List ℕ) (spot : Spot) (image : List ℕ) (page : ℕ) (next : List ℕ) → HasCome place array key spot image → IsChainPage place image → IsBelow place key image
    → page ≡ next_of image → array (next_of image) ≡ next → IsAbove place image next → HasCome place array key (record { page = page; previous = Some spot.page }) next
come-next place array key spot image page next come sound below is at above =
    let more = rows-more place array come.pages spot.page image come.at in
    record {
      pages = come.pages ++ spot.page ∷ [];
      way = subst (IsWay place array (come.pages ++ spot.page ∷ [])) (sym is) (come-way place array key spot image come sound below);
      behind = (come.pages, refl);
      at = ap array is ∙ at;
      filled = inr above.some;
      ascend = ap (λ (l : List (List ℕ)). ascends (row_before place.key) (l ++ rows_of place.width next)) more
          ∙ ascend-three place.key (rows_in place array come.pages) (rows_of place.width image) (rows_of place.width next) come.ascend above.ascend (filled-rows place come.pages array image come.filled);
      below = ap (list_all (λ row. row_before place.key row key)) more
          ∙ all-append (λ row. row_before place.key row key) (rows_in place array come.pages) (rows_of place.width image) come.below below.rows;
    }

pub rank-grows : (place : Place) (image next : List ℕ) → IsPlace place → IsChainPage place image → IsChainPage place next → IsAbove place image next
    → top place.key 0 (rows_of place.width image) < top place.key 0 (rows_of place.width next)
rank-grows place image next here sound next_sound above =
    let size = count-rows place next in
    let least = at-least (count_of next) above.some in
    top-grows place.key (rows_of place.width image) (rows_of place.width next)
    (keys-append place.key (rows_of place.width image) (rows_of place.width next) (page-keys place image here (2, sound)) (page-keys place next here (2, next_sound))) above.ascend (omega (arith, size, least))

pub rank-most : (place : Place) (image : List ℕ) → IsPlace place → IsChainPage place image → top place.key 0 (rows_of place.width image) ≤ 256 ^ place.key
rank-most place image here sound = top-most place.key 0 (rows_of place.width image) (page-keys place image here (2, sound)) (omega arith)

-- ---- where a chain breaks

misplaced : (place : Place) (array : Array) (front : List ℕ) (page next : ℕ) → (count_of (array next) ≡ 0) ⊎ (IsTrue (ascends (row_before place.key) (rows_in place array ((front ++ page ∷ []) ++ next ∷ []))) → ⊥)
    → IsMisplaced place array (front ++ page ∷ []) next
misplaced place array [] page next h = h
misplaced place array (first ∷ front) page next h = h

pub bad-behind : (place : Place) (array : Array) (pages : List ℕ) (page : ℕ) (image : List ℕ) (at : ℕ) → IsWay place array pages page → array page ≡ image → IsChainPage place image → 0 < next_of image
    → (pages ≡ []) ⊎ (count_of image ≢ 0) → ascends (row_before place.key) (rows_in place array pages ++ rows_of place.width image) ≡ true
    → IsNoNext place image (array (next_of image)) at → IsBadPage place array (next_of image) at
bad-behind place array pages page image at h is sound more some ascend (inl wrong) = record {
  pages = pages ++ page ∷ [];
  way = way-on place array pages page image h is sound more some ascend;
  wrong = inl wrong;
}
bad-behind place array pages page image at h is sound more some ascend (inr wrong) =
    let next = next_of image in
    record {
      pages = pages ++ page ∷ [];
      way = way-on place array pages page image h is sound more some ascend;
      wrong = inr (wrong.0, wrong.1, misplaced place array pages page next (by (nought (count_of (array next)))));
    }
  where
    rows : (next : ℕ) → rows_in place array ((pages ++ page ∷ []) ++ next ∷ []) ≡ rows_in place array pages ++ (rows_of place.width image ++ rows_of place.width (array next))
    rows next =
        rows-more place array (pages ++ page ∷ []) next (array next) refl
        ∙ ap (λ (l : List (List ℕ)). l ++ rows_of place.width (array next)) (rows-more place array pages page image is)
        ∙ append_assoc (rows_in place array pages) (rows_of place.width image) (rows_of place.width (array next))

    by : (count_of (array (next_of image)) ≡ 0) ⊎ (count_of (array (next_of image)) ≢ 0)
        → (count_of (array (next_of image)) ≡ 0) ⊎ (IsTrue (ascends (row_before place.key) (rows_in place array ((pages ++ page ∷ []) ++ next_of image ∷ []))) → ⊥)
    by (inl none) = inl none
    by (inr filled) = inr (λ k. wrong.2 (record {
      some = filled;
      ascend = pairs-right (row_before place.key) (rows_in place array pages) (rows_of place.width image ++ rows_of place.width (array (next_of image)))
          (sym (ap (ascends (row_before place.key)) (rows (next_of image))) ∙ k);
    }))
