-- What each call leaves of what is kept, and of what the attempt knows.
use Rattle.std.proofs.Common.{◌≡◌, ℕ, ◌+◌, ◌<◌, Bool, true, false, ◌||◌, ◌==◌, inl, inr, List, length, Some, None, refl, ap, ◌∙◌, sym, subst}
use Rattle.std.specs.Option.{option_or}
use Rattle.std.specs.Prelude.{slice_set, if◌then◌else◌}
use Rattle.std.proofs.lemmas.Bool.{cases_eq, eq-eqb, ne_eqb}
use Rattle.std.proofs.lemmas.List.{get_or-set_same, get_or-set_other}
use Rattle.st_image.specs.Fields.{blank}
use Rattle.st_pages.specs.Attempt.{Array, saw, wrote, drew, how_many, page_count}
use Rattle.st_memory_pages.specs.Slots.{Kept, kept_of, kept_but, attempt_of, seen_of, one}
use Rattle.st_memory_pages.proofs.Counting.{how_many-at, below_page_count}

-- what is kept of the page itself
pub but-here : (page : ℕ) (new : Kept) (kept : ℕ → Kept) → kept_but page new kept page ≡ new
but-here page new kept = let e : (page == page) ≡ true = eq-eqb page page refl in rw e refl

-- and of another one
pub but-other : (page : ℕ) (new : Kept) (kept : ℕ → Kept) (p : ℕ) → (p ≡ page → ⊥) → kept_but page new kept p ≡ kept p
but-other page new kept p other = let e : (p == page) ≡ false = ne_eqb p page other in rw e refl

-- a table with another slot in a place
pub kept_of-set : (table : List Kept) (page : ℕ) (new : Kept) → page < length table
    → kept_of (slice_set table page new) ≡ kept_but page new (kept_of table)
kept_of-set table page new within = λ i p. at p i
  where
    at : (p : ℕ) → kept_of (slice_set table page new) p ≡ kept_but page new (kept_of table) p
    at p = elim (cases_eq p page) [
      | inl e ↦ subst (λ (q : ℕ). kept_of (slice_set table page new) q ≡ kept_but page new (kept_of table) q) (sym e)
          (get_or-set_same table page new _ within ∙ sym (but-here page new (kept_of table)))
      | inr other ↦ get_or-set_other table page p new _ other ∙ sym (but-other page new (kept_of table) p other)
    ]

-- what is the same of the page is the same of each
pub same-but : {B : Type 0} (f : ℕ → Kept → B) (page : ℕ) (new : Kept) (kept : ℕ → Kept) → f page new ≡ f page (kept page)
    → (p : ℕ) → f p (kept_but page new kept p) ≡ f p (kept p)
same-but f page new kept same p = elim (cases_eq p page) [
  | inl e ↦ subst (λ (q : ℕ). f q (kept_but page new kept q) ≡ f q (kept q)) (sym e)
      (ap (f page) (but-here page new kept) ∙ same)
  | inr other ↦ ap (f p) (but-other page new kept p other)
]

-- what a call says of the page alone
pub at-but : {B : Type 0} (f : ℕ → Kept → B) (g : ℕ → B) (page : ℕ) (new : Kept) (kept : ℕ → Kept) → f page new ≡ g page
    → (p : ℕ) → f p (kept_but page new kept p) ≡ (if p == page then g p else f p (kept p))
at-but f g page new kept here p = elim (cases_eq p page) [
  | inl e ↦
      let at_page : f page (kept_but page new kept page) ≡ (if page == page then g page else f page (kept page)) =
      ap (f page) (but-here page new kept) ∙ here ∙ sym (let t : (page == page) ≡ true = eq-eqb page page refl in rw t refl) in
      subst (λ (q : ℕ). f q (kept_but page new kept q) ≡ (if q == page then g q else f q (kept q))) (sym e) at_page
  | inr other ↦
      let t : (p == page) ≡ false = ne_eqb p page other in
      rw t refl
]

option_or-seen : (seen : Bool) (here image : List ℕ) → (seen ≡ false → here ≡ image)
    → Some here ≡ option_or (if seen then Some here else None) (Some image)
option_or-seen true here image same = refl
option_or-seen false here image same = ap (λ (x : List ℕ). Some x) (same refl)

-- behind a page that was seen
pub attempt-saw : (array : Array) (kept : ℕ → Kept) (page : ℕ) (image : List ℕ) → ((kept page).seen ≡ false → array page ≡ image)
    → attempt_of array (kept_but page (record (kept page) { seen = true }) kept) ≡ saw page image (attempt_of array kept)
attempt-saw array kept page image first =
    let new : Kept = record (kept page) { seen = true } in
    let seen = at-but (λ (q : ℕ) (k : Kept). seen_of (array q) k) (λ (q : ℕ). option_or (seen_of (array q) (kept q)) (Some image))
    page new kept (option_or-seen (kept page).seen (array page) image first) in
    let written = same-but (λ (q : ℕ) (k : Kept). k.put) page new kept refl in
    let drawn = same-but (λ (q : ℕ) (k : Kept). k.drawn) page new kept refl in
    λ i. record { seen = λ p. seen p i; written = λ p. written p i; drawn = λ p. drawn p i }

-- behind a page that was drawn
pub attempt-drew : (array : Array) (kept : ℕ → Kept) (page : ℕ) → ((kept page).seen ≡ false → array page ≡ blank)
    → attempt_of array (kept_but page (record (kept page) { seen = true; drawn = true }) kept) ≡ drew page (attempt_of array kept)
attempt-drew array kept page first =
    let new : Kept = record (kept page) { seen = true; drawn = true } in
    let seen = at-but (λ (q : ℕ) (k : Kept). seen_of (array q) k) (λ (q : ℕ). option_or (seen_of (array q) (kept q)) (Some blank))
    page new kept (option_or-seen (kept page).seen (array page) blank first) in
    let written = same-but (λ (q : ℕ) (k : Kept). k.put) page new kept refl in
    let drawn = at-but (λ (q : ℕ) (k : Kept). k.drawn) (λ (q : ℕ). true) page new kept refl in
    λ i. record { seen = λ p. seen p i; written = λ p. written p i; drawn = λ p. (drawn p ∙ or-is (p == page) (kept p).drawn) i }
  where
    or-is : (a b : Bool) → (if a then true else b) ≡ (a || b)
    or-is true b = refl
    or-is false b = refl

-- behind an image that was put
pub attempt-wrote : (array : Array) (kept : ℕ → Kept) (page : ℕ) (image : List ℕ)
    → attempt_of array (kept_but page (record (kept page) { put = Some image }) kept) ≡ wrote page image (attempt_of array kept)
attempt-wrote array kept page image =
    let new : Kept = record (kept page) { put = Some image } in
    let seen = same-but (λ (q : ℕ) (k : Kept). seen_of (array q) k) page new kept refl in
    let written = at-but (λ (q : ℕ) (k : Kept). k.put) (λ (q : ℕ). Some image) page new kept refl in
    let drawn = same-but (λ (q : ℕ) (k : Kept). k.drawn) page new kept refl in
    λ i. record { seen = λ p. seen p i; written = λ p. written p i; drawn = λ p. drawn p i }

-- one test of all pages, behind a call that keeps one page otherwise
pub how_many-but : (f : ℕ → Kept → Bool) (page : ℕ) (new : Kept) (kept : ℕ → Kept) → page < 65536
    → how_many (λ p. f p (kept_but page new kept p)) page_count + one (f page (kept page))
    ≡ how_many (λ p. f p (kept p)) page_count + one (f page new)
how_many-but f page new kept within =
    let counted = how_many-at (λ (p : ℕ). f p (kept p)) (λ (p : ℕ). f p (kept_but page new kept p)) page page_count
    (below_page_count page within) (λ p other. ap (f p) (but-other page new kept p other)) in
    let here : f page (kept_but page new kept page) ≡ f page new = ap (f page) (but-here page new kept) in
    counted ∙ ap (λ (b : Bool). how_many (λ p. f p (kept p)) page_count + one b) here
