-- What the calls leave, where the table stands in a vector.
use Rattle.std.proofs.Common.{◌≡◌, ℕ, ◌+◌, ◌-◌, ◌<◌, ◌≤◌, Bool, true, false, not, ◌⊎◌, inl, inr, List, length, Option, Some, None, is_some, IfSome, refl, ap, ◌∙◌, sym, subst, arith}
use Rattle.std.specs.Str.{bytes_eq}
use Rattle.std.specs.Prelude.{slice_set, if◌then◌else◌}
use Rattle.std.specs.Vec.{with_items}
use Rattle.std.specs.Global.{Vec}
use Rattle.std.proofs.lemmas.Bool.{cases_Bool}
use Rattle.std.proofs.lemmas.List.{length-set, with_items_is}
use Rattle.st_image.specs.Fields.{blank}
use Rattle.st_pages.specs.Attempt.{Attempt, IsImage, saw, wrote, drew, image_or, differs, changed as changed_of, page_count}
use Rattle.st_pages.specs.Calls.{MayBeDrawn, TakesAtMostOne, Room}
use Rattle.st_memory_pages.specs.Slots.{Kept, array_of, kept_of, kept_but, attempt_of, is_free, is_changed, one}
use Rattle.st_memory_pages.specs.Sound.{IsSound}
use Rattle.st_memory_pages.specs.Whole.{seen-within}
use Rattle.st_memory_pages.proofs.Blank.{bytes_eq-true}
use Rattle.st_memory_pages.proofs.Counting.{page_count-is, how_many-some, how_many-none, how_many-most, below_page_count}
use Rattle.st_memory_pages.proofs.Keeping.{kept_of-set, attempt-saw, attempt-drew, attempt-wrote, how_many-but}
use Rattle.st_memory_pages.proofs.Sounding.{kept-saw, kept-drew, kept-wrote, sound-by, was-free}

pub items-are : (table : Vec Kept) (new : List Kept) (page : ℕ) (slot : Kept) → new ≡ slice_set table.items page slot
    → (with_items table new).items ≡ slice_set table.items page slot
items-are table new page slot e =
    with_items_is table new (ap (λ (l : List Kept). length l) e ∙ length-set table.items page slot ∙ sym table.ok.0) ∙ e

attempt-by : (images : List (List ℕ)) (table : Vec Kept) (new : List Kept) (page : ℕ) (slot : Kept)
    → page < length table.items → new ≡ slice_set table.items page slot
    → attempt_of (array_of images) (kept_of (with_items table new).items)
    ≡ attempt_of (array_of images) (kept_but page slot (kept_of table.items))
attempt-by images table new page slot within e =
    ap (λ (t : List Kept). attempt_of (array_of images) (kept_of t)) (items-are table new page slot e)
    ∙ ap (λ (k : ℕ → Kept). attempt_of (array_of images) k) (kept_of-set table.items page slot within)

-- a page is seen
pub get-sound : (images : List (List ℕ)) (table : Vec Kept) (new : List Kept) (page changed left in_use cursor : ℕ)
    → page < 65536 → IsSound images table.items changed left in_use cursor
    → new ≡ slice_set table.items page (record (kept_of table.items page) { seen = true })
    → IsSound images (with_items table new).items changed left in_use cursor
get-sound images table new page changed left in_use cursor within sound e =
    subst (λ (t : List Kept). IsSound images t changed left in_use cursor) (sym (items-are table new page _ e))
    (sound-by images table.items page (record (kept_of table.items page) { seen = true }) changed left in_use cursor within sound.size
    (kept-saw (array_of images) (kept_of table.items) page changed left in_use cursor within sound.kept))

put-none : (seen : Bool) (put : Option (List ℕ)) (image : List ℕ) → (is_some put ≡ true → seen ≡ true) → seen ≡ false
    → image ≡ image_or image put
put-none seen None image if_put unseen = refl
put-none seen (Some last) image if_put unseen = let e : seen ≡ true = if_put refl in cc

pub get-saw : (images : List (List ℕ)) (table : Vec Kept) (new : List Kept) (frame : List ℕ) (page changed left in_use cursor : ℕ)
    → page < 65536 → IsSound images table.items changed left in_use cursor
    → new ≡ slice_set table.items page (record (kept_of table.items page) { seen = true })
    → frame ≡ image_or (array_of images page) (kept_of table.items page).put
    → attempt_of (array_of images) (kept_of (with_items table new).items) ≡ saw page frame (attempt_of (array_of images) (kept_of table.items))
get-saw images table new frame page changed left in_use cursor within sound e known =
    let size = sound.size in
    let here = sound.kept.each page in
    attempt-by images table new page (record (kept_of table.items page) { seen = true }) (omega (arith, within, size)) e
    ∙ attempt-saw (array_of images) (kept_of table.items) page frame
    (λ unseen. put-none (kept_of table.items page).seen (kept_of table.items page).put (array_of images page) here.put_seen unseen ∙ sym known)

-- a changed page is counted
pub changed-counted : (images : List (List ℕ)) (table : List Kept) (page changed left in_use cursor : ℕ)
    → page < 65536 → IsSound images table changed left in_use cursor
    → one (is_changed (array_of images page) (kept_of table page)) ≤ changed
changed-counted images table page changed left in_use cursor within sound =
    at (cases_Bool (is_changed (array_of images page) (kept_of table page)))
  where
    at : ((is_changed (array_of images page) (kept_of table page) ≡ true) ⊎ (is_changed (array_of images page) (kept_of table page) ≡ false))
        → one (is_changed (array_of images page) (kept_of table page)) ≤ changed
    at (inl is) =
        let some = how_many-some (λ (p : ℕ). is_changed (array_of images p) (kept_of table p)) page page_count (below_page_count page within) is in
        let counted = sound.kept.changes in
        rw is (omega (arith, some, counted))
    at (inr isnt) = rw isnt (omega arith)

-- a page that can be drawn is counted
pub left-some : (images : List (List ℕ)) (table : List Kept) (page changed left in_use cursor : ℕ)
    → page < 65536 → IsSound images table changed left in_use cursor → is_free (kept_of table page) ≡ true → 1 ≤ left
left-some images table page changed left in_use cursor within sound is =
    let some = how_many-some (λ (p : ℕ). is_free (kept_of table p)) page page_count (below_page_count page within) is in
    let counted = sound.kept.free in
    omega (arith, some, counted)

pub free-counted : (images : List (List ℕ)) (table : List Kept) (page changed left in_use cursor : ℕ)
    → page < 65536 → IsSound images table changed left in_use cursor → one (is_free (kept_of table page)) ≤ left
free-counted images table page changed left in_use cursor within sound =
    at (cases_Bool (is_free (kept_of table page)))
  where
    at : ((is_free (kept_of table page) ≡ true) ⊎ (is_free (kept_of table page) ≡ false)) → one (is_free (kept_of table page)) ≤ left
    at (inl is) = let some = left-some images table page changed left in_use cursor within sound is in rw is some
    at (inr isnt) = rw isnt (omega arith)

pub left-most : (images : List (List ℕ)) (table : List Kept) (changed left in_use cursor : ℕ)
    → IsSound images table changed left in_use cursor → left ≤ 65536
left-most images table changed left in_use cursor sound =
    let most = how_many-most (λ (p : ℕ). is_free (kept_of table p)) page_count in
    let counted = sound.kept.free in
    let count = page_count-is in
    omega (arith, most, counted, count)

-- where none can be drawn, none is left
pub left-none : (images : List (List ℕ)) (table : List Kept) (changed left in_use cursor : ℕ)
    → IsSound images table changed left in_use cursor → ((p : ℕ) → p < length table → is_free (kept_of table p) ≡ false) → left ≡ 0
left-none images table changed left in_use cursor sound none =
    let size = sound.size in
    let count = page_count-is in
    sound.kept.free ∙ how_many-none (λ (p : ℕ). is_free (kept_of table p)) page_count
    (λ p below. none p (omega (arith, below, size, count)))

-- a page is drawn
pub fresh-sound : (images : List (List ℕ)) (table : Vec Kept) (new : List Kept) (page changed left in_use cursor : ℕ)
    → page < 65536 → IsSound images table.items changed left in_use cursor → is_free (kept_of table.items page) ≡ true
    → ((p : ℕ) → p < page → is_free (kept_of table.items p) ≡ false)
    → new ≡ slice_set table.items page (record (kept_of table.items page) { seen = true; drawn = true })
    → IsSound images (with_items table new).items changed (left - 1) in_use (page + 1)
fresh-sound images table new page changed left in_use cursor within sound is first e =
    let some = left-some images table.items page changed left in_use cursor within sound is in
    subst (λ (t : List Kept). IsSound images t changed (left - 1) in_use (page + 1)) (sym (items-are table new page _ e))
    (sound-by images table.items page (record (kept_of table.items page) { seen = true; drawn = true }) changed (left - 1) in_use (page + 1) within sound.size
    (kept-drew (array_of images) (kept_of table.items) page changed left in_use cursor (left - 1) within sound.kept is (omega (arith, some)) first))

pub blank-here : (images : List (List ℕ)) (table : List Kept) (page changed left in_use cursor : ℕ)
    → IsSound images table changed left in_use cursor → is_free (kept_of table page) ≡ true → array_of images page ≡ blank
blank-here images table page changed left in_use cursor sound is =
    let here = sound.kept.each page in
    let was = was-free (kept_of table page) is in
    bytes_eq-true (array_of images page) blank (sym here.is_blank ∙ was.is_blank)

pub fresh-drew : (images : List (List ℕ)) (table : Vec Kept) (new : List Kept) (page changed left in_use cursor : ℕ)
    → page < 65536 → IsSound images table.items changed left in_use cursor → is_free (kept_of table.items page) ≡ true
    → new ≡ slice_set table.items page (record (kept_of table.items page) { seen = true; drawn = true })
    → attempt_of (array_of images) (kept_of (with_items table new).items) ≡ drew page (attempt_of (array_of images) (kept_of table.items))
fresh-drew images table new page changed left in_use cursor within sound is e =
    let size = sound.size in
    attempt-by images table new page (record (kept_of table.items page) { seen = true; drawn = true }) (omega (arith, within, size)) e
    ∙ attempt-drew (array_of images) (kept_of table.items) page
    (λ _. blank-here images table.items page changed left in_use cursor sound is)

seen-blank : (seen : Bool) (image : List ℕ) → image ≡ blank → IfSome (if seen then Some image else None) (λ i. i ≡ blank)
seen-blank true image is = is
seen-blank false image is = tt

pub may-be-drawn : (images : List (List ℕ)) (table : List Kept) (page changed left in_use cursor : ℕ)
    → page < 65536 → IsSound images table changed left in_use cursor → is_free (kept_of table page) ≡ true
    → MayBeDrawn (attempt_of (array_of images) (kept_of table)) page
may-be-drawn images table page changed left in_use cursor within sound is =
    let was = was-free (kept_of table page) is in
    record {
      within = within;
      seen = seen-blank (kept_of table page).seen (array_of images page) (blank-here images table page changed left in_use cursor sound is);
      written = was.put;
      drawn = was.drawn;
    }

-- an image is put
pub put-sound : (images : List (List ℕ)) (table : Vec Kept) (new : List Kept) (image : List ℕ)
    (page changed left in_use cursor changes free : ℕ)
    → IsSound images table.items changed left in_use cursor → (kept_of table.items page).seen ≡ true → IsImage image
    → changes + one (is_changed (array_of images page) (kept_of table.items page)) ≡ changed + one (not (bytes_eq (array_of images page) image))
    → changes ≤ 4000
    → free + one (is_free (kept_of table.items page)) ≡ left
    → new ≡ slice_set table.items page (record (kept_of table.items page) { put = Some image })
    → IsSound images (with_items table new).items changes free in_use cursor
put-sound images table new image page changed left in_use cursor changes free sound seen is_image changed_by few freed e =
    let within = seen-within images table.items page changed left in_use cursor sound seen in
    subst (λ (t : List Kept). IsSound images t changes free in_use cursor) (sym (items-are table new page _ e))
    (sound-by images table.items page (record (kept_of table.items page) { put = Some image }) changes free in_use cursor within sound.size
    (kept-wrote (array_of images) (kept_of table.items) page image changed left in_use cursor changes free within sound.kept seen is_image changed_by few freed))

pub put-wrote : (images : List (List ℕ)) (table : Vec Kept) (new : List Kept) (image : List ℕ) (page changed left in_use cursor : ℕ)
    → IsSound images table.items changed left in_use cursor → (kept_of table.items page).seen ≡ true
    → new ≡ slice_set table.items page (record (kept_of table.items page) { put = Some image })
    → attempt_of (array_of images) (kept_of (with_items table new).items) ≡ wrote page image (attempt_of (array_of images) (kept_of table.items))
put-wrote images table new image page changed left in_use cursor sound seen e =
    let size = sound.size in
    let within = seen-within images table.items page changed left in_use cursor sound seen in
    attempt-by images table new page (record (kept_of table.items page) { put = Some image }) (omega (arith, within, size)) e
    ∙ attempt-wrote (array_of images) (kept_of table.items) page image

-- how many pages would be changed, where an image isn't put
pub put-changes : (images : List (List ℕ)) (table : List Kept) (image : List ℕ) (page changed left in_use cursor changes : ℕ)
    → IsSound images table changed left in_use cursor → (kept_of table page).seen ≡ true
    → changes + one (is_changed (array_of images page) (kept_of table page)) ≡ changed + one (not (bytes_eq (array_of images page) image))
    → changed_of (wrote page image (attempt_of (array_of images) (kept_of table))) ≡ changes
put-changes images table image page changed left in_use cursor changes sound seen changed_by =
    let within = seen-within images table page changed left in_use cursor sound seen in
    let moved = how_many-but (λ (p : ℕ) (k : Kept). is_changed (array_of images p) k) page (record (kept_of table page) { put = Some image }) (kept_of table) within in
    let is : is_changed (array_of images page) (record (kept_of table page) { put = Some image }) ≡ not (bytes_eq (array_of images page) image) =
    changed-is (kept_of table page).seen (array_of images page) image seen in
    let ones : one (is_changed (array_of images page) (record (kept_of table page) { put = Some image })) ≡ one (not (bytes_eq (array_of images page) image)) =
    ap (λ (b : Bool). one b) is in
    let counted = sound.kept.changes in
    let all : changed_of (attempt_of (array_of images) (kept_but page (record (kept_of table page) { put = Some image }) (kept_of table))) ≡ changes =
    omega (arith, moved, ones, counted, changed_by) in
    ap (λ (a : Attempt). changed_of a) (sym (attempt-wrote (array_of images) (kept_of table) page image)) ∙ all
  where
    changed-is : (seen : Bool) (here image : List ℕ) → seen ≡ true → differs (if seen then Some here else None) (Some image) ≡ not (bytes_eq here image)
    changed-is true here image is = refl
    changed-is false here image is = cc

-- what is left behind an image that was put
pub put-room : (images : List (List ℕ)) (table : List Kept) (page changed left in_use cursor free : ℕ) (was : Bool)
    → IsSound images table changed left in_use cursor → (kept_of table page).seen ≡ true
    → was ≡ is_free (kept_of table page) → free + one was ≡ left
    → TakesAtMostOne (attempt_of (array_of images) (kept_of table)) page
    (Some (record { in_use = in_use; left = left })) (Some (record { in_use = in_use; left = free }))
put-room images table page changed left in_use cursor free true sound seen is freed =
    let within = seen-within images table page changed left in_use cursor sound seen in
    inr (may-be-drawn images table page changed left in_use cursor within sound (sym is), (free, omega (arith, freed), refl))
put-room images table page changed left in_use cursor free false sound seen isnt freed =
    let same : free ≡ left = omega (arith, freed) in
    let room : ℕ → Option Room = λ n. Some (record { in_use = in_use; left = n }) in
    inl (ap room same)
