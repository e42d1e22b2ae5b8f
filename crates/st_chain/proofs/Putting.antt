-- What is left in pages behind calls that put some.
use Rattle.std.proofs.Common.{◌≡◌, ◌≢◌, ℕ, ◌+◌, ◌<◌, ◌≤◌, ◌⊎◌, ◌==◌, ◌&&◌, Bool, true, false, if◌then◌else◌, List, ◌∷◌, ◌++◌, length, take, drop, Option, Some, None, Result, Ok, Err, OnOk, IsSome, IsTrue, refl, sym, ap, subst, ◌∙◌, inl, arith, true≢false}
use Rattle.std.proofs.lemmas.Bool.Decides.{nat_tests}
use Rattle.std.specs.Prelude.{not, slice_get, is_some}
use Rattle.st_values.proofs.Tests.{both, left, never, right}
use Rattle.st_page.specs.declared.fault.PageFault.{PageFault}
use Rattle.st_image.specs.Fields.{blank, count_of, kind_of, rows_of, with_next}
use Rattle.st_page_rows.specs.PageRows.{IsAbsent, IsThere}
use Rattle.st_page_rows.proofs.Standing.{absent-none, absent-with, absent-without, there-found, there-some, there-with, there-within, there-without}
use Rattle.st_pages.specs.Attempt.{Array, Attempt, Agrees, image_or, over, wrote}
use Rattle.st_pages.specs.Calls.{Met, HandsOn, IsWithin}
use Rattle.st_pages.specs.Reading.{ForEach}
use Rattle.st_pages.specs.declared.places.Place.{Place}
use Rattle.st_pages.proofs.Attempted.{put-is}
use Rattle.st_pages.proofs.Carried.{handed, over-same, Stays, later}
use Rattle.st_store.specs.Rows.{row_with, without_row}
use Rattle.st_store.specs.Stores.{ForBoth, drew_between}
use Rattle.st_store.proofs.Ordering.{key-of-key}
use Rattle.st_chain.specs.Changes.{IsAsItWas, IsDrawn, IsEdit, IsGone, IsKept, IsMade, IsParted, IsPutIn, IsRid, IsSplit, IsUnlinked, either_of, page_or_drawn}
use Rattle.st_chain.specs.declared.walk.Spot.{Spot}
use Rattle.st_chain.proofs.Parting.{rows-length}

pub on-ok : (X Y : Type 0) (r : Result Unit PageFault) → OnOk r X → (X → Y) → OnOk r Y
on-ok X Y (Ok x) h f = f h
on-ok X Y (Err e) h f = tt

pub handed-on : {A : Type 0} (old mid new : Met) (r : Result A PageFault) → old.count ≤ mid.count → HandsOn mid new r → HandsOn old new r
handed-on old mid new (Ok x) below on = tt
handed-on old mid new (Err fault) below on = handed old mid new _ below on

-- ---- numbers of pages

pub page-itself : (page : ℕ) → (page == page) ≡ true
page-itself page = grind (arith, nat_tests)

pub same-page : (page other : ℕ) → (page == other) ≡ true → page ≡ other
same-page page other e = grind (arith, nat_tests)

pub other-page : (page other : ℕ) → page ≢ other → (page == other) ≡ false
other-page page other ne = never (page == other) (λ h. ne (same-page page other h))

-- ---- what was drawn

pub drew-later : (a b d : Attempt) (page : ℕ) → IsTrue (drew_between a b page) → (IsTrue (b.drawn page) → IsTrue (d.drawn page)) → IsTrue (drew_between a d page)
drew-later a b d page drew stays =
    both (d.drawn page) (not (a.drawn page)) (stays (left (b.drawn page) (not (a.drawn page)) drew)) (right (b.drawn page) (not (a.drawn page)) drew)

pub none-drawn : (b : Bool) → (b && not b) ≡ false
none-drawn true = refl
none-drawn false = refl

pub split-within : (a d : Attempt) (page drawn : ℕ) → IsTrue (drew_between a d drawn) → IsWithin (either_of drawn page) (page_or_drawn a d page)
split-within a d page drawn drew other here = go (other == page) (other == drawn) refl refl here
  where
    go : (b e : Bool) → (other == page) ≡ b → (other == drawn) ≡ e → IsTrue (either_of drawn page other) → IsTrue (page_or_drawn a d page other)
    go true e f k here = rw f refl
    go false true f k here = let same : other ≡ drawn = same-page other drawn k in let is : drew_between a d other ≡ true = ap (drew_between a d) same ∙ drew in rw (f, is) refl
    go false false f k here = absurd (true≢false (sym here ∙ rw (f, k) refl))

-- what was seen is seen
pub some-stays : (a b : Attempt) (page : ℕ) → Stays a b → IsSome (a.seen page) → IsSome (b.seen page)
some-stays a b page stays some = go (a.seen page) refl
  where
    go : (o : Option (List ℕ)) → a.seen page ≡ o → IsSome (b.seen page)
    go None e = absurd (true≢false (sym some ∙ ap is_some e))
    go (Some image) e = ap is_some (stays page image e)

-- ---- what was put

pub put-there : (a : Attempt) (page : ℕ) (image : List ℕ) (array : Array) → over (wrote page image a) array page ≡ image
put-there a page image array =
    put-is a page image array page ∙ ap (λ (t : Bool). if t then image else over a array page) (page-itself page)

pub put-elsewhere : (a : Attempt) (page : ℕ) (image : List ℕ) (array : Array) (other : ℕ) → other ≢ page → over (wrote page image a) array other ≡ over a array other
put-elsewhere a page image array other ne =
    put-is a page image array other ∙ ap (λ (t : Bool). if t then image else over a array other) (other-page other page ne)

-- the image that was there is put
pub put-same : (a : Attempt) (page : ℕ) (image : List ℕ) (array : Array) (other : ℕ) → over a array page ≡ image → over (wrote page image a) array other ≡ over a array other
put-same a page image array other at = go (other == page) refl
  where
    go : (b : Bool) → (other == page) ≡ b → over (wrote page image a) array other ≡ over a array other
    go true e =
        let same : other ≡ page = same-page other page e in
        put-is a page image array other ∙ ap (λ (t : Bool). if t then image else over a array other) e ∙ sym at ∙ ap (over a array) (sym same)
    go false e = put-is a page image array other ∙ ap (λ (t : Bool). if t then image else over a array other) e

pub edit-of : (place : Place) (a d : Attempt) (array : Array) (page : ℕ) (image new : List ℕ) (rows : List (List ℕ)) → d ≡ wrote page new a → IsMade place.width image new rows
    → IsEdit place (drew_between a d) (over a array) (over d array) page image rows
edit-of place a d array page image new rows is made = record {
  new = new;
  made = made;
  is = ap (λ (x : Attempt). over x array page) is ∙ put-there a page new array;
  elsewhere = λ other ne. ap (λ (x : Attempt). over x array other) is ∙ put-elsewhere a page new array other ne;
  none = λ other. ap (λ (x : Attempt). drew_between a x other) is ∙ none-drawn (a.drawn other);
}

pub edit-on-ok : (place : Place) (a d : Attempt) (r : Result Unit PageFault) (page : ℕ) (image new : List ℕ) (rows : List (List ℕ)) → OnOk r (d ≡ wrote page new a) → IsMade place.width image new rows
    → OnOk r (ForBoth a d (λ before after. before page ≡ image → IsEdit place (drew_between a d) before after page image rows ⊎ IsSplit place (drew_between a d) before after page image rows))
edit-on-ok place a d (Ok x) page image new rows is made = λ array agrees at. inl (edit-of place a d array page image new rows is made)
edit-on-ok place a d (Err fault) page image new rows is made = tt

pub kind-blank : kind_of blank ≡ 0
unfolding blank
kind-blank = refl

pub no-page-of-blank : (image : List ℕ) → image ≡ blank → kind_of image ≡ 2 → ⊥
no-page-of-blank image e k = let zero : kind_of image ≡ 0 = ap kind_of e ∙ kind-blank in omega arith

pub split-of : (place : Place) (a b d : Attempt) (array : Array) (page drawn : ℕ) (image left_page named right_page : List ℕ) (rows : List (List ℕ)) → IsDrawn a b drawn → b.written ≡ a.written
    → named ≡ with_next drawn left_page → d ≡ wrote page named (wrote drawn right_page b) → ((p : ℕ) → IsTrue (d.drawn p) → d.seen p ≡ Some blank) → Agrees d array
    → IsParted place.width image left_page right_page rows → kind_of image ≡ 2 → over a array page ≡ image → IsSplit place (drew_between a d) (over a array) (over d array) page image rows
split-of place a b d array page drawn image left_page named right_page rows is_drawn unwritten names is blanks agrees parts kind at =
    let drew_same : (p : ℕ) → drew_between a d p ≡ drew_between a b p = λ p. ap (λ (x : Attempt). drew_between a x p) is in
    let blank_there : (p : ℕ) → IsTrue (drew_between a d p) → over a array p ≡ blank = λ p drew.
    ap (image_or (array p)) (is_drawn.unwritten p (sym (drew_same p) ∙ drew)) ∙ agrees p blank (blanks p (left (d.drawn p) (not (a.drawn p)) drew)) in
    let drew : IsTrue (drew_between a d drawn) = drew_same drawn ∙ is_drawn.drew in
    let apart : drawn ≢ page = λ e. no-page-of-blank image (sym at ∙ ap (over a array) (sym e) ∙ blank_there drawn drew) kind in
    record {
      drawn = drawn;
      left = left_page;
      right = right_page;
      some = is_drawn.some;
      within = is_drawn.within;
      is_drawn = drew;
      blanks = blank_there;
      parts = parts;
      is = ap (λ (x : Attempt). over x array page) is ∙ put-there (wrote drawn right_page b) page named array ∙ names;
      other = ap (λ (x : Attempt). over x array drawn) is ∙ put-elsewhere (wrote drawn right_page b) page named array drawn apart ∙ put-there b drawn right_page array;
      elsewhere = λ other ne differs.
          ap (λ (x : Attempt). over x array other) is ∙ put-elsewhere (wrote drawn right_page b) page named array other ne ∙ put-elsewhere b drawn right_page array other differs
          ∙ ap (λ (x : Array). x other) (over-same a b array unwritten);
    }

-- ---- a row is put into a page

pub no-row : (row : List ℕ) → None ≡ Some row → ⊥
no-row row e = cc

pub no-some : (o : Option (List ℕ)) → o ≡ None → IsTrue (is_some o) → ⊥
no-some o e h = true≢false (sym h ∙ ap is_some e)

module _ (place : Place) (image row sought : List ℕ) (k index : ℕ) (e : k ≡ place.key) (f : sought ≡ take place.key row) where
  there-at : IsThere k sought (rows_of place.width image) index → IsThere place.key (take place.key row) (rows_of place.width image) index
  there-at h = subst (λ (s : List ℕ). IsThere place.key s (rows_of place.width image) index) f (subst (λ (n : ℕ). IsThere n sought (rows_of place.width image) index) e h)

  absent-at : IsAbsent k sought (rows_of place.width image) index → IsAbsent place.key (take place.key row) (rows_of place.width image) index
  absent-at h = subst (λ (s : List ℕ). IsAbsent place.key s (rows_of place.width image) index) f (subst (λ (n : ℕ). IsAbsent n sought (rows_of place.width image) index) e h)

  pub index-there : IsThere k sought (rows_of place.width image) index → index < count_of image
  index-there h =
      let within : index < length (rows_of place.width image) = there-within place.key (take place.key row) row (rows_of place.width image) index (key-of-key place.key row) (there-at h) in
      let all : length (rows_of place.width image) ≡ count_of image = rows-length place.width image in
      omega arith

  pub index-absent : IsAbsent k sought (rows_of place.width image) index → index ≤ count_of image
  index-absent h =
      let within : index ≤ length (rows_of place.width image) = h.within in
      let all : length (rows_of place.width image) ≡ count_of image = rows-length place.width image in
      omega arith

  pub found-at : IsThere k sought (rows_of place.width image) index → row_with place.key row (rows_of place.width image) ≡ slice_get (rows_of place.width image) index
  found-at h = there-found place.key (take place.key row) row (rows_of place.width image) index (key-of-key place.key row) (there-at h)

  pub none-at : IsAbsent k sought (rows_of place.width image) index → row_with place.key row (rows_of place.width image) ≡ None
  none-at h = absent-none place.key (take place.key row) row (rows_of place.width image) index (key-of-key place.key row) (absent-at h)

  pub put-over : (a d : Attempt) (array : Array) (page : ℕ) (new : List ℕ) → IsThere k sought (rows_of place.width image) index → d ≡ wrote page new a
      → IsMade place.width image new (take index (rows_of place.width image) ++ row ∷ drop (index + 1) (rows_of place.width image))
      → (slice_get (rows_of place.width image) index ≡ Some row → new ≡ image) → over a array page ≡ image → IsPutIn place (drew_between a d) (over a array) (over d array) page image row true
  put-over a d array page new there is made same at =
      let rows = rows_of place.width image in
      let key_is = key-of-key place.key row in
      let h = there-at there in
      record {
        was_there = sym (there-some place.key (take place.key row) row rows index key_is h);
        same = λ found other.
            ap (λ (x : Attempt). over x array other) is
            ∙ put-same a page new array other (at ∙ sym (same (sym (found-at there) ∙ found)));
        changed = inl (subst (IsEdit place (drew_between a d) (over a array) (over d array) page image) (there-with place.key (take place.key row) row rows index key_is h)
            (edit-of place a d array page image new (take index rows ++ row ∷ drop (index + 1) rows) is made));
      }

  pub put-new : (a d : Attempt) (before after : Array) (page : ℕ) → IsAbsent k sought (rows_of place.width image) index
      → (IsEdit place (drew_between a d) before after page image (take index (rows_of place.width image) ++ row ∷ drop index (rows_of place.width image))
      ⊎ IsSplit place (drew_between a d) before after page image (take index (rows_of place.width image) ++ row ∷ drop index (rows_of place.width image)))
      → IsPutIn place (drew_between a d) before after page image row false
  put-new a d before after page absent changed =
      let rows = rows_of place.width image in
      let key_is = key-of-key place.key row in
      let h = absent-at absent in
      let none : row_with place.key row rows ≡ None = none-at absent in
      record {
        was_there = ap is_some (sym none);
        same = λ found. absurd (no-row _ (sym none ∙ found));
        changed = subst (λ (r : List (List ℕ)). IsEdit place (drew_between a d) before after page image r ⊎ IsSplit place (drew_between a d) before after page image r)
            (absent-with place.key (take place.key row) row rows index key_is h) changed;
      }

-- ---- a row is taken out of a page

module _ (place : Place) (image key : List ℕ) (k index : ℕ) (e : k ≡ place.key) (f : length key ≡ place.key) where
  there-in : IsThere k key (rows_of place.width image) index → IsThere place.key key (rows_of place.width image) index
  there-in h = subst (λ (n : ℕ). IsThere n key (rows_of place.width image) index) e h

  absent-in : IsAbsent k key (rows_of place.width image) index → IsAbsent place.key key (rows_of place.width image) index
  absent-in h = subst (λ (n : ℕ). IsAbsent n key (rows_of place.width image) index) e h

  pub index-in : IsThere k key (rows_of place.width image) index → index < count_of image
  index-in h =
      let within : index < length (rows_of place.width image) = there-within place.key key key (rows_of place.width image) index refl (there-in h) in
      let all : length (rows_of place.width image) ≡ count_of image = rows-length place.width image in
      omega arith

  -- there is a row with the key
  pub some-at : IsThere k key (rows_of place.width image) index → row_with place.key key (rows_of place.width image) ≡ None → ⊥
  some-at h none = no-some (row_with place.key key (rows_of place.width image)) none (there-some place.key key key (rows_of place.width image) index refl (there-in h))

  pub taken-away : (before after : Array) (spot : Spot) (new : List ℕ) → IsThere k key (rows_of place.width image) index
      → IsMade place.width image new (take index (rows_of place.width image) ++ drop (index + 1) (rows_of place.width image))
      → (IsKept before after spot new ⊎ IsGone before after spot new)
      → IsTrue (is_some (row_with place.key key (rows_of place.width image))) × IsRid place before after spot image (without_row place.key key (rows_of place.width image))
  taken-away before after spot new there made goes =
      let rows = rows_of place.width image in
      let h = there-in there in (
        there-some place.key key key rows index refl h,
        record {
          new = new;
          made = subst (IsMade place.width image new) (there-without place.key key key rows index refl h) made;
          goes = goes;
        },
      )

  pub as-it-was : (a d : Attempt) (array : Array) (page : ℕ) → IsAbsent k key (rows_of place.width image) index → d ≡ wrote page image a → over a array page ≡ image
      → IsAsItWas place (over a array) (over d array) image key
  as-it-was a d array page absent is at =
      let rows = rows_of place.width image in
      let h = absent-in absent in
      record {
        none = absent-none place.key key key rows index refl h;
        rows = sym (absent-without place.key key key rows index refl h);
        same = λ other. ap (λ (x : Attempt). over x array other) is ∙ put-same a page image array other at;
      }

-- a page is taken out of its chain
pub unlinked : (a b d : Attempt) (array : Array) (previous page next : ℕ) (frame named gone : List ℕ) → b.written ≡ a.written → Stays b d → ForEach a b (λ x. x previous ≡ frame)
    → named ≡ with_next next frame → gone ≡ blank → d ≡ wrote page gone (wrote previous named b) → Agrees d array → IsUnlinked (over a array) (over d array) previous page next
unlinked a b d array previous page next frame named gone unwritten stays at names empty is agrees =
    let here : over a array previous ≡ frame = later a b d (λ x. x previous ≡ frame) stays at array agrees in
    record {
      names = λ apart.
          ap (λ (x : Attempt). over x array previous) is ∙ put-elsewhere (wrote previous named b) page gone array previous apart ∙ put-there b previous named array
          ∙ names ∙ ap (with_next next) (sym here);
      gone = ap (λ (x : Attempt). over x array page) is ∙ put-there (wrote previous named b) page gone array ∙ empty;
      elsewhere = λ other ne differs.
          ap (λ (x : Attempt). over x array other) is ∙ put-elsewhere (wrote previous named b) page gone array other differs ∙ put-elsewhere b previous named array other ne
          ∙ ap (λ (x : Array). x other) (over-same a b array unwritten);
    }
