-- That what is kept stays sound.
use Rattle.std.proofs.Common.{◌≡◌, ℕ, ◌+◌, ◌<◌, ◌≤◌, Bool, true, false, not, ◌&&◌, inl, inr, List, length, Option, Some, None, is_some, refl, ap, ◌∙◌, sym, subst, arith}
use Rattle.std.specs.Str.{bytes_eq}
use Rattle.std.specs.Prelude.{slice_set, if◌then◌else◌}
use Rattle.std.proofs.lemmas.Bool.{cases_eq}
use Rattle.std.proofs.lemmas.List.{length-set}
use Rattle.st_pages.specs.Attempt.{Array, IsImage, differs, how_many, page_count}
use Rattle.st_memory_pages.specs.Slots.{Kept, IsKept, array_of, kept_of, kept_but, is_free, is_changed, one}
use Rattle.st_memory_pages.specs.Sound.{AreKept, IsSound}
use Rattle.st_memory_pages.proofs.Keeping.{but-here, but-other, kept_of-set, how_many-but}

-- one page is kept otherwise
pub kept-step : (array : Array) (kept : ℕ → Kept) (page : ℕ) (new : Kept) (changed left in_use cursor changes free below : ℕ)
    → page < 65536 → AreKept array kept changed left in_use cursor → IsKept (array page) new
    → changes + one (is_changed (array page) (kept page)) ≡ changed + one (is_changed (array page) new)
    → changes ≤ 4000
    → free + one (is_free (kept page)) ≡ left + one (is_free new)
    → ((p : ℕ) → p < below → is_free (kept_but page new kept p) ≡ false)
    → AreKept array (kept_but page new kept) changes free in_use below
kept-step array kept page new changed left in_use cursor changes free below within sound is_kept changed_by few freed_by none =
    record { each = each; changes = changes_are; few = few; free = free_are; used = used_are; below = none }
  where
    each : (p : ℕ) → IsKept (array p) (kept_but page new kept p)
    each p = elim (cases_eq p page) [
      | inl e ↦ subst (λ (q : ℕ). IsKept (array q) (kept_but page new kept q)) (sym e)
          (subst (λ (k : Kept). IsKept (array page) k) (sym (but-here page new kept)) is_kept)
      | inr other ↦ subst (λ (k : Kept). IsKept (array p) k) (sym (but-other page new kept p other)) (sound.each p)
    ]

    changes_are : changes ≡ how_many (λ p. is_changed (array p) (kept_but page new kept p)) page_count
    changes_are =
        let moved = how_many-but (λ (p : ℕ) (k : Kept). is_changed (array p) k) page new kept within in
        let were = sound.changes in
        omega (arith, moved, were, changed_by)

    free_are : free ≡ how_many (λ p. is_free (kept_but page new kept p)) page_count
    free_are =
        let moved = how_many-but (λ (p : ℕ) (k : Kept). is_free k) page new kept within in
        let were = sound.free in
        omega (arith, moved, were, freed_by)

    used_are : in_use ≡ how_many (λ p. not (kept_but page new kept p).is_blank) page_count
    used_are =
        let moved = how_many-but (λ (p : ℕ) (k : Kept). not k.is_blank) page new kept within in
        let same : new.is_blank ≡ (kept page).is_blank = is_kept.is_blank ∙ sym (sound.each page).is_blank in
        let ones : one (not new.is_blank) ≡ one (not (kept page).is_blank) = ap (λ (b : Bool). one (not b)) same in
        let were = sound.used in
        omega (arith, moved, were, ones)

differs-seen : (seen : Bool) (here : List ℕ) (put : Option (List ℕ)) → (is_some put ≡ true → seen ≡ true)
    → differs (if seen then Some here else None) put ≡ differs (Some here) put
differs-seen true here put if_put = refl
differs-seen false here None if_put = refl
differs-seen false here (Some last) if_put = let e : false ≡ true = if_put refl in cc

-- a page is seen
pub kept-saw : (array : Array) (kept : ℕ → Kept) (page changed left in_use cursor : ℕ)
    → page < 65536 → AreKept array kept changed left in_use cursor
    → AreKept array (kept_but page (record (kept page) { seen = true }) kept) changed left in_use cursor
kept-saw array kept page changed left in_use cursor within sound =
    kept-step array kept page new changed left in_use cursor changed left cursor within sound is_kept
    (ap (λ (b : Bool). changed + one b) (differs-seen (kept page).seen (array page) (kept page).put here.put_seen)) sound.few refl none
  where
    new : Kept
    new = record (kept page) { seen = true }

    here : IsKept (array page) (kept page)
    here = sound.each page

    is_kept : IsKept (array page) (record (kept page) { seen = true })
    is_kept = record {
      is_image = here.is_image;
      is_blank = here.is_blank;
      drawn = λ _. refl;
      drawn_blank = here.drawn_blank;
      put_seen = λ _. refl;
      put = here.put;
    }

    none : (p : ℕ) → p < cursor → is_free (kept_but page (record (kept page) { seen = true }) kept p) ≡ false
    none p below = elim (cases_eq p page) [
      | inl e ↦ subst (λ (q : ℕ). is_free (kept_but page (record (kept page) { seen = true }) kept q) ≡ false) (sym e)
          (ap (λ (k : Kept). is_free k) (but-here page (record (kept page) { seen = true }) kept)
          ∙ subst (λ (q : ℕ). is_free (kept q) ≡ false) e (sound.below p below))
      | inr other ↦ ap (λ (k : Kept). is_free k) (but-other page (record (kept page) { seen = true }) kept p other) ∙ sound.below p below
    ]

-- what a page that can be drawn is
pub record WasFree (kept : Kept) : Type 0 where
  pub is_blank : kept.is_blank ≡ true
  pub drawn : kept.drawn ≡ false
  pub put : kept.put ≡ None

pub was-free : (kept : Kept) → is_free kept ≡ true → WasFree kept
was-free kept free = record {
  is_blank = blank kept.is_blank kept.drawn kept.put free;
  drawn = drawn kept.is_blank kept.drawn kept.put free;
  put = put kept.is_blank kept.drawn kept.put free;
}
  where
    blank : (b d : Bool) (o : Option (List ℕ)) → (b && (not d && not (is_some o))) ≡ true → b ≡ true
    blank true d o e = refl
    blank false d o e = e

    drawn : (b d : Bool) (o : Option (List ℕ)) → (b && (not d && not (is_some o))) ≡ true → d ≡ false
    drawn true true o e = sym e
    drawn true false o e = refl
    drawn false d o e = cc

    put : (b d : Bool) (o : Option (List ℕ)) → (b && (not d && not (is_some o))) ≡ true → o ≡ None
    put true true o e = cc
    put true false None e = refl
    put true false (Some last) e = cc
    put false d o e = cc

free-not : (b : Bool) → (b && false) ≡ false
free-not true = refl
free-not false = refl

free-put : (b d : Bool) → (b && (not d && false)) ≡ false
free-put true true = refl
free-put true false = refl
free-put false d = refl

-- a page that can be drawn is drawn: it was the first one
pub kept-drew : (array : Array) (kept : ℕ → Kept) (page changed left in_use cursor free : ℕ)
    → page < 65536 → AreKept array kept changed left in_use cursor → is_free (kept page) ≡ true → free + 1 ≡ left
    → ((p : ℕ) → p < page → is_free (kept p) ≡ false)
    → AreKept array (kept_but page (record (kept page) { seen = true; drawn = true }) kept) changed free in_use (page + 1)
kept-drew array kept page changed left in_use cursor free within sound is_free_here freed first =
    kept-step array kept page new changed left in_use cursor changed free (page + 1) within sound is_kept
    (ap (λ (b : Bool). changed + one b) (differs-seen (kept page).seen (array page) (kept page).put here.put_seen)) sound.few
    freed_by none
  where
    new : Kept
    new = record (kept page) { seen = true; drawn = true }

    here : IsKept (array page) (kept page)
    here = sound.each page

    was : WasFree (kept page)
    was = was-free (kept page) is_free_here

    is_kept : IsKept (array page) (record (kept page) { seen = true; drawn = true })
    is_kept = record {
      is_image = here.is_image;
      is_blank = here.is_blank;
      drawn = λ _. refl;
      drawn_blank = λ _. was.is_blank;
      put_seen = λ _. refl;
      put = here.put;
    }

    isnt : is_free (record (kept page) { seen = true; drawn = true }) ≡ false
    isnt = free-not (kept page).is_blank

    freed_by : free + one (is_free (kept page)) ≡ left + one (is_free (record (kept page) { seen = true; drawn = true }))
    freed_by = rw (is_free_here, isnt) (omega (arith, freed))

    none : (p : ℕ) → p < page + 1 → is_free (kept_but page (record (kept page) { seen = true; drawn = true }) kept p) ≡ false
    none p below = elim (cases_eq p page) [
      | inl e ↦ subst (λ (q : ℕ). is_free (kept_but page (record (kept page) { seen = true; drawn = true }) kept q) ≡ false) (sym e)
          (ap (λ (k : Kept). is_free k) (but-here page (record (kept page) { seen = true; drawn = true }) kept) ∙ isnt)
      | inr other ↦ ap (λ (k : Kept). is_free k) (but-other page (record (kept page) { seen = true; drawn = true }) kept p other)
          ∙ first p (omega (arith, below, other))
    ]

-- an image is put of a page that was seen
pub kept-wrote : (array : Array) (kept : ℕ → Kept) (page : ℕ) (image : List ℕ) (changed left in_use cursor changes free : ℕ)
    → page < 65536 → AreKept array kept changed left in_use cursor → (kept page).seen ≡ true → IsImage image
    → changes + one (is_changed (array page) (kept page)) ≡ changed + one (not (bytes_eq (array page) image))
    → changes ≤ 4000
    → free + one (is_free (kept page)) ≡ left
    → AreKept array (kept_but page (record (kept page) { put = Some image }) kept) changes free in_use cursor
kept-wrote array kept page image changed left in_use cursor changes free within sound seen is_image changed_by few freed =
    kept-step array kept page (record (kept page) { put = Some image }) changed left in_use cursor changes free cursor within sound is_kept
    (changed_by ∙ ap (λ (b : Bool). changed + one b) (sym changed_is)) few freed_by none
  where
    here : IsKept (array page) (kept page)
    here = sound.each page

    is_kept : IsKept (array page) (record (kept page) { put = Some image })
    is_kept = record {
      is_image = here.is_image;
      is_blank = here.is_blank;
      drawn = here.drawn;
      drawn_blank = here.drawn_blank;
      put_seen = λ _. seen;
      put = λ last e. subst (λ (o : List ℕ). IsImage o) (some e) is_image;
    }
      where
        some : {a b : List ℕ} → Some a ≡ Some b → a ≡ b
        some e = cc

    changed_is : is_changed (array page) (record (kept page) { put = Some image }) ≡ not (bytes_eq (array page) image)
    changed_is = differs-seen (kept page).seen (array page) (Some image) (λ _. seen)

    isnt : is_free (record (kept page) { put = Some image }) ≡ false
    isnt = free-put (kept page).is_blank (kept page).drawn

    freed_by : free + one (is_free (kept page)) ≡ left + one (is_free (record (kept page) { put = Some image }))
    freed_by = rw isnt (omega (arith, freed))

    none : (p : ℕ) → p < cursor → is_free (kept_but page (record (kept page) { put = Some image }) kept p) ≡ false
    none p below = elim (cases_eq p page) [
      | inl e ↦ subst (λ (q : ℕ). is_free (kept_but page (record (kept page) { put = Some image }) kept q) ≡ false) (sym e)
          (ap (λ (k : Kept). is_free k) (but-here page (record (kept page) { put = Some image }) kept) ∙ isnt)
      | inr other ↦ ap (λ (k : Kept). is_free k) (but-other page (record (kept page) { put = Some image }) kept p other) ∙ sound.below p below
    ]

-- the same with a table
pub sound-by : (images : List (List ℕ)) (table : List Kept) (page : ℕ) (new : Kept) (changed left in_use cursor : ℕ)
    → page < 65536 → length table ≡ 65536
    → AreKept (array_of images) (kept_but page new (kept_of table)) changed left in_use cursor
    → IsSound images (slice_set table page new) changed left in_use cursor
sound-by images table page new changed left in_use cursor within size sound =
    let inside : page < length table = omega (arith, within, size) in
    record {
      size = rw length-set size;
      kept = subst (λ (k : ℕ → Kept). AreKept (array_of images) k changed left in_use cursor) (sym (kept_of-set table page new inside)) sound;
    }
