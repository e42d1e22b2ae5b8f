-- What holds of all that is kept, as the laws of pages have it.
use Rattle.std.proofs.Common.{◌≡◌, ℕ, ◌+◌, ◌<◌, ◌≤◌, ◌&&◌, ◌||◌, Bool, true, false, not, inl, inr, List, Option, Some, None, is_some, IsSome, refl, ap, ◌∙◌, sym, subst, arith}
use Rattle.std.specs.Prelude.{if◌then◌else◌}
use Rattle.std.specs.Str.{bytes_eq}
use Rattle.std.proofs.lemmas.Bool.{cases_lt}
use Rattle.std.proofs.lemmas.List.{get_or_past}
use Rattle.std.proofs.lemmas.Slice.Eq.{bytes_eq-Decides}
use Rattle.st_image.specs.Fields.{blank}
use Rattle.st_pages.specs.Attempt.{IsSound as IsSoundAttempt, IsImage, Agrees, how_many, taken, was_blank, page_count}
use Rattle.st_memory_pages.specs.Slots.{Kept, array_of, kept_of, attempt_of, seen_of, is_free, is_blank_in, unused}
use Rattle.st_memory_pages.specs.Sound.{IsSound}
use Rattle.st_memory_pages.specs.Attempted.{is_left, first_room}
use Rattle.st_memory_pages.specs.HowMany.{how_many-same, how_many-all}

seen-is : (seen : Bool) (image : List ℕ) → IsSome (if seen then Some image else None) → seen ≡ true
seen-is true image some = refl
seen-is false image some = some

pub seen-here : (images : List (List ℕ)) (table : List Kept) (page : ℕ) → IsSome (seen_of (array_of images page) (kept_of table page))
    → (kept_of table page).seen ≡ true
seen-here images table page some = seen-is (kept_of table page).seen (array_of images page) some

-- a page that was seen is one of them
pub seen-within : (images : List (List ℕ)) (table : List Kept) (page changed left in_use cursor : ℕ)
    → IsSound images table changed left in_use cursor → (kept_of table page).seen ≡ true → page < 65536
seen-within images table page changed left in_use cursor sound seen = elim (cases_lt page 65536) [
  | inl below ↦ below
  | inr past ↦
      let size = sound.size in
      let behind : kept_of table page ≡ unused true = get_or_past table page (unused true) (omega (arith, past, size)) in
      let unseen : (kept_of table page).seen ≡ false = ap (λ (k : Kept). k.seen) behind in
      absurd (let both : true ≡ false = sym seen ∙ unseen in cc)
]

bytes_eq-true : (xs ys : List ℕ) → bytes_eq xs ys ≡ true → xs ≡ ys
bytes_eq-true xs ys = (bytes_eq-Decides xs ys).0

first-image : (seen : Bool) (here image : List ℕ) → (if seen then Some here else None) ≡ Some image → here ≡ image
first-image true here image e = cc
first-image false here image e = cc

some-of : (put : Option (List ℕ)) (image : List ℕ) → put ≡ Some image → is_some put ≡ true
some-of put image e = ap (λ (o : Option (List ℕ)). is_some o) e

some-seen : (seen : Bool) (here : List ℕ) → seen ≡ true → IsSome (if seen then Some here else None)
some-seen true here e = refl
some-seen false here e = cc

first-blank : (seen : Bool) (here : List ℕ) → seen ≡ true → here ≡ blank → (if seen then Some here else None) ≡ Some blank
first-blank true here e is = ap (λ (i : List ℕ). Some i) is
first-blank false here e is = cc

-- an array has what was seen of it
pub whole-agrees : (images : List (List ℕ)) (table : List Kept) → Agrees (attempt_of (array_of images) (kept_of table)) (array_of images)
whole-agrees images table page image e = first-image (kept_of table page).seen (array_of images page) image e

-- the attempt is sound
pub whole-sound : (images : List (List ℕ)) (table : List Kept) (changed left in_use cursor : ℕ)
    → IsSound images table changed left in_use cursor → IsSoundAttempt (attempt_of (array_of images) (kept_of table))
whole-sound images table changed left in_use cursor sound = record {
  within = λ page some. seen-within images table page changed left in_use cursor sound (seen-here images table page some);
  seen = λ page image e. subst (λ (i : List ℕ). IsImage i) (first-image (kept_of table page).seen (array_of images page) image e) (sound.kept.each page).is_image;
  written = λ page image e. (
    (sound.kept.each page).put image e,
    some-seen (kept_of table page).seen (array_of images page) ((sound.kept.each page).put_seen (some-of (kept_of table page).put image e)),
  );
  drawn = λ page e. first-blank (kept_of table page).seen (array_of images page) ((sound.kept.each page).drawn e)
      (bytes_eq-true (array_of images page) blank (sym (sound.kept.each page).is_blank ∙ (sound.kept.each page).drawn_blank e));
  few = let counted = sound.kept.changes in let few = sound.kept.few in omega (arith, counted, few);
}

-- a page is in use, left or taken
each-room : (is_blank drawn seen : Bool) (put : Option (List ℕ)) (here : List ℕ) → is_blank ≡ bytes_eq here blank
    → (is_some put ≡ true → seen ≡ true)
    → (not is_blank || ((is_blank && (not drawn && not (is_some put))) || (drawn || (was_blank (if seen then Some here else None) && is_some put)))) ≡ true
each-room false drawn seen put here is put_seen = refl
each-room true true seen put here is put_seen = refl
each-room true false seen None here is put_seen = refl
each-room true false true (Some last) here is put_seen = rw (← is) refl
each-room true false false (Some last) here is put_seen = put_seen refl

pub whole-room : (images : List (List ℕ)) (table : List Kept) (changed left in_use cursor : ℕ)
    → IsSound images table changed left in_use cursor → page_count ≤ in_use + left + taken (attempt_of (array_of images) (kept_of table))
whole-room images table changed left in_use cursor sound =
    let all = how_many-all (λ (p : ℕ). not (kept_of table p).is_blank) (λ (p : ℕ). is_free (kept_of table p))
    (λ (p : ℕ). (kept_of table p).drawn || (was_blank (seen_of (array_of images p) (kept_of table p)) && is_some (kept_of table p).put))
    page_count
    (λ p. each-room (kept_of table p).is_blank (kept_of table p).drawn (kept_of table p).seen (kept_of table p).put (array_of images p)
    (sound.kept.each p).is_blank (sound.kept.each p).put_seen) in
    let used = sound.kept.used in
    let free = sound.kept.free in
    omega (arith, all, used, free)

-- how many pages are in use, and how many are left
pub whole-used : (images : List (List ℕ)) (table : List Kept) (changed left in_use cursor : ℕ)
    → IsSound images table changed left in_use cursor → in_use ≡ (first_room (array_of images)).in_use
whole-used images table changed left in_use cursor sound =
    sound.kept.used ∙ how_many-same (λ (p : ℕ). not (kept_of table p).is_blank) (λ (p : ℕ). not (is_blank_in (array_of images) p)) page_count
    (λ p _. ap (λ (b : Bool). not b) (sound.kept.each p).is_blank)

pub whole-left : (images : List (List ℕ)) (table : List Kept) (changed left in_use cursor : ℕ)
    → IsSound images table changed left in_use cursor
    → left ≡ how_many (is_left (array_of images) (attempt_of (array_of images) (kept_of table))) page_count
whole-left images table changed left in_use cursor sound =
    sound.kept.free ∙ how_many-same (λ (p : ℕ). is_free (kept_of table p)) (is_left (array_of images) (attempt_of (array_of images) (kept_of table))) page_count
    (λ p _. ap (λ (b : Bool). b && (not (kept_of table p).drawn && not (is_some (kept_of table p).put))) (sound.kept.each p).is_blank)
