-- That what is kept is sound before any call.
use Rattle.std.proofs.Common.{◌≡◌, ℕ, zero, suc, ◌+◌, ◌-◌, ◌<◌, ◌≤◌, Bool, true, false, not, inl, inr, List, length, Some, None, refl, ap, ◌∙◌, sym, subst, arith}
use Rattle.std.specs.Str.{bytes_eq}
use Rattle.std.proofs.lemmas.Bool.{cases_lt}
use Rattle.std.proofs.lemmas.List.{get_or_past}
use Rattle.st_image.specs.Fields.{blank}
use Rattle.st_pages.specs.Attempt.{IsImage, how_many, page_count}
use Rattle.st_memory_pages.specs.Slots.{Kept, IsKept, array_of, kept_of, is_free, is_changed, is_blank_in, unused, one}
use Rattle.st_memory_pages.specs.Sound.{IsSound}
use Rattle.st_memory_pages.specs.HowMany.{how_many-same}
use Rattle.st_memory_pages.proofs.Blank.{behind, blank-image, bytes_eq-refl}
use Rattle.st_memory_pages.proofs.Counting.{page_count-is, how_many-none, how_many-most}

pub how_many-not : (f : ℕ → Bool) (n : ℕ) → how_many (λ p. not (f p)) n + how_many f n ≡ n
how_many-not f zero = refl
how_many-not f (suc n) = let below : how_many (λ p. not (f p)) n + how_many f n ≡ n = how_many-not f n in at (f n) below
  where
    at : (b : Bool) → how_many (λ p. not (f p)) n + how_many f n ≡ n
        → (how_many (λ p. not (f p)) n + one (not b)) + (how_many f n + one b) ≡ suc n
    at true below = omega (arith, below)
    at false below = omega (arith, below)

-- how many are blank
pub blanks-most : (images : List (List ℕ)) (blanks : ℕ) → blanks ≡ how_many (is_blank_in (array_of images)) page_count → blanks ≤ 65536
blanks-most images blanks e =
    let most = how_many-most (is_blank_in (array_of images)) page_count in
    let count = page_count-is in
    omega (arith, e, most, count)

-- and how many aren't
pub used-are : (images : List (List ℕ)) (blanks : ℕ) → blanks ≡ how_many (is_blank_in (array_of images)) page_count
    → 65536 - blanks ≡ how_many (λ p. not (is_blank_in (array_of images) p)) page_count
used-are images blanks e =
    let both = how_many-not (is_blank_in (array_of images)) page_count in
    let count = page_count-is in
    omega (arith, e, both, count)

unused-each : (images : List (List ℕ)) (table : List Kept) → length images ≤ 65536 → length table ≡ 65536
    → ((p : ℕ) → p < 65536 → kept_of table p ≡ unused (is_blank_in (array_of images) p))
    → (p : ℕ) → kept_of table p ≡ unused (is_blank_in (array_of images) p)
unused-each images table short size below p = elim (cases_lt p 65536) [
  | inl within ↦ below p within
  | inr past ↦
      let is_blank : array_of images p ≡ blank = behind images p (omega (arith, past, short)) in
      let tested : is_blank_in (array_of images) p ≡ true = ap (λ (i : List ℕ). bytes_eq i blank) is_blank ∙ bytes_eq-refl blank in
      get_or_past table p (unused true) (omega (arith, past, size)) ∙ sym (ap (λ (b : Bool). unused b) tested)
]

image-each : (images : List (List ℕ)) → length images ≤ 65536 → ((p : ℕ) → p < 65536 → IsImage (array_of images p))
    → (p : ℕ) → IsImage (array_of images p)
image-each images short below p = elim (cases_lt p 65536) [
  | inl within ↦ below p within
  | inr past ↦ subst (λ (i : List ℕ). IsImage i) (sym (behind images p (omega (arith, past, short)))) blank-image
]

unused-kept : (image : List ℕ) → IsImage image → IsKept image (unused (bytes_eq image blank))
unused-kept image is_image = record {
  is_image = is_image;
  is_blank = refl;
  drawn = λ e. e;
  drawn_blank = λ (e : false ≡ true). cc;
  put_seen = λ e. e;
  put = λ last (e : None ≡ Some last). cc;
}

free-unused : (b : Bool) → is_free (unused b) ≡ b
free-unused true = refl
free-unused false = refl

pub new-sound : (images : List (List ℕ)) (table : List Kept) (blanks : ℕ) → length images ≤ 65536 → length table ≡ 65536
    → ((p : ℕ) → p < 65536 → IsImage (array_of images p))
    → ((p : ℕ) → p < 65536 → kept_of table p ≡ unused (is_blank_in (array_of images) p))
    → blanks ≡ how_many (is_blank_in (array_of images)) page_count
    → IsSound images table 0 blanks (65536 - blanks) 0
new-sound images table blanks short size are_images are_unused e =
    let each : (p : ℕ) → kept_of table p ≡ unused (is_blank_in (array_of images) p) = unused-each images table short size are_unused in
    record {
      size = size;
      kept = record {
        each = λ p. subst (λ (k : Kept). IsKept (array_of images p) k) (sym (each p)) (unused-kept (array_of images p) (image-each images short are_images p));
        changes = sym (how_many-none (λ (p : ℕ). is_changed (array_of images p) (kept_of table p)) page_count
            (λ p _. ap (λ (k : Kept). is_changed (array_of images p) k) (each p)));
        few = omega arith;
        free = e ∙ how_many-same (is_blank_in (array_of images)) (λ (p : ℕ). is_free (kept_of table p)) page_count
            (λ p _. sym (ap (λ (k : Kept). is_free k) (each p) ∙ free-unused (is_blank_in (array_of images) p)));
        used = used-are images blanks e ∙ how_many-same (λ (p : ℕ). not (is_blank_in (array_of images) p)) (λ (p : ℕ). not (kept_of table p).is_blank) page_count
            (λ p _. sym (ap (λ (k : Kept). not k.is_blank) (each p)));
        below = λ p (h : p < 0). absurd (omega arith);
      };
    }
