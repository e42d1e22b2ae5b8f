-- A number against a bound, byte by byte.
use Rattle.std.proofs.Common.{◌≡◌, ℕ, ◌+◌, ◌*◌, ◌<◌, ◌≤◌, ◌⊎◌, Bool, true, false, ◌&&◌, cond, eqb, List, length, take, get_or, Fits, w8, refl, sym, ap, subst, ◌∙◌, inl, inr, arith}
use Rattle.std.proofs.lemmas.Bool.{cases_eq, eq-eqb, ne_eqb}
use Rattle.std.proofs.lemmas.List.{length-take-le}
use Rattle.std.specs.Bool.{MatchBool}
use Rattle.st_image.specs.Bytes.{IsBytes, number}
use Rattle.st_image.specs.Parts.{Field}
use Rattle.st_image.specs.Prefixes.{IsFirstWrong}
use Rattle.st_image.proofs.Numbers.{bytes-take, number-more}
use Rattle.st_image.proofs.Ranges.{Bounds, begins-field, ends-field}

pub are-bytes : (xs : List ℕ) → ((i : ℕ) → Fits w8 (get_or xs i 0)) → IsBytes xs
are-bytes xs h i = (h i).fits

-- two numbers are the same so far, or one is below the other
abbrev pub Side : Bool → ℕ → ℕ → Type 0
Side tied a b = MatchBool tied (a ≡ b) (a < b)

pub picked-true : (tied : Bool) (x y value : ℕ) → tied ≡ true → value ≡ x → value ≡ cond tied x y
picked-true tied x y value h e = e ∙ ap (λ (b : Bool). cond b x y) (sym h)

pub side-at-most : (tied : Bool) (a b : ℕ) → Side tied a b → a ≤ b
side-at-most true a b h = omega arith
side-at-most false a b h = omega arith

pub side-below : (tied : Bool) (a b : ℕ) → tied ≡ false → Side tied a b → a < b
side-below tied a b e h = let P : Bool → Type 0 = λ t. Side t a b in subst P e h

-- a byte more on both sides
pub side-next-low : (tied : Bool) (l n bound byte least : ℕ) → least ≡ cond tied bound 0 → bound < 256 → Side tied l n → least ≤ byte
    → Side (tied && eqb byte least) (l * 256 + bound) (n * 256 + byte)
side-next-low false l n bound byte least e small h k = omega arith
side-next-low true l n bound byte least e small h k =
    elim (cases_eq byte least) [
      | inl same ↦ subst (λ (t : Bool). Side t (l * 256 + bound) (n * 256 + byte)) (sym (eq-eqb byte least same)) (tied-low same)
      | inr other ↦ subst (λ (t : Bool). Side t (l * 256 + bound) (n * 256 + byte)) (sym (ne_eqb byte least other)) (free-low other)
    ]
  where
    tied-low : byte ≡ least → l * 256 + bound ≡ n * 256 + byte
    tied-low same = omega arith

    free-low : (byte ≡ least → ⊥) → l * 256 + bound < n * 256 + byte
    free-low other = omega arith

pub side-next-high : (tied : Bool) (n h bound byte most : ℕ) → most ≡ cond tied bound 255 → byte < 256 → Side tied n h → byte ≤ most
    → Side (tied && eqb byte most) (n * 256 + byte) (h * 256 + bound)
side-next-high false n h bound byte most e small side k = omega arith
side-next-high true n h bound byte most e small side k =
    elim (cases_eq byte most) [
      | inl same ↦ subst (λ (t : Bool). Side t (n * 256 + byte) (h * 256 + bound)) (sym (eq-eqb byte most same)) (tied-high same)
      | inr other ↦ subst (λ (t : Bool). Side t (n * 256 + byte) (h * 256 + bound)) (sym (ne_eqb byte most other)) (free-high other)
    ]
  where
    tied-high : byte ≡ most → n * 256 + byte ≡ h * 256 + bound
    tied-high same = omega arith

    free-high : (byte ≡ most → ⊥) → n * 256 + byte < h * 256 + bound
    free-high other = omega arith

pub side-under : (tied : Bool) (l n bound byte least : ℕ) → least ≡ cond tied bound 0 → Side tied l n → byte < least → n * 256 + byte < l * 256 + bound
side-under true l n bound byte least e h k = omega arith
side-under false l n bound byte least e h k = omega arith

pub side-over : (tied : Bool) (n h bound byte most : ℕ) → most ≡ cond tied bound 255 → byte < 256 → Side tied n h → most < byte → h * 256 + bound < n * 256 + byte
side-over true n h bound byte most e small side k = omega arith
side-over false n h bound byte most e small side k = omega arith

-- ---- bytes between two bounds, as they are read

pub side-more-low : (tied : Bool) (low bytes : List ℕ) (i least : ℕ) → IsBytes low → i < length low → i < length bytes → least ≡ cond tied (get_or low i 0) 0
    → Side tied (number (take i low)) (number (take i bytes)) → least ≤ get_or bytes i 0
    → Side (tied && eqb (get_or bytes i 0) least) (number (take (i + 1) low)) (number (take (i + 1) bytes))
side-more-low tied low bytes i least small a b e h k =
    rw (number-more low i a, number-more bytes i b) (side-next-low tied (number (take i low)) (number (take i bytes)) (get_or low i 0) (get_or bytes i 0) least e (small i) h k)

pub side-more-high : (tied : Bool) (high bytes : List ℕ) (i most : ℕ) → IsBytes bytes → i < length high → i < length bytes → most ≡ cond tied (get_or high i 0) 255
    → Side tied (number (take i bytes)) (number (take i high)) → get_or bytes i 0 ≤ most
    → Side (tied && eqb (get_or bytes i 0) most) (number (take (i + 1) bytes)) (number (take (i + 1) high))
side-more-high tied high bytes i most small a b e h k =
    rw (number-more high i a, number-more bytes i b) (side-next-high tied (number (take i bytes)) (number (take i high)) (get_or high i 0) (get_or bytes i 0) most e (small i) h k)

wrong-here : (width i : ℕ) (low high bytes : List ℕ) → Bounds width low high → i < width → length bytes ≡ width → IsBytes bytes
    → number (take i low) ≤ number (take i bytes) → number (take i bytes) ≤ number (take i high)
    → (number (take (i + 1) bytes) < number (take (i + 1) low)) ⊎ (number (take (i + 1) high) < number (take (i + 1) bytes))
    → IsFirstWrong (Field width (number low) (number high)) bytes i
wrong-here width i low high bytes bounds within wide sound least most out = record {
  begins = begins-field width i low high (take i bytes) bounds (omega arith) (length-take-le i bytes (omega arith)) (bytes-take i bytes sound) least most;
  ends = λ b. ends-field width (i + 1) low high (take (i + 1) bytes) bounds (omega arith) (length-take-le (i + 1) bytes (omega arith)) out b;
}

pub wrong-low : (tied other : Bool) (width i : ℕ) (low high bytes : List ℕ) (least : ℕ) → Bounds width low high → i < width → length bytes ≡ width → IsBytes bytes
    → Side tied (number (take i low)) (number (take i bytes)) → Side other (number (take i bytes)) (number (take i high))
    → least ≡ cond tied (get_or low i 0) 0 → get_or bytes i 0 < least → IsFirstWrong (Field width (number low) (number high)) bytes i
wrong-low tied other width i low high bytes least bounds within wide sound a b e k =
    let l : i < length low = omega (arith, bounds.low_wide) in
    let n : i < length bytes = omega arith in
    wrong-here width i low high bytes bounds within wide sound (side-at-most tied (number (take i low)) (number (take i bytes)) a) (side-at-most other (number (take i bytes)) (number (take i high)) b)
    (inl (rw (number-more low i l, number-more bytes i n) (side-under tied (number (take i low)) (number (take i bytes)) (get_or low i 0) (get_or bytes i 0) least e a k)))

pub wrong-high : (tied other : Bool) (width i : ℕ) (low high bytes : List ℕ) (most : ℕ) → Bounds width low high → i < width → length bytes ≡ width → IsBytes bytes
    → Side other (number (take i low)) (number (take i bytes)) → Side tied (number (take i bytes)) (number (take i high))
    → most ≡ cond tied (get_or high i 0) 255 → most < get_or bytes i 0 → IsFirstWrong (Field width (number low) (number high)) bytes i
wrong-high tied other width i low high bytes most bounds within wide sound a b e k =
    let h : i < length high = omega (arith, bounds.high_wide) in
    let n : i < length bytes = omega arith in
    wrong-here width i low high bytes bounds within wide sound (side-at-most other (number (take i low)) (number (take i bytes)) a) (side-at-most tied (number (take i bytes)) (number (take i high)) b)
    (inr (rw (number-more high i h, number-more bytes i n) (side-over tied (number (take i bytes)) (number (take i high)) (get_or high i 0) (get_or bytes i 0) most e (sound i) b k)))

-- the low side at the next place: where it was tied, and where it was not
pub low-tied : (tied now : Bool) (low bytes : List ℕ) (i : ℕ) → IsBytes low → i < length low → i < length bytes → tied ≡ true → get_or low i 0 ≤ get_or bytes i 0 → now ≡ eqb (get_or bytes i 0) (get_or low i 0)
    → Side tied (number (take i low)) (number (take i bytes)) → Side now (number (take (i + 1) low)) (number (take (i + 1) bytes))
low-tied tied now low bytes i small a b e h k side =
    subst (λ (t : Bool). Side t (number (take (i + 1) low)) (number (take (i + 1) bytes))) (sym k)
    (side-more-low true low bytes i (get_or low i 0) small a b refl (subst (λ (t : Bool). Side t (number (take i low)) (number (take i bytes))) e side) h)

pub low-free : (tied now : Bool) (low bytes : List ℕ) (i : ℕ) → IsBytes low → i < length low → i < length bytes → tied ≡ false → now ≡ tied
    → Side tied (number (take i low)) (number (take i bytes)) → Side now (number (take (i + 1) low)) (number (take (i + 1) bytes))
low-free tied now low bytes i small a b e k side =
    subst (λ (t : Bool). Side t (number (take (i + 1) low)) (number (take (i + 1) bytes))) (sym (k ∙ e))
    (side-more-low false low bytes i 0 small a b refl (subst (λ (t : Bool). Side t (number (take i low)) (number (take i bytes))) e side) (omega arith))

-- the same of the high side
pub high-tied : (tied now : Bool) (high bytes : List ℕ) (i : ℕ) → IsBytes bytes → i < length high → i < length bytes → tied ≡ true → get_or bytes i 0 ≤ get_or high i 0 → now ≡ eqb (get_or bytes i 0) (get_or high i 0)
    → Side tied (number (take i bytes)) (number (take i high)) → Side now (number (take (i + 1) bytes)) (number (take (i + 1) high))
high-tied tied now high bytes i small a b e h k side =
    subst (λ (t : Bool). Side t (number (take (i + 1) bytes)) (number (take (i + 1) high))) (sym k)
    (side-more-high true high bytes i (get_or high i 0) small a b refl (subst (λ (t : Bool). Side t (number (take i bytes)) (number (take i high))) e side) h)

pub high-free : (tied now : Bool) (high bytes : List ℕ) (i : ℕ) → IsBytes bytes → i < length high → i < length bytes → tied ≡ false → now ≡ tied
    → Side tied (number (take i bytes)) (number (take i high)) → Side now (number (take (i + 1) bytes)) (number (take (i + 1) high))
high-free tied now high bytes i small a b e k side =
    let least : get_or bytes i 0 ≤ 255 = omega (arith, small i) in
    subst (λ (t : Bool). Side t (number (take (i + 1) bytes)) (number (take (i + 1) high))) (sym (k ∙ e))
    (side-more-high false high bytes i 255 small a b refl (subst (λ (t : Bool). Side t (number (take i bytes)) (number (take i high))) e side) least)
