-- Where bytes leave the numbers from one to another.
use Rattle.std.proofs.Common.{◌≡◌, ℕ, ◌+◌, ◌-◌, ◌*◌, ◌^◌, ◌<◌, ◌≤◌, ◌⊎◌, List, ◌++◌, length, take, drop, sym, ap, subst, ◌∙◌, inl, inr, arith}
use Rattle.std.proofs.Math.Nat.{add-mul, mul-le-mul_right}
use Rattle.std.proofs.lemmas.Bool.{cases_lt}
use Rattle.std.proofs.lemmas.List.{length-append, length-drop, take_all}
use Rattle.st_image.specs.Bytes.{IsBytes, number}
use Rattle.st_image.specs.Parts.{Field}
use Rattle.st_image.specs.Prefixes.{Begins}
use Rattle.st_image.proofs.Numbers.{bytes-append, bytes-drop, bytes-rest, number-append, number-cut, number-lt}

-- a front that is below another by number is below it with anything behind
pub below : (a b r s m : ℕ) → a < b → r < m → a * m + r < b * m + s
below a b r s m h k =
    let up : (a + 1) * m ≤ b * m = mul-le-mul_right m (omega arith) in
    let e = add-mul a 1 m in
    omega (arith, up, e)

pub not-above : (a b r s m : ℕ) → a ≤ b → r ≤ s → a * m + r ≤ b * m + s
not-above a b r s m h k = let up : a * m ≤ b * m = mul-le-mul_right m h in omega (arith, up)

-- both bounds of a range, in so many bytes
pub record Bounds (width : ℕ) (low high : List ℕ) : Type 0 where
  pub low_wide : length low ≡ width
  pub high_wide : length high ≡ width
  pub low_bytes : IsBytes low
  pub high_bytes : IsBytes high
  pub order : number low ≤ number high

-- a front that is between the fronts of both bounds can go on
pub begins-field : (width k : ℕ) (low high front : List ℕ) → Bounds width low high → k ≤ width → length front ≡ k → IsBytes front
    → number (take k low) ≤ number front → number front ≤ number (take k high) → Begins (Field width (number low) (number high)) front
begins-field width k low high front bounds within wide sound least most =
    elim (cases_lt (number (take k low)) (number front)) [ inl above ↦ (drop k high, over above) | inr same ↦ (drop k low, tied (omega arith)) ]
  where
    rest-low : length (drop k low) ≡ width - k
    rest-low = omega (arith, length-drop k low, bounds.low_wide)

    rest-high : length (drop k high) ≡ width - k
    rest-high = omega (arith, length-drop k high, bounds.high_wide)

    m : ℕ
    m = 256 ^ (width - k)

    cut-low : number low ≡ number (take k low) * 256 ^ (width - k) + number (drop k low)
    cut-low = number-cut k low ∙ ap (λ (w : ℕ). number (take k low) * 256 ^ w + number (drop k low)) rest-low

    cut-high : number high ≡ number (take k high) * 256 ^ (width - k) + number (drop k high)
    cut-high = number-cut k high ∙ ap (λ (w : ℕ). number (take k high) * 256 ^ w + number (drop k high)) rest-high

    whole : (rest : List ℕ) → length rest ≡ width - k → number (front ++ rest) ≡ number front * 256 ^ (width - k) + number rest
    whole rest e = number-append front rest ∙ ap (λ (w : ℕ). number front * 256 ^ w + number rest) e

    all : (rest : List ℕ) → length rest ≡ width - k → length (front ++ rest) ≡ width
    all rest e = length-append front rest ∙ omega (arith, e, wide, within)

    small : number (drop k low) < 256 ^ (width - k)
    small = subst (λ (w : ℕ). number (drop k low) < 256 ^ w) rest-low (number-lt (drop k low) (bytes-drop k low bounds.low_bytes))

    over : number (take k low) < number front → Field width (number low) (number high) (front ++ drop k high)
    over above = record {
      wide = all (drop k high) rest-high;
      sound = bytes-append front (drop k high) sound (bytes-drop k high bounds.high_bytes);
      least = omega (arith, whole (drop k high) rest-high, cut-low, below (number (take k low)) (number front) (number (drop k low)) (number (drop k high)) (256 ^ (width - k)) above small);
      most = omega (arith, whole (drop k high) rest-high, cut-high, not-above (number front) (number (take k high)) (number (drop k high)) (number (drop k high)) (256 ^ (width - k)) most (omega arith));
    }

    tied : number front ≡ number (take k low) → Field width (number low) (number high) (front ++ drop k low)
    tied same =
        let e : number (front ++ drop k low) ≡ number low = whole (drop k low) rest-low ∙ ap (λ (n : ℕ). n * 256 ^ (width - k) + number (drop k low)) same ∙ sym cut-low in
        record {
          wide = all (drop k low) rest-low;
          sound = bytes-append front (drop k low) sound (bytes-drop k low bounds.low_bytes);
          least = omega (arith, e);
          most = omega (arith, e, bounds.order);
        }

-- a front that is not between them can't
pub ends-field : (width k : ℕ) (low high front : List ℕ) → Bounds width low high → k ≤ width → length front ≡ k
    → (number front < number (take k low)) ⊎ (number (take k high) < number front) → Begins (Field width (number low) (number high)) front → ⊥
ends-field width k low high front bounds within wide out begins =
    elim out [
      | inl under ↦ absurd (omega (arith, (begins.1).least, whole, cut-low, below (number front) (number (take k low)) (number rest) (number (drop k low)) (256 ^ (width - k)) under small))
      | inr over ↦ absurd (omega (arith, (begins.1).most, whole, cut-high, below (number (take k high)) (number front) (number (drop k high)) (number rest) (256 ^ (width - k)) over small-high))
    ]
  where
    rest : List ℕ
    rest = begins.0

    rest-wide : length begins.0 ≡ width - k
    rest-wide = omega (arith, length-append front begins.0, (begins.1).wide, wide)

    rest-low : length (drop k low) ≡ width - k
    rest-low = omega (arith, length-drop k low, bounds.low_wide)

    rest-high : length (drop k high) ≡ width - k
    rest-high = omega (arith, length-drop k high, bounds.high_wide)

    cut-low : number low ≡ number (take k low) * 256 ^ (width - k) + number (drop k low)
    cut-low = number-cut k low ∙ ap (λ (w : ℕ). number (take k low) * 256 ^ w + number (drop k low)) rest-low

    cut-high : number high ≡ number (take k high) * 256 ^ (width - k) + number (drop k high)
    cut-high = number-cut k high ∙ ap (λ (w : ℕ). number (take k high) * 256 ^ w + number (drop k high)) rest-high

    whole : number (front ++ begins.0) ≡ number front * 256 ^ (width - k) + number begins.0
    whole = number-append front begins.0 ∙ ap (λ (w : ℕ). number front * 256 ^ w + number begins.0) rest-wide

    small : number begins.0 < 256 ^ (width - k)
    small = subst (λ (w : ℕ). number begins.0 < 256 ^ w) rest-wide (number-lt begins.0 (bytes-rest front begins.0 (begins.1).sound))

    small-high : number (drop k high) < 256 ^ (width - k)
    small-high = subst (λ (w : ℕ). number (drop k high) < 256 ^ w) rest-high (number-lt (drop k high) (bytes-drop k high bounds.high_bytes))

-- bytes that are strictly between both bounds somewhere, or between them at their end
pub field-between : (width k : ℕ) (low high bytes : List ℕ) → Bounds width low high → length bytes ≡ width → IsBytes bytes
    → number (take k low) < number (take k bytes) → number (take k bytes) < number (take k high) → Field width (number low) (number high) bytes
field-between width k low high bytes bounds wide sound above under = record {
  wide = wide;
  sound = sound;
  least = omega (arith, cut low bounds.low_wide, cut bytes wide, below (number (take k low)) (number (take k bytes)) (number (drop k low)) (number (drop k bytes)) (256 ^ (width - k)) above (small low bounds.low_wide bounds.low_bytes));
  most = omega (arith, cut high bounds.high_wide, cut bytes wide, below (number (take k bytes)) (number (take k high)) (number (drop k bytes)) (number (drop k high)) (256 ^ (width - k)) under (small bytes wide sound));
}
  where
    rest : (xs : List ℕ) → length xs ≡ width → length (drop k xs) ≡ width - k
    rest xs e = omega (arith, length-drop k xs, e)

    cut : (xs : List ℕ) → length xs ≡ width → number xs ≡ number (take k xs) * 256 ^ (width - k) + number (drop k xs)
    cut xs e = number-cut k xs ∙ ap (λ (w : ℕ). number (take k xs) * 256 ^ w + number (drop k xs)) (rest xs e)

    small : (xs : List ℕ) → length xs ≡ width → IsBytes xs → number (drop k xs) < 256 ^ (width - k)
    small xs e h = subst (λ (w : ℕ). number (drop k xs) < 256 ^ w) (rest xs e) (number-lt (drop k xs) (bytes-drop k xs h))

pub field-whole : (width : ℕ) (low high bytes : List ℕ) → Bounds width low high → length bytes ≡ width → IsBytes bytes
    → number (take width low) ≤ number (take width bytes) → number (take width bytes) ≤ number (take width high) → Field width (number low) (number high) bytes
field-whole width low high bytes bounds wide sound least most = record {
  wide = wide;
  sound = sound;
  least = rw (all low bounds.low_wide, all bytes wide) at least;
  most = rw (all bytes wide, all high bounds.high_wide) at most;
}
  where
    all : (xs : List ℕ) → length xs ≡ width → take width xs ≡ xs
    all xs e = take_all width xs (omega arith)
