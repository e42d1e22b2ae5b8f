-- A number in bytes that is raised by one.
use Rattle.std.proofs.Common.{◌≡◌, ℕ, suc, ◌+◌, ◌-◌, ◌*◌, ◌^◌, ◌<◌, ◌≤◌, List, [], ◌∷◌, ◌++◌, length, take, drop, get_or, set, refl, sym, ap, ◌∙◌, arith}
use Rattle.std.proofs.Math.Nat.{add-mul, pow-succ'}
use Rattle.std.proofs.lemmas.List.{drop_more, set_split, take-append-drop, length-drop, take-take, get_or-take, drop-set, take-set, length-set}
use Rattle.st_image.specs.Bytes.{number}
use Rattle.st_image.proofs.Numbers.{number-append}

-- what is kept while the bytes behind a place are 255 and become zero
pub record Raised (old now : List ℕ) (i : ℕ) : Type 0 where
  pub within : i ≤ length old
  pub wide : length now ≡ length old
  pub same : take i now ≡ take i old
  pub clear : number (drop i now) ≡ 0
  pub full : number (drop i old) + 1 ≡ 256 ^ (length old - i)

pub raised-none : (old : List ℕ) → Raised old old (length old)
raised-none old = record {
  within = omega arith;
  wide = refl;
  same = refl;
  clear = rw (all old) refl;
  full = rw (all old, none (length old)) refl;
}
  where
    all : (xs : List ℕ) → drop (length xs) xs ≡ []
    all [] = refl
    all (x ∷ xs) = all xs

    none : (n : ℕ) → n - n ≡ 0
    none n = omega arith

split : (xs : List ℕ) (j : ℕ) → j < length xs → number xs ≡ number (take j xs) * 256 ^ suc (length (drop (j + 1) xs)) + (get_or xs j 0 * 256 ^ length (drop (j + 1) xs) + number (drop (j + 1) xs))
split xs j h =
    ap number (sym (take-append-drop j xs) ∙ ap (λ (r : List ℕ). take j xs ++ r) (drop_more xs j 0 h))
    ∙ number-append (take j xs) (get_or xs j 0 ∷ drop (j + 1) xs)

same-byte : (old now : List ℕ) (j : ℕ) → take (j + 1) now ≡ take (j + 1) old → get_or now j 0 ≡ get_or old j 0
same-byte old now j e =
    sym (get_or-take (j + 1) now j 0 (omega arith)) ∙ ap (λ (xs : List ℕ). get_or xs j 0) e ∙ get_or-take (j + 1) old j 0 (omega arith)

same-front : (old now : List ℕ) (j : ℕ) → take (j + 1) now ≡ take (j + 1) old → take j now ≡ take j old
same-front old now j e =
    sym (take-take j (j + 1) now (omega arith)) ∙ ap (take j) e ∙ take-take j (j + 1) old (omega arith)

-- one more byte that is 255
pub raised-more : (old now : List ℕ) (j : ℕ) → Raised old now (j + 1) → get_or now j 0 ≡ 255 → Raised old (set now j 0) j
raised-more old now j h byte = record {
  within = omega (arith, h.within);
  wide = length-set now j 0 ∙ h.wide;
  same = take-set now j 0 ∙ same-front old now j h.same;
  clear = rw (drop-set now j 0 inside) (omega (arith, h.clear));
  full = filled;
}
  where
    inside : j < length now
    inside = omega (arith, h.within, h.wide)

    in-old : j < length old
    in-old = omega (arith, h.within)

    gap : length old - j ≡ suc (length old - (j + 1))
    gap = omega (arith, h.within)

    here : get_or old j 0 ≡ 255
    here = sym (same-byte old now j h.same) ∙ byte

    size : length (drop (j + 1) old) ≡ length old - (j + 1)
    size = length-drop (j + 1) old

    sum : (b k n : ℕ) → b ≡ 255 → n + 1 ≡ 256 ^ k → b * 256 ^ k + n + 1 ≡ 256 ^ suc k
    sum b k n e f = ap (λ (x : ℕ). x * 256 ^ k + n + 1) e ∙ omega (arith, f, pow-succ' 256 k)

    filled : number (drop j old) + 1 ≡ 256 ^ (length old - j)
    filled =
        ap (λ (xs : List ℕ). number xs + 1) (drop_more old j 0 in-old)
        ∙ ap (λ (k : ℕ). get_or old j 0 * 256 ^ k + number (drop (j + 1) old) + 1) size
        ∙ sum (get_or old j 0) (length old - (j + 1)) (number (drop (j + 1) old)) here h.full
        ∙ ap (λ (k : ℕ). 256 ^ k) (sym gap)

-- the first byte from behind that isn't
pub raised-done : (old now : List ℕ) (j : ℕ) → Raised old now (j + 1) → number (set now j (get_or now j 0 + 1)) ≡ number old + 1
raised-done old now j h =
    ap number (set_split now j (get_or now j 0 + 1) inside)
    ∙ number-append (take j now) ((get_or now j 0 + 1) ∷ drop (suc j) now)
    ∙ ap (λ (i : ℕ). number (take j now) * 256 ^ suc (length (drop i now)) + ((get_or now j 0 + 1) * 256 ^ length (drop i now) + number (drop i now))) next
    ∙ ap (λ (k : ℕ). number (take j now) * 256 ^ suc k + ((get_or now j 0 + 1) * 256 ^ k + number (drop (j + 1) now))) size-now
    ∙ ap (λ (xs : List ℕ). number xs * 256 ^ suc (length old - (j + 1)) + ((get_or now j 0 + 1) * 256 ^ (length old - (j + 1)) + number (drop (j + 1) now))) (same-front old now j h.same)
    ∙ ap (λ (b : ℕ). number (take j old) * 256 ^ suc (length old - (j + 1)) + ((b + 1) * 256 ^ (length old - (j + 1)) + number (drop (j + 1) now))) (same-byte old now j h.same)
    ∙ sum (number (take j old)) (length old - (j + 1)) (get_or old j 0) (number (drop (j + 1) now)) (number (drop (j + 1) old)) h.clear h.full
    ∙ ap (λ (n : ℕ). n + 1) (sym whole)
  where
    inside : j < length now
    inside = omega (arith, h.within, h.wide)

    next : suc j ≡ j + 1
    next = omega arith

    size : length (drop (j + 1) old) ≡ length old - (j + 1)
    size = length-drop (j + 1) old

    size-now : length (drop (j + 1) now) ≡ length old - (j + 1)
    size-now = length-drop (j + 1) now ∙ ap (λ (n : ℕ). n - (j + 1)) h.wide

    whole : number old ≡ number (take j old) * 256 ^ suc (length old - (j + 1)) + (get_or old j 0 * 256 ^ (length old - (j + 1)) + number (drop (j + 1) old))
    whole =
        split old j (omega (arith, h.within))
        ∙ ap (λ (k : ℕ). number (take j old) * 256 ^ suc k + (get_or old j 0 * 256 ^ k + number (drop (j + 1) old))) size

    sum : (f k b c n : ℕ) → c ≡ 0 → n + 1 ≡ 256 ^ k → f * 256 ^ suc k + ((b + 1) * 256 ^ k + c) ≡ f * 256 ^ suc k + (b * 256 ^ k + n) + 1
    sum f k b c n e g = omega (arith, e, g, add-mul b 1 (256 ^ k))
