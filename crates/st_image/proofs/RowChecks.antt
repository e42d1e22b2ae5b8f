-- What the checks of one row find.
use Rattle.std.proofs.Common.{◌≡◌, ℕ, zero, suc, ◌+◌, ◌-◌, ◌*◌, ◌^◌, ◌<◌, ◌≤◌, Bool, true, false, List, [], ◌∷◌, ◌++◌, length, take, drop, set, replicate, refl, sym, ap, subst, ◌∙◌, arith}
use Rattle.std.proofs.Math.Nat.{pow-succ'}
use Rattle.std.proofs.lemmas.List.{append-nil, drop_all, drop_at, length-drop, length-replicate, length-take-le, take_at, take_rest}
use Rattle.std.proofs.lemmas.Nat.{pow-add}
use borrow.Rule.Slice.PartMut.{put_mid}
use Rattle.std.specs.Int.{w16, to_be_bytes}
use Rattle.st_image.specs.Bytes.{IsBytes, number}
use Rattle.st_image.specs.Parts.{Field, Free, Row, Tail}
use Rattle.st_image.specs.Prefixes.{IsFirstWrong}
use Rattle.st_image.proofs.Numbers.{bytes-drop, number-append}
use Rattle.st_image.proofs.RowParts.{spelled, tail-some}
use Rattle.st_image.proofs.Wrong.{wrong-front, wrong-rest}

pub row-key-wrong : (child : Bool) (key low high : ℕ) (row : List ℕ) (place : ℕ) → key ≤ length row
    → (place < length (take key row)) × IsFirstWrong (Field (length (take key row)) low high) (take key row) place
    → (place < length row) × IsFirstWrong (Row child key (length row) low high) row place
row-key-wrong child key low high row place within h =
    let wide : length (take key row) ≡ key = length-take-le key row within in
    let inside : place < key = omega (arith, wide, h.0) in
    let wrong : IsFirstWrong (Field key low high) (take key row) place =
    subst (λ (w : ℕ). IsFirstWrong (Field w low high) (take key row) place) wide h.1 in
    (omega (arith, inside), wrong-front key (Field key low high) (λ _. Tail child (length row - key)) row place (λ a f. f.wide) (λ a f. tail-some child (length row - key)) inside wrong)

key-field : (key low high : ℕ) (row : List ℕ) → key ≤ length row → Field (length (take key row)) low high (take key row) → Field key low high (take key row)
key-field key low high row within h =
    subst (λ (w : ℕ). Field w low high (take key row)) (length-take-le key row within) h

pub row-tail-wrong : (child : Bool) (key low high : ℕ) (row : List ℕ) (place : ℕ) → child ≡ true → length row ≡ key + 4
    → Field (length (take key row)) low high (take key row)
    → (place < length (take (length row - key) (drop key row))) × IsFirstWrong (Field 4 0 65535) (take (length row - key) (drop key row)) place
    → (key + place < length row) × IsFirstWrong (Row child key (length row) low high) row (key + place)
row-tail-wrong child key low high row place is wide front h =
    let all : take (length row - key) (drop key row) ≡ drop key row = take_rest row key in
    let inside : place < length (drop key row) = subst (λ (xs : List ℕ). place < length xs) all h.0 in
    let four : 4 ≡ length row - key = omega (arith, wide) in
    let wrong : IsFirstWrong (Field (length row - key) 0 65535) (drop key row) place =
    subst (λ (w : ℕ). IsFirstWrong (Field w 0 65535) (drop key row) place) four (subst (λ (xs : List ℕ). IsFirstWrong (Field 4 0 65535) xs place) all h.1) in
    let tail : IsFirstWrong (Tail child (length row - key)) (drop key row) place =
    subst (λ (b : Bool). IsFirstWrong (Tail b (length row - key)) (drop key row) place) (sym is) wrong in
    (omega (arith, inside, length-drop key row), wrong-rest key (Field key low high) (λ _. Tail child (length row - key)) row place (omega (arith, wide)) (key-field key low high row (omega (arith, wide)) front) tail)

pub row-child : (child : Bool) (key low high : ℕ) (row : List ℕ) → child ≡ true → length row ≡ key + 4
    → Field (length (take key row)) low high (take key row)
    → Field 4 0 65535 (take (length row - key) (drop key row))
    → Row child key (length row) low high row
row-child child key low high row is wide front h =
    let four : 4 ≡ length row - key = omega (arith, wide) in
    let tail : Field (length row - key) 0 65535 (drop key row) =
    subst (λ (w : ℕ). Field w 0 65535 (drop key row)) four (subst (Field 4 0 65535) (take_rest row key) h) in
    record {
      front = key-field key low high row (omega (arith, wide)) front;
      rest = subst (λ (b : Bool). Tail b (length row - key) (drop key row)) (sym is) tail;
    }

pub row-plain : (child : Bool) (key low high : ℕ) (row : List ℕ) → child ≡ false → key ≤ length row → IsBytes row
    → Field (length (take key row)) low high (take key row)
    → Row child key (length row) low high row
row-plain child key low high row is within sound front =
    let tail : Free (length row - key) (drop key row) = record { wide = length-drop key row; sound = bytes-drop key row sound } in
    record {
      front = key-field key low high row within front;
      rest = subst (λ (b : Bool). Tail b (length row - key) (drop key row)) (sym is) tail;
    }

-- ---- the number below the end

pub one-below : (bytes : List ℕ) (value by : ℕ) → length bytes ≡ 1 → value + by ≡ 256 → number (set bytes 0 value) + by ≡ 256 ^ length bytes
one-below [] value by h e = absurd (omega arith)
one-below (b ∷ []) value by h e = omega arith
one-below (b ∷ c ∷ bytes) value by h e = absurd (omega arith)

full : (n : ℕ) → number (replicate n 255) + 1 ≡ 256 ^ n
full zero = refl
full (suc n) = step (length (replicate {A = ℕ} n 255)) (number (replicate n 255)) (length-replicate {A = ℕ} n 255) (full n)
  where
    step : (w x : ℕ) → w ≡ n → x + 1 ≡ 256 ^ n → 255 * 256 ^ w + x + 1 ≡ 256 ^ suc n
    step w x e h = ap (λ (k : ℕ). 255 * 256 ^ k + x + 1) e ∙ omega (arith, h, pow-succ' 256 n)

put-end : (at k : ℕ) (front back ys : List ℕ) → length front ≡ at → length back ≤ k → put_mid at k (front ++ back) ys ≡ front ++ ys
put-end at k front back ys e h =
    ap (λ (f : List ℕ). f ++ (ys ++ drop k (drop at (front ++ back)))) (take_at front back at e)
    ∙ ap (λ (r : List ℕ). front ++ (ys ++ drop k r)) (drop_at front back at e)
    ∙ ap (λ (r : List ℕ). front ++ (ys ++ r)) (drop_all k back h)
    ∙ ap (λ (r : List ℕ). front ++ r) (append-nil ys)

pub many-below : (at k by : ℕ) (front back ys : List ℕ) → 1 ≤ by → by ≤ 65535 → front ≡ replicate at 255 → length back ≤ k → ys ≡ to_be_bytes w16 (65536 - by)
    → number (put_mid at k (front ++ back) ys) + by ≡ 256 ^ (at + 2)
many-below at k by front back ys least most is h e =
    let size : length front ≡ at = ap length is ∙ length-replicate at 255 in
    let value : number ys ≡ 65536 - by = ap number e ∙ spelled 2 (65536 - by) (omega arith) in
    let wide : length ys ≡ 2 = ap length e in
    let rest : number (front ++ ys) ≡ number front * 256 ^ length ys + number ys = number-append front ys in
    let power : 256 ^ length ys ≡ 65536 = ap (λ (w : ℕ). 256 ^ w) wide in
    let whole : number front + 1 ≡ 256 ^ at = ap (λ (xs : List ℕ). number xs + 1) is ∙ full at in
    let sum : number (front ++ ys) ≡ number front * 65536 + (65536 - by) = rest ∙ ap (λ (p : ℕ). number front * p + number ys) power ∙ ap (λ (v : ℕ). number front * 65536 + v) value in
    let pow : 256 ^ (at + 2) ≡ 256 ^ at * 65536 = pow-add 256 at 2 in
    let put : number (put_mid at k (front ++ back) ys) ≡ number (front ++ ys) = ap number (put-end at k front back ys size h) in
    omega (arith, put, sum, whole, pow)
