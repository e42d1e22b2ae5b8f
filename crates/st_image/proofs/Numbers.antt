-- The numbers that bytes spell.
use Rattle.std.proofs.Common.{◌≡◌, ℕ, zero, suc, ◌+◌, ◌*◌, ◌^◌, ◌<◌, ◌≤◌, List, [], ◌∷◌, ◌++◌, length, take, drop, get_or, sym, ap, ◌∙◌, arith}
use Rattle.std.proofs.Math.Nat.{add-mul, mul_assoc, mul-le-mul_right, one-le-pow, pow-succ'}
use Rattle.std.proofs.lemmas.Nat.{pow-add}
use Rattle.std.proofs.lemmas.List.{length-append, take-append-drop, take_more}
use Rattle.st_image.specs.Bytes.{IsBytes, number}

pub pow-positive : (n : ℕ) → 1 ≤ 256 ^ n
pow-positive n = one-le-pow n 256 (omega arith)

-- ---- bytes

pub bytes-none : IsBytes []
bytes-none = λ i. omega arith

pub bytes-cons : (x : ℕ) (xs : List ℕ) → x < 256 → IsBytes xs → IsBytes (x ∷ xs)
bytes-cons x xs h k zero = h
bytes-cons x xs h k (suc i) = k i

pub bytes-take : (n : ℕ) (xs : List ℕ) → IsBytes xs → IsBytes (take n xs)
bytes-take zero xs h = bytes-none
bytes-take (suc n) [] h = bytes-none
bytes-take (suc n) (x ∷ xs) h = bytes-cons x (take n xs) (h 0) (bytes-take n xs (λ i. h (suc i)))

pub bytes-drop : (n : ℕ) (xs : List ℕ) → IsBytes xs → IsBytes (drop n xs)
bytes-drop zero xs h = h
bytes-drop (suc n) [] h = bytes-none
bytes-drop (suc n) (x ∷ xs) h = bytes-drop n xs (λ i. h (suc i))

pub bytes-append : (xs ys : List ℕ) → IsBytes xs → IsBytes ys → IsBytes (xs ++ ys)
bytes-append [] ys h k = k
bytes-append (x ∷ xs) ys h k = bytes-cons x (xs ++ ys) (h 0) (bytes-append xs ys (λ i. h (suc i)) k)

pub bytes-rest : (xs ys : List ℕ) → IsBytes (xs ++ ys) → IsBytes ys
bytes-rest [] ys h = h
bytes-rest (x ∷ xs) ys h = bytes-rest xs ys (λ i. h (suc i))

-- ---- numbers

pub number-append : (xs ys : List ℕ) → number (xs ++ ys) ≡ number xs * 256 ^ length ys + number ys
number-append [] ys = omega arith
number-append (x ∷ xs) ys =
    let m = 256 ^ length ys in
    let p = 256 ^ length xs in
    let wide : 256 ^ length (xs ++ ys) ≡ p * m = ap (λ (n : ℕ). 256 ^ n) (length-append xs ys) ∙ pow-add 256 (length xs) (length ys) in
    let rest = number-append xs ys in
    ap (λ (w : ℕ). x * w + number (xs ++ ys)) wide ∙ ap (λ (r : ℕ). x * (p * m) + r) rest ∙ regroup x p m (number xs) (number ys)
  where
    regroup : (x p m a b : ℕ) → x * (p * m) + (a * m + b) ≡ (x * p + a) * m + b
    regroup x p m a b = let e = add-mul (x * p) a m in let f = mul_assoc x p m in omega (arith, e, f)

pub number-lt : (xs : List ℕ) → IsBytes xs → number xs < 256 ^ length xs
number-lt [] h = omega arith
number-lt (x ∷ xs) h = step x (number xs) (length xs) (h 0) (number-lt xs (λ i. h (suc i)))
  where
    step : (x n k : ℕ) → x < 256 → n < 256 ^ k → x * 256 ^ k + n < 256 ^ suc k
    step x n k low rest =
        let up : (x + 1) * 256 ^ k ≤ 256 * 256 ^ k = mul-le-mul_right (256 ^ k) (omega arith) in
        let e = add-mul x 1 (256 ^ k) in
        let f = pow-succ' 256 k in
        omega (arith, up, e, f, rest)

-- cut at a place
pub number-cut : (k : ℕ) (xs : List ℕ) → number xs ≡ number (take k xs) * 256 ^ length (drop k xs) + number (drop k xs)
number-cut k xs = ap number (sym (take-append-drop k xs)) ∙ number-append (take k xs) (drop k xs)

-- one byte more
pub number-more : (xs : List ℕ) (i : ℕ) → i < length xs → number (take (i + 1) xs) ≡ number (take i xs) * 256 + get_or xs i 0
number-more xs i h =
    ap number (take_more xs i 0 h) ∙ number-append (take i xs) (get_or xs i 0 ∷ []) ∙ last (number (take i xs)) (get_or xs i 0)
  where
    last : (n b : ℕ) → n * 256 ^ length (b ∷ []) + number (b ∷ []) ≡ n * 256 + b
    last n b = omega arith
