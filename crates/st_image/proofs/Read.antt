-- The numbers that a page's fields spell, as they are read.
use Rattle.std.proofs.Common.{◌≡◌, ℕ, zero, suc, ◌+◌, ◌*◌, ◌^◌, ◌≤◌, List, [], ◌∷◌, length, take, drop, refl, sym, ap, ◌∙◌, arith}
use Rattle.std.proofs.lemmas.List.{length-take-le, length-drop}
use Rattle.byteorder.specs.Endian.{big_from}
use Rattle.byteorder.specs.Numbers.{big_from-cons, big_from-take}
use Rattle.st_image.specs.Bytes.{number}

-- the number in the first n bytes is the one that they spell
pub big-is : (n : ℕ) (xs : List ℕ) → n ≤ length xs → big_from 0 n xs ≡ number (take n xs)
big-is zero xs h = refl
big-is (suc n) [] h = absurd (omega arith)
big-is (suc n) (x ∷ xs) h =
    let e : length (take n xs) ≡ n = length-take-le n xs (omega arith) in
    ap (λ (r : ℕ). x * 256 ^ n + r) (big_from-cons 0 n x xs ∙ big-is n xs (omega arith)) ∙ ap (λ (m : ℕ). x * 256 ^ m + number (take n xs)) (sym e)

-- the same of those behind a place
pub field-is : (at n m : ℕ) (page : List ℕ) → at + n ≤ length page → n ≤ m → big_from 0 n (take m (drop at page)) ≡ number (take n (drop at page))
field-is at n m page h k =
    big_from-take 0 n m (drop at page) (omega arith) ∙ big-is n (drop at page) (omega (arith, length-drop at page))
