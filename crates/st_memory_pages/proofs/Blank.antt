-- Pages that are blank.
use Rattle.std.proofs.Common.{◌≡◌, ◌==◌, ℕ, zero, suc, Bool, true, ◌&&◌, List, [], ◌∷◌, length, get_or, ◌<◌, ◌≤◌, refl, ap, ◌∙◌, arith}
use Rattle.std.specs.List.{list_all}
use Rattle.std.specs.Prelude.{replicate}
use Rattle.std.specs.Str.{bytes_eq}
use Rattle.std.proofs.lemmas.Slice.Eq.{bytes_eq-Decides}
use Rattle.std.proofs.lemmas.List.{get_or_past}
use Rattle.st_image.specs.Fields.{blank}
use Rattle.st_pages.specs.Attempt.{IsImage}

are_zero : (xs : List ℕ) → list_all (λ b. b == 0) xs ≡ bytes_eq xs (replicate (length xs) 0)
are_zero [] = refl
are_zero (x ∷ xs) = ap (λ (b : Bool). (x == 0) && b) (are_zero xs)

blank-is : (xs : List ℕ) → length xs ≡ 4096 → replicate (length xs) 0 ≡ blank
unfolding blank
blank-is xs size = ap (λ (n : ℕ). replicate n 0) size

pub blank_by : (bytes page : List ℕ) (all : Bool) → bytes ≡ page → length bytes ≡ 4096 → all ≡ list_all (λ b. b == 0) bytes
    → all ≡ bytes_eq page blank
blank_by bytes page all same size tested =
    tested ∙ are_zero bytes ∙ ap (λ (b : List ℕ). bytes_eq bytes b) (blank-is bytes size) ∙ ap (λ (a : List ℕ). bytes_eq a blank) same

pub bytes_eq-refl : (xs : List ℕ) → bytes_eq xs xs ≡ true
bytes_eq-refl xs = (bytes_eq-Decides xs xs).1 refl

pub bytes_eq-true : (xs ys : List ℕ) → bytes_eq xs ys ≡ true → xs ≡ ys
bytes_eq-true xs ys = (bytes_eq-Decides xs ys).0

zeros : ℕ → List ℕ
zeros n = replicate n 0

replicate-zero : (n i : ℕ) → get_or (zeros n) i 0 ≡ 0
unfolding zeros
replicate-zero zero i = refl
replicate-zero (suc n) zero = refl
replicate-zero (suc n) (suc i) = replicate-zero n i

length-zeros : (n : ℕ) → length (zeros n) ≡ n
unfolding zeros
length-zeros zero = refl
length-zeros (suc n) = ap suc (length-zeros n)

zeros-bytes : (n i : ℕ) → get_or (zeros n) i 0 < 256
zeros-bytes n i = rw (replicate-zero n i) (omega arith)

pub blank-image : IsImage blank
unfolding blank zeros
blank-image = record { size = length-zeros 4096; bytes = zeros-bytes 4096 }

-- behind the images stand blank pages
pub behind : (images : List (List ℕ)) (page : ℕ) → length images ≤ page → get_or images page blank ≡ blank
behind images page past = get_or_past images page blank past
