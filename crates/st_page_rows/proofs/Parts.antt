-- Bytes with others from a place on, in front of that place and from there on.
use Rattle.std.proofs.Common.{◌≡◌, ℕ, zero, suc, ◌+◌, ◌<◌, ◌≤◌, eqb, List, [], ◌∷◌, ◌++◌, length, take, drop, get_or, replicate, refl, sym, ap, ◌∙◌, arith}
use Rattle.std.proofs.lemmas.List.{append_assoc, drop-append-le, drop-drop, drop-take, drop_at, get_or-take, length-take-le, take-append-drop}
use Rattle.std.proofs.lemmas.Bool.{and_parts}
use Rattle.std.proofs.lemmas.List.Folds.{list_all-append}
use Rattle.std.specs.List.{list_all}
use Rattle.st_image.specs.Bytes.{AreBlank, IsBytes}
use Rattle.st_image.specs.Fields.{with_part}
use Rattle.st_image.proofs.Numbers.{bytes-append, bytes-drop, bytes-take}
use Rattle.st_image.proofs.Written.{before-stays}

pub before-part : (at : ℕ) (bytes page : List ℕ) → at + length bytes ≤ length page → take at (with_part at bytes page) ≡ take at page
before-part at bytes page h = before-stays at at bytes page h (omega arith)

pub from-part : (at : ℕ) (bytes page : List ℕ) → at + length bytes ≤ length page → drop at (with_part at bytes page) ≡ bytes ++ drop (at + length bytes) page
from-part at bytes page h =
    ap (drop at) (append_assoc (take at page) bytes (drop (at + length bytes) page))
    ∙ drop_at (take at page) (bytes ++ drop (at + length bytes) page) at (length-take-le at page (omega arith))

-- what stands behind a front, where a part of it is written
pub part-behind : (front at : ℕ) (bytes page : List ℕ) → front + at + length bytes ≤ length page → drop front (with_part (front + at) bytes page) ≡ with_part at bytes (drop front page)
part-behind front at bytes page h =
    let rest : List ℕ = drop (front + at + length bytes) page in
    let wide : length (take (front + at) page) ≡ front + at = length-take-le (front + at) page (omega arith) in
    let e : front + at + length bytes ≡ front + (at + length bytes) = omega arith in
    ap (drop front) (append_assoc (take (front + at) page) bytes rest)
    ∙ drop-append-le front (take (front + at) page) (bytes ++ rest) (omega (arith, wide))
    ∙ ap (λ (xs : List ℕ). xs ++ (bytes ++ rest)) (drop-take front at page)
    ∙ sym (append_assoc (take at (drop front page)) bytes rest)
    ∙ ap (λ (n : ℕ). (take at (drop front page) ++ bytes) ++ drop n page) e
    ∙ ap (λ (xs : List ℕ). (take at (drop front page) ++ bytes) ++ xs) (sym (drop-drop (at + length bytes) front page))

pub bytes-part : (at : ℕ) (bytes page : List ℕ) → IsBytes bytes → IsBytes page → IsBytes (with_part at bytes page)
bytes-part at bytes page h k =
    bytes-append (take at page ++ bytes) (drop (at + length bytes) page) (bytes-append (take at page) bytes (bytes-take at page k) h) (bytes-drop (at + length bytes) page k)

-- what stands at a place already, written there
pub part-same : (at n : ℕ) (page : List ℕ) → length (take n (drop at page)) ≡ n → with_part at (take n (drop at page)) page ≡ page
part-same at n page h =
    let bytes : List ℕ = take n (drop at page) in
    append_assoc (take at page) bytes (drop (at + length bytes) page)
    ∙ ap (λ (m : ℕ). take at page ++ (bytes ++ drop (at + m) page)) h
    ∙ ap (λ (xs : List ℕ). take at page ++ (bytes ++ xs)) (sym (drop-drop n at page))
    ∙ ap (λ (xs : List ℕ). take at page ++ xs) (take-append-drop n (drop at page))
    ∙ take-append-drop at page

-- a byte in front stays
pub byte-before : (at i : ℕ) (bytes page : List ℕ) → at + length bytes ≤ length page → i < at → get_or (with_part at bytes page) i 0 ≡ get_or page i 0
byte-before at i bytes page h k =
    sym (get_or-take at (with_part at bytes page) i 0 k)
    ∙ ap (λ (xs : List ℕ). get_or xs i 0) (before-part at bytes page h)
    ∙ get_or-take at page i 0 k

-- ---- zeros

pub blank-rest : (n : ℕ) (bytes : List ℕ) → AreBlank bytes → AreBlank (drop n bytes)
blank-rest zero bytes h = h
blank-rest (suc n) [] h = h
blank-rest (suc n) (x ∷ bytes) h = blank-rest n bytes (and_parts (eqb x 0) (list_all (λ (b : ℕ). eqb b 0) bytes) h).1

pub blank-append : (a b : List ℕ) → AreBlank a → AreBlank b → AreBlank (a ++ b)
blank-append a b h k = list_all-append (λ (x : ℕ). eqb x 0) a b ∙ cc

pub blank-filled : (n : ℕ) → AreBlank (replicate n 0)
blank-filled zero = refl
blank-filled (suc n) = blank-filled n
