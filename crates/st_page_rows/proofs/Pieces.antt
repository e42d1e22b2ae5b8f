-- The pieces of some bytes, from their front and from a place on.
use Rattle.std.proofs.Common.{◌≡◌, ℕ, zero, suc, ◌+◌, ◌-◌, ◌*◌, ◌<◌, ◌≤◌, List, ◌∷◌, ◌++◌, length, take, drop, Some, refl, sym, ap, ◌∙◌, arith}
use Rattle.std.proofs.Math.Nat.{suc-mul}
use Rattle.std.proofs.lemmas.List.{drop-drop, drop-take, drop_at, take-append-drop, take-take, take_at}
use Rattle.std.specs.Prelude.{slice_get}
use Rattle.st_image.specs.Fields.{pieces}

next-place : (i w : ℕ) (bytes : List ℕ) → drop (i * w) (drop w bytes) ≡ drop (suc i * w) bytes
next-place i w bytes =
    let e : w + i * w ≡ suc i * w = omega (arith, suc-mul i w) in
    drop-drop (i * w) w bytes ∙ ap (λ (n : ℕ). drop n bytes) e

first-place : (w : ℕ) (bytes : List ℕ) → drop (0 * w) bytes ≡ bytes
first-place w bytes = let e : 0 * w ≡ 0 = omega arith in ap (λ (n : ℕ). drop n bytes) e

pub take-pieces : (i n w : ℕ) (bytes : List ℕ) → i ≤ n → take i (pieces n w bytes) ≡ pieces i w bytes
take-pieces zero n w bytes h = refl
take-pieces (suc i) zero w bytes h = absurd (omega arith)
take-pieces (suc i) (suc n) w bytes h = ap (λ (rows : List (List ℕ)). take w bytes ∷ rows) (take-pieces i n w (drop w bytes) (omega arith))

pub drop-pieces : (i n w : ℕ) (bytes : List ℕ) → i ≤ n → drop i (pieces n w bytes) ≡ pieces (n - i) w (drop (i * w) bytes)
drop-pieces zero n w bytes h =
    let e : n ≡ n - 0 = omega arith in
    ap (λ (m : ℕ). pieces m w bytes) e ∙ ap (pieces (n - 0) w) (sym (first-place w bytes))
drop-pieces (suc i) zero w bytes h = absurd (omega arith)
drop-pieces (suc i) (suc n) w bytes h =
    let e : n - i ≡ suc n - suc i = omega arith in
    drop-pieces i n w (drop w bytes) (omega arith)
    ∙ ap (λ (m : ℕ). pieces m w (drop (i * w) (drop w bytes))) e
    ∙ ap (pieces (suc n - suc i) w) (next-place i w bytes)

pub piece-at : (i n w : ℕ) (bytes : List ℕ) → i < n → slice_get (pieces n w bytes) i ≡ Some (take w (drop (i * w) bytes))
piece-at i zero w bytes h = absurd (omega arith)
piece-at zero (suc n) w bytes h = ap (λ (xs : List ℕ). Some (take w xs)) (sym (first-place w bytes))
piece-at (suc i) (suc n) w bytes h = piece-at i n w (drop w bytes) (omega arith) ∙ ap (λ (xs : List ℕ). Some (take w xs)) (next-place i w bytes)

-- pieces of two lists are the same where so many bytes are
pub same-front : (n w : ℕ) (a b : List ℕ) → take (n * w) a ≡ take (n * w) b → pieces n w a ≡ pieces n w b
same-front zero w a b h = refl
same-front (suc n) w a b h =
    let sum : suc n * w ≡ w + n * w = omega (arith, suc-mul n w) in
    let k : take (w + n * w) a ≡ take (w + n * w) b = ap (λ (m : ℕ). take m a) (sym sum) ∙ h ∙ ap (λ (m : ℕ). take m b) sum in
    let within : w ≤ w + n * w = omega arith in
    let here : take w a ≡ take w b = sym (take-take w (w + n * w) a within) ∙ ap (take w) k ∙ take-take w (w + n * w) b within in
    let rest : take (n * w) (drop w a) ≡ take (n * w) (drop w b) = sym (drop-take w (n * w) a) ∙ ap (drop w) k ∙ drop-take w (n * w) b in
    ap (λ (row : List ℕ). row ∷ pieces n w (drop w a)) here ∙ ap (λ (rows : List (List ℕ)). take w b ∷ rows) (same-front n w (drop w a) (drop w b) rest)

pub pieces-front : (n w m : ℕ) (bytes : List ℕ) → n * w ≤ m → pieces n w (take m bytes) ≡ pieces n w bytes
pieces-front n w m bytes h = same-front n w (take m bytes) bytes (take-take (n * w) m bytes h)

-- in front of others
pub pieces-append : (n w : ℕ) (a b : List ℕ) → length a ≡ n * w → pieces n w (a ++ b) ≡ pieces n w a
pieces-append n w a b h =
    sym (pieces-front n w (n * w) (a ++ b) (omega arith)) ∙ ap (pieces n w) (take_at a b (n * w) h)

-- pieces that are the same up to one, and those from there on
pub pieces-from : (i n m w : ℕ) (old new : List ℕ) → i ≤ n → i ≤ m → take (i * w) new ≡ take (i * w) old
    → pieces m w new ≡ take i (pieces n w old) ++ pieces (m - i) w (drop (i * w) new)
pieces-from i n m w old new h k e =
    let front : take i (pieces m w new) ≡ take i (pieces n w old) =
    take-pieces i m w new k ∙ same-front i w new old e ∙ sym (take-pieces i n w old h) in
    sym (take-append-drop i (pieces m w new))
    ∙ ap (λ (rows : List (List ℕ)). rows ++ drop i (pieces m w new)) front
    ∙ ap (λ (rows : List (List ℕ)). take i (pieces n w old) ++ rows) (drop-pieces i m w new k)

-- one piece in front of others
pub pieces-cons : (n w : ℕ) (row bytes : List ℕ) → length row ≡ w → pieces (suc n) w (row ++ bytes) ≡ row ∷ pieces n w bytes
pieces-cons n w row bytes h =
    ap (λ (xs : List ℕ). xs ∷ pieces n w (drop w (row ++ bytes))) (take_at row bytes w h)
    ∙ ap (λ (xs : List ℕ). row ∷ pieces n w xs) (drop_at row bytes w h)
