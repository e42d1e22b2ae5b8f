-- The parts of a text's key: how they are written, and a text that is read from them.
use Rattle.std.proofs.Common.{◌≡◌, ℕ, zero, suc, ◌+◌, ◌-◌, ◌≤◌, Bool, true, List, [], ◌∷◌, ◌++◌, length, get_or, take, drop, set, replicate, refl, sym, ap, ◌∙◌, append_assoc, length-append, length-take, length-drop, drop-cons, arith}
use Rattle.std.specs.Prelude.{◌==◌}
use Rattle.std.specs.List.{list_all}
use Rattle.std.proofs.Math.Seq.{set-append_seam, take-append_seam, drop-append_seam, get_or-append_seam}
use Rattle.std.proofs.lemmas.List.{take-append-drop, drop-drop, drop_all, length-replicate}
use Rattle.std.proofs.lemmas.Bool.{eqb-true, and_parts}
use borrow.Rule.Slice.PartMut.{put_mid, post_of}
use Rattle.st_keys.specs.Keys.{text_key}

-- ---- writing

single : (xs : List ℕ) → length xs ≡ 1 → (y : ℕ) × (xs ≡ y ∷ [])
single [] h = absurd (omega arith)
single (x ∷ []) h = (x, refl)
single (x ∷ y ∷ xs) h = absurd (omega arith)

-- a last byte is set behind as many bytes as its place says
set-last : (xs rest : List ℕ) (place y : ℕ) → length xs ≡ place → length rest ≡ 1 → set (xs ++ rest) place y ≡ xs ++ y ∷ []
set-last xs rest place y h one =
    let last = single rest one in
    rw (last.1, ← h) (set-append_seam xs last.0 [] y)

behind : (limit : ℕ) (text into zeros : List ℕ) → length text ≤ limit → length into ≡ limit + 1 → zeros ≡ replicate (limit - length text) 0
    → set (put_mid (length text) (limit - length text) (text ++ drop (length text) into) zeros) limit (length text) ≡ text_key limit text
behind limit text into zeros fits wide blank =
    let whole : List ℕ = text ++ drop (length text) into in
    let rest : List ℕ = post_of (length text) (limit - length text) whole in
    let front : take (length text) whole ≡ text = take-append_seam text (drop (length text) into) in
    let long : length zeros ≡ limit - length text = ap length blank ∙ length-replicate (limit - length text) 0 in
    let all : length whole ≡ limit + 1 = omega (arith, length-append text (drop (length text) into), length-drop (length text) into) in
    let one : length rest ≡ 1 = simp (length-drop) (omega arith) in
    let place : length (text ++ zeros) ≡ limit = omega (arith, length-append text zeros) in
    rw (front, ← append_assoc, set-last (text ++ zeros) rest limit (length text) place one, blank) refl

-- a text in front of what was there, zeros behind it up to the limit, and its length in the last place
pub written : (limit : ℕ) (text into front zeros : List ℕ) → length text ≤ limit → length into ≡ limit + 1 → front ≡ text
    → zeros ≡ replicate (length (take (limit - length text) (drop (length text) (front ++ drop (length text) into)))) 0
    → set (put_mid (length text) (limit - length text) (front ++ drop (length text) into) zeros) limit (length text) ≡ text_key limit text
written limit text into front zeros fits wide same blank =
    let many : length front ≡ length text = ap length same in
    let count : length (take (limit - length text) (drop (length text) (front ++ drop (length text) into))) ≡ limit - length text =
    simp (length-take, length-drop, length-append) (omega arith) in
    rw same (behind limit text into zeros fits wide (blank ∙ ap (λ (k : ℕ). replicate k 0) count))

-- ---- reading

abbrev pub is_zero : ℕ → Bool
is_zero byte = byte == 0

zeros-are : (xs : List ℕ) → list_all is_zero xs ≡ true → xs ≡ replicate (length xs) 0
zeros-are [] h = refl
zeros-are (x ∷ xs) h =
    let parts = and_parts (is_zero x) (list_all is_zero xs) h in
    let first = eqb-true x 0 parts.0 in
    rw first (ap (λ (rest : List ℕ). 0 ∷ rest) (zeros-are xs parts.1))

are-zeros : (n : ℕ) → list_all is_zero (replicate n 0) ≡ true
are-zeros zero = refl
are-zeros (suc n) = are-zeros n

-- the key of the text whose length stands in the last place, where zeros stand behind it, is the bytes
pub rebuilt : (limit : ℕ) (bytes : List ℕ) (n : ℕ) → length bytes ≡ limit + 1 → n ≡ get_or bytes limit 0 → n ≤ limit
    → list_all is_zero (take (limit - n) (drop n bytes)) ≡ true → text_key limit (take n bytes) ≡ bytes
rebuilt limit bytes n wide is fits blank =
    let front : length (take n bytes) ≡ n = simp length-take (omega arith) in
    let long : length (take (limit - n) (drop n bytes)) ≡ limit - n = simp (length-take, length-drop) (omega arith) in
    let middle : take (limit - n) (drop n bytes) ≡ replicate (limit - n) 0 = zeros-are (take (limit - n) (drop n bytes)) blank ∙ ap (λ (k : ℕ). replicate k 0) long in
    let place : n + (limit - n) ≡ limit = omega arith in
    let beyond : drop (suc limit) bytes ≡ [] = drop_all (suc limit) bytes (omega arith) in
    let last : drop (limit - n) (drop n bytes) ≡ n ∷ [] =
    drop-drop (limit - n) n bytes ∙ ap (λ (k : ℕ). drop k bytes) place ∙ drop-cons bytes limit 0 (omega arith)
    ∙ (λ i. sym is i ∷ beyond i) in
    let tail : drop n bytes ≡ replicate (limit - n) 0 ++ n ∷ [] = sym (take-append-drop (limit - n) (drop n bytes)) ∙ (λ i. middle i ++ last i) in
    rw (front, append_assoc, ← tail) (take-append-drop n bytes)

parts-of : (limit : ℕ) (text bytes : List ℕ) → length text ≤ limit → text_key limit text ≡ bytes
    → (get_or bytes limit 0 ≡ length text) × (take (length text) bytes ≡ text) × (list_all is_zero (take (limit - length text) (drop (length text) bytes)) ≡ true)
parts-of limit text bytes fits e =
    let zeros : List ℕ = replicate (limit - length text) 0 in
    let many : length zeros ≡ limit - length text = length-replicate (limit - length text) 0 in
    let place : length (text ++ zeros) ≡ limit = omega (arith, length-append text zeros) in
    let split : bytes ≡ text ++ (zeros ++ length text ∷ []) = sym e ∙ append_assoc text zeros (length text ∷ []) in
    let last : get_or bytes limit 0 ≡ length text = ap (λ (xs : List ℕ). get_or xs limit 0) (sym e) ∙ ap (λ (k : ℕ). get_or (text_key limit text) k 0) (sym place) ∙ get_or-append_seam (text ++ zeros) (length text) [] 0 in
    let front : take (length text) bytes ≡ text = ap (take (length text)) split ∙ take-append_seam text (zeros ++ length text ∷ []) in
    let behind : drop (length text) bytes ≡ zeros ++ length text ∷ [] = ap (drop (length text)) split ∙ drop-append_seam text (zeros ++ length text ∷ []) in
    let middle : take (limit - length text) (drop (length text) bytes) ≡ zeros =
    ap (take (limit - length text)) behind ∙ ap (λ (k : ℕ). take k (zeros ++ length text ∷ [])) (sym many) ∙ take-append_seam zeros (length text ∷ []) in
    (last, front, ap (list_all is_zero) middle ∙ are-zeros (limit - length text))

-- the parts of a key, by the length that stands in its last place
pub parts : (limit : ℕ) (text bytes : List ℕ) → length text ≤ limit → text_key limit text ≡ bytes
    → (get_or bytes limit 0 ≡ length text) × (take (get_or bytes limit 0) bytes ≡ text)
    × (list_all is_zero (take (limit - get_or bytes limit 0) (drop (get_or bytes limit 0) bytes)) ≡ true)
parts limit text bytes fits e =
    let p = parts-of limit text bytes fits e in
    (p.0, ap (λ (n : ℕ). take n bytes) p.0 ∙ p.1, ap (λ (n : ℕ). list_all is_zero (take (limit - n) (drop n bytes))) p.0 ∙ p.2)
