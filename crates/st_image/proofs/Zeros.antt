-- Bytes that are zero.
use Rattle.std.proofs.Common.{◌≡◌, ℕ, zero, suc, ◌+◌, ◌-◌, ◌*◌, ◌^◌, ◌<◌, ◌≤◌, eqb, List, [], ◌∷◌, ◌++◌, length, take, get_or, replicate, refl, sym, ap, subst, ◌∙◌, arith}
use Rattle.std.proofs.Math.Nat.{mul-le-mul_right}
use Rattle.std.proofs.lemmas.Bool.{and_parts, eqb-true}
use Rattle.std.specs.List.{list_all}
use Rattle.std.proofs.lemmas.List.{length-append, length-replicate, length-take-le}
use Rattle.st_image.specs.Bytes.{AreBlank, IsBytes, number}
use Rattle.st_image.specs.Parts.{Field}
use Rattle.st_image.specs.Prefixes.{Begins, IsFirstWrong}
use Rattle.st_image.proofs.Numbers.{bytes-append, bytes-cons, bytes-none, bytes-take, number-append, number-more, pow-positive}

pub number-zeros : (n : ℕ) → number (replicate n 0) ≡ 0
number-zeros zero = refl
number-zeros (suc n) = omega (arith, number-zeros n)

pub bytes-zeros : (n : ℕ) → IsBytes (replicate n 0)
bytes-zeros zero = bytes-none
bytes-zeros (suc n) = bytes-cons 0 (replicate n 0) (omega arith) (bytes-zeros n)

some-above : (a m r : ℕ) → 1 ≤ a → 1 ≤ m → 1 ≤ a * m + r
some-above a m r h k = let up : 1 * m ≤ a * m = mul-le-mul_right m h in omega (arith, up)

pub wrong-zero : (width i : ℕ) (bytes : List ℕ) → i < width → length bytes ≡ width → IsBytes bytes → number (take i bytes) ≡ 0 → (get_or bytes i 0 ≡ 0 → ⊥) → IsFirstWrong (Field width 0 0) bytes i
wrong-zero width i bytes within wide sound so-far here = record { begins = (replicate (width - i) 0, starts); ends = stops }
  where
    zeros : (a m b : ℕ) → a ≡ 0 → b ≡ 0 → a * m + b ≡ 0
    zeros a m b h k = ap (λ (n : ℕ). n * m + b) h ∙ omega arith

    value : number (take i bytes ++ replicate (width - i) 0) ≡ 0
    value =
        number-append (take i bytes) (replicate (width - i) 0)
        ∙ zeros (number (take i bytes)) (256 ^ length (replicate (width - i) 0)) (number (replicate (width - i) 0)) so-far (number-zeros (width - i))

    size : length (take i bytes ++ replicate (width - i) 0) ≡ width
    size =
        let rest : List ℕ = replicate (width - i) 0 in
        let all : length rest ≡ width - i = length-replicate (width - i) 0 in
        let front : length (take i bytes) ≡ i = length-take-le i bytes (omega arith) in
        let sum : length (take i bytes ++ rest) ≡ length (take i bytes) + length rest = length-append (take i bytes) rest in
        omega (arith, all, front, sum)

    starts : Field width 0 0 (take i bytes ++ replicate (width - i) 0)
    starts = record {
      wide = size;
      sound = bytes-append (take i bytes) (replicate (width - i) 0) (bytes-take i bytes sound) (bytes-zeros (width - i));
      least = omega arith;
      most = omega (arith, value);
    }

    byte : number (take (i + 1) bytes) ≡ get_or bytes i 0
    byte = number-more bytes i (omega arith) ∙ omega (arith, so-far)

    stops : Begins (Field width 0 0) (take (i + 1) bytes) → ⊥
    stops b =
        let n = number-append (take (i + 1) bytes) b.0 in
        let some = some-above (number (take (i + 1) bytes)) (256 ^ length b.0) (number b.0) (omega (arith, byte, here)) (pow-positive (length b.0)) in
        absurd (omega (arith, (b.1).most, n, some))

-- ---- three ways to say it

pub blank-number : (bytes : List ℕ) → AreBlank bytes → number bytes ≡ 0
blank-number [] h = refl
blank-number (x ∷ bytes) h =
    let p = and_parts (eqb x 0) (list_all (λ (b : ℕ). eqb b 0) bytes) h in
    let here : x ≡ 0 = eqb-true x 0 p.0 in
    ap (λ (n : ℕ). n * 256 ^ length bytes + number bytes) here ∙ omega (arith, blank-number bytes p.1)

pub number-blank : (bytes : List ℕ) → number bytes ≡ 0 → AreBlank bytes
number-blank [] h = refl
number-blank (zero ∷ bytes) h = number-blank bytes (omega arith)
number-blank (suc x ∷ bytes) h =
    absurd (omega (arith, some-above (suc x) (256 ^ length bytes) (number bytes) (omega arith) (pow-positive (length bytes))))

pub blank-zeros : (n : ℕ) (bytes : List ℕ) → length bytes ≡ n → AreBlank bytes → bytes ≡ replicate n 0
blank-zeros zero [] h k = refl
blank-zeros zero (x ∷ bytes) h k = absurd (omega arith)
blank-zeros (suc n) [] h k = absurd (omega arith)
blank-zeros (suc n) (x ∷ bytes) h k =
    let p = and_parts (eqb x 0) (list_all (λ (b : ℕ). eqb b 0) bytes) k in
    let here : x ≡ 0 = eqb-true x 0 p.0 in
    ap (λ (b : ℕ). b ∷ bytes) here ∙ ap (λ (r : List ℕ). 0 ∷ r) (blank-zeros n bytes (omega arith) p.1)

pub zero-field : (n : ℕ) (bytes : List ℕ) → bytes ≡ replicate n 0 → Field n 0 0 bytes
zero-field n bytes e = subst (Field n 0 0) (sym e) (record {
  wide = length-replicate n 0;
  sound = bytes-zeros n;
  least = omega arith;
  most = omega (arith, number-zeros n);
})

pub field-zero : (n : ℕ) (bytes : List ℕ) → Field n 0 0 bytes → bytes ≡ replicate n 0
field-zero n bytes h = blank-zeros n bytes h.wide (number-blank bytes (omega (arith, h.most)))
