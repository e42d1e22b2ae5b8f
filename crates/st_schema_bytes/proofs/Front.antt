-- The text in front of a schema's numbers.
use Rattle.std.proofs.Common.{◌≡◌, ℕ, suc, ◌+◌, ◌-◌, ◌<◌, ◌≤◌, ◌^◌, List, ◌++◌, length, take, drop, sym, ap, ◌∙◌, arith}
use Rattle.std.specs.Int.{w32, to_be_bytes, from_be_bytes}
use Rattle.std.proofs.lemmas.Nat.{from_be_bytes-to_be_bytes_4}
use Rattle.std.proofs.lemmas.List.{take_all, take_at, length-append}
use Rattle.byteorder.specs.Endian.{big_number}
use Rattle.st_lattice.specs.Outline.{Outline}
use Rattle.st_schema_bytes.specs.SchemaBytes.{schema_bytes, schema_text, numbers}

-- a number of four bytes is read as it was written
read-number : (n : ℕ) (rest : List ℕ) → n < 2 ^ 32 → big_number 4 (to_be_bytes w32 n ++ rest) ≡ n
read-number n rest h =
    let e : from_be_bytes w32 (to_be_bytes w32 n) ≡ n = from_be_bytes-to_be_bytes_4 n h in
    omega (arith, e)

-- how long the text is
pub text-size : (bytes : List ℕ) (n : ℕ) (schema : Outline) → bytes ≡ schema_bytes schema → length (schema_text schema) ≤ 1048576 → n ≡ big_number 4 bytes
    → n ≡ length (schema_text schema)
unfolding schema_bytes
text-size bytes n schema e short is =
    is ∙ ap (λ (xs : List ℕ). big_number 4 xs) e ∙ read-number (length (schema_text schema)) (schema_text schema ++ numbers schema) (omega (arith, short))

-- what stands behind the number
pub behind : (bytes : List ℕ) (schema : Outline) → bytes ≡ schema_bytes schema → take (length bytes - 4) (drop 4 bytes) ≡ schema_text schema ++ numbers schema
unfolding schema_bytes
behind bytes schema e =
    let size : length bytes ≡ suc (suc (suc (suc (length (schema_text schema ++ numbers schema))))) = ap length e in
    ap (λ (xs : List ℕ). take (length bytes - 4) (drop 4 xs)) e ∙ take_all (length bytes - 4) (schema_text schema ++ numbers schema) (omega (arith, size))

-- the text is as long as the number in front of it says
pub text-read : (bytes : List ℕ) (n : ℕ) (schema : Outline) → bytes ≡ schema_bytes schema → length (schema_text schema) ≤ 1048576 → n ≡ big_number 4 bytes
    → take n (take (length bytes - 4) (drop 4 bytes)) ≡ schema_text schema
text-read bytes n schema e short is =
    ap (λ (xs : List ℕ). take n xs) (behind bytes schema e) ∙ take_at (schema_text schema) (numbers schema) n (sym (text-size bytes n schema e short is))

-- fewer than four bytes are those of no schema
pub four : (bytes : List ℕ) (schema : Outline) → bytes ≡ schema_bytes schema → 4 ≤ length bytes
unfolding schema_bytes
four bytes schema e =
    let size : length bytes ≡ suc (suc (suc (suc (length (schema_text schema ++ numbers schema))))) = ap length e in
    omega (arith, size)

-- the text is all there
pub fits : (bytes : List ℕ) (n : ℕ) (schema : Outline) → bytes ≡ schema_bytes schema → length (schema_text schema) ≤ 1048576 → n ≡ big_number 4 bytes
    → (n ≤ 1048576) × (n ≤ length (take (length bytes - 4) (drop 4 bytes)))
fits bytes n schema e short is =
    let size = text-size bytes n schema e short is in
    let whole : length (take (length bytes - 4) (drop 4 bytes)) ≡ length (schema_text schema) + length (numbers schema) = ap length (behind bytes schema e) ∙ length-append (schema_text schema) (numbers schema) in
    (omega (arith, size, short), omega (arith, size, whole))
