-- The keys of integers and of entities, as they are read.
use Rattle.std.proofs.Common.{◌≡◌, ℕ, zero, suc, ◌+◌, ◌-◌, ◌%◌, ◌^◌, ◌<◌, ℤ, negsuc, List, [], ◌∷◌, ◌++◌, length, get_or, take, drop, Fits, w8, to_z, of_z, refl, ap, ◌∙◌, inl, inr, arith}
use Rattle.std.specs.Int.{w16, w32, w64, to_be_bytes}
use Rattle.std.proofs.lemmas.Nat.{be_bytes_2, be_bytes_4, be_bytes_8}
use Rattle.std.proofs.lemmas.Bool.{cases_lt, le-ltb}
use Rattle.std.proofs.lemmas.Int.{to_z-of_z, to_z_pos}
use lib.Signed.{mag}
use Rattle.st_keys.specs.Keys.{raised}
use Rattle.byteorder.specs.Endian.{big_number}

below-256 : (xs : List ℕ) → ((i : ℕ) → Fits w8 (get_or xs i 0)) → (i : ℕ) → get_or xs i 0 < 256
below-256 xs small i = (small i).fits

-- the integer that is moved up to a number
lowered : (n : ℕ) → n < 2 ^ 64 → raised (to_z w64 ((2 ^ 63 + n) % 2 ^ 64)) ≡ n
lowered n h =
    let m = (2 ^ 63 + n) % 2 ^ 64 in
    elim (cases_lt m (2 ^ 63)) [
      | inl low ↦ ap raised (to_z_pos w64 m low) ∙ omega arith
      | inr high ↦
          let e : to_z w64 m ≡ negsuc (2 ^ 64 - suc m) = rw (le-ltb m (2 ^ 63) high) refl in
          ap raised e ∙ omega arith
    ]

-- the bytes in which a number stands are those of the integer that is moved up to it
pub integer-read : (bytes : List ℕ) (n : ℕ) (z : ℤ) → length bytes ≡ 8 → ((i : ℕ) → Fits w8 (get_or bytes i 0)) → n ≡ big_number 8 bytes → n < 2 ^ 64
    → z ≡ to_z w64 ((2 ^ 63 + n) % 2 ^ 64) → mag z < 2 ^ 63 → to_be_bytes w64 (raised (to_z w64 (of_z w64 z))) ≡ bytes
integer-read bytes n z wide small is fits low signed =
    let same : raised (to_z w64 (of_z w64 z)) ≡ n = ap raised (to_z-of_z w64 z (record { sfits = signed }) ∙ low) ∙ lowered n fits in
    ap (to_be_bytes w64) same ∙ be_bytes_8 bytes n wide (below-256 bytes small) (omega arith)

two : (a b : ℕ) → a < 256 → b < 256 → (i : ℕ) → get_or (a ∷ b ∷ []) i 0 < 256
two a b h k zero = h
two a b h k (suc zero) = k
two a b h k (suc (suc i)) = omega arith

-- the type of an entity and its serial, from the bytes in which they stand
pub entity-read : (bytes : List ℕ) (ty serial : ℕ) → length bytes ≡ 6 → ((i : ℕ) → Fits w8 (get_or bytes i 0)) → ty ≡ big_number 2 bytes → serial ≡ big_number 4 (take (length bytes - 2) (drop 2 bytes))
    → to_be_bytes w16 ty ++ to_be_bytes w32 serial ≡ bytes
entity-read (a ∷ b ∷ c ∷ d ∷ e ∷ f ∷ []) ty serial wide small first last =
    let low = below-256 (a ∷ b ∷ c ∷ d ∷ e ∷ f ∷ []) small in
    let front : to_be_bytes w16 ty ≡ a ∷ b ∷ [] = be_bytes_2 (a ∷ b ∷ []) ty refl (two a b (low 0) (low 1)) (omega arith) in
    let back : to_be_bytes w32 serial ≡ c ∷ d ∷ e ∷ f ∷ [] =
    be_bytes_4 (c ∷ d ∷ e ∷ f ∷ []) serial refl (λ i. low (suc (suc i))) (omega arith) in
    λ i. front i ++ back i
entity-read [] ty serial wide small first last = absurd (omega arith)
entity-read (a ∷ []) ty serial wide small first last = absurd (omega arith)
entity-read (a ∷ b ∷ []) ty serial wide small first last = absurd (omega arith)
entity-read (a ∷ b ∷ c ∷ []) ty serial wide small first last = absurd (omega arith)
entity-read (a ∷ b ∷ c ∷ d ∷ []) ty serial wide small first last = absurd (omega arith)
entity-read (a ∷ b ∷ c ∷ d ∷ e ∷ []) ty serial wide small first last = absurd (omega arith)
entity-read (a ∷ b ∷ c ∷ d ∷ e ∷ f ∷ g ∷ xs) ty serial wide small first last = absurd (omega arith)
