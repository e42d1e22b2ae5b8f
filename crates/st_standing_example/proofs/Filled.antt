-- A page that begins with some bytes, and has zeros behind them.
use Rattle.std.proofs.Common.{◌≡◌, ℕ, zero, suc, ◌-◌, ◌/◌, ◌%◌, ◌<◌, ◌≤◌, List, [], ◌∷◌, ◌++◌, length, replicate, refl, arith}
use Rattle.std.proofs.lemmas.List.{length-append, length-replicate}
use Rattle.std.proofs.lemmas.Bool.{and_parts, ltb-true}
use Rattle.std.specs.Prelude.{nat_lt, IsTrue}
use Rattle.std.specs.List.{list_all}
use Rattle.st_image.specs.Bytes.{AreBlank, IsBytes}
use Rattle.st_image.proofs.Numbers.{bytes-append, bytes-cons, bytes-none}
use Rattle.st_image.proofs.Zeros.{bytes-zeros}
use Rattle.st_new_database.specs.New.{page_bytes}
use Rattle.st_standing_example.specs.Ada.{filled, head}

pub filled-size : (bytes : List ℕ) → length bytes ≤ 4096 → length (filled bytes) ≡ 4096
unfolding filled
filled-size bytes h =
    let zeros : List ℕ = replicate (4096 - length bytes) 0 in
    omega (arith, length-append bytes zeros, length-replicate {A = ℕ} (4096 - length bytes) 0)

-- each byte is below 256
sound : (bytes : List ℕ) → IsTrue (list_all (λ b. nat_lt b 256) bytes) → IsBytes bytes
sound [] h = bytes-none
sound (b ∷ bytes) h =
    let p = and_parts (nat_lt b 256) (list_all (λ (b : ℕ). nat_lt b 256) bytes) h in
    bytes-cons b bytes (ltb-true b 256 p.0) (sound bytes p.1)

pub filled-sound : (bytes : List ℕ) → IsTrue (list_all (λ b. nat_lt b 256) bytes) → IsBytes (filled bytes)
unfolding filled
filled-sound bytes h = bytes-append bytes (replicate (4096 - length bytes) 0) (sound bytes h) (bytes-zeros (4096 - length bytes))

-- so many zeros stand behind the bytes
pub filled-is : (bytes : List ℕ) → (zeros : ℕ) × (filled bytes ≡ bytes ++ replicate zeros 0)
unfolding filled
filled-is bytes = (4096 - length bytes, refl)

pub zeros-blank : (n : ℕ) → AreBlank (replicate n 0)
zeros-blank zero = refl
zeros-blank (suc n) = zeros-blank n

-- a page of a chain that is one page
pub filled-page : (kind count : ℕ) (piece : List ℕ) → count < 256 → page_bytes kind count 0 piece ≡ filled (head kind count 0 ++ piece)
unfolding filled page_bytes
filled-page kind count piece h =
    let high : count / 256 % 256 ≡ 0 = omega arith in
    let low : count % 256 ≡ count = omega arith in
    let zeros : 4080 - length piece ≡ 4096 - length (head kind count 0 ++ piece) = omega arith in
    rw (high, low, zeros)
