-- Numbers as bytes, the highest first.
use Rattle.std.specs.Prelude.{ℕ, ◌+◌, ◌*◌, ◌^◌, ◌<◌, ◌==◌, List, [], ◌∷◌, length, take, drop, get_or, IsTrue}
use Rattle.std.specs.List.{list_all}

-- each is below 256
abbrev pub IsBytes : List ℕ → Type 0
IsBytes bytes = (i : ℕ) → get_or bytes i 0 < 256

-- the number that bytes spell
abbrev pub number : List ℕ → ℕ
number [] = 0
number (b ∷ bytes) = b * 256 ^ length bytes + number bytes

-- so many bytes from a place on
abbrev pub part : ℕ → ℕ → List ℕ → List ℕ
part at size bytes = take size (drop at bytes)

-- all are zero
abbrev pub AreBlank : List ℕ → Type 0
AreBlank bytes = IsTrue (list_all (λ b. b == 0) bytes)
