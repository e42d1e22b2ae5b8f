-- What a disk's bytes give to a read, and what a write makes of them.
use Rattle.std.specs.Prelude.{◌≡◌, ℕ, ◌+◌, List, [], ◌∷◌, ◌++◌, length, take, drop, replicate, Option, Some, None, ⊤}

-- the n bytes from a place on, with zeros past the end
unfoldable pub read_at : List ℕ → ℕ → ℕ → List ℕ
read_at b at n = take n (drop at b ++ replicate n 0)

-- the bytes with others written over them from a place on, and zeros in a gap before it; a write of nothing changes nothing
unfoldable pub written_at : List ℕ → ℕ → List ℕ → List ℕ
written_at b at [] = b
written_at b at (x ∷ xs) = read_at b 0 at ++ (x ∷ xs) ++ drop (at + length (x ∷ xs)) b

-- known bytes become what f makes of them
abbrev pub Becomes : Option (List ℕ) → Option (List ℕ) → (List ℕ → List ℕ) → Type 0
Becomes None new f = ⊤
Becomes (Some b) None f = ⊥
Becomes (Some b) (Some c) f = c ≡ f b
