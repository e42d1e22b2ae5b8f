-- What a read finds on a disk, and what a write leaves there.
use Rattle.std.proofs.Common.{◌≡◌, ℕ, ◌+◌, ◌<◌, max, List, [], ◌∷◌, ◌++◌, length, take, drop, replicate, refl, ap, ◌∙◌, subst, arith, append_assoc, length-append, length-drop}
use Rattle.std.proofs.lemmas.List.{length-take, length-replicate}
use Rattle.std.proofs.Math.Seq.{take-append_seam, drop-append_seam}
use Rattle.st_edge.specs.Bytes.{read_at, written_at}

-- a read gives as many bytes as it asks for
pub length-read_at : (b : List ℕ) (at n : ℕ) → length (read_at b at n) ≡ n
unfolding read_at
length-read_at b at n = simp (length-take, length-append, length-replicate) (omega arith)

-- past a first part lies what was put after it
drop-front : (front back : List ℕ) (at : ℕ) → length front ≡ at → drop at (front ++ back) ≡ back
drop-front front back at is = subst (λ k. drop k (front ++ back) ≡ back) is (drop-append_seam front back)

-- a read of what was just written gives it
pub read_at-written_at : (b : List ℕ) (at : ℕ) (from : List ℕ) → read_at (written_at b at from) at (length from) ≡ from
unfolding read_at written_at
read_at-written_at b at [] = refl
read_at-written_at b at (x ∷ xs) =
    let front = read_at b 0 at in
    let rest = drop (at + length (x ∷ xs)) b in
    let zeros : List ℕ = replicate (length (x ∷ xs)) 0 in
    let found : drop at ((front ++ (x ∷ xs)) ++ rest) ≡ (x ∷ xs) ++ rest = rw append_assoc (drop-front front ((x ∷ xs) ++ rest) at (length-read_at b 0 at)) in
    ap (λ l. take (length (x ∷ xs)) (l ++ zeros)) found ∙ ap (λ l. take (length (x ∷ xs)) l) (append_assoc (x ∷ xs) rest zeros) ∙ take-append_seam (x ∷ xs) (rest ++ zeros)

-- a write of some bytes makes a disk as long as it needs
pub length-written_at : (b : List ℕ) (at : ℕ) (from : List ℕ) → 0 < length from → length (written_at b at from) ≡ max (length b) (at + length from)
unfolding written_at
length-written_at b at [] some = absurd (omega arith)
length-written_at b at (x ∷ xs) some =
    simp (length-append, length-drop) (omega (arith, length-read_at b 0 at))

-- a write of nothing changes nothing
pub written_at-nil : (b : List ℕ) (at : ℕ) → written_at b at [] ≡ b
unfolding written_at
written_at-nil b at = refl
