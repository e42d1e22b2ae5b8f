-- Places in a text.
use Rattle.std.proofs.Common.{◌≡◌, ℕ, ◌≤◌, List, length, drop, length-drop, arith}
use Rattle.st_token.specs.Scan.{place}

-- what is left from a place on begins there
pub place-drop : (bs : List ℕ) (i : ℕ) → i ≤ length bs → place (length bs) (drop i bs) ≡ i
place-drop bs i h = omega (arith, length-drop i bs)
