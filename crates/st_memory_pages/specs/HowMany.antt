-- Of how many numbers tests hold.
use Rattle.std.proofs.Common.{◌≡◌, ℕ, zero, suc, ◌+◌, ◌<◌, ◌≤◌, Bool, true, false, ◌||◌, refl, arith}
use Rattle.st_pages.specs.Attempt.{how_many}
use Rattle.st_memory_pages.specs.Slots.{one}

-- two tests that agree
pub how_many-same : (f g : ℕ → Bool) (n : ℕ) → ((p : ℕ) → p < n → f p ≡ g p) → how_many f n ≡ how_many g n
how_many-same f g zero same = refl
how_many-same f g (suc n) same =
    let here : f n ≡ g n = same n (omega arith) in
    let below : how_many f n ≡ how_many g n = how_many-same f g n (λ p h. same p (omega arith)) in
    rw (here, below) refl

-- each number passes one of three tests
pub how_many-all : (f g h : ℕ → Bool) (n : ℕ) → ((p : ℕ) → (f p || (g p || h p)) ≡ true)
    → n ≤ how_many f n + how_many g n + how_many h n
how_many-all f g h zero all = omega arith
how_many-all f g h (suc n) all =
    let below : n ≤ how_many f n + how_many g n + how_many h n = how_many-all f g h n all in
    at (f n) (g n) (h n) (all n) below
  where
    at : (a b c : Bool) → (a || (b || c)) ≡ true → n ≤ how_many f n + how_many g n + how_many h n
        → suc n ≤ (how_many f n + one a) + (how_many g n + one b) + (how_many h n + one c)
    at true b c some below = omega (arith, below)
    at false true c some below = omega (arith, below)
    at false false true some below = omega (arith, below)
    at false false false some below = cc
