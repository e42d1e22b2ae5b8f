-- Of how many numbers a test holds.
use Rattle.std.proofs.Common.{◌≡◌, ℕ, zero, suc, ◌+◌, ◌<◌, ◌≤◌, Bool, true, false, ◌⊎◌, inl, inr, refl, sym, subst, add-one, arith}
use Rattle.std.proofs.lemmas.Bool.{cases_eq}
use Rattle.st_pages.specs.Attempt.{how_many, page_count}
use Rattle.st_memory_pages.specs.HowMany.{how_many-same}
use Rattle.st_memory_pages.specs.Slots.{one}

pub page_count-is : page_count ≡ 65536
unfolding page_count
page_count-is = refl

pub below_page_count : (page : ℕ) → page < 65536 → page < page_count
below_page_count page below = rw page_count-is below

pub how_many-more : (f : ℕ → Bool) (n : ℕ) → how_many f (n + 1) ≡ how_many f n + one (f n)
how_many-more f n = rw add-one refl

-- two tests differ at one number alone
pub how_many-at : (f g : ℕ → Bool) (page n : ℕ) → page < n → ((p : ℕ) → (p ≡ page → ⊥) → g p ≡ f p)
    → how_many g n + one (f page) ≡ how_many f n + one (g page)
how_many-at f g page zero within same = absurd (omega arith)
how_many-at f g page (suc n) within same =
    at (cases_eq page n) (λ elsewhere. how_many-at f g page n (omega arith) same)
  where
    at : ((page ≡ n) ⊎ (page ≡ n → ⊥))
        → ((page ≡ n → ⊥) → how_many g n + one (f page) ≡ how_many f n + one (g page))
        → how_many g (suc n) + one (f page) ≡ how_many f (suc n) + one (g page)
    at (inl here) below =
        let same_below : how_many g n ≡ how_many f n = how_many-same g f n (λ p h. same p (λ e. omega arith)) in
        rw (here, same_below) (omega arith)
    at (inr elsewhere) below =
        let last : g n ≡ f n = same n (λ e. elsewhere (sym e)) in
        let others : how_many g n + one (f page) ≡ how_many f n + one (g page) = below elsewhere in
        rw last (omega (arith, others))

pub how_many-none : (f : ℕ → Bool) (n : ℕ) → ((p : ℕ) → p < n → f p ≡ false) → how_many f n ≡ 0
how_many-none f zero none = refl
how_many-none f (suc n) none =
    let here : f n ≡ false = none n (omega arith) in
    let below : how_many f n ≡ 0 = how_many-none f n (λ p h. none p (omega arith)) in
    rw (here, below) refl

pub how_many-some : (f : ℕ → Bool) (page n : ℕ) → page < n → f page ≡ true → 1 ≤ how_many f n
how_many-some f page zero within holds = absurd (omega arith)
how_many-some f page (suc n) within holds =
    at (cases_eq page n) (λ elsewhere. how_many-some f page n (omega arith) holds)
  where
    at : ((page ≡ n) ⊎ (page ≡ n → ⊥)) → ((page ≡ n → ⊥) → 1 ≤ how_many f n) → 1 ≤ how_many f (suc n)
    at (inl here) below = let last : f n ≡ true = subst (λ (k : ℕ). f k ≡ true) here holds in rw last (omega arith)
    at (inr elsewhere) below = let others : 1 ≤ how_many f n = below elsewhere in omega (arith, others)

pub how_many-most : (f : ℕ → Bool) (n : ℕ) → how_many f n ≤ n
how_many-most f zero = omega arith
how_many-most f (suc n) = let below : how_many f n ≤ n = how_many-most f n in grind (arith, below)

-- where one more is too many
pub one-too-many : (was is : Bool) (most count new : ℕ) → count ≤ most → most < new → new + one was ≡ count + one is → new ≡ most + 1
one-too-many true true most count new few many e = omega (arith, few, many, e)
one-too-many true false most count new few many e = absurd (omega (arith, few, many, e))
one-too-many false true most count new few many e = omega (arith, few, many, e)
one-too-many false false most count new few many e = absurd (omega (arith, few, many, e))
