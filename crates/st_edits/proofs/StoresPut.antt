-- Where only drawn pages and pages of stores were put before, calls put no others.
use Rattle.std.proofs.Common.{◌≡◌, ℕ, Bool, List, Option, refl, ap, inl, inr, arith}
use Rattle.st_pages.specs.Attempt.{Attempt, draws, may_put}
use Rattle.st_store.specs.Stores.{HasPutStores, any_page}
use Rattle.st_index.proofs.Called.{PageLaws}
use Rattle.st_index.proofs.Counted.{puts-stay}

module _ {Self : Type 0} (attempt : Self → Attempt) (follows : Self → Self → Type 0) (asked : Self → Self → (ℕ → Bool) → (ℕ → Bool) → ℕ → Type 0) (laws : PageLaws attempt follows asked) (a b : Self) (ab : follows a b) where
  -- by what was asked
  pub puts-asked : (most : ℕ) → (HasPutStores (attempt a) → asked a b any_page (may_put (attempt b)) most) → HasPutStores (attempt a) → HasPutStores (attempt b)
  puts-asked most asks puts = puts-stay (attempt a) (attempt b) most (laws.drawn_stays a b ab) (laws.seen_stays a b ab) puts (laws.asked_tells a b any_page (may_put (attempt b)) most ab (asks puts))

  -- where nothing was written
  pub puts-looked : (attempt b).written ≡ (attempt a).written → HasPutStores (attempt a) → HasPutStores (attempt b)
  puts-looked same puts =
      puts-stay (attempt a) (attempt b) (draws (attempt b)) (laws.drawn_stays a b ab) (laws.seen_stays a b ab) puts
      (record { got_only = λ page h. inr refl; put_only = λ page. inl (ap (λ (w : ℕ → Option (List ℕ)). w page) same); drew_most = omega arith })
