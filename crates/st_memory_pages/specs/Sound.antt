-- What holds of an array and of what is kept of its pages.
use Rattle.std.specs.Prelude.{◌≡◌, ℕ, ◌<◌, ◌≤◌, false, not, List, length}
use Rattle.st_pages.specs.Attempt.{Array, how_many, page_count}
use Rattle.st_memory_pages.specs.Slots.{Kept, IsKept, is_free, is_changed, array_of, kept_of}

-- each page is kept as its image says, the counts are right, at most 4,000 pages were changed, and no page below the cursor
-- can be drawn
pub record AreKept (array : Array) (kept : ℕ → Kept) (changed left in_use cursor : ℕ) : Type 0 where
  pub each : (p : ℕ) → IsKept (array p) (kept p)
  pub changes : changed ≡ how_many (λ p. is_changed (array p) (kept p)) page_count
  pub few : changed ≤ 4000
  pub free : left ≡ how_many (λ p. is_free (kept p)) page_count
  pub used : in_use ≡ how_many (λ p. not (kept p).is_blank) page_count
  pub below : (p : ℕ) → p < cursor → is_free (kept p) ≡ false

-- the same of images and a table with a place for each page
pub record IsSound (images : List (List ℕ)) (table : List Kept) (changed left in_use cursor : ℕ) : Type 0 where
  pub size : length table ≡ 65536
  pub kept : AreKept (array_of images) (kept_of table) changed left in_use cursor
