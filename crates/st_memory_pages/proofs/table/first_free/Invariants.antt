use Rattle.std.proofs.Common.{◌≡◌, ◌<◌, ℕ, false}
use Rattle.st_memory_pages.specs.Slots.{kept_of, is_free}
use Rattle.st_memory_pages.proofs.table.first_free.Given as goal

abbrev pub invariant-loop-page : goal.invariant-loop-page
invariant-loop-page l = (p : ℕ) → p < l.page → is_free (kept_of l.table p) ≡ false
