use Rattle.std.proofs.Common.{◌≡◌, ◌<◌, ℕ, length}
use Rattle.st_pages.specs.Attempt.{IsImage}
use Rattle.st_memory_pages.specs.Slots.{array_of, kept_of, unused, is_blank_in}
use Rattle.st_memory_pages.proofs.table.unused_table.Given as goal

abbrev pub invariant-loop-page : goal.invariant-loop-page
invariant-loop-page l = record {
  size : length l.table.items ≡ l.page;
  images : (p : ℕ) → p < l.page → IsImage (array_of l.images p);
  each : (p : ℕ) → p < l.page → kept_of l.table.items p ≡ unused (is_blank_in (array_of l.images) p);
}
