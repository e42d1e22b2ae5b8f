use Rattle.std.proofs.Common.{◌≡◌, ◌≤◌, ℕ}
use Rattle.st_pages.specs.Attempt.{how_many}
use Rattle.st_memory_pages.specs.Slots.{array_of, is_blank_in}
use Rattle.st_memory_pages.proofs.table.blanks.Given as goal

abbrev pub invariant-loop-page : goal.invariant-loop-page
invariant-loop-page l = record {
  few : l.blanks ≤ l.page;
  count : (n : ℕ) → n ≡ l.page → l.blanks ≡ how_many (is_blank_in (array_of l.images)) n;
}
