-- All rows in front of `low` are below the key, and none from `high` on is.
use Rattle.std.proofs.Common.{◌-◌, ◌≡◌, ◌≤◌, true, length, take, drop}
use Rattle.std.specs.Prelude.{not}
use Rattle.std.specs.List.{list_all}
use Rattle.st_image.specs.Fields.{count_of, rows_of}
use Rattle.st_image.specs.Grammar.{row_before}
use Rattle.st_page_rows.proofs.look.place_of.Given as goal

abbrev pub invariant-loop-low : goal.invariant-loop-low
invariant-loop-low l = record {
  ordered : l.low ≤ l.high;
  within : l.high ≤ count_of l.fn.page;
  below : list_all (λ row. row_before (length l.fn.key) row l.fn.key) (take l.low (rows_of l.fn.width l.fn.page)) ≡ true;
  behind : list_all (λ row. not (row_before (length l.fn.key) row l.fn.key)) (drop l.high (rows_of l.fn.width l.fn.page)) ≡ true;
}

abbrev pub decreases-loop-low : goal.decreases-loop-low
decreases-loop-low l = l.high - l.low
