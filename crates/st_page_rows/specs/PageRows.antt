-- Rows in a page, and what a change of them leaves as it is.
use Rattle.std.specs.Prelude.{◌≡◌, ℕ, ◌+◌, ◌*◌, ◌≤◌, List, length, take, drop, get_or, slice_get, Some}
use Rattle.st_image.specs.Bytes.{IsBytes, AreBlank}
use Rattle.st_image.specs.Fields.{kind_of, count_of, store_of, next_of, last_serial_of, body_of}
use Rattle.st_store.specs.Rows.{rows_below, rows_above}

-- a page with room for the rows that it counts, and nothing but zeros behind them
pub record Laid (width : ℕ) (page : List ℕ) : Type 0 where
  pub some : 1 ≤ width
  pub size : length page ≡ 4096
  pub bytes : IsBytes page
  pub room : count_of page * width ≤ 4080
  pub behind : AreBlank (drop (count_of page * width) (body_of page))

-- two pages are alike in all that stands in front of their rows, but for how many these are
pub record SameHead (page other : List ℕ) : Type 0 where
  pub kind : kind_of other ≡ kind_of page
  pub spare : get_or other 1 0 ≡ get_or page 1 0
  pub store : store_of other ≡ store_of page
  pub next : next_of other ≡ next_of page
  pub serial : last_serial_of other ≡ last_serial_of page

-- the other page has the same kind, store and next page, and no last serial
pub record IsSibling (page other : List ℕ) : Type 0 where
  pub kind : kind_of other ≡ kind_of page
  pub spare : get_or other 1 0 ≡ 0
  pub store : store_of other ≡ store_of page
  pub next : next_of other ≡ next_of page
  pub serial : last_serial_of other ≡ 0

-- the row with a key stands at an index of rows: those with lower keys are in front of it, and those with higher ones behind
pub record IsThere (key : ℕ) (sought : List ℕ) (rows : List (List ℕ)) (index : ℕ) : Type 0 where
  pub row : List ℕ
  pub at : slice_get rows index ≡ Some row
  pub has : take key row ≡ sought
  pub below : take index rows ≡ rows_below key sought rows
  pub above : drop (index + 1) rows ≡ rows_above key sought rows

-- no row has a key; it would stand at an index
pub record IsAbsent (key : ℕ) (sought : List ℕ) (rows : List (List ℕ)) (index : ℕ) : Type 0 where
  pub within : index ≤ length rows
  pub below : take index rows ≡ rows_below key sought rows
  pub above : drop index rows ≡ rows_above key sought rows
