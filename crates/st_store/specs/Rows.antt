-- Rows in the order of their keys, which are their first bytes.
use Rattle.std.specs.Prelude.{◌≡◌, ℕ, not, List, ◌∷◌, ◌++◌, length, filter, find, take, Option, IsTrue}
use Rattle.std.specs.Str.{bytes_eq}
use Rattle.std.specs.List.{All}
use Rattle.st_values.specs.Arranged.{ascends}
use Rattle.st_image.specs.Bytes.{IsBytes}
use Rattle.st_image.specs.Grammar.{row_before}

-- the rows with lower keys than a row, those with higher ones, and those whose keys aren't lower
abbrev pub rows_below : ℕ → List ℕ → List (List ℕ) → List (List ℕ)
rows_below key row rows = filter (λ other. row_before key other row) rows

abbrev pub rows_above : ℕ → List ℕ → List (List ℕ) → List (List ℕ)
rows_above key row rows = filter (λ other. row_before key row other) rows

abbrev pub rows_from : ℕ → List ℕ → List (List ℕ) → List (List ℕ)
rows_from key row rows = filter (λ other. not (row_before key other row)) rows

-- rows with one more, or with it in place of the one that has its key
abbrev pub with_row : ℕ → List ℕ → List (List ℕ) → List (List ℕ)
with_row key row rows = rows_below key row rows ++ row ∷ rows_above key row rows

-- rows without the one that has a row's key
abbrev pub without_row : ℕ → List ℕ → List (List ℕ) → List (List ℕ)
without_row key row rows = rows_below key row rows ++ rows_above key row rows

-- the row that has a row's key, if there is one
abbrev pub row_with : ℕ → List ℕ → List (List ℕ) → Option (List ℕ)
row_with key row rows = find (λ other. bytes_eq (take key other) (take key row)) rows

-- rows of a width: their keys ascend
pub record AreOrdered (key width : ℕ) (rows : List (List ℕ)) : Type 0 where
  pub ascend : IsTrue (ascends (row_before key) rows)
  pub wide : All (λ row. length row ≡ width) rows
  pub bytes : All IsBytes rows
