-- What follows for rows where the row with a key stands at an index, or where none has it.
use Rattle.std.proofs.Common.{◌≡◌, ℕ, suc, ◌+◌, ◌<◌, Bool, true, cond, List, ◌∷◌, ◌++◌, length, take, drop, Some, None, sym, ap, ◌∙◌, add-one, drop-cons}
use Rattle.std.specs.Prelude.{not, slice_get}
use Rattle.std.specs.List.{list_all}
use Rattle.std.specs.Option.{is_some}
use Rattle.std.proofs.lemmas.List.{take-append-drop}
use Rattle.std.proofs.lemmas.List.Elements.{filter-append}
use Rattle.std.proofs.lemmas.Option.{get_or_from_slice_get, slice_get_within}
use Rattle.st_image.specs.Grammar.{row_before}
use Rattle.st_store.specs.Rows.{row_with, rows_above, rows_below, rows_from, with_row, without_row}
use Rattle.st_store.proofs.Ordering.{above-same-key, below-same-key, from-of-above, from-of-below, kept-above, kept-below, key-of-key, none-of-above, same-not-before, with-here, with-past-below}
use Rattle.st_page_rows.specs.PageRows.{IsAbsent, IsThere}

pub drop-at : {X : Type 0} (xs : List X) (i : ℕ) (x : X) → slice_get xs i ≡ Some x → drop i xs ≡ x ∷ drop (i + 1) xs
drop-at xs i x h =
    drop-cons xs i x (slice_get_within xs i x h)
    ∙ ap (λ y. y ∷ drop (suc i) xs) (get_or_from_slice_get xs i x x h)
    ∙ ap (λ (n : ℕ). x ∷ drop n xs) (sym (add-one i))

module _ (key : ℕ) (sought row : List ℕ) (rows : List (List ℕ)) (i : ℕ) (e : take key sought ≡ take key row) where
  module _ (h : IsThere key sought rows i) where
    below : take i rows ≡ rows_below key row rows
    below = h.below ∙ below-same-key key sought row e rows

    above : drop (i + 1) rows ≡ rows_above key row rows
    above = h.above ∙ above-same-key key sought row e rows

    lower : list_all (λ r. row_before key r row) (take i rows) ≡ true
    lower = ap (list_all (λ r. row_before key r row)) below ∙ kept-below key row rows

    higher : list_all (λ r. row_before key row r) (drop (i + 1) rows) ≡ true
    higher = ap (list_all (λ r. row_before key row r)) above ∙ kept-above key row rows

    has-key : take key h.row ≡ take key row
    has-key = sym (key-of-key key h.row) ∙ ap (take key) h.has ∙ e

    pub there-within : i < length rows
    there-within = slice_get_within rows i h.row h.at

    pub there-with : take i rows ++ row ∷ drop (i + 1) rows ≡ with_row key row rows
    there-with = ap (λ (l : List (List ℕ)). l ++ row ∷ drop (i + 1) rows) below ∙ ap (λ (l : List (List ℕ)). rows_below key row rows ++ row ∷ l) above

    pub there-without : take i rows ++ drop (i + 1) rows ≡ without_row key row rows
    there-without = ap (λ (l : List (List ℕ)). l ++ drop (i + 1) rows) below ∙ ap (λ (l : List (List ℕ)). rows_below key row rows ++ l) above

    pub there-found : row_with key row rows ≡ slice_get rows i
    there-found =
        ap (row_with key row) (sym (take-append-drop i rows))
        ∙ with-past-below key row (take i rows) (drop i rows) lower
        ∙ ap (row_with key row) (drop-at rows i h.row h.at)
        ∙ with-here key row h.row (drop (i + 1) rows) has-key
        ∙ sym h.at

    pub there-some : is_some (row_with key row rows) ≡ true
    there-some = ap is_some (there-found ∙ h.at)

    pub there-from : drop i rows ≡ rows_from key row rows
    there-from =
        let p : List ℕ → Bool = λ r. not (row_before key r row) in
        let rest = drop (i + 1) rows in
        sym (
        ap (rows_from key row) (sym (take-append-drop i rows))
        ∙ filter-append p (take i rows) (drop i rows)
        ∙ ap (λ (l : List (List ℕ)). l ++ rows_from key row (drop i rows)) (from-of-below key row (take i rows) lower)
        ∙ ap (rows_from key row) (drop-at rows i h.row h.at)
        ∙ ap (λ b. cond (not b) (h.row ∷ rows_from key row rest) (rows_from key row rest)) (same-not-before key h.row row has-key)
        ∙ ap (λ (l : List (List ℕ)). h.row ∷ l) (from-of-above key row rest higher)
        ∙ sym (drop-at rows i h.row h.at)
        )

  module _ (h : IsAbsent key sought rows i) where
    absent-below : take i rows ≡ rows_below key row rows
    absent-below = h.below ∙ below-same-key key sought row e rows

    absent-above : drop i rows ≡ rows_above key row rows
    absent-above = h.above ∙ above-same-key key sought row e rows

    absent-lower : list_all (λ r. row_before key r row) (take i rows) ≡ true
    absent-lower = ap (list_all (λ r. row_before key r row)) absent-below ∙ kept-below key row rows

    absent-higher : list_all (λ r. row_before key row r) (drop i rows) ≡ true
    absent-higher = ap (list_all (λ r. row_before key row r)) absent-above ∙ kept-above key row rows

    pub absent-with : take i rows ++ row ∷ drop i rows ≡ with_row key row rows
    absent-with = ap (λ (l : List (List ℕ)). l ++ row ∷ drop i rows) absent-below ∙ ap (λ (l : List (List ℕ)). rows_below key row rows ++ row ∷ l) absent-above

    pub absent-without : rows ≡ without_row key row rows
    absent-without =
        sym (take-append-drop i rows)
        ∙ ap (λ (l : List (List ℕ)). l ++ drop i rows) absent-below
        ∙ ap (λ (l : List (List ℕ)). rows_below key row rows ++ l) absent-above

    pub absent-none : row_with key row rows ≡ None
    absent-none =
        ap (row_with key row) (sym (take-append-drop i rows))
        ∙ with-past-below key row (take i rows) (drop i rows) absent-lower
        ∙ none-of-above key row (drop i rows) absent-higher

    pub absent-from : drop i rows ≡ rows_from key row rows
    absent-from =
        let p : List ℕ → Bool = λ r. not (row_before key r row) in
        sym (
        ap (rows_from key row) (sym (take-append-drop i rows))
        ∙ filter-append p (take i rows) (drop i rows)
        ∙ ap (λ (l : List (List ℕ)). l ++ rows_from key row (drop i rows)) (from-of-below key row (take i rows) absent-lower)
        ∙ from-of-above key row (drop i rows) absent-higher
        )
