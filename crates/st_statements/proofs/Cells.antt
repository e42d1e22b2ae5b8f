-- Cells, one more of them read.
use Rattle.std.proofs.Common.{◌≡◌, ℕ, Bool, true, false, ◌||◌, if◌then◌else◌, List, [], ◌∷◌, ◌++◌, Ok, refl, sym, ap, ◌∙◌}
use Rattle.std.specs.List.{list_any}
use Rattle.std.specs.Str.{bytes_eq}
use Rattle.std.proofs.lemmas.List.{map-append}
use Rattle.std.proofs.lemmas.List.Folds.{list_any-append}
use Rattle.st_values.specs.Names.{has}
use Rattle.st_sexp.specs.declared.form.Form.{Form}
use Rattle.st_sexp.specs.Items.{and_then}
use Rattle.st_query.specs.declared.statement.Cell.{Cell}
use Rattle.st_statements.specs.Reading.{Reading, read_behind}
use Rattle.st_statements.specs.Statements.{names_of, cell_with, cell_behind}

pub one_cell : (is_taken : List ℕ → Bool) (cells : List Cell) (forms rest : List Form) (form : Form) (cell : Cell) (all : Reading (List Cell)) → is_taken ≡ has (names_of cells) → read_behind cell_behind cells forms ≡ all → forms ≡ form ∷ rest → Ok cell ≡ cell_with is_taken form → read_behind cell_behind (cells ++ cell ∷ []) rest ≡ all
one_cell is_taken cells forms rest form cell all same so front read =
    let now : Ok cell ≡ cell_behind cells form = read ∙ ap (λ taken. cell_with taken form) same in
    ap (λ r. and_then r (λ x. read_behind cell_behind (cells ++ x ∷ []) rest)) now ∙ ap (read_behind cell_behind cells) (sym front) ∙ so

or_if : (b x : Bool) → (if b then true else x) ≡ (x || (b || false))
or_if true true = refl
or_if true false = refl
or_if false true = refl
or_if false false = refl

has_more : (cells : List Cell) (cell : Cell) (other : List ℕ) → has (names_of (cells ++ cell ∷ [])) other ≡ (has (names_of cells) other || (bytes_eq cell.name other || false))
has_more cells cell other =
    ap (list_any (λ name. bytes_eq name other)) (map-append (λ (c : Cell). c.name) cells (cell ∷ [])) ∙ list_any-append (λ name. bytes_eq name other) (names_of cells) (cell.name ∷ [])

seen_at : (is_taken now : List ℕ → Bool) (cells : List Cell) (cell : Cell) → is_taken ≡ has (names_of cells) → ((other : List ℕ) → now other ≡ (if bytes_eq cell.name other then true else is_taken other)) → (other : List ℕ) → now other ≡ has (names_of (cells ++ cell ∷ [])) other
seen_at is_taken now cells cell same more other =
    more other ∙ ap (λ taken. if bytes_eq cell.name other then true else taken other) same ∙ or_if (bytes_eq cell.name other) (has (names_of cells) other) ∙ sym (has_more cells cell other)

pub seen_more : (is_taken now : List ℕ → Bool) (cells : List Cell) (cell : Cell) (name : List ℕ) → name ≡ cell.name → is_taken ≡ has (names_of cells) → ((other : List ℕ) → now other ≡ (if bytes_eq name other then true else is_taken other)) → now ≡ has (names_of (cells ++ cell ∷ []))
seen_more is_taken now cells cell name named same more =
    λ i other. seen_at is_taken now cells cell same (λ other. more other ∙ ap (λ n. if bytes_eq n other then true else is_taken other) named) other i
