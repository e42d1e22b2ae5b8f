-- How statements are written.
use Rattle.std.specs.Prelude.{ℕ, Bool, if◌then◌else◌, List, [], map, Ok, Err, codes}
use Rattle.st_values.specs.Names.{has}
use Rattle.st_sexp.specs.declared.form.Form.{Form}
use Rattle.st_sexp.specs.Views.{is_word}
use Rattle.st_sexp.specs.Items.{and_then, name_at, forms_at, next_at, end_of}
use Rattle.st_query.specs.declared.statement.Cell.{Cell}
use Rattle.st_query.specs.declared.statement.Statement.{Statement}
use Rattle.st_query.specs.declared.statement.Statement.TheVariants as statement
use Rattle.st_query.specs.declared.term.Term.{Term}
use Rattle.st_statements.specs.declared.fault.Misread.TheVariants as misread
use Rattle.st_statements.specs.Reading.{Reading, read_behind, some_at, two_names}
use Rattle.st_statements.specs.Terms.{feature_at, term_at, one_term}
use Rattle.st_statements.specs.Queries.{query}

-- the name of a cell, which has to be a new one
abbrev pub new_name : (List ℕ → Bool) → Form → Reading (List ℕ)
new_name is_taken form = and_then (name_at misread.Form form) (λ name. if is_taken name then Err (misread.Form form.from) else Ok name)

-- (ATTRIBUTE TERM)
abbrev pub cell_parts : (List ℕ → Bool) → ℕ → List Form → Reading Cell
cell_parts is_taken place parts =
    and_then (next_at misread.Form place parts) (λ p. and_then (new_name is_taken (p.0)) (λ name. and_then (one_term place (p.1)) (λ t. Ok (record { name = name; value = t }))))

abbrev pub cell_with : (List ℕ → Bool) → Form → Reading Cell
cell_with is_taken form = and_then (forms_at misread.Form form) (λ parts. cell_parts is_taken form.from parts)

-- the names of cells
abbrev pub names_of : List Cell → List (List ℕ)
names_of cells = map (λ cell. cell.name) cells

-- a cell behind others, whose names it has not
abbrev pub cell_behind : List Cell → Form → Reading Cell
cell_behind before form = cell_with (has (names_of before)) form

abbrev pub cells_at : List Form → Reading (List Cell)
cells_at forms = read_behind cell_behind [] forms

-- (FEATURE TERM), whose attribute is to change
abbrev pub target_parts : ℕ → List Form → Reading (List ℕ × Term)
target_parts place parts = and_then (next_at misread.Form place parts) (λ p. and_then (feature_at (p.0)) (λ feature. and_then (one_term place (p.1)) (λ t. Ok (feature, t))))

abbrev pub target_at : Form → Reading (List ℕ × Term)
target_at form = and_then (forms_at misread.Form form) (λ parts. target_parts form.from parts)

-- (FEATURE TERM) TERM: the feature, the entity and the value of a change
abbrev pub change : ℕ → List Form → Reading (List ℕ × Term × Term)
change place parts =
    and_then (next_at misread.Form place parts) (λ p. and_then (target_at (p.0)) (λ t. and_then (one_term place (p.1)) (λ v. Ok (t.0, t.1, v))))

-- VAR TYPE (ATTRIBUTE TERM) ..
abbrev pub make : ℕ → List Form → Reading Statement
make place parts = and_then (two_names place parts) (λ n. and_then (cells_at (n.2)) (λ cells. Ok (statement.Make (n.0) (n.1) cells)))

-- VAR TYPE (KEY TERM) (ATTRIBUTE TERM) ..
abbrev pub ensure : ℕ → List Form → Reading Statement
ensure place parts =
    and_then (two_names place parts) (λ n. and_then (some_at place (n.2)) (λ forms. and_then (cells_at forms) (λ cells. Ok (statement.Ensure (n.0) (n.1) cells))))

-- VAR TYPE ATTRIBUTE TERM
abbrev pub finding : ℕ → List Form → Reading Statement
finding place parts =
    and_then (two_names place parts) (λ n. and_then (next_at misread.Form place (n.2)) (λ p. and_then (name_at misread.Form (p.0)) (λ key. and_then (one_term place (p.1)) (λ v. Ok (statement.Find (n.0) (n.1) key v)))))

-- VAR TERM
abbrev pub binding : ℕ → List Form → Reading Statement
binding place parts =
    and_then (next_at misread.Form place parts) (λ p. and_then (name_at misread.Form (p.0)) (λ var. and_then (one_term place (p.1)) (λ v. Ok (statement.Let var v))))

-- TERM ..
abbrev pub terms_at : List Form → Reading (List Term)
terms_at forms = read_behind (λ before. term_at) [] forms

abbrev pub print : ℕ → List Form → Reading Statement
print place parts = and_then (some_at place parts) (λ forms. and_then (terms_at forms) (λ terms. Ok (statement.Print terms)))

-- TERM
abbrev pub deletion : ℕ → List Form → Reading Statement
deletion place parts = and_then (one_term place parts) (λ t. Ok (statement.Delete t))

-- (VAR TYPE) and the parts of a query
abbrev pub for_each : ℕ → List Form → Reading Statement
for_each place parts = and_then (query place parts) (λ q. Ok (statement.ForEach q))

-- a statement by its head: one that finds, binds, prints or gives up
abbrev pub other_by : ℕ → Form → List Form → Reading Statement
other_by place head parts =
    if is_word head (codes "find") then finding place parts
    else (if is_word head (codes "let") then binding place parts
    else (if is_word head (codes "print") then print place parts
    else (if is_word head (codes "for-each") then for_each place parts
    else (if is_word head (codes "abort") then end_of misread.Form parts statement.Abort
    else Err (misread.Form place)))))

-- one that changes a feature
abbrev pub change_by : ℕ → Form → List Form → Reading Statement
change_by place head parts =
    if is_word head (codes "set") then and_then (change place parts) (λ c. Ok (statement.Set (c.0) (c.1) (c.2)))
    else (if is_word head (codes "add-to-set") then and_then (change place parts) (λ c. Ok (statement.Add (c.0) (c.1) (c.2)))
    else (if is_word head (codes "delete-from-set") then and_then (change place parts) (λ c. Ok (statement.Take (c.0) (c.1) (c.2)))
    else other_by place head parts))

-- one that makes or deletes an entity, and all others
abbrev pub statement_by : ℕ → Form → List Form → Reading Statement
statement_by place head parts =
    if is_word head (codes "make") then make place parts
    else (if is_word head (codes "ensure") then ensure place parts
    else (if is_word head (codes "delete-entity") then deletion place parts
    else change_by place head parts))

unfoldable pub statement_at : Form → Reading Statement
statement_at form = and_then (forms_at misread.Form form) (λ parts. and_then (next_at misread.Form form.from parts) (λ p. statement_by form.from (p.0) (p.1)))
