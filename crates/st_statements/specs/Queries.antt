-- How queries are written: conditions, order and what is shown.
use Rattle.std.specs.Prelude.{ℕ, Bool, true, false, if◌then◌else◌, List, [], ◌∷◌, Option, Some, None, Ok, codes}
use Rattle.std.specs.Option.{ok_or}
use Rattle.st_sexp.specs.declared.form.Form.{Form}
use Rattle.st_sexp.specs.Views.{is_word}
use Rattle.st_sexp.specs.Items.{and_then, forms_at, next_at, end_of, behind}
use Rattle.st_query.specs.declared.query.Condition.{Condition}
use Rattle.st_query.specs.declared.query.Condition.TheVariants as condition
use Rattle.st_query.specs.declared.query.Key.{Key}
use Rattle.st_query.specs.declared.query.Query.{Query}
use Rattle.st_query.specs.declared.query.Sign.{Sign}
use Rattle.st_query.specs.declared.query.Sign.TheVariants as sign
use Rattle.st_statements.specs.declared.fault.Misread.TheVariants as misread
use Rattle.st_statements.specs.Reading.{Reading, read_behind, at_most, some_at, two_names}
use Rattle.st_statements.specs.Terms.{term_at, one_term, two_terms}

-- how many conditions, keys and shown terms a query may have
abbrev pub max_conditions : ℕ
max_conditions = 8

abbrev pub max_keys : ℕ
max_keys = 4

abbrev pub max_shown : ℕ
max_shown = 16

-- how a condition compares, by its head
abbrev pub sign_of : Form → Option Sign
sign_of head =
    if is_word head (codes "=") then Some sign.Equal
    else (if is_word head (codes "/=") then Some sign.Differs
    else (if is_word head (codes "<") then Some sign.Below
    else (if is_word head (codes "<=") then Some sign.AtMost
    else (if is_word head (codes ">") then Some sign.Above
    else (if is_word head (codes ">=") then Some sign.AtLeast else None)))))

-- (SIGN TERM TERM)
abbrev pub comparison : ℕ → Form → List Form → Reading Condition
comparison place head parts =
    and_then (ok_or (sign_of head) (misread.Form place)) (λ how. and_then (two_terms place parts) (λ t. Ok (condition.Compare how (t.0) (t.1))))

-- a condition by its head
abbrev pub condition_by : ℕ → Form → List Form → Reading Condition
condition_by place head parts =
    if is_word head (codes "null") then and_then (one_term place parts) (λ t. Ok (condition.Null t))
    else (if is_word head (codes "not-null") then and_then (one_term place parts) (λ t. Ok (condition.NotNull t))
    else (if is_word head (codes "member") then and_then (two_terms place parts) (λ t. Ok (condition.Member (t.0) (t.1)))
    else comparison place head parts))

abbrev pub condition_at : Form → Reading Condition
condition_at form = and_then (forms_at misread.Form form) (λ parts. and_then (next_at misread.Form form.from parts) (λ p. condition_by form.from (p.0) (p.1)))

-- asc, desc
abbrev pub is_descending : Form → Option Bool
is_descending form = if is_word form (codes "asc") then Some false else (if is_word form (codes "desc") then Some true else None)

abbrev pub direction_at : Form → Reading Bool
direction_at form = ok_or (is_descending form) (misread.Form form.from)

-- (TERM DIR)
abbrev pub key_parts : ℕ → List Form → Reading Key
key_parts place parts =
    and_then (next_at misread.Form place parts) (λ p. and_then (term_at (p.0)) (λ t. and_then (next_at misread.Form place (p.1)) (λ q. and_then (direction_at (q.0)) (λ descending.
    end_of misread.Form (q.1) (record { term = t; descending = descending })))))

abbrev pub key_at : Form → Reading Key
key_at form = and_then (forms_at misread.Form form) (λ parts. key_parts form.from parts)

-- a list's place and the forms behind its head, where one stands
abbrev pub Part : Type 0
Part = Option (ℕ × List Form)

-- the part that stands next, where it is a list with this word for its head, and the forms that are left
abbrev pub part_or : Form → List Form → Option (List Form) → Part × List Form
part_or form forms None = (None, form ∷ forms)
part_or form forms (Some items) = (Some (form.from, items), forms)

abbrev pub next_part : List ℕ → List Form → Part × List Form
next_part word [] = (None, [])
next_part word (form ∷ forms) = part_or form forms (behind word form)

-- what is read of a part: one form at least, and not more than a query may have; nothing where it doesn't stand there
abbrev pub limited : {A : Type 0} → ℕ → (Form → Reading A) → List Form → Reading (List A)
limited most read forms = read_behind (at_most most read) [] forms

abbrev pub part_of : {A : Type 0} → ℕ → (Form → Reading A) → ℕ → List Form → Reading (List A)
part_of most read place items = and_then (some_at place items) (λ forms. limited most read forms)

abbrev pub part_read : {A : Type 0} → ℕ → (Form → Reading A) → List Form → Part → Reading (List A × List Form)
part_read most read rest None = Ok ([], rest)
part_read most read rest (Some p) = and_then (part_of most read (p.0) (p.1)) (λ found. Ok (found, rest))

abbrev pub part : {A : Type 0} → ℕ → (Form → Reading A) → List ℕ → List Form → Reading (List A × List Form)
part most read word forms = part_read most read ((next_part word forms).1) ((next_part word forms).0)

-- [(where CONDITION ..)] [(order-by (TERM DIR) ..)] [(show TERM ..)], in this order
abbrev pub query_parts : List ℕ → List ℕ → List Form → Reading Query
query_parts var ty parts =
    and_then (part max_conditions condition_at (codes "where") parts) (λ w. and_then (part max_keys key_at (codes "order-by") (w.1)) (λ o. and_then (part max_shown term_at (codes "show") (o.1)) (λ s.
    end_of misread.Form (s.1) (record { var = var; ty = ty; conditions = w.0; keys = o.0; shown = s.0 }))))

-- (VAR TYPE)
abbrev pub range_parts : ℕ → List Form → Reading (List ℕ × List ℕ)
range_parts place parts = and_then (two_names place parts) (λ names. end_of misread.Form (names.2) (names.0, names.1))

abbrev pub range_at : Form → Reading (List ℕ × List ℕ)
range_at form = and_then (forms_at misread.Form form) (λ parts. range_parts form.from parts)

-- what stands behind `for-each`
abbrev pub query : ℕ → List Form → Reading Query
query place parts = and_then (next_at misread.Form place parts) (λ p. and_then (range_at (p.0)) (λ names. query_parts (names.0) (names.1) (p.1)))

-- (for-each (VAR TYPE) ..)
abbrev pub query_at : Form → Reading Query
query_at form = and_then (ok_or (behind (codes "for-each") form) (misread.Form form.from)) (λ parts. query form.from parts)
