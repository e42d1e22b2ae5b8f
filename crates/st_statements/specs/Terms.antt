-- How terms are written.
use Rattle.std.specs.Prelude.{ℕ, ◌^◌, Bool, true, false, not, ◌&&◌, ◌==◌, nat_lt, if◌then◌else◌, List, [], ◌∷◌, length, Option, Some, None, Ok, Err, codes}
use Rattle.std.specs.List.{position_or_len, before_first, after_first}
use Rattle.std.specs.Char.{is_ascii_digit}
use Rattle.std.specs.Option.{option_and_then, option_map, ok_or}
use Rattle.std.specs.Str.{bytes_eq, all_ascii_digits}
use Rattle.std.specs.Str.Parse.{digits_value}
use Rattle.st_sexp.specs.declared.form.Form.{Form}
use Rattle.st_sexp.specs.declared.form.Shape.{Shape, out-Shape}
use Rattle.st_sexp.specs.declared.form.Shape.TheOpen.{Shape-F}
use Rattle.st_sexp.specs.declared.nested.Step.{Step}
use Rattle.st_sexp.specs.declared.nested.Path.{Path}
use Rattle.st_sexp.specs.Views.{as_name}
use Rattle.st_sexp.specs.Names.{is_name}
use Rattle.st_sexp.specs.Items.{and_then, only_if, next_at, end_of}
use Rattle.st_sexp.specs.Nested.{descent}
use Rattle.st_query.specs.declared.term.Literal.TheVariants as literal
use Rattle.st_query.specs.declared.term.Term.{Term}
use Rattle.st_query.specs.declared.term.Term.TheVariants as term
use Rattle.st_statements.specs.declared.fault.Misread.TheVariants as misread
use Rattle.st_statements.specs.Reading.{Reading}

-- what stands before and behind the first byte of this kind in a word
abbrev pub halves : ℕ → List ℕ → Option (List ℕ × List ℕ)
halves byte word =
    only_if (nat_lt (position_or_len (λ b. b == byte) word) (length word)) (before_first (λ b. b == byte) word, after_first (λ b. b == byte) word)

-- two names with a dot between them
abbrev pub are_names : Option (List ℕ × List ℕ) → Bool
are_names None = false
are_names (Some p) = is_name (p.0) && is_name (p.1)

abbrev pub is_qualified : List ℕ → Bool
is_qualified word = are_names (halves 46 word)

-- the qualified name of a feature
abbrev pub qualified : Form → Option (List ℕ)
qualified form = option_and_then (λ word. only_if (is_qualified word) word) (as_name form)

abbrev pub feature_at : Form → Reading (List ℕ)
feature_at form = ok_or (qualified form) (misread.Form form.from)

-- the number that digits write, where it has 32 bits
unfoldable pub number_of : List ℕ → Option ℕ
number_of digits = only_if (all_ascii_digits digits && nat_lt (digits_value 10 digits) (2 ^ 32)) (digits_value 10 digits)

-- the number of an entity, from 1 on, without a leading zero
abbrev pub serial_of : List ℕ → Option ℕ
serial_of [] = None
serial_of (b ∷ bs) = if is_ascii_digit b && not (b == 48) then number_of (b ∷ bs) else None

-- an entity that is written out: the name of its type, # and its number
abbrev pub entity_parts : List ℕ × List ℕ → Option (List ℕ × ℕ)
entity_parts parts = option_and_then (λ ty. option_map (λ serial. (ty, serial)) (serial_of (parts.1))) (only_if (is_name (parts.0)) (parts.0))

abbrev pub entity_of : List ℕ → Option Term
entity_of word = option_map (λ e. term.Literal (literal.Entity (e.0) (e.1))) (option_and_then entity_parts (halves 35 word))

-- null, a truth value, a variable or an entity, by its word
abbrev pub term_word : List ℕ → Option Term
term_word word =
    if bytes_eq word (codes "null") then Some (term.Literal literal.Null)
    else (if bytes_eq word (codes "true") then Some (term.Literal (literal.Bool true))
    else (if bytes_eq word (codes "false") then Some (term.Literal (literal.Bool false))
    else (if is_name word then Some (term.Variable word) else entity_of word)))

abbrev pub word_at : ℕ → List ℕ → Reading Term
word_at place word = ok_or (term_word word) (misread.Form place)

-- a list that lacks a feature or a term
abbrev pub lacking : ℕ → List Form → Reading Term
lacking place forms = and_then (next_at misread.Form place forms) (λ p. and_then (feature_at (p.0)) (λ feature. Err (misread.Form place)))

-- what a path begins with, at a place, by its shape
abbrev pub start_of : ℕ → Shape-F Shape Form → Reading Term
start_of place (Shape-F.Name letters) = word_at place letters
start_of place (Shape-F.Number number) = Ok (term.Literal (literal.Int number))
start_of place (Shape-F.Quoted letters) = Ok (term.Literal (literal.Text letters))
start_of place (Shape-F.List forms) = lacking place forms

unfoldable pub start_at : Form → Reading Term
start_at form = start_of form.from (out-Shape form.shape)

-- The features of a path from the outermost on, and then what it begins with; behind that what is too much, from the innermost
-- list on. So the first misfit in text order is named.
abbrev pub path_along : List Step → Form → Reading Term
path_along [] inner = start_at inner
path_along (step ∷ steps) inner =
    and_then (feature_at step.head) (λ feature. and_then (path_along steps inner) (λ below. end_of misread.Form step.more (term.Path feature below)))

abbrev pub path_term : Path → Reading Term
path_term path = path_along path.levels path.inner

-- a term
unfoldable pub term_at : Form → Reading Term
term_at form = path_term (descent form)

-- one term, two terms, and nothing behind them
abbrev pub one_term : ℕ → List Form → Reading Term
one_term place parts = and_then (next_at misread.Form place parts) (λ p. and_then (term_at (p.0)) (λ t. end_of misread.Form (p.1) t))

abbrev pub two_terms : ℕ → List Form → Reading (Term × Term)
two_terms place parts = and_then (next_at misread.Form place parts) (λ p. and_then (term_at (p.0)) (λ first. and_then (one_term place (p.1)) (λ second. Ok (first, second))))
