-- Transactions that were worked out by hand, over a schema of one type.
use Rattle.std.specs.Prelude.{ℕ, ℤ, pos, negsuc, true, false, List, [], ◌∷◌, ◌++◌, flat_map, codes}
use Rattle.st_lattice.specs.Outline.{Outline}
use Rattle.st_query.specs.declared.statement.Cell.{Cell}
use Rattle.st_query.specs.declared.query.Condition.{Condition}
use Rattle.st_query.specs.declared.query.Key.{Key}
use Rattle.st_query.specs.declared.query.Query.{Query}
use Rattle.st_query.specs.declared.statement.Statement.{Statement}
use Rattle.st_query.specs.declared.statement.Statement.TheVariants.{Make, Set, Print}
use Rattle.st_query.specs.declared.term.Literal.TheVariants.{Null, Int, Bool, Text, Entity}
use Rattle.st_query.specs.declared.term.Term.{Term, Path', more_of-Term, end_of-Term}
use Rattle.st_query.specs.declared.term.Term.TheVariants.{Literal, Variable}
use Rattle.st_state.specs.State.{empty_state}
use Rattle.st_meaning.specs.Lines.{client_lines}

-- a feature of what a term stands for, as a path is built of the term in it
abbrev pub path : List ℕ → Term → Term
path feature inner = Path' feature tt (more_of-Term inner end_of-Term)

-- two variables
abbrev pub p : Term
p = Variable (codes "p")

abbrev pub q : Term
q = Variable (codes "q")

-- a text and a number that are written out
abbrev pub text : List ℕ → Term
text letters = Literal (Text letters)

abbrev pub int : ℤ → Term
int number = Literal (Int number)

-- the two paths from a person
abbrev pub name_of : Term → Term
name_of person = path (codes "person.name") person

abbrev pub age_of : Term → Term
age_of person = path (codes "person.age") person

-- the two cells of a person
abbrev pub name_is : Term → Cell
name_is value = record { name = codes "name"; value = value }

abbrev pub age_is : Term → Cell
age_is value = record { name = codes "age"; value = value }

-- a cell
abbrev pub is : List ℕ → Term → Cell
is name value = record { name = name; value = value }

-- a query
abbrev pub query_of : List ℕ → List ℕ → List Condition → List Key → List Term → Query
query_of var ty conditions keys shown = record { var = var; ty = ty; conditions = conditions; keys = keys; shown = shown }

-- a person is made, and the variable p or q bound to it
abbrev pub make_p : List Cell → Statement
make_p cells = Make (codes "p") (codes "person") cells

abbrev pub make_q : List Cell → Statement
make_q cells = Make (codes "q") (codes "person") cells

-- the age of p is set
abbrev pub set_age : Term → Statement
set_age value = Set (codes "person.age") p value

-- no statement
abbrev pub row_empty : List Statement
row_empty = []

-- a person with a name and an age; the person, its name and its age
abbrev pub row_made : List Statement
row_made = make_p (name_is (text (codes "Ada")) ∷ age_is (int (pos 36)) ∷ []) ∷ Print (p ∷ name_of p ∷ age_of p ∷ []) ∷ []

-- an age that was never given
abbrev pub row_unset : List Statement
row_unset = make_p (name_is (text (codes "Ada")) ∷ []) ∷ Print (age_of p ∷ []) ∷ []

-- a variable that is bound anew
abbrev pub row_bound_anew : List Statement
row_bound_anew = make_p [] ∷ Print (p ∷ []) ∷ make_p [] ∷ Print (p ∷ []) ∷ []

-- an age that is set, to another value and then to the one that it has
abbrev pub row_set : List Statement
row_set = make_p (age_is (int (pos 36)) ∷ []) ∷ set_age (int (pos 37)) ∷ Print (age_of p ∷ []) ∷ set_age (age_of p) ∷ Print (age_of p ∷ []) ∷ []

-- an age that is set to null
abbrev pub row_cleared : List Statement
row_cleared = make_p (age_is (int (pos 36)) ∷ []) ∷ set_age (Literal Null) ∷ Print (age_of p ∷ []) ∷ []

-- a name with a quote, a backslash and a line feed
abbrev pub row_escaped : List Statement
row_escaped = make_p (name_is (text (34 ∷ 92 ∷ 10 ∷ [])) ∷ []) ∷ Print (name_of p ∷ []) ∷ []

-- the least and the greatest integer
abbrev pub row_extremes : List Statement
row_extremes =
    make_p (age_is (int (negsuc 9223372036854775807)) ∷ []) ∷ make_q (age_is (int (pos 9223372036854775807)) ∷ [])
    ∷ Print (age_of p ∷ age_of q ∷ []) ∷ []

-- values that are written out, and a path over null
abbrev pub row_literals : List Statement
row_literals =
    make_p [] ∷ Print (Literal Null ∷ Literal (Bool true) ∷ Literal (Bool false) ∷ Literal (Entity (codes "person") 1) ∷ name_of (Literal Null) ∷ []) ∷ []

-- what a script prints that client 1 runs by itself over an empty database
abbrev pub printed_over : Outline → List (List Statement) → List ℕ
printed_over schema script = client_lines (empty_state schema) script

-- lines, each with the line feed behind it
abbrev pub lines : List (List ℕ) → List ℕ
lines texts = flat_map (λ line. line ++ 10 ∷ []) texts
