-- Scripts on transactions that are refused, and those behind them, as they are written.
use Rattle.std.specs.Prelude.{pos, List, [], ◌∷◌, codes}
use Rattle.st_query.specs.declared.statement.Statement.{Statement}
use Rattle.st_query.specs.declared.statement.Statement.TheVariants.{Make, Print, ForEach, Abort}
use Rattle.st_query.specs.declared.term.Literal.TheVariants.{Entity}
use Rattle.st_query.specs.declared.term.Term.TheVariants.{Literal, Variable}
use Rattle.st_meaning.specs.Rows.{path, text, int, is, query_of}

-- (with-transaction (make a person (name "Ann")) (make b person (name "Bob")) (abort) (print a)) (with-transaction
-- (for-each (p person)))
abbrev pub spliced : List (List Statement)
spliced =
    (Make (codes "a") (codes "person") (is (codes "name") (text (codes "Ann")) ∷ [])
    ∷ Make (codes "b") (codes "person") (is (codes "name") (text (codes "Bob")) ∷ [])
    ∷ Abort
    ∷ Print ((Variable (codes "a")) ∷ [])
    ∷ [])
    ∷ (ForEach (query_of (codes "p") (codes "person") [] [] [])
    ∷ [])
    ∷ []

-- (with-transaction (make a person) (abort)) (with-transaction (make a person) (print a))
abbrev pub serials_come_back : List (List Statement)
serials_come_back =
    (Make (codes "a") (codes "person") []
    ∷ Abort
    ∷ [])
    ∷ (Make (codes "a") (codes "person") []
    ∷ Print ((Variable (codes "a")) ∷ [])
    ∷ [])
    ∷ []

-- (with-transaction (make a person (age 3))) (with-transaction (print (person.age person#1))) (with-transaction
-- (print zz))
abbrev pub later_client_state : List (List Statement)
later_client_state =
    (Make (codes "a") (codes "person") (is (codes "age") (int (pos 3)) ∷ [])
    ∷ [])
    ∷ (Print ((path (codes "person.age") (Literal (Entity (codes "person") 1))) ∷ [])
    ∷ [])
    ∷ (Print ((Variable (codes "zz")) ∷ [])
    ∷ [])
    ∷ []
