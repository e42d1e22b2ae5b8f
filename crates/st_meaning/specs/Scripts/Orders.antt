-- Scripts on selections and their order, as they are written.
use Rattle.std.specs.Prelude.{pos, true, false, List, [], ◌∷◌, codes}
use Rattle.st_query.specs.declared.query.Condition.TheVariants as condition
use Rattle.st_query.specs.declared.query.Condition.TheVariants.{Compare, NotNull, Member}
use Rattle.st_query.specs.declared.query.Sign.TheVariants as sign
use Rattle.st_query.specs.declared.statement.Statement.{Statement}
use Rattle.st_query.specs.declared.statement.Statement.TheVariants.{Make, Add, ForEach}
use Rattle.st_query.specs.declared.term.Literal.TheVariants.{Null}
use Rattle.st_query.specs.declared.term.Term.TheVariants.{Literal, Variable}
use Rattle.st_meaning.specs.Rows.{path, text, int, is, query_of}

-- (with-transaction (make a person (name "Ann") (age 30)) (make b student (name "Bob") (age 30) (year 2)) (make c
-- person (name "Cy")) (make d person (name "Di") (age 20)) (for-each (p person) (order-by ((person.age p) desc))
-- (show (person.name p) (person.age p))) (for-each (p person) (where (>= (person.age p) 25))))
abbrev pub descending : List (List Statement)
descending =
    (Make (codes "a") (codes "person") (is (codes "name") (text (codes "Ann")) ∷ is (codes "age") (int (pos 30)) ∷ [])
    ∷ Make (codes "b") (codes "student") (is (codes "name") (text (codes "Bob")) ∷ is (codes "age") (int (pos 30)) ∷ is (codes "year") (int (pos 2)) ∷ [])
    ∷ Make (codes "c") (codes "person") (is (codes "name") (text (codes "Cy")) ∷ [])
    ∷ Make (codes "d") (codes "person") (is (codes "name") (text (codes "Di")) ∷ is (codes "age") (int (pos 20)) ∷ [])
    ∷ ForEach (query_of (codes "p") (codes "person") [] (record { term = (path (codes "person.age") (Variable (codes "p"))); descending = true } ∷ []) ((path (codes "person.name") (Variable (codes "p"))) ∷ (path (codes "person.age") (Variable (codes "p"))) ∷ []))
    ∷ ForEach (query_of (codes "p") (codes "person") (Compare sign.AtLeast (path (codes "person.age") (Variable (codes "p"))) (int (pos 25)) ∷ []) [] [])
    ∷ [])
    ∷ []

-- (with-transaction (make a person (age 30)) (make b person) (make c person (age 20)) (for-each (p person) (order-by
-- ((person.age p) asc))) (for-each (p person) (order-by ((person.age p) desc))))
abbrev pub null_first : List (List Statement)
null_first =
    (Make (codes "a") (codes "person") (is (codes "age") (int (pos 30)) ∷ [])
    ∷ Make (codes "b") (codes "person") []
    ∷ Make (codes "c") (codes "person") (is (codes "age") (int (pos 20)) ∷ [])
    ∷ ForEach (query_of (codes "p") (codes "person") [] (record { term = (path (codes "person.age") (Variable (codes "p"))); descending = false } ∷ []) [])
    ∷ ForEach (query_of (codes "p") (codes "person") [] (record { term = (path (codes "person.age") (Variable (codes "p"))); descending = true } ∷ []) [])
    ∷ [])
    ∷ []

-- (with-transaction (make a person (name "W") (age 1)) (make b person (name "X") (age 1)) (make c person (name "X")
-- (age 1)) (for-each (p person) (order-by ((person.age p) asc) ((person.name p) desc))))
abbrev pub ties : List (List Statement)
ties =
    (Make (codes "a") (codes "person") (is (codes "name") (text (codes "W")) ∷ is (codes "age") (int (pos 1)) ∷ [])
    ∷ Make (codes "b") (codes "person") (is (codes "name") (text (codes "X")) ∷ is (codes "age") (int (pos 1)) ∷ [])
    ∷ Make (codes "c") (codes "person") (is (codes "name") (text (codes "X")) ∷ is (codes "age") (int (pos 1)) ∷ [])
    ∷ ForEach (query_of (codes "p") (codes "person") [] (record { term = (path (codes "person.age") (Variable (codes "p"))); descending = false } ∷ record { term = (path (codes "person.name") (Variable (codes "p"))); descending = true } ∷ []) [])
    ∷ [])
    ∷ []

-- (with-transaction (make a person (age 1)) (make b person) (for-each (p person) (where (/= (person.age p) 2)))
-- (for-each (p person) (where (= (person.age p) null))) (for-each (p person) (where (null (person.age p)))))
abbrev pub differs_from_null : List (List Statement)
differs_from_null =
    (Make (codes "a") (codes "person") (is (codes "age") (int (pos 1)) ∷ [])
    ∷ Make (codes "b") (codes "person") []
    ∷ ForEach (query_of (codes "p") (codes "person") (Compare sign.Differs (path (codes "person.age") (Variable (codes "p"))) (int (pos 2)) ∷ []) [] [])
    ∷ ForEach (query_of (codes "p") (codes "person") (Compare sign.Equal (path (codes "person.age") (Variable (codes "p"))) (Literal Null) ∷ []) [] [])
    ∷ ForEach (query_of (codes "p") (codes "person") (condition.Null (path (codes "person.age") (Variable (codes "p"))) ∷ []) [] [])
    ∷ [])
    ∷ []

-- (with-transaction (make a person) (make c person) (make r room (label "R") (keeper c)) (add-to-set (room.users r)
-- a) (for-each (p person) (where (member p (room.users r)))) (for-each (p person) (where (member p (person.reports
-- null)))) (for-each (x room) (where (member a (room.users x)) (not-null (room.label x))) (show (room.users x))))
abbrev pub members : List (List Statement)
members =
    (Make (codes "a") (codes "person") []
    ∷ Make (codes "c") (codes "person") []
    ∷ Make (codes "r") (codes "room") (is (codes "label") (text (codes "R")) ∷ is (codes "keeper") (Variable (codes "c")) ∷ [])
    ∷ Add (codes "room.users") (Variable (codes "r")) (Variable (codes "a"))
    ∷ ForEach (query_of (codes "p") (codes "person") (Member (Variable (codes "p")) (path (codes "room.users") (Variable (codes "r"))) ∷ []) [] [])
    ∷ ForEach (query_of (codes "p") (codes "person") (Member (Variable (codes "p")) (path (codes "person.reports") (Literal Null)) ∷ []) [] [])
    ∷ ForEach (query_of (codes "x") (codes "room") (Member (Variable (codes "a")) (path (codes "room.users") (Variable (codes "x"))) ∷ NotNull (path (codes "room.label") (Variable (codes "x"))) ∷ []) [] ((path (codes "room.users") (Variable (codes "x"))) ∷ []))
    ∷ [])
    ∷ []
