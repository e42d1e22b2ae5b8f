-- Scripts on variables, as they are written.
use Rattle.std.specs.Prelude.{pos, List, [], ◌∷◌, codes}
use Rattle.st_query.specs.declared.query.Condition.TheVariants.{Compare}
use Rattle.st_query.specs.declared.query.Sign.TheVariants as sign
use Rattle.st_query.specs.declared.statement.Statement.{Statement}
use Rattle.st_query.specs.declared.statement.Statement.TheVariants.{Make, Delete, Let, Print, ForEach}
use Rattle.st_query.specs.declared.term.Literal.TheVariants.{Null, Entity}
use Rattle.st_query.specs.declared.term.Term.TheVariants.{Literal, Variable}
use Rattle.st_meaning.specs.Rows.{path, int, is, query_of}

-- (with-transaction (let p 5) (make q person (age 7)) (for-each (p person) (show (person.age p))) (print p))
abbrev pub hidden : List (List Statement)
hidden =
    (Let (codes "p") (int (pos 5))
    ∷ Make (codes "q") (codes "person") (is (codes "age") (int (pos 7)) ∷ [])
    ∷ ForEach (query_of (codes "p") (codes "person") [] [] ((path (codes "person.age") (Variable (codes "p"))) ∷ []))
    ∷ Print ((Variable (codes "p")) ∷ [])
    ∷ [])
    ∷ []

-- (with-transaction (make p person) (delete-entity p) (for-each (p person)) (print p))
abbrev pub hidden_dead : List (List Statement)
hidden_dead =
    (Make (codes "p") (codes "person") []
    ∷ Delete (Variable (codes "p"))
    ∷ ForEach (query_of (codes "p") (codes "person") [] [] [])
    ∷ Print ((Variable (codes "p")) ∷ [])
    ∷ [])
    ∷ []

-- (with-transaction (let n null) (print (person.name n) (person.rooms n)))
abbrev pub null_under_a_path : List (List Statement)
null_under_a_path =
    (Let (codes "n") (Literal Null)
    ∷ Print ((path (codes "person.name") (Variable (codes "n"))) ∷ (path (codes "person.rooms") (Variable (codes "n"))) ∷ [])
    ∷ [])
    ∷ []

-- (with-transaction (for-each (p person) (where (= p person#9))))
abbrev pub not_live_in_a_condition : List (List Statement)
not_live_in_a_condition =
    (ForEach (query_of (codes "p") (codes "person") (Compare sign.Equal (Variable (codes "p")) (Literal (Entity (codes "person") 9)) ∷ []) [] [])
    ∷ [])
    ∷ []
