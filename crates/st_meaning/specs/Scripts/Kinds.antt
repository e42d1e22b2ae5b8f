-- Scripts on kinds that do not fit, as they are written.
use Rattle.std.specs.Prelude.{pos, List, [], ◌∷◌, codes}
use Rattle.st_query.specs.declared.query.Condition.TheVariants.{Compare, Member}
use Rattle.st_query.specs.declared.query.Sign.TheVariants as sign
use Rattle.st_query.specs.declared.statement.Statement.{Statement}
use Rattle.st_query.specs.declared.statement.Statement.TheVariants.{Make, Set, Find, Let, Print, ForEach}
use Rattle.st_query.specs.declared.term.Literal.TheVariants.{Null}
use Rattle.st_query.specs.declared.term.Term.TheVariants.{Literal, Variable}
use Rattle.st_meaning.specs.Rows.{path, int, is, query_of}

-- (with-transaction (print (person.name (person.age zz))))
abbrev pub outer_first : List (List Statement)
outer_first =
    (Print ((path (codes "person.name") (path (codes "person.age") (Variable (codes "zz")))) ∷ [])
    ∷ [])
    ∷ []

-- (with-transaction (for-each (p person) (where (= 1 (person.name zz)))))
abbrev pub second_side : List (List Statement)
second_side =
    (ForEach (query_of (codes "p") (codes "person") (Compare sign.Equal (int (pos 1)) (path (codes "person.name") (Variable (codes "zz"))) ∷ []) [] [])
    ∷ [])
    ∷ []

-- (with-transaction (print (person.name 5)))
abbrev pub no_entity : List (List Statement)
no_entity =
    (Print ((path (codes "person.name") (int (pos 5))) ∷ [])
    ∷ [])
    ∷ []

-- (with-transaction (make a person) (print (student.year a)))
abbrev pub ancestor : List (List Statement)
ancestor =
    (Make (codes "a") (codes "person") []
    ∷ Print ((path (codes "student.year") (Variable (codes "a"))) ∷ [])
    ∷ [])
    ∷ []

-- (with-transaction (make s student (year 2)) (print (person.name s) (student.year s)))
abbrev pub descendant : List (List Statement)
descendant =
    (Make (codes "s") (codes "student") (is (codes "year") (int (pos 2)) ∷ [])
    ∷ Print ((path (codes "person.name") (Variable (codes "s"))) ∷ (path (codes "student.year") (Variable (codes "s"))) ∷ [])
    ∷ [])
    ∷ []

-- (with-transaction (make a person) (let x (person.rooms a)))
abbrev pub set_in_a_let : List (List Statement)
set_in_a_let =
    (Make (codes "a") (codes "person") []
    ∷ Let (codes "x") (path (codes "person.rooms") (Variable (codes "a")))
    ∷ [])
    ∷ []

-- (with-transaction (for-each (p person) (where (member 1 null))))
abbrev pub member_of_a_value : List (List Statement)
member_of_a_value =
    (ForEach (query_of (codes "p") (codes "person") (Member (int (pos 1)) (Literal Null) ∷ []) [] [])
    ∷ [])
    ∷ []

-- (with-transaction (find p person age 5))
abbrev pub key_not_unique : List (List Statement)
key_not_unique =
    (Find (codes "p") (codes "person") (codes "age") (int (pos 5))
    ∷ [])
    ∷ []

-- (with-transaction (make a person) (set (person.reports a) a))
abbrev pub inverse_in_set : List (List Statement)
inverse_in_set =
    (Make (codes "a") (codes "person") []
    ∷ Set (codes "person.reports") (Variable (codes "a")) (Variable (codes "a"))
    ∷ [])
    ∷ []
