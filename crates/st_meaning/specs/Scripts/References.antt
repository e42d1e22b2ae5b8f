-- Scripts on references, their inverses, and what deleting does to them, as they are written.
use Rattle.std.specs.Prelude.{List, [], ◌∷◌, codes}
use Rattle.st_query.specs.declared.statement.Statement.{Statement}
use Rattle.st_query.specs.declared.statement.Statement.TheVariants.{Make, Set, Add, Delete, Print, ForEach}
use Rattle.st_query.specs.declared.term.Term.TheVariants.{Variable}
use Rattle.st_meaning.specs.Rows.{path, text, is, query_of}

-- (with-transaction (make a person (name "Ann")) (make b person (name "Bob") (boss a)) (make c person (name "Cy"))
-- (make r room (label "101") (keeper c)) (add-to-set (room.users r) a) (make s room (label "102") (keeper c))
-- (add-to-set (room.users s) a) (print (person.reports a) (person.rooms a)) (delete-entity a) (print (person.boss b)
-- (room.users r)) (make d person (name "Di")) (print d))
abbrev pub references : List (List Statement)
references =
    (Make (codes "a") (codes "person") (is (codes "name") (text (codes "Ann")) ∷ [])
    ∷ Make (codes "b") (codes "person") (is (codes "name") (text (codes "Bob")) ∷ is (codes "boss") (Variable (codes "a")) ∷ [])
    ∷ Make (codes "c") (codes "person") (is (codes "name") (text (codes "Cy")) ∷ [])
    ∷ Make (codes "r") (codes "room") (is (codes "label") (text (codes "101")) ∷ is (codes "keeper") (Variable (codes "c")) ∷ [])
    ∷ Add (codes "room.users") (Variable (codes "r")) (Variable (codes "a"))
    ∷ Make (codes "s") (codes "room") (is (codes "label") (text (codes "102")) ∷ is (codes "keeper") (Variable (codes "c")) ∷ [])
    ∷ Add (codes "room.users") (Variable (codes "s")) (Variable (codes "a"))
    ∷ Print ((path (codes "person.reports") (Variable (codes "a"))) ∷ (path (codes "person.rooms") (Variable (codes "a"))) ∷ [])
    ∷ Delete (Variable (codes "a"))
    ∷ Print ((path (codes "person.boss") (Variable (codes "b"))) ∷ (path (codes "room.users") (Variable (codes "r"))) ∷ [])
    ∷ Make (codes "d") (codes "person") (is (codes "name") (text (codes "Di")) ∷ [])
    ∷ Print ((Variable (codes "d")) ∷ [])
    ∷ [])
    ∷ []

-- (with-transaction (make a person (name "Ann")) (make b person (name "Bob") (boss a)) (make r room (label "101")
-- (keeper b)) (add-to-set (room.users r) a) (print (person.reports a) (person.rooms a) (person.boss a)))
abbrev pub manual : List (List Statement)
manual =
    (Make (codes "a") (codes "person") (is (codes "name") (text (codes "Ann")) ∷ [])
    ∷ Make (codes "b") (codes "person") (is (codes "name") (text (codes "Bob")) ∷ is (codes "boss") (Variable (codes "a")) ∷ [])
    ∷ Make (codes "r") (codes "room") (is (codes "label") (text (codes "101")) ∷ is (codes "keeper") (Variable (codes "b")) ∷ [])
    ∷ Add (codes "room.users") (Variable (codes "r")) (Variable (codes "a"))
    ∷ Print ((path (codes "person.reports") (Variable (codes "a"))) ∷ (path (codes "person.rooms") (Variable (codes "a"))) ∷ (path (codes "person.boss") (Variable (codes "a"))) ∷ [])
    ∷ [])
    ∷ []

-- (with-transaction (make c person (name "Cy")) (make r room (label "101") (keeper c)) (delete-entity c))
-- (with-transaction (for-each (p person)))
abbrev pub needed : List (List Statement)
needed =
    (Make (codes "c") (codes "person") (is (codes "name") (text (codes "Cy")) ∷ [])
    ∷ Make (codes "r") (codes "room") (is (codes "label") (text (codes "101")) ∷ is (codes "keeper") (Variable (codes "c")) ∷ [])
    ∷ Delete (Variable (codes "c"))
    ∷ [])
    ∷ (ForEach (query_of (codes "p") (codes "person") [] [] [])
    ∷ [])
    ∷ []

-- (with-transaction (make a person) (set (person.boss a) a) (delete-entity a) (for-each (p person)))
abbrev pub own_references : List (List Statement)
own_references =
    (Make (codes "a") (codes "person") []
    ∷ Set (codes "person.boss") (Variable (codes "a")) (Variable (codes "a"))
    ∷ Delete (Variable (codes "a"))
    ∷ ForEach (query_of (codes "p") (codes "person") [] [] [])
    ∷ [])
    ∷ []

-- (with-transaction (make t thing) (make n node (next t)) (set (node.next n) n) (delete-entity n) (for-each (x
-- thing)))
abbrev pub own_need : List (List Statement)
own_need =
    (Make (codes "t") (codes "thing") []
    ∷ Make (codes "n") (codes "node") (is (codes "next") (Variable (codes "t")) ∷ [])
    ∷ Set (codes "node.next") (Variable (codes "n")) (Variable (codes "n"))
    ∷ Delete (Variable (codes "n"))
    ∷ ForEach (query_of (codes "x") (codes "thing") [] [] [])
    ∷ [])
    ∷ []

-- (with-transaction (make t thing) (make n node (next t)) (make m node (next t)) (delete-entity t))
abbrev pub need_of_another : List (List Statement)
need_of_another =
    (Make (codes "t") (codes "thing") []
    ∷ Make (codes "n") (codes "node") (is (codes "next") (Variable (codes "t")) ∷ [])
    ∷ Make (codes "m") (codes "node") (is (codes "next") (Variable (codes "t")) ∷ [])
    ∷ Delete (Variable (codes "t"))
    ∷ [])
    ∷ []
