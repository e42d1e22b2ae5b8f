-- Scripts on null, as they are written.
use Rattle.std.specs.Prelude.{pos, List, [], ◌∷◌, codes}
use Rattle.st_query.specs.declared.statement.Statement.{Statement}
use Rattle.st_query.specs.declared.statement.Statement.TheVariants.{Make, Set, Add, Take, Delete}
use Rattle.st_query.specs.declared.term.Literal.TheVariants.{Null}
use Rattle.st_query.specs.declared.term.Term.TheVariants.{Literal, Variable}
use Rattle.st_meaning.specs.Rows.{text, int, is}

-- (with-transaction (make c person) (make r room (label "101") (keeper c)) (set (room.label r) null))
abbrev pub set : List (List Statement)
set =
    (Make (codes "c") (codes "person") []
    ∷ Make (codes "r") (codes "room") (is (codes "label") (text (codes "101")) ∷ is (codes "keeper") (Variable (codes "c")) ∷ [])
    ∷ Set (codes "room.label") (Variable (codes "r")) (Literal Null)
    ∷ [])
    ∷ []

-- (with-transaction (make c person) (make r room (keeper c)))
abbrev pub make : List (List Statement)
make =
    (Make (codes "c") (codes "person") []
    ∷ Make (codes "r") (codes "room") (is (codes "keeper") (Variable (codes "c")) ∷ [])
    ∷ [])
    ∷ []

-- (with-transaction (make c person) (make r room (label "101") (keeper c)) (add-to-set (room.users r) null))
abbrev pub add : List (List Statement)
add =
    (Make (codes "c") (codes "person") []
    ∷ Make (codes "r") (codes "room") (is (codes "label") (text (codes "101")) ∷ is (codes "keeper") (Variable (codes "c")) ∷ [])
    ∷ Add (codes "room.users") (Variable (codes "r")) (Literal Null)
    ∷ [])
    ∷ []

-- (with-transaction (make c person) (make r room (label "101") (keeper c)) (delete-from-set (room.users r) null))
abbrev pub take : List (List Statement)
take =
    (Make (codes "c") (codes "person") []
    ∷ Make (codes "r") (codes "room") (is (codes "label") (text (codes "101")) ∷ is (codes "keeper") (Variable (codes "c")) ∷ [])
    ∷ Take (codes "room.users") (Variable (codes "r")) (Literal Null)
    ∷ [])
    ∷ []

-- (with-transaction (set (person.age null) 5))
abbrev pub target : List (List Statement)
target =
    (Set (codes "person.age") (Literal Null) (int (pos 5))
    ∷ [])
    ∷ []

-- (with-transaction (delete-entity null))
abbrev pub deleted : List (List Statement)
deleted =
    (Delete (Literal Null)
    ∷ [])
    ∷ []
