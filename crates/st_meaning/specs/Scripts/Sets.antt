-- Scripts on sets, as they are written.
use Rattle.std.specs.Prelude.{List, [], ◌∷◌, codes}
use Rattle.st_query.specs.declared.statement.Statement.{Statement}
use Rattle.st_query.specs.declared.statement.Statement.TheVariants.{Make, Add, Take, Print}
use Rattle.st_query.specs.declared.term.Term.TheVariants.{Variable}
use Rattle.st_meaning.specs.Rows.{path, text, is}

-- (with-transaction (make a person) (add-to-set (person.boss a) a))
abbrev pub no_set : List (List Statement)
no_set =
    (Make (codes "a") (codes "person") []
    ∷ Add (codes "person.boss") (Variable (codes "a")) (Variable (codes "a"))
    ∷ [])
    ∷ []

-- (with-transaction (make a person) (delete-from-set (person.reports a) a))
abbrev pub inverse : List (List Statement)
inverse =
    (Make (codes "a") (codes "person") []
    ∷ Take (codes "person.reports") (Variable (codes "a")) (Variable (codes "a"))
    ∷ [])
    ∷ []

-- (with-transaction (make c person) (make r room (label "R") (keeper c)) (add-to-set (room.users r) c) (add-to-set
-- (room.users r) c) (print (room.users r)) (delete-from-set (room.users r) c) (delete-from-set (room.users r) c)
-- (print (room.users r) (person.rooms c)))
abbrev pub twice : List (List Statement)
twice =
    (Make (codes "c") (codes "person") []
    ∷ Make (codes "r") (codes "room") (is (codes "label") (text (codes "R")) ∷ is (codes "keeper") (Variable (codes "c")) ∷ [])
    ∷ Add (codes "room.users") (Variable (codes "r")) (Variable (codes "c"))
    ∷ Add (codes "room.users") (Variable (codes "r")) (Variable (codes "c"))
    ∷ Print ((path (codes "room.users") (Variable (codes "r"))) ∷ [])
    ∷ Take (codes "room.users") (Variable (codes "r")) (Variable (codes "c"))
    ∷ Take (codes "room.users") (Variable (codes "r")) (Variable (codes "c"))
    ∷ Print ((path (codes "room.users") (Variable (codes "r"))) ∷ (path (codes "person.rooms") (Variable (codes "c"))) ∷ [])
    ∷ [])
    ∷ []
