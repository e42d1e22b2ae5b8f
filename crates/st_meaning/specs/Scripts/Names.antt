-- Scripts on names that are not there, as they are written.
use Rattle.std.specs.Prelude.{pos, List, [], ◌∷◌, codes}
use Rattle.st_query.specs.declared.statement.Statement.{Statement}
use Rattle.st_query.specs.declared.statement.Statement.TheVariants.{Make, Print}
use Rattle.st_query.specs.declared.term.Literal.TheVariants.{Null, Entity}
use Rattle.st_query.specs.declared.term.Term.TheVariants.{Literal, Variable}
use Rattle.st_meaning.specs.Rows.{path, int, is}

-- (with-transaction (make x dog))
abbrev pub ty : List (List Statement)
ty =
    (Make (codes "x") (codes "dog") []
    ∷ [])
    ∷ []

-- (with-transaction (make p person (weight 5)))
abbrev pub attribute : List (List Statement)
attribute =
    (Make (codes "p") (codes "person") (is (codes "weight") (int (pos 5)) ∷ [])
    ∷ [])
    ∷ []

-- (with-transaction (print zz))
abbrev pub variable : List (List Statement)
variable =
    (Print ((Variable (codes "zz")) ∷ [])
    ∷ [])
    ∷ []

-- (with-transaction (make s student) (print (student.name s)))
abbrev pub inherited : List (List Statement)
inherited =
    (Make (codes "s") (codes "student") []
    ∷ Print ((path (codes "student.name") (Variable (codes "s"))) ∷ [])
    ∷ [])
    ∷ []

-- (with-transaction (print dog#1))
abbrev pub literal : List (List Statement)
literal =
    (Print ((Literal (Entity (codes "dog") 1)) ∷ [])
    ∷ [])
    ∷ []

-- (with-transaction (make a person (reports null)))
abbrev pub inverse_as_a_cell : List (List Statement)
inverse_as_a_cell =
    (Make (codes "a") (codes "person") (is (codes "reports") (Literal Null) ∷ [])
    ∷ [])
    ∷ []

-- (with-transaction (make p person (name (person.name p))))
abbrev pub own_cells : List (List Statement)
own_cells =
    (Make (codes "p") (codes "person") (is (codes "name") (path (codes "person.name") (Variable (codes "p"))) ∷ [])
    ∷ [])
    ∷ []
