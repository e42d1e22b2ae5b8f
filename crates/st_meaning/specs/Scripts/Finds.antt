-- Scripts on finding, as they are written.
use Rattle.std.specs.Prelude.{pos, List, [], ◌∷◌, codes}
use Rattle.st_query.specs.declared.statement.Statement.{Statement}
use Rattle.st_query.specs.declared.statement.Statement.TheVariants.{Make, Find, Print}
use Rattle.st_query.specs.declared.term.Literal.TheVariants.{Null}
use Rattle.st_query.specs.declared.term.Term.TheVariants.{Literal, Variable}
use Rattle.st_meaning.specs.Rows.{text, int, is}

-- (with-transaction (make u unit (code "A")) (find v unit code "A") (print v) (find w unit code "B") (print w))
abbrev pub found : List (List Statement)
found =
    (Make (codes "u") (codes "unit") (is (codes "code") (text (codes "A")) ∷ [])
    ∷ Find (codes "v") (codes "unit") (codes "code") (text (codes "A"))
    ∷ Print ((Variable (codes "v")) ∷ [])
    ∷ Find (codes "w") (codes "unit") (codes "code") (text (codes "B"))
    ∷ Print ((Variable (codes "w")) ∷ [])
    ∷ [])
    ∷ []

-- (with-transaction (make s staff (badge 1)) (find p person badge 1) (find q student badge 1) (print p q))
abbrev pub descendants : List (List Statement)
descendants =
    (Make (codes "s") (codes "staff") (is (codes "badge") (int (pos 1)) ∷ [])
    ∷ Find (codes "p") (codes "person") (codes "badge") (int (pos 1))
    ∷ Find (codes "q") (codes "student") (codes "badge") (int (pos 1))
    ∷ Print ((Variable (codes "p")) ∷ (Variable (codes "q")) ∷ [])
    ∷ [])
    ∷ []

-- (with-transaction (find u unit code null) (print u) (find v unit code "123456789") (print v))
abbrev pub null_and_too_long : List (List Statement)
null_and_too_long =
    (Find (codes "u") (codes "unit") (codes "code") (Literal Null)
    ∷ Print ((Variable (codes "u")) ∷ [])
    ∷ Find (codes "v") (codes "unit") (codes "code") (text (codes "123456789"))
    ∷ Print ((Variable (codes "v")) ∷ [])
    ∷ [])
    ∷ []
