-- Scripts on ensuring, as they are written.
use Rattle.std.specs.Prelude.{pos, List, [], ◌∷◌, codes}
use Rattle.st_query.specs.declared.statement.Statement.{Statement}
use Rattle.st_query.specs.declared.statement.Statement.TheVariants.{Make, Ensure, Print}
use Rattle.st_query.specs.declared.term.Literal.TheVariants.{Null}
use Rattle.st_query.specs.declared.term.Term.TheVariants.{Literal, Variable}
use Rattle.st_meaning.specs.Rows.{path, text, int, is}

-- (with-transaction (ensure u unit (code "A") (title "x")) (print u (unit.title u)) (ensure v unit (code "A") (title
-- "y")) (print v (unit.title u)) (ensure w unit (code "B")) (print w (unit.title w)))
abbrev pub both_ways : List (List Statement)
both_ways =
    (Ensure (codes "u") (codes "unit") (is (codes "code") (text (codes "A")) ∷ is (codes "title") (text (codes "x")) ∷ [])
    ∷ Print ((Variable (codes "u")) ∷ (path (codes "unit.title") (Variable (codes "u"))) ∷ [])
    ∷ Ensure (codes "v") (codes "unit") (is (codes "code") (text (codes "A")) ∷ is (codes "title") (text (codes "y")) ∷ [])
    ∷ Print ((Variable (codes "v")) ∷ (path (codes "unit.title") (Variable (codes "u"))) ∷ [])
    ∷ Ensure (codes "w") (codes "unit") (is (codes "code") (text (codes "B")) ∷ [])
    ∷ Print ((Variable (codes "w")) ∷ (path (codes "unit.title") (Variable (codes "w"))) ∷ [])
    ∷ [])
    ∷ []

-- (with-transaction (ensure d dog (tag null)))
abbrev pub null_key : List (List Statement)
null_key =
    (Ensure (codes "d") (codes "dog") (is (codes "tag") (Literal Null) ∷ [])
    ∷ [])
    ∷ []

-- (with-transaction (make p person (badge 1)) (ensure s staff (badge 1) (grade 2)))
abbrev pub held_outside : List (List Statement)
held_outside =
    (Make (codes "p") (codes "person") (is (codes "badge") (int (pos 1)) ∷ [])
    ∷ Ensure (codes "s") (codes "staff") (is (codes "badge") (int (pos 1)) ∷ is (codes "grade") (int (pos 2)) ∷ [])
    ∷ [])
    ∷ []

-- (with-transaction (ensure s staff (badge 1) (grade 2)) (ensure p person (badge 1) (name "Ann")) (print p
-- (staff.grade s) (person.name s)))
abbrev pub others_kept : List (List Statement)
others_kept =
    (Ensure (codes "s") (codes "staff") (is (codes "badge") (int (pos 1)) ∷ is (codes "grade") (int (pos 2)) ∷ [])
    ∷ Ensure (codes "p") (codes "person") (is (codes "badge") (int (pos 1)) ∷ is (codes "name") (text (codes "Ann")) ∷ [])
    ∷ Print ((Variable (codes "p")) ∷ (path (codes "staff.grade") (Variable (codes "s"))) ∷ (path (codes "person.name") (Variable (codes "s"))) ∷ [])
    ∷ [])
    ∷ []
