-- Scripts on attributes that no two entities share a value of, as they are written.
use Rattle.std.specs.Prelude.{pos, List, [], ◌∷◌, codes}
use Rattle.st_query.specs.declared.statement.Statement.{Statement}
use Rattle.st_query.specs.declared.statement.Statement.TheVariants.{Make, Set, Print}
use Rattle.st_query.specs.declared.term.Literal.TheVariants.{Null}
use Rattle.st_query.specs.declared.term.Term.TheVariants.{Literal, Variable}
use Rattle.st_meaning.specs.Rows.{path, int, is}

-- (with-transaction (make d dog (tag 1)) (make e dog (tag 2)) (set (dog.tag d) 1) (print (dog.tag d)) (set (dog.tag
-- e) 1))
abbrev pub taken : List (List Statement)
taken =
    (Make (codes "d") (codes "dog") (is (codes "tag") (int (pos 1)) ∷ [])
    ∷ Make (codes "e") (codes "dog") (is (codes "tag") (int (pos 2)) ∷ [])
    ∷ Set (codes "dog.tag") (Variable (codes "d")) (int (pos 1))
    ∷ Print ((path (codes "dog.tag") (Variable (codes "d"))) ∷ [])
    ∷ Set (codes "dog.tag") (Variable (codes "e")) (int (pos 1))
    ∷ [])
    ∷ []

-- (with-transaction (make d dog (tag 1)) (make c cat (tag 1)) (make e dog (tag 1)))
abbrev pub made_taken : List (List Statement)
made_taken =
    (Make (codes "d") (codes "dog") (is (codes "tag") (int (pos 1)) ∷ [])
    ∷ Make (codes "c") (codes "cat") (is (codes "tag") (int (pos 1)) ∷ [])
    ∷ Make (codes "e") (codes "dog") (is (codes "tag") (int (pos 1)) ∷ [])
    ∷ [])
    ∷ []

-- (with-transaction (make d dog) (make e dog) (set (dog.tag d) null) (print d e))
abbrev pub nulls_are_not_held : List (List Statement)
nulls_are_not_held =
    (Make (codes "d") (codes "dog") []
    ∷ Make (codes "e") (codes "dog") []
    ∷ Set (codes "dog.tag") (Variable (codes "d")) (Literal Null)
    ∷ Print ((Variable (codes "d")) ∷ (Variable (codes "e")) ∷ [])
    ∷ [])
    ∷ []
