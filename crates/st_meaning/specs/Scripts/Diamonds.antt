-- Scripts on a type with two parents, as they are written.
use Rattle.std.specs.Prelude.{pos, List, [], ◌∷◌, codes}
use Rattle.st_query.specs.declared.statement.Statement.{Statement}
use Rattle.st_query.specs.declared.statement.Statement.TheVariants.{Make, Find, Print, ForEach}
use Rattle.st_query.specs.declared.term.Term.TheVariants.{Variable}
use Rattle.st_meaning.specs.Rows.{path, text, int, is, query_of}

-- (with-transaction (make b book (code 7) (title "SICP") (due 3)) (print (thing.code b) (owned.owner b) (lent.due b)
-- (book.title b)))
abbrev pub diamond : List (List Statement)
diamond =
    (Make (codes "b") (codes "book") (is (codes "code") (int (pos 7)) ∷ is (codes "title") (text (codes "SICP")) ∷ is (codes "due") (int (pos 3)) ∷ [])
    ∷ Print ((path (codes "thing.code") (Variable (codes "b"))) ∷ (path (codes "owned.owner") (Variable (codes "b"))) ∷ (path (codes "lent.due") (Variable (codes "b"))) ∷ (path (codes "book.title") (Variable (codes "b"))) ∷ [])
    ∷ [])
    ∷ []

-- (with-transaction (make b book (code 7)) (find x thing code 7) (print x) (for-each (t owned) (show (thing.code
-- t))))
abbrev pub inherited : List (List Statement)
inherited =
    (Make (codes "b") (codes "book") (is (codes "code") (int (pos 7)) ∷ [])
    ∷ Find (codes "x") (codes "thing") (codes "code") (int (pos 7))
    ∷ Print ((Variable (codes "x")) ∷ [])
    ∷ ForEach (query_of (codes "t") (codes "owned") [] [] ((path (codes "thing.code") (Variable (codes "t"))) ∷ []))
    ∷ [])
    ∷ []
