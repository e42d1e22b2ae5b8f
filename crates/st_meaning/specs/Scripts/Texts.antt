-- Scripts on the longest texts, as they are written.
use Rattle.std.specs.Prelude.{List, [], ◌∷◌, codes, replicate}
use Rattle.st_query.specs.declared.query.Condition.TheVariants.{Compare}
use Rattle.st_query.specs.declared.query.Sign.TheVariants as sign
use Rattle.st_query.specs.declared.statement.Statement.{Statement}
use Rattle.st_query.specs.declared.statement.Statement.TheVariants.{Make, ForEach}
use Rattle.st_query.specs.declared.term.Term.TheVariants.{Variable}
use Rattle.st_meaning.specs.Rows.{path, text, is, query_of}

-- (with-transaction (make n note (body A200)) (for-each (m note) (where (= (note.body m) A200))))
abbrev pub longest : List (List Statement)
longest =
    (Make (codes "n") (codes "note") (is (codes "body") (text (replicate 200 97)) ∷ [])
    ∷ ForEach (query_of (codes "m") (codes "note") (Compare sign.Equal (path (codes "note.body") (Variable (codes "m"))) (text (replicate 200 97)) ∷ []) [] [])
    ∷ [])
    ∷ []

-- (with-transaction (make n note (body A201)) (for-each (m note) (where (= (note.body m) A201))))
abbrev pub too_long : List (List Statement)
too_long =
    (Make (codes "n") (codes "note") (is (codes "body") (text (replicate 201 97)) ∷ [])
    ∷ ForEach (query_of (codes "m") (codes "note") (Compare sign.Equal (path (codes "note.body") (Variable (codes "m"))) (text (replicate 201 97)) ∷ []) [] [])
    ∷ [])
    ∷ []

-- (with-transaction (make n note (body A200)) (for-each (m note) (where (= (note.body m) A201))) (for-each (m note)
-- (where (< (note.body m) A201))))
abbrev pub long_condition : List (List Statement)
long_condition =
    (Make (codes "n") (codes "note") (is (codes "body") (text (replicate 200 97)) ∷ [])
    ∷ ForEach (query_of (codes "m") (codes "note") (Compare sign.Equal (path (codes "note.body") (Variable (codes "m"))) (text (replicate 201 97)) ∷ []) [] [])
    ∷ ForEach (query_of (codes "m") (codes "note") (Compare sign.Below (path (codes "note.body") (Variable (codes "m"))) (text (replicate 201 97)) ∷ []) [] [])
    ∷ [])
    ∷ []

-- (with-transaction (make u unit (title A81)))
abbrev pub long_before_null : List (List Statement)
long_before_null =
    (Make (codes "u") (codes "unit") (is (codes "title") (text (replicate 81 97)) ∷ [])
    ∷ [])
    ∷ []
