-- Statements whose footprints were worked out by hand, and a state whose serials are nearly spent.
use Rattle.std.specs.Prelude.{pos, List, [], ◌∷◌, codes}
use Rattle.st_query.specs.declared.query.Condition.TheVariants.{Compare}
use Rattle.st_query.specs.declared.query.Sign.TheVariants as sign
use Rattle.st_query.specs.declared.statement.Statement.{Statement}
use Rattle.st_query.specs.declared.statement.Statement.TheVariants.{Make, Set, Delete, Find, Print, ForEach}
use Rattle.st_query.specs.declared.term.Literal.TheVariants.{Null, Entity}
use Rattle.st_query.specs.declared.term.Term.TheVariants.{Literal, Variable}
use Rattle.st_state.specs.State.{State}
use Rattle.st_meaning.specs.Rows.{path, int, query_of}
use Rattle.st_meaning.specs.Schemas.{tiny}

-- (make c person)
abbrev pub make_person : Statement
make_person = Make (codes "c") (codes "person") []

-- (print (person.rooms p))
abbrev pub print_rooms : Statement
print_rooms = Print (path (codes "person.rooms") (Variable (codes "p")) ∷ [])

-- (delete-entity person#1)
abbrev pub delete_person : Statement
delete_person = Delete (Literal (Entity (codes "person") 1))

-- (set (person.boss person#1) null)
abbrev pub set_boss : Statement
set_boss = Set (codes "person.boss") (Literal (Entity (codes "person") 1)) (Literal Null)

-- (find d dog tag 1)
abbrev pub find_dog : Statement
find_dog = Find (codes "d") (codes "dog") (codes "tag") (int (pos 1))

-- (for-each (p person) (where (= (person.age p) 1)))
abbrev pub each_person : Statement
each_person =
    ForEach (query_of (codes "p") (codes "person") (Compare sign.Equal (path (codes "person.age") (Variable (codes "p"))) (int (pos 1)) ∷ []) [] [])

-- one serial is left
abbrev pub nearly_spent : State
nearly_spent = record { schema = tiny; live = []; triples = []; last = 4294967294 ∷ [] }

-- (with-transaction (make p person) (print p) (make q person))
abbrev pub last_serials : List (List Statement)
last_serials =
    (Make (codes "p") (codes "person") [] ∷ Print (Variable (codes "p") ∷ []) ∷ Make (codes "q") (codes "person") [] ∷ []) ∷ []
