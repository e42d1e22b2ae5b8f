-- A term without its nesting: what it begins with, and the features that are taken from there on.
use Rattle.std.specs.Prelude.{ℕ, List, [], ◌∷◌}
use Rattle.st_query.specs.declared.term.Literal.{Literal}
use Rattle.st_query.specs.declared.term.Term.{Term, Path', Row_of-Term, end_of-Term, more_of-Term}
use Rattle.st_query.specs.declared.term.Term as term

-- what a term begins with: a value that is written out, or a variable
pub data Start : Type 0 where
  Written : Literal → Start
  Named : List ℕ → Start

-- a way: the features in the order of the text, so that the last one is taken first, and what it begins with
pub record Way : Type 0 where
  pub features : List (List ℕ)
  pub start : Start

-- a way with one feature more, taken last
abbrev pub onward : List ℕ → Way → Way
onward feature w = record w { features = feature ∷ w.features }

-- what a term begins with, and one feature more for each path
abbrev mutual
  pub way_of : Term → Way
  way_of (term.Literal written) = record { features = []; start = Written written }
  way_of (term.Variable name) = record { features = []; start = Named name }
  way_of (Path' feature _ inner) = onward feature (way_inside inner)

  -- a path holds one term
  pub way_inside : {m : _} → Row_of-Term m → Way
  way_inside end_of-Term = record { features = []; start = Named [] }
  way_inside (more_of-Term inner _) = way_of inner

-- the way of a term
unfoldable pub way : Term → Way
way term = way_of term
