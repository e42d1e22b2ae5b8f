-- The way of each kind of term.
use Rattle.std.proofs.Common.{◌≡◌, List, [], ℕ, refl}
use Rattle.st_query.specs.declared.term.Literal.{Literal}
use Rattle.st_query.specs.declared.term.Term.{Term, Path', more_of-Term, end_of-Term}
use Rattle.st_query.specs.declared.term.Term.TheVariants as term
use Rattle.st_query.specs.declared.term.Term.TheBlock as block
use Rattle.st_query.specs.Ways.{Written, Named, onward, way}

pub way-literal : (written : Literal) → way (term.Literal written) ≡ record { features = []; start = Written written }
unfolding way
way-literal written = refl

pub way-variable : (name : List ℕ) → way (term.Variable name) ≡ record { features = []; start = Named name }
unfolding way
way-variable name = refl

pub way-path : (feature : List ℕ) (inner : Term) → way (term.Path feature inner) ≡ onward feature (way inner)
unfolding way block.hidden-the_row-Term-0 denote.Hole.Carrier.hidden
way-path feature inner = refl

-- a path, as it is built of the term in it
pub path-built : (feature : List ℕ) (inner : Term) → term.Path feature inner ≡ Path' feature tt (more_of-Term inner end_of-Term)
unfolding block.hidden-the_row-Term-0 denote.Hole.Carrier.hidden
path-built feature inner = refl
