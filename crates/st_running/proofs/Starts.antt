-- What each kind of term begins with.
use Rattle.std.proofs.Common.{◌≡◌, ℕ, List, refl}
use Rattle.st_query.specs.declared.term.Literal.{Literal}
use Rattle.st_query.specs.declared.term.Term.{Term}
use Rattle.st_query.specs.declared.term.Term.TheVariants as term
use Rattle.st_query.specs.Ways.{Written, Named, way}
use Rattle.st_query.proofs.Ways.{way-literal, way-variable, way-path}

pub start_of_literal : (written : Literal) → (way (term.Literal written)).start ≡ Written written
start_of_literal written = rw (way-literal written) refl

pub start_of_variable : (name : List ℕ) → (way (term.Variable name)).start ≡ Named name
start_of_variable name = rw (way-variable name) refl

pub start_of_path : (feature : List ℕ) (inner : Term) → (way (term.Path feature inner)).start ≡ (way inner).start
start_of_path feature inner = rw (way-path feature inner) refl
