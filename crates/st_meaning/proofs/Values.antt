-- What each kind of term stands for.
use Rattle.std.proofs.Common.{◌≡◌, List, ℕ, refl, ap}
use Rattle.st_lattice.specs.Called.{called}
use Rattle.st_query.specs.declared.term.Literal.{Literal}
use Rattle.st_query.specs.declared.term.Term.{Term}
use Rattle.st_query.specs.declared.term.Term.TheVariants as term
use Rattle.st_query.specs.declared.term.Variable.{Variable}
use Rattle.st_query.specs.Terms.{literal_value, variable_value}
use Rattle.st_query.proofs.Ways.{way-literal, way-variable, way-path}
use Rattle.st_state.specs.State.{State}
use Rattle.st_meaning.specs.Terms.{Single, single, feature_value, term_meaning, term_value}

pub meaning_of_literal : (state : State) (variables : List Variable) (written : Literal) → term_meaning state variables (term.Literal written) ≡ Single (literal_value state.schema written)
unfolding term_meaning
meaning_of_literal state variables written = rw (way-literal written) refl

pub meaning_of_variable : (state : State) (variables : List Variable) (name : List ℕ) → term_meaning state variables (term.Variable name) ≡ Single (variable_value variables name)
unfolding term_meaning
meaning_of_variable state variables name = rw (way-variable name) refl

pub meaning_of_path : (state : State) (variables : List Variable) (feature : List ℕ) (inner : Term) → term_meaning state variables (term.Path feature inner) ≡ feature_value state (called state.schema feature) (term_value state variables inner)
unfolding term_meaning
meaning_of_path state variables feature inner = rw (way-path feature inner) refl

pub term_value-literal : (state : State) (variables : List Variable) (written : Literal) → term_value state variables (term.Literal written) ≡ literal_value state.schema written
term_value-literal state variables written = ap single (meaning_of_literal state variables written)

pub term_value-variable : (state : State) (variables : List Variable) (name : List ℕ) → term_value state variables (term.Variable name) ≡ variable_value variables name
term_value-variable state variables name = ap single (meaning_of_variable state variables name)

pub term_value-path : (state : State) (variables : List Variable) (feature : List ℕ) (inner : Term) → term_value state variables (term.Path feature inner) ≡ single (feature_value state (called state.schema feature) (term_value state variables inner))
term_value-path state variables feature inner = ap single (meaning_of_path state variables feature inner)
