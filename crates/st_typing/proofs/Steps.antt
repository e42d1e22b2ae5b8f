-- The checks of a term and its sort, by what the term begins with.
use Rattle.std.proofs.Common.{◌≡◌, ℕ, List, [], ◌∷◌, refl}
use Rattle.st_lattice.specs.Called.{called}
use Rattle.st_lattice.specs.Outline.{Outline}
use Rattle.st_query.specs.declared.kind.Expected.{Expected}
use Rattle.st_query.specs.declared.term.Literal.{Literal}
use Rattle.st_query.specs.declared.term.Term.{Term}
use Rattle.st_query.specs.declared.term.Term.TheVariants as term
use Rattle.st_query.specs.Kinds.{Known, literal_name, literal_typing, feature_typing, typing_sort, expected_under, term_sort}
use Rattle.st_query.proofs.Ways.{way-literal, way-variable, way-path}
use Rattle.st_state.specs.Refusals.{first_of}
use Rattle.st_meaning.specs.Checks.{fit_or_refused, term_refused}
use Rattle.st_typing.specs.Scope.{named_typing}

module _ (schema : Outline) (names : List Known) where
  pub refused_of_literal : (expected : Expected) (written : Literal) → term_refused schema names expected (term.Literal written) ≡ fit_or_refused schema expected (literal_name written) (literal_typing schema written)
  unfolding term_refused
  refused_of_literal expected written = rw (way-literal written) refl

  pub refused_of_variable : (expected : Expected) (name : List ℕ) → term_refused schema names expected (term.Variable name)
      ≡ fit_or_refused schema expected name (named_typing names name)
  unfolding term_refused named_typing
  refused_of_variable expected name = rw (way-variable name) refl

  -- the outer feature, and then what is inside
  pub refused_of_path : (expected : Expected) (feature : List ℕ) (inner : Term) → term_refused schema names expected (term.Path feature inner)
      ≡ first_of (fit_or_refused schema expected feature (feature_typing (called schema feature)) ∷ term_refused schema names (expected_under (called schema feature)) inner ∷ [])
  unfolding term_refused
  refused_of_path expected feature inner = rw (way-path feature inner) refl

  pub sort_of_literal : (written : Literal) → term_sort schema names (term.Literal written) ≡ typing_sort (literal_typing schema written)
  sort_of_literal written = rw (way-literal written) refl

  pub sort_of_variable : (name : List ℕ) → term_sort schema names (term.Variable name) ≡ typing_sort (named_typing names name)
  unfolding named_typing
  sort_of_variable name = rw (way-variable name) refl

  pub sort_of_path : (feature : List ℕ) (inner : Term) → term_sort schema names (term.Path feature inner) ≡ typing_sort (feature_typing (called schema feature))
  sort_of_path feature inner = rw (way-path feature inner) refl
