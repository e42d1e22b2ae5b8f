-- Who has a value, and which attributes are there.
use Rattle.std.proofs.Common.{◌≡◌, ℕ, List, [], ◌∷◌, None, refl, ap}
use Rattle.std.specs.Prelude.{find, slice_get, is_some}
use Rattle.st_values.specs.declared.value.EntityId.{EntityId}
use Rattle.st_lattice.specs.declared.attribute.Attribute.{Attribute}
use Rattle.st_lattice.specs.declared.called.Called.{Called}
use Rattle.st_lattice.specs.declared.called.Called.TheVariants.{Nothing, Own, Inverse}
use Rattle.st_lattice.specs.Called.{called}
use Rattle.st_lattice.specs.Outline.{Outline}
use Rattle.st_state.specs.Bases.{is_other}
use Rattle.st_meaning.proofs.Sorts.{called-own}
use Rattle.st_changes.specs.Effects.{IsThere}

-- the first of entities is found where any is meant
pub first_found : (xs : List EntityId) → find (is_other None) xs ≡ slice_get xs 0
first_found [] = refl
first_found (x ∷ xs) = refl

pub called_there : (schema : Outline) (name : List ℕ) → IsThere schema (called schema name)
called_there schema name = by (called schema name) refl
  where
    by : (c : Called Attribute) → called schema name ≡ c → IsThere schema c
    by Nothing e = tt
    by (Own a) e = ap is_some (called-own schema name a e)
    by (Inverse a) e = tt
