-- The tables that a schema keeps beside its lists.
use Rattle.std.specs.Prelude.{◌≡◌, ℕ, ◌+◌, Bool, ◌==◌, if◌then◌else◌, List, [], ◌∷◌, length, Option, Some, None, Vec}
use Rattle.std.specs.BTreeMap.{BTreeMap, get_by}
use Rattle.std.specs.Ordering.{nat_cmp}
use Rattle.std.specs.Cmp.Lexicographic.{slice_cmp}
use Rattle.std.specs.declared.alloc.Global.{Global}
use Rattle.st_lattice.specs.declared.attribute.Attribute.{Attribute}
use Rattle.st_lattice.specs.declared.feature.Feature.{Feature}
use Rattle.st_lattice.specs.declared.feature.Named.{Named}
use Rattle.st_lattice.specs.Outline.{Outline, IsOrderly}
use Rattle.st_lattice.specs.Lattice.{descent_rows}
use Rattle.st_lattice.specs.Features.{features as features_in, lookup}

-- the position of the attribute with a number, where the first one has this position
abbrev pub position_from : ℕ → ℕ → List Attribute → Option ℕ
position_from position number [] = None
position_from position number (a ∷ attributes) =
    if a.number == number then Some position else position_from (position + 1) number attributes

-- what a table of names has under a name
abbrev pub entry : BTreeMap (Vec ℕ Global) Feature → List ℕ → Option Feature
entry table name = get_by (λ key. slice_cmp nat_cmp name key.items) table

-- what a table of numbers has under a number
abbrev pub position_entry : BTreeMap ℕ ℕ → ℕ → Option ℕ
position_entry table number = get_by (nat_cmp number) table

-- the numbers are in order, and the tables are those of the schema: which types are of which, the features, the features
-- by name, the positions of attributes by number
pub record IsMade (schema : Outline) (descents : List (List Bool)) (features : List Named) (table : BTreeMap (Vec ℕ Global) Feature) (positions : BTreeMap ℕ ℕ) : Type 0 where
  pub orderly : IsOrderly schema
  pub descents_are : descents ≡ descent_rows schema.parents (length schema.names) (length schema.names)
  pub features_are : features ≡ features_in schema
  pub table_is : (name : List ℕ) → entry table name ≡ lookup schema name
  pub positions_are : (number : ℕ) → position_entry positions number ≡ position_from 0 number schema.attributes
