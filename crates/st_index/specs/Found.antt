-- The entities that have a value, in the order of rows.
use Rattle.std.specs.Prelude.{◌≡◌, ℕ, suc, ◌+◌, ◌*◌, if◌then◌else◌, List, [], ◌∷◌, Option, Some, None}
use Rattle.st_values.specs.declared.value.EntityId.{EntityId}
use Rattle.st_values.specs.declared.value.Kind.{Kind}
use Rattle.st_values.specs.declared.value.Value.{Value}
use Rattle.st_values.specs.Order.{same_value}
use Rattle.st_lattice.specs.declared.attribute.Attribute.{Attribute}
use Rattle.st_lattice.specs.Outline.{Outline}
use Rattle.st_keys.specs.Keys.{Fits, IsEntity}
use Rattle.st_rows.specs.Rows.{pair_width}
use Rattle.st_state.specs.State.{Pair}
use Rattle.st_store.specs.declared.cursor.Cursor.{Cursor}
use Rattle.st_index.specs.Turned.{turned_row, AreOfPairs}
use Rattle.st_index.specs.Bad.{IsBadPair}

-- the least entity
abbrev pub least_entity : EntityId
least_entity = record { ty = 0; serial = 1 }

-- the entities of the pairs at the front that have a value
abbrev pub front_with : Value → List Pair → List EntityId
front_with value [] = []
front_with value (pair ∷ pairs) = if same_value pair.value value then pair.entity ∷ front_with value pairs else []

-- a row is that of a pair: its entity, where it has a value
pub record IsPairOf (kind : Kind) (value : Value) (row : List ℕ) (next : Option EntityId) : Type 0 where
  pub other : Value
  pub entity : EntityId
  pub fits : Fits kind other
  pub is_entity : IsEntity entity
  pub is : turned_row kind other entity ≡ row
  pub told : next ≡ (if same_value other value then Some entity else None)

-- the row that a cursor passed last is none of an attribute's, at a place of its page
abbrev pub IsBadBehind : Outline → Attribute → Cursor → List ℕ → ℕ → Type 0
IsBadBehind schema a cursor row at = (index : ℕ) → cursor.index ≡ suc index → (offset : ℕ) × IsBadPair schema a row offset × (at ≡ 16 + index * pair_width a.kind + offset)

-- of pairs that are ahead: the first one has a value, and then it is passed; or no more at the front have it
abbrev pub IsNext : (List (List ℕ) → Type 0) → Kind → Value → List Pair → Option EntityId → Type 0
IsNext Ahead kind value pairs None = front_with value pairs ≡ []
IsNext Ahead kind value pairs (Some entity) = (others : List (List ℕ)) × (more : List Pair) × Ahead others × AreOfPairs kind others more × (front_with value pairs ≡ entity ∷ front_with value more)
