-- Rows of indexes and inverses that are none, with their places.
use Rattle.std.specs.Prelude.{◌≡◌, ℕ, ◌+◌, ◌*◌, ◌⊎◌, Bool, true, false, List, slice_get, Some, IsTrue, ⊤}
use Rattle.std.specs.List.{All}
use Rattle.st_values.specs.declared.value.EntityId.{EntityId}
use Rattle.st_values.specs.declared.value.Kind.{Kind}
use Rattle.st_values.specs.declared.value.Kind.TheVariants as kind
use Rattle.st_values.specs.declared.value.Value.{Value}
use Rattle.st_values.specs.declared.value.Value.TheVariants as value
use Rattle.st_lattice.specs.declared.attribute.Attribute.{Attribute}
use Rattle.st_lattice.specs.Outline.{Outline}
use Rattle.st_lattice.specs.Lattice.{isa}
use Rattle.st_keys.specs.Keys.{width, Fits, IsEntity}
use Rattle.st_image.specs.Fields.{rows_of}
use Rattle.st_pages.specs.Attempt.{Array}
use Rattle.st_pages.specs.declared.places.Place.{Place}
use Rattle.st_rows.specs.declared.fault.RowFault.{RowFault}
use Rattle.st_rows.specs.declared.fault.RowFault.TheVariants.{BadRow, Memory}
use Rattle.st_rows.specs.Rows.{pair_fields, RowRefused}
use Rattle.st_state.specs.State.{Pair}
use Rattle.st_index.specs.Turned.{turned_row, AreOfPairs}

-- whether the type of a value that is an entity is of a kind's; any other value is
abbrev pub is_of_kind : Outline → Kind → Value → Bool
is_of_kind schema (kind.Entity ty) (value.Entity entity) = isa schema entity.ty ty
is_of_kind schema kind value = true

-- a pair names an entity of a wrong type, at a place of its row: as the value, or as the one that has it
abbrev pub IsMisnamed : Outline → Attribute → Value → EntityId → ℕ → Type 0
IsMisnamed schema a value entity at =
    ((is_of_kind schema a.kind value ≡ false) × (at ≡ 0))
    ⊎ ((is_of_kind schema a.kind value ≡ true) × (isa schema entity.ty a.owner ≡ false) × (at ≡ width a.kind))

-- a row is that of a pair which names an entity of a wrong type
pub record IsMisfit (schema : Outline) (a : Attribute) (row : List ℕ) (at : ℕ) : Type 0 where
  pub value : Value
  pub entity : EntityId
  pub fits : Fits a.kind value
  pub is_entity : IsEntity entity
  pub is : turned_row a.kind value entity ≡ row
  pub misnamed : IsMisnamed schema a value entity at

-- a row is none of an attribute's, at a place: its bytes are refused there, or it names an entity of a wrong type
abbrev pub IsBadPair : Outline → Attribute → List ℕ → ℕ → Type 0
IsBadPair schema a row at = RowRefused (pair_fields a.kind true) row at ⊎ IsMisfit schema a row at

-- why a row gives no pair: it is none at a place, or there is no memory
abbrev pub IsPairCause : Outline → Attribute → List ℕ → RowFault → Type 0
IsPairCause schema a row (BadRow place) = IsBadPair schema a row place
IsPairCause schema a row Memory = ⊤

-- a page has such a row, at a place of it
pub record HasBadPair (schema : Outline) (a : Attribute) (place : Place) (reach : Place → Array → ℕ → Bool) (array : Array) (page at : ℕ) : Type 0 where
  pub reached : IsTrue (reach place array page)
  pub index : ℕ
  pub row : List ℕ
  pub there : slice_get (rows_of place.width (array page)) index ≡ Some row
  pub offset : ℕ
  pub bad : IsBadPair schema a row offset
  pub at_is : at ≡ 16 + index * place.width + offset

-- a pair names entities of the right types: as its value, and as the one that has it
pub record IsNamed (schema : Outline) (a : Attribute) (pair : Pair) : Type 0 where
  pub value : is_of_kind schema a.kind pair.value ≡ true
  pub owner : isa schema pair.entity.ty a.owner ≡ true

-- a row is that of such a pair
pub record IsNamedRow (schema : Outline) (a : Attribute) (row : List ℕ) : Type 0 where
  pub pair : Pair
  pub fits : Fits a.kind pair.value
  pub is_entity : IsEntity pair.entity
  pub is : turned_row a.kind pair.value pair.entity ≡ row
  pub named : IsNamed schema a pair

-- rows are those of such pairs
pub record AreNamed (schema : Outline) (a : Attribute) (rows : List (List ℕ)) : Type 0 where
  pub pairs : List Pair
  pub are : AreOfPairs a.kind rows pairs
  pub named : All (IsNamed schema a) pairs
