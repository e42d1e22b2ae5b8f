-- What is looked up in pages that stand for a state.
use Rattle.std.specs.Prelude.{◌≡◌, ℕ, ◌&&◌, not, Bool, true, false, if◌then◌else◌, List, [], ◌∷◌, Option, Some, None, Result, IsTrue, IfOk, IfErr, ◌<◌, length, take, drop, map, filter, pos, slice_index_or}
use Rattle.std.specs.Int.{w16, w32, from_be_bytes, to_be_bytes}
use Rattle.std.specs.List.{All}
use Rattle.st_page.specs.declared.fault.PageFault.{PageFault}
use Rattle.st_values.specs.declared.value.EntityId.{EntityId}
use Rattle.st_values.specs.declared.value.Kind.{Kind}
use Rattle.st_values.specs.declared.value.Value.{Value}
use Rattle.st_values.specs.declared.value.Value.TheVariants.{Int, Null}
use Rattle.st_values.specs.Order.{same_entity, same_value}
use Rattle.st_lattice.specs.declared.attribute.Attribute.{Attribute}
use Rattle.st_lattice.specs.declared.stores.StoreKind.TheVariants.{Extent}
use Rattle.st_lattice.specs.Outline.{Outline}
use Rattle.st_lattice.specs.Lattice.{attributes_in}
use Rattle.st_lattice.specs.Stores.{store, row_width}
use Rattle.st_rows.specs.Rows.{AreHeld, row, row_fields}
use Rattle.st_keys.specs.Keys.{Fits, IsEntity}
use Rattle.st_index.specs.Bad.{IsNamed, is_of_kind}
use Rattle.st_pages.specs.declared.places.Place.{Place}
use Rattle.st_pages.specs.Attempt.{Array, Attempt, Agrees, over}
use Rattle.st_pages.specs.Calls.{Met, HandsOn, is_of_looking}
use Rattle.st_pages.specs.Reading.{OfDamage}
use Rattle.st_state.specs.State.{Pair, State, is_live}
use Rattle.st_state.specs.Rows.{entity_row}
use Rattle.st_store.specs.Rows.{row_with}
use Rattle.st_store.specs.Stores.{IsPlace}
use Rattle.st_database.specs.Touches.{Touches}
use Rattle.st_standing.specs.Standing.{NearlyStandsAt, pair_bytes}

-- What calls that only look keep, whatever they answer: what lies below, and all that was written; and which faults they hand on.
pub record Peeks {A : Type 0} (follows : Type 0) (a b : Attempt) (old new : Met) (result : Result A PageFault) : Type 0 where
  pub below : follows
  pub written : b.written ≡ a.written
  pub met : HandsOn old new result
  pub looks : IfErr result (λ fault. IsTrue (is_of_looking fault))

-- What they give of an array that agrees with what was seen: a right answer, and no page is bad; only pages of these stores, and
-- drawn ones, were asked for.
pub record Finds {A : Type 0} (asked : (ℕ → Bool) → (ℕ → Bool) → ℕ → Type 0) (a b : Attempt) (array : Array) (right : A → Type 0) (stores : List ℕ) (result : Result A PageFault) : Type 0 where
  pub answers : IfOk result right
  pub sound : IfErr result (OfDamage (λ page at. ⊥))
  pub touches : Touches asked a b array stores false 0 0

-- Something holds of each state that pages nearly stood for in front of calls, by the schema and the places that are known, where the
-- array agrees with what was seen behind them.
abbrev pub OfState : (Place → Array → List ℕ → List (List ℕ) → Type 0) → Attempt → Attempt → Outline → List Place → (Array → State → Type 0) → Type 0
OfState form a b schema places Holds = (array : Array) (s : State) → Agrees b array → s.schema ≡ schema → NearlyStandsAt form (over a array) places s → Holds array s

-- a place is that of a type's extent, and laid out as such
pub record IsExtent (schema : Outline) (ty : ℕ) (place : Place) : Type 0 where
  pub is_place : IsPlace place
  pub store_is : place.store ≡ store Extent ty
  pub key : place.key ≡ 4
  pub width : place.width ≡ row_width schema ty
  pub known : ty < length schema.names

-- the front of rows up to the first one behind which no more are wanted, that one included
abbrev pub taken_from : (List ℕ → Bool) → List (List ℕ) → List (List ℕ)
taken_from goes [] = []
taken_from goes (row ∷ rows) = row ∷ (if goes row then taken_from goes rows else [])

-- whether an attribute's values are cells of rows
abbrev pub is_cell : Attribute → Bool
is_cell a = not a.many && not a.column

-- the cells in the row of an entity, if it is live
abbrev pub cells_of : State → EntityId → Option (List Value)
cells_of s e = if is_live s e then Some (entity_row s e).cells else None

-- of the rows that are ahead: the first one was taken and more are wanted, or all that are wanted were taken
abbrev pub Stepped : (List (List ℕ) → Type 0) → (List ℕ → Bool) → (List (List ℕ) → Type 0) → List (List ℕ) → Bool → Type 0
Stepped Ahead goes Took rest true = (row : List ℕ) × (others : List (List ℕ)) × (rest ≡ row ∷ others) × (goes row ≡ true) × Ahead others × Took (row ∷ [])
Stepped Ahead goes Took rest false = Took (taken_from goes rest)

-- the entity of a type in whose row the serial stands
abbrev pub entity_in : ℕ → List ℕ → EntityId
entity_in ty row = record { ty = ty; serial = from_be_bytes w32 (take 4 row) }

-- whether the values of attributes that are entities are of the attributes' types
abbrev pub are_named : Outline → List Attribute → List Value → Bool
are_named schema (a ∷ attributes) (v ∷ vs) = is_of_kind schema a.kind v && are_named schema attributes vs
are_named schema _ _ = true

-- bytes are a sound row of an entity of a type: its fields hold the serial and the cells, and each cell is of its attribute's type
pub record IsSoundRow (schema : Outline) (ty : ℕ) (bytes : List ℕ) : Type 0 where
  pub serial : ℕ
  pub cells : List Value
  pub held : AreHeld (row_fields schema ty) (Int (pos serial) ∷ cells)
  pub is : row (row_fields schema ty) (Int (pos serial) ∷ cells) ≡ bytes
  pub named : are_named schema (filter is_cell (attributes_in schema ty)) cells ≡ true

-- the cells in the row with a serial, among rows, or none where there is no such row
abbrev pub AreCellsIn : Outline → ℕ → ℕ → List (List ℕ) → Option (List Value) → Type 0
AreCellsIn schema ty serial rows None = row_with 4 (to_be_bytes w32 serial) rows ≡ None
AreCellsIn schema ty serial rows (Some cells) =
    (bytes : List ℕ) × (n : ℕ) × (row_with 4 (to_be_bytes w32 serial) rows ≡ Some bytes) × AreHeld (row_fields schema ty) (Int (pos n) ∷ cells) × (row (row_fields schema ty) (Int (pos n) ∷ cells) ≡ bytes)

-- the value at an index, null where there is none
abbrev pub value_among : Option ℕ → List Value → Value
value_among None values = Null
value_among (Some index) values = slice_index_or values index Null

-- ---- the rows of sets

-- a row of a set is that of an entity and a value which are of an attribute's types
pub record IsMember (schema : Outline) (a : Attribute) (bytes : List ℕ) : Type 0 where
  pub pair : Pair
  pub fits : Fits a.kind pair.value
  pub is_entity : IsEntity pair.entity
  pub is : pair_bytes a.kind pair.value pair.entity ≡ bytes
  pub named : IsNamed schema a pair

-- rows of a set are those of pairs, each of a value that fits a kind and an entity
pub record AreMembers (kind : Kind) (rows : List (List ℕ)) (pairs : List Pair) : Type 0 where
  pub rows_are : rows ≡ map (λ pair. pair_bytes kind pair.value pair.entity) pairs
  pub fit : All (λ pair. Fits kind pair.value) pairs
  pub entities : All (λ pair. IsEntity pair.entity) pairs

-- the entity in a row of a set
abbrev pub first_entity : List ℕ → EntityId
first_entity row = record { ty = from_be_bytes w16 (take 2 row); serial = from_be_bytes w32 (take 4 (drop 2 row)) }

-- the values of an entity among pairs
abbrev pub values_with : EntityId → List Pair → List Value
values_with entity pairs = map (λ pair. pair.value) (filter (λ pair. same_entity pair.entity entity) pairs)

-- ---- the rows of extents, as they are read

-- a serial and the cells of a row
pub record Cells : Type 0 where
  pub serial : ℕ
  pub cells : List Value

-- rows of a type are those of serials and cells that its fields hold
pub record AreCells (schema : Outline) (ty : ℕ) (rows : List (List ℕ)) (read : List Cells) : Type 0 where
  pub rows_are : rows ≡ map (λ r. row (row_fields schema ty) (Int (pos r.serial) ∷ r.cells)) read
  pub held : All (λ r. AreHeld (row_fields schema ty) (Int (pos r.serial) ∷ r.cells)) read

-- the entities of a type among what was read in whose cells a value stands at an index
abbrev pub entities_having : ℕ → Option ℕ → Value → List Cells → List EntityId
entities_having ty index value read = map (λ r. record { ty = ty; serial = r.serial }) (filter (λ r. same_value (value_among index r.cells) value) read)
