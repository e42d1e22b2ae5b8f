-- What is read of the rows of extents, with the numbers of the attributes.
use Rattle.std.specs.Prelude.{◌≡◌, ℕ, List, [], ◌∷◌, ◌++◌, pos, filter, reverse, ⊤}
use Rattle.st_values.specs.declared.value.EntityId.{EntityId}
use Rattle.st_values.specs.declared.value.Value.{Value}
use Rattle.st_values.specs.declared.value.Value.TheVariants.{Int}
use Rattle.st_lattice.specs.declared.attribute.Attribute.{Attribute}
use Rattle.st_lattice.specs.Outline.{Outline}
use Rattle.st_lattice.specs.Lattice.{attributes_in}
use Rattle.st_rows.specs.Rows.{AreHeld, row, row_fields}
use Rattle.st_state.specs.State.{State}
use Rattle.st_known.specs.declared.known.Known.{Known}
use Rattle.st_known.specs.declared.known.KnownValue.{KnownValue}
use Rattle.st_known.specs.Known.{AreKnown}
use Rattle.st_lookups.specs.Looks.{is_cell}

-- values with the numbers of attributes, one after another
abbrev pub numbered : List Attribute → List Value → List KnownValue
numbered (a ∷ attributes) (v ∷ values) = record { number = a.number; value = v } ∷ numbered attributes values
numbered _ _ = []

-- the cells of a type's row with the numbers of their attributes, the last one first
abbrev pub numbered_cells : Outline → ℕ → List Value → List KnownValue
numbered_cells schema ty cells = numbered (reverse (filter is_cell (attributes_in schema ty))) (reverse cells)

-- what the serial and the cells of a row tell of an entity of a type
abbrev pub known_of : Outline → ℕ → ℕ → List Value → Known
known_of schema ty serial cells = record { entity = record { ty = ty; serial = serial }; values = numbered_cells schema ty cells }

-- bytes are a row of a type that tells what is known
pub record IsRead (schema : Outline) (ty : ℕ) (bytes : List ℕ) (known : Known) : Type 0 where
  pub serial : ℕ
  pub cells : List Value
  pub held : AreHeld (row_fields schema ty) (Int (pos serial) ∷ cells)
  pub is : row (row_fields schema ty) (Int (pos serial) ∷ cells) ≡ bytes
  pub tells : known ≡ known_of schema ty serial cells

-- the same of rows, one after another
abbrev pub AreRead : Outline → ℕ → List (List ℕ) → List Known → Type 0
AreRead schema ty [] [] = ⊤
AreRead schema ty (bytes ∷ rows) (k ∷ known) = IsRead schema ty bytes k × AreRead schema ty rows known
AreRead schema ty _ _ = ⊥

-- more is known than before: of these entities too, behind the others
abbrev pub AlsoKnown : State → List Known → List EntityId → List Known → Type 0
AlsoKnown state known entities more = (others : List EntityId) → AreKnown state others known → AreKnown state (others ++ entities) more
