-- The rows of stores, as lists of fields: which values fields hold, how they are spelled, and which bytes they refuse.
use Rattle.std.specs.Prelude.{◌≡◌, ℕ, zero, suc, ◌+◌, ◌-◌, ◌^◌, ◌<◌, ◌≤◌, ℤ, pos, nat_lt, Bool, true, false, ◌||◌, if◌then◌else◌, ◌⊎◌, List, [], ◌∷◌, ◌++◌, take, drop, replicate, flat_map, position, Some, ⊤}
use Rattle.std.specs.Int.{w32, to_be_bytes}
use Rattle.std.specs.declared.cmp.Ordering.{Ordering}
use Rattle.std.specs.Ordering.{ordering_then}
use Rattle.st_values.specs.declared.value.EntityId.{EntityId}
use Rattle.st_values.specs.declared.value.Kind.{Kind}
use Rattle.st_values.specs.declared.value.Kind.TheVariants as kind
use Rattle.st_values.specs.declared.value.Value.{Value}
use Rattle.st_values.specs.declared.value.Value.TheVariants.{Null, Int, Entity}
use Rattle.st_values.specs.Order.{value_order, entity_order}
use Rattle.st_lattice.specs.declared.attribute.Attribute.{Attribute}
use Rattle.st_lattice.specs.Outline.{Outline}
use Rattle.st_lattice.specs.Lattice.{attributes_in}
use Rattle.st_keys.specs.Keys.{width, Fits, key}
use Rattle.st_keys.specs.Causes.{IsNoKey}
use Rattle.st_rows.specs.declared.field.Field.{Field}
use Rattle.st_rows.specs.declared.field.Field.TheVariants.{Serial, Cell, Key}

-- how many bytes a field has
abbrev pub field_width : Field → ℕ
field_width Serial = 4
field_width (Cell kind) = 1 + width kind
field_width (Key kind) = width kind

-- how many bytes fields have together
abbrev pub fields_width : List Field → ℕ
fields_width [] = 0
fields_width (field ∷ fields) = field_width field + fields_width fields

-- an integer is a serial: it isn't 0, and lies in 32 bits
abbrev pub IsSerial : ℤ → Type 0
IsSerial (pos n) = (0 < n) × (n < 2 ^ 32)
IsSerial _ = ⊥

-- a cell holds null, or a value that fits its kind
abbrev pub HoldsInCell : Kind → Value → Type 0
HoldsInCell kind Null = ⊤
HoldsInCell kind value = Fits kind value

-- a field holds a value; a serial is told as an integer
abbrev pub Holds : Field → Value → Type 0
Holds Serial (Int number) = IsSerial number
Holds Serial _ = ⊥
Holds (Cell kind) value = HoldsInCell kind value
Holds (Key kind) value = Fits kind value

-- a serial in 4 bytes, the highest first
abbrev pub serial_bytes : Value → List ℕ
serial_bytes (Int (pos n)) = to_be_bytes w32 n
serial_bytes _ = []

-- null as a byte 0 and zeros, and any other value as a byte 1 and its key
abbrev pub cell_bytes : Kind → Value → List ℕ
cell_bytes kind Null = 0 ∷ replicate (width kind) 0
cell_bytes kind value = 1 ∷ key kind value

-- a value as a field that holds it has it
abbrev pub spelled : Field → Value → List ℕ
spelled Serial value = serial_bytes value
spelled (Cell kind) value = cell_bytes kind value
spelled (Key kind) value = key kind value

-- fields hold values, one each
abbrev pub AreHeld : List Field → List Value → Type 0
AreHeld [] [] = ⊤
AreHeld [] (value ∷ values) = ⊥
AreHeld (field ∷ fields) [] = ⊥
AreHeld (field ∷ fields) (value ∷ values) = Holds field value × AreHeld fields values

-- the row of values in fields: one behind the other
abbrev pub row : List Field → List Value → List ℕ
row [] values = []
row (field ∷ fields) [] = []
row (field ∷ fields) (value ∷ values) = spelled field value ++ row fields values

-- whether a byte isn't 0
abbrev pub is_filled : ℕ → Bool
is_filled byte = nat_lt 0 byte

-- a cell refuses bytes at a place: the first byte that isn't 0 behind a byte 0, the last one of what is no key behind a
-- byte 1, and the first one where it is neither
abbrev pub IsCellRefused : Kind → List ℕ → ℕ → Type 0
IsCellRefused kind [] place = ⊥
IsCellRefused kind (zero ∷ bytes) place = position is_filled (zero ∷ bytes) ≡ Some place
IsCellRefused kind (suc zero ∷ bytes) place = IsNoKey kind bytes × (place ≡ width kind)
IsCellRefused kind (suc (suc byte) ∷ bytes) place = place ≡ 0

-- a field refuses bytes of its width at a place: a serial at the last byte where all are 0, and a key at its last byte
abbrev pub IsRefused : Field → List ℕ → ℕ → Type 0
IsRefused Serial bytes place = (bytes ≡ replicate 4 0) × (place ≡ 3)
IsRefused (Cell kind) bytes place = IsCellRefused kind bytes place
IsRefused (Key kind) bytes place = IsNoKey kind bytes × (place + 1 ≡ width kind)

-- bytes are those of a value that a field holds
abbrev pub IsTaken : Field → List ℕ → Type 0
IsTaken field bytes = (value : Value) × Holds field value × (spelled field value ≡ bytes)

-- fields refuse bytes at a place: the first field refuses its bytes there, or it takes them, and the others refuse the
-- rest there
abbrev pub RowRefused : List Field → List ℕ → ℕ → Type 0
RowRefused [] bytes place = ⊥
RowRefused (field ∷ fields) bytes place =
    IsRefused field (take (field_width field) bytes) place
    ⊎ (IsTaken field (take (field_width field) bytes) × (field_width field ≤ place) × RowRefused fields (drop (field_width field) bytes) (place - field_width field))

-- the cell of an attribute in a row: none for a set or a column
abbrev pub cell_of : Attribute → List Field
cell_of a = if a.many || a.column then [] else Cell a.kind ∷ []

-- the cells in a row of a type, in the order of its attributes
abbrev pub cell_fields : Outline → ℕ → List Field
cell_fields schema ty = flat_map cell_of (attributes_in schema ty)

-- the fields of a row of a type: the entity's serial, and the cells
abbrev pub row_fields : Outline → ℕ → List Field
row_fields schema ty = Serial ∷ cell_fields schema ty

-- the field of an entity, whatever its type is
abbrev pub entity_field : Field
entity_field = Key (kind.Entity 0)

-- the fields of a set's row, the entity and a value of a kind; turned for an index or an inverse
abbrev pub pair_fields : Kind → Bool → List Field
pair_fields kind false = entity_field ∷ Key kind ∷ []
pair_fields kind true = Key kind ∷ entity_field ∷ []

-- what these fields hold
abbrev pub pair_values : Bool → Value → EntityId → List Value
pair_values false value entity = Entity entity ∷ value ∷ []
pair_values true value entity = value ∷ Entity entity ∷ []

-- how many bytes they have
abbrev pub pair_width : Kind → ℕ
pair_width kind = width kind + 6

-- the order of two such rows: by entity and then by value, or turned
abbrev pub pair_order : Bool → Value → EntityId → Value → EntityId → Ordering
pair_order false a x b y = ordering_then (entity_order x y) (value_order a b)
pair_order true a x b y = ordering_then (value_order a b) (entity_order x y)
