-- The rows of indexes and inverses: a value, and an entity that has it.
use Rattle.std.specs.Prelude.{◌≡◌, ℕ, ◌≤◌, ◌==◌, ◌||◌, Bool, true, List, length, map, filter, Option, ⊤}
use Rattle.std.specs.Option.{option_or}
use Rattle.std.specs.List.{All}
use Rattle.st_values.specs.declared.value.EntityId.{EntityId}
use Rattle.st_values.specs.declared.value.Kind.{Kind}
use Rattle.st_values.specs.declared.value.Kind.TheVariants as kind
use Rattle.st_values.specs.declared.value.Value.{Value}
use Rattle.st_values.specs.declared.value.Value.TheVariants.{Null, Int, Bool as Truth, Text, Entity}
use Rattle.st_values.specs.Order.{same_value}
use Rattle.st_keys.specs.Keys.{Fits, IsEntity}
use Rattle.st_lattice.specs.declared.stores.StoreKind.TheVariants.{Index, Inverse}
use Rattle.st_lattice.specs.Stores.{store}
use Rattle.st_pages.specs.declared.places.Place.{Place}
use Rattle.st_pages.specs.Places.{place_of}
use Rattle.st_rows.specs.Rows.{row, pair_fields, pair_values, pair_width}
use Rattle.st_state.specs.State.{Pair}
use Rattle.st_store.specs.Rows.{with_row, without_row}

-- the row of a value and an entity that has it
abbrev pub turned_row : Kind → Value → EntityId → List ℕ
turned_row kind value entity = row (pair_fields kind true) (pair_values true value entity)

-- a value is of a kind, and fits it but for what the program's types say of integers and texts
abbrev pub IsLike : Kind → Value → Type 0
IsLike kind.Int (Int number) = ⊤
IsLike kind.Bool (Truth truth) = ⊤
IsLike (kind.Text limit) (Text text) = length text ≤ limit
IsLike (kind.Entity ty) (Entity entity) = IsEntity entity
IsLike _ _ = ⊥

-- a value is null, or fits a kind
abbrev pub IsOrNull : Kind → Value → Type 0
IsOrNull kind Null = ⊤
IsOrNull kind value = Fits kind value

-- rows without an entity's value, and with it; null has no row
abbrev pub without_value : Kind → EntityId → Value → List (List ℕ) → List (List ℕ)
without_value kind entity Null rows = rows
without_value kind entity value rows = without_row (pair_width kind) (turned_row kind value entity) rows

abbrev pub with_value : Kind → EntityId → Value → List (List ℕ) → List (List ℕ)
with_value kind entity Null rows = rows
with_value kind entity value rows = with_row (pair_width kind) (turned_row kind value entity) rows

-- rows behind a change of an entity's value from an old one to a new one
abbrev pub noted : Kind → EntityId → Value → Value → List (List ℕ) → List (List ℕ)
noted kind entity old new rows = with_value kind entity new (without_value kind entity old rows)

-- the stores of an attribute that are kept turned: its index and its inverse
abbrev pub is_turned_store : ℕ → ℕ → Bool
is_turned_store number store_number = (store_number == store Index number) || (store_number == store Inverse number)

-- their places
abbrev pub turned_places : ℕ → List Place → List Place
turned_places number places = filter (λ p. is_turned_store number p.store) places

-- the place where an attribute's value is looked up: that of its inverse, else that of its index
abbrev pub found_place : ℕ → List Place → Option Place
found_place number places = option_or (place_of (store Inverse number) places) (place_of (store Index number) places)

-- rows are those of pairs, each of a value that fits a kind and an entity
pub record AreOfPairs (kind : Kind) (rows : List (List ℕ)) (pairs : List Pair) : Type 0 where
  pub rows_are : rows ≡ map (λ pair. turned_row kind pair.value pair.entity) pairs
  pub fit : All (λ pair. Fits kind pair.value) pairs
  pub entities : All (λ pair. IsEntity pair.entity) pairs

-- the entities that have a value
abbrev pub entities_with : Value → List Pair → List EntityId
entities_with value pairs = map (λ pair. pair.entity) (filter (λ pair. same_value pair.value value) pairs)
