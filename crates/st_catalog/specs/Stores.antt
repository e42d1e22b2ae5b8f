-- The stores of a schema, as they are stored: what is the key of a store's rows, and how wide these are.
use Rattle.std.specs.Prelude.{◌≡◌, ℕ, ◌+◌, ◌<◌, ◌/◌, ◌%◌, ◌==◌, ◌||◌, not, Bool, nat_lt, if◌then◌else◌, List, length, map, Option, Some, None}
use Rattle.std.specs.List.{All}
use Rattle.st_lattice.specs.declared.attribute.Attribute.{Attribute}
use Rattle.st_lattice.specs.Outline.{Outline, attribute}
use Rattle.st_lattice.specs.Stores.{stores_of, row_width, key_width}
use Rattle.st_catalog.specs.declared.root.Root.{Root}
use Rattle.st_pages.specs.declared.places.Place.{Place}

-- how many bytes the key of a row has, and how many the row has
pub record Layout : Type 0 where
  pub key : ℕ
  pub width : ℕ

-- a pair of an entity and a value of an attribute: all of it is the key, but in a column, where the entity alone is
abbrev pub pair_layout : ℕ → Option Attribute → Layout
pair_layout kind None = record { key = 0; width = 0 }
pair_layout kind (Some a) = record { key = if kind == 4 then 6 else 6 + key_width a.kind; width = 6 + key_width a.kind }

-- the rows of a store, by its number: those of the entities of a type have their serial as key
abbrev pub layout_of : Outline → ℕ → Layout
layout_of schema store =
    if nat_lt store 65536 then record { key = 4; width = row_width schema store }
    else pair_layout (store / 65536) (attribute schema (store % 65536))

-- the place of a store of a schema, by its first page
abbrev pub placed : Outline → Root → Place
placed schema r = record { store = r.store; first = r.first; key = (layout_of schema r.store).key; width = (layout_of schema r.store).width }

-- whether a number is that of no type's store, or of one of the schema's types
abbrev pub is_known : Outline → ℕ → Bool
is_known schema store = not (nat_lt store 65536) || nat_lt store (length schema.names)

-- a place is laid out as its store is, and its first page is one
pub record IsPlaced (schema : Outline) (place : Place) : Type 0 where
  pub key : place.key ≡ (layout_of schema place.store).key
  pub width : place.width ≡ (layout_of schema place.store).width
  pub first : place.first < 65536

-- places are those of a schema's stores: one for each, and no other
pub record AreOf (schema : Outline) (places : List Place) : Type 0 where
  pub stores : map (λ p. p.store) places ≡ stores_of schema
  pub placed : All (IsPlaced schema) places
