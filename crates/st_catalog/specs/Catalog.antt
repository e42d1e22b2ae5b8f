-- What a database's pages say of its schema, and of the first pages of its stores.
use Rattle.std.specs.Prelude.{◌≡◌, ◌≢◌, ◌≤◌, ℕ, ◌⊎◌, List, length, take, drop, map, flat_map}
use Rattle.st_lattice.specs.Outline.{Outline}
use Rattle.st_lattice.specs.Stores.{stores_of}
use Rattle.st_image.specs.declared.wanted.Wanted.TheVariants.{Schema, Roots}
use Rattle.st_image.specs.Bytes.{number}
use Rattle.st_image.specs.Fields.{count_of, body_of, rows_of}
use Rattle.st_pages.specs.declared.places.Place.{Place}
use Rattle.st_pages.specs.Attempt.{Array, page_count}
use Rattle.st_schema_bytes.specs.SchemaBytes.{schema_bytes, IsReadable, AreOfNone}
use Rattle.st_catalog.specs.declared.root.Root.{Root}
use Rattle.st_pages.specs.Chains.{IsChain, BreaksAt, IsEndless}
use Rattle.st_catalog.specs.Stores.{AreOf}

-- the piece of the schema's bytes in a page
abbrev pub piece_of : List ℕ → List ℕ
piece_of page = take (count_of page) (body_of page)

-- the bytes in pages
abbrev pub bytes_in : List (List ℕ) → List ℕ
bytes_in pages = flat_map piece_of pages

-- the store and its first page in a row of roots
abbrev pub root_of : List ℕ → Root
root_of row = record { store = number (take 4 row); first = number (drop 4 row) }

-- the roots in pages
abbrev pub roots_in : List (List ℕ) → List Root
roots_in pages = flat_map (λ page. map root_of (rows_of 8 page)) pages

-- the stores of roots
abbrev pub stores_in : List Root → List ℕ
stores_in roots = map (λ r. r.store) roots

-- the root of a place
abbrev pub root_at : Place → Root
root_at place = record { store = place.store; first = place.first }

-- the chain from page 1, of no more pages than there are, spells a schema that forms are read as
pub record SpellsSchema (pages : Array) (schema : Outline) : Type 0 where
  pub images : List (List ℕ)
  pub few : length images ≤ page_count
  pub chain : IsChain Schema pages 1 images
  pub bytes : bytes_in images ≡ schema_bytes schema
  pub readable : IsReadable schema

-- the chain from page 0, of no more pages than there are, names the stores of a schema, and their first pages
pub record NamesPlaces (pages : Array) (schema : Outline) (places : List Place) : Type 0 where
  pub images : List (List ℕ)
  pub few : length images ≤ page_count
  pub chain : IsChain Roots pages 0 images
  pub roots : roots_in images ≡ map root_at places
  pub of : AreOf schema places

-- pages have a schema, and the places of its stores
pub record Has (pages : Array) (schema : Outline) (places : List Place) : Type 0 where
  pub spells : SpellsSchema pages schema
  pub names : NamesPlaces pages schema places

-- the chain from page 1 spells no schema, though each of its pages is what is wanted
abbrev pub SpellsNone : Array → Type 0
SpellsNone pages = IsEndless Schema pages 1 ⊎ ((images : List (List ℕ)) × IsChain Schema pages 1 images × AreOfNone (bytes_in images))

-- the chain from page 0 doesn't name the stores of a schema, though each of its pages is what is wanted
abbrev pub NamesOthers : Array → Outline → Type 0
NamesOthers pages schema =
    IsEndless Roots pages 0
    ⊎ ((images : List (List ℕ)) × IsChain Roots pages 0 images × (stores_in (roots_in images) ≢ stores_of schema))

-- the same at a page and a place: a page of the schema's chain isn't one, or the chain spells none
abbrev pub SchemaBroken : Array → ℕ → ℕ → Type 0
SchemaBroken pages page place = BreaksAt Schema pages 1 page place ⊎ ((page ≡ 1) × (place ≡ 16) × SpellsNone pages)

-- a page of the roots' chain isn't one, or the chain doesn't name the stores
abbrev pub RootsBroken : Array → Outline → ℕ → ℕ → Type 0
RootsBroken pages schema page place = BreaksAt Roots pages 0 page place ⊎ ((page ≡ 0) × (place ≡ 16) × NamesOthers pages schema)

-- Where pages have no schema with its stores: where no schema is spelled, or else where its stores aren't named.
abbrev pub IsBroken : Array → ℕ → ℕ → Type 0
IsBroken pages page place =
    SchemaBroken pages page place ⊎ ((schema : Outline) × SpellsSchema pages schema × RootsBroken pages schema page place)
