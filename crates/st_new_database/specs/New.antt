-- The pages of a new database: the chains of its schema and its roots, and the first pages of its stores.
use Rattle.std.specs.Prelude.{ℕ, ◌+◌, ◌-◌, ◌*◌, ◌/◌, List, [], ◌∷◌, ◌++◌, length, take, drop, map, flat_map, replicate}
use Rattle.std.specs.List.{range_with_len, zip}
use Rattle.std.specs.Int.{w16, w32, to_be_bytes}
use Rattle.st_lattice.specs.Outline.{Outline}
use Rattle.st_lattice.specs.Stores.{stores_of}
use Rattle.st_image.specs.Fields.{pieces}
use Rattle.st_pages.specs.declared.places.Place.{Place}
use Rattle.st_schema_bytes.specs.SchemaBytes.{schema_bytes}
use Rattle.st_catalog.specs.declared.root.Root.{Root}
use Rattle.st_catalog.specs.Stores.{placed}

-- a root as bytes: its store, and its first page
abbrev pub root_bytes : Root → List ℕ
root_bytes root = to_be_bytes w32 root.store ++ to_be_bytes w32 root.first

-- a page of the schema's chain or the roots': its kind, its count, no store, the page behind it, no last serial, its piece,
-- and zeros up to 4,096 bytes
unfoldable pub page_bytes : ℕ → ℕ → ℕ → List ℕ → List ℕ
page_bytes kind count next piece =
    kind ∷ 0 ∷ to_be_bytes w16 count ++ to_be_bytes w32 0 ++ to_be_bytes w32 next ++ to_be_bytes w32 0 ++ piece ++ replicate (4080 - length piece) 0

-- how many pieces of 4,080 bytes so many bytes are: one for none
abbrev pub pages_for : ℕ → ℕ
pages_for size = (size - 1) / 4080 + 1

-- the page behind one of a chain: none where no piece is left
abbrev pub page_behind : ℕ → List (List ℕ) → ℕ
page_behind second [] = 0
page_behind second (piece ∷ pieces) = second

-- The pages of a chain, by its pieces: the second page has a number, the others follow it. A page counts its piece by a unit
-- of so many bytes.
abbrev pub chain_pages : ℕ → ℕ → ℕ → List (List ℕ) → List (List ℕ)
chain_pages kind unit second [] = []
chain_pages kind unit second (piece ∷ pieces) =
    page_bytes kind (length piece / unit) (page_behind second pieces) piece ∷ chain_pages kind unit (second + 1) pieces

-- the pages of a chain, by its bytes: all are full but the last
unfoldable pub chain_of : ℕ → ℕ → ℕ → List ℕ → List (List ℕ)
chain_of kind unit second bytes = chain_pages kind unit second (pieces (pages_for (length bytes)) 4080 bytes)

-- the chain of a schema's bytes, which begins at page 1 and goes on at page 2
abbrev pub schema_chain : List ℕ → List (List ℕ)
schema_chain bytes = chain_of 1 1 2 bytes

-- the chain of the bytes of roots, which begins at page 0 and goes on behind the pages of the schema
abbrev pub roots_chain : ℕ → List ℕ → List (List ℕ)
roots_chain schema_pages bytes = chain_of 5 8 (schema_pages + 1) bytes

-- both chains: the first page of the roots, all pages of the schema, and the further pages of the roots
abbrev pub both_chains : List ℕ → List ℕ → List (List ℕ)
both_chains schema roots =
    take 1 (roots_chain (pages_for (length schema)) roots) ++ schema_chain schema ++ drop 1 (roots_chain (pages_for (length schema)) roots)

-- a store and its first page
abbrev pub root : ℕ → ℕ → Root
root store first = record { store = store; first = first }

-- stores with their first pages
abbrev pub roots_of : List ℕ → List ℕ → List Root
roots_of stores firsts = map (λ pair. root pair.0 pair.1) (zip stores firsts)

-- the pages of both chains of a database, by the first pages of its stores
abbrev pub database_pages : Outline → List ℕ → List (List ℕ)
database_pages schema firsts = both_chains (schema_bytes schema) (flat_map root_bytes (roots_of (stores_of schema) firsts))

-- the first page of a store in a new database: of kind 2, without rows
unfoldable pub first_page : ℕ → List ℕ
first_page store = 2 ∷ 0 ∷ to_be_bytes w16 0 ++ to_be_bytes w32 store ++ replicate 4088 0

-- the number of the first page behind both chains
abbrev pub behind_chains : Outline → ℕ
behind_chains schema = pages_for (length (schema_bytes schema)) + pages_for (8 * length (stores_of schema))

-- the numbers of the first pages of the stores of a new database
abbrev pub new_firsts : Outline → List ℕ
new_firsts schema = range_with_len (behind_chains schema) (length (stores_of schema))

-- the pages of a new database
abbrev pub new_pages : Outline → List (List ℕ)
new_pages schema = database_pages schema (new_firsts schema) ++ map first_page (stores_of schema)

-- the places of all stores, with their first pages
abbrev pub places_of : Outline → List ℕ → List Place
places_of schema firsts = map (λ pair. placed schema (root pair.0 pair.1)) (zip (stores_of schema) firsts)
