-- What stands in the pages of a whole database: its schema, and of each store the rows and the last serial.
use Rattle.std.specs.Prelude.{◌≡◌, ℕ, ◌<◌, ◌⊎◌, ◌==◌, not, if◌then◌else◌, List, ◌++◌, flat_map, IsTrue}
use Rattle.std.specs.List.{All, list_all}
use Rattle.st_values.specs.Arranged.{each_pair}
use Rattle.st_values.specs.declared.value.EntityId.{EntityId}
use Rattle.st_values.specs.declared.value.Kind.{Kind}
use Rattle.st_values.specs.declared.value.Value.{Value}
use Rattle.st_lattice.specs.Outline.{Outline}
use Rattle.st_image.specs.Fields.{blank, count_of, last_serial_of}
use Rattle.st_pages.specs.declared.places.Place.{Place}
use Rattle.st_pages.specs.Attempt.{Array, page_count}
use Rattle.st_pages.specs.Chains.{way}
use Rattle.st_store.specs.Stores.{among}
use Rattle.st_catalog.specs.Catalog.{Has}
use Rattle.st_index.specs.Turned.{noted, is_turned_store}

-- the rows of each store, and the last serial of each extent, by the store's number
pub record View : Type 0 where
  pub rows : ℕ → List (List ℕ)
  pub last : ℕ → ℕ

-- a store has other rows
abbrev pub with_rows : ℕ → List (List ℕ) → View → View
with_rows store rows view = record { rows = λ s. if s == store then rows else view.rows s; last = view.last }

-- an extent has another last serial
abbrev pub with_last : ℕ → ℕ → View → View
with_last store serial view = record { rows = view.rows; last = λ s. if s == store then serial else view.last s }

-- an attribute's index and inverse have other rows, by a change of an entity's value
abbrev pub noted_view : ℕ → Kind → EntityId → Value → Value → View → View
noted_view number kind entity old new view =
    record { rows = λ s. if is_turned_store number s then noted kind entity old new (view.rows s) else view.rows s; last = view.last }

-- the pages of the chains of the schema and of the roots
abbrev pub chain_pages : Array → List ℕ
chain_pages array = way page_count array 1 ++ way page_count array 0

-- the pages of stores at places
abbrev pub store_pages : (ℕ → List ℕ) → List Place → List ℕ
store_pages pages places = flat_map (λ place. pages place.store) places

-- all pages that are reached: those of both chains, and those of all stores
abbrev pub reached_pages : Array → (ℕ → List ℕ) → List Place → List ℕ
reached_pages array pages places = chain_pages array ++ store_pages pages places

-- Pages are a database, whatever the form of its stores: they have the schema and the places of its stores; each store has its
-- rows, and each extent its last serial; each page of both chains has something; and each page is reached once, or is blank.
pub record IsDatabase (form : Place → Array → List ℕ → List (List ℕ) → Type 0) (array : Array) (schema : Outline) (places : List Place) (view : View) : Type 0 where
  pub has : Has array schema places
  pub filled : IsTrue (list_all (λ page. not (count_of (array page) == 0)) (chain_pages array))
  pub pages : ℕ → List ℕ
  pub stores : All (λ place. form place array (pages place.store) (view.rows place.store)) places
  pub serials : All (λ place. place.store < 65536 → last_serial_of (array place.first) ≡ view.last place.store) places
  pub once : IsTrue (each_pair (λ page other. not (page == other)) (reached_pages array pages places))
  pub others : (page : ℕ) → page < 65536 → IsTrue (among (reached_pages array pages places) page) ⊎ (array page ≡ blank)
