-- A database in pages as a base: which states it stands for, what its calls keep, and what they ask of its pages.
use Rattle.std.specs.Prelude.{◌≡◌, ℕ, ◌*◌, ◌<◌, Bool, true, List, take, slice_get, Some, IsSome, IsTrue, ⊤}
use Rattle.std.specs.Int.{w32, to_be_bytes}
use Rattle.std.specs.List.{All}
use Rattle.st_values.specs.declared.value.EntityId.{EntityId}
use Rattle.st_lattice.specs.declared.stores.StoreKind.TheVariants.{Extent}
use Rattle.st_lattice.specs.Outline.{Outline}
use Rattle.st_lattice.specs.Stores.{store}
use Rattle.st_image.specs.Fields.{kind_of, rows_of}
use Rattle.st_pages.specs.declared.places.Place.{Place}
use Rattle.st_pages.specs.Attempt.{Array, Attempt, over}
use Rattle.st_pages.specs.Places.{place_of}
use Rattle.st_store.specs.Stores.{is_page_of}
use Rattle.st_database.specs.Touches.{Touches}
use Rattle.st_standing.specs.Standing.{NearlyStandsAt}
use Rattle.st_state.specs.State.{State}
use Rattle.st_state.specs.Calls.{Call, Set}
use Rattle.st_plain.specs.Base.{Asked, puts, rows_drawn, rows_put, stores_asked}
use Rattle.st_edits.specs.Edits.{PutsStores}

-- the schema of a database, the places of its stores, and its pages
pub record Parts (P : Type 0) : Type 0 where
  pub schema : Outline
  pub places : List Place
  pub pages : P

-- A page of an array is one of a store at a place by its bytes, and has the row with a key.
pub record HasRow (place : Place) (array : Array) (key : List ℕ) (page : ℕ) : Type 0 where
  pub within : page < 65536
  pub of_store : IsTrue (is_page_of place.store (array page))
  pub of_rows : kind_of (array page) < 4
  pub index : ℕ
  pub row : List ℕ
  pub is_row : slice_get (rows_of place.width (array page)) index ≡ Some row
  pub has_key : take place.key row ≡ take place.key key

module _ {P : Type 0} (attempt : P → Attempt) where
  -- Under what was written an array nearly stands for a state with the schema.
  pub record StandsIn (form : Place → Array → List ℕ → List (List ℕ) → Type 0) (a : Parts P) (array : Array) (s : State) : Type 0 where
    pub of_schema : s.schema ≡ a.schema
    pub nearly : NearlyStandsAt form (over (attempt a.pages) array) a.places s

  -- The page of an entity's row was got: where a page of the array itself, without what was written, is one of the extent of the
  -- entity's type and has its row, that page was seen.
  abbrev pub IsReached : Parts P → Array → EntityId → Type 0
  IsReached a array e =
      (place : Place) → place_of (store Extent e.ty) a.places ≡ Some place → (page : ℕ) → HasRow place array (to_be_bytes w32 e.serial) page → IsSome ((attempt a.pages).seen page)

  module _ (follows : P → P → Type 0) where
    -- What each call keeps: what the pages keep, the schema and the places; and where only drawn pages and pages of stores were put
    -- before, no others are put.
    pub record Continues (a b : Parts P) : Type 0 where
      pub below : follows a.pages b.pages
      pub same_schema : b.schema ≡ a.schema
      pub same_places : b.places ≡ a.places
      pub kinds : PutsStores (attempt a.pages) (attempt b.pages)

    module _ (form : Place → Array → List ℕ → List (List ℕ) → Type 0) (spot : Place → Array → List ℕ → ℕ → Type 0) (asked : P → P → (ℕ → Bool) → (ℕ → Bool) → ℕ → Type 0) where
      -- The page of a row was put, on which it stood at some value between two, for a state that was stood for there.
      pub record PutsRow (a b : Parts P) (array : Array) (s : State) (place : Place) (key : List ℕ) : Type 0 where
        pub at : Parts P
        pub since : Continues a at
        pub until : Continues at b
        pub stands : StandsIn form at array s
        pub page : ℕ
        pub stood : spot place (over (attempt at.pages) array) key page
        pub put : IsSome ((attempt b.pages).written page)

      -- A value that was set has put the page of its entity's row, also where it is the value that it was.
      abbrev pub PutsFor : Parts P → Parts P → Array → State → Call → Bool → Type 0
      PutsFor a b array s (Set e number value) true = (place : Place) → place_of (store Extent e.ty) a.places ≡ Some place → PutsRow a b array s place (to_be_bytes w32 e.serial)
      PutsFor a b array s call answered = ⊤

      -- What calls asked of an array's pages between two values: only pages of their stores, and drawn ones; they put some only where
      -- they may change something; they drew at most 17 for each row that they add, and at most 34 have other bytes for each row that
      -- they add, take out or give another content. And each value that was set has put the page of its row.
      pub record AsksFor (a b : Parts P) (array : Array) (calls : List Asked) : Type 0 where
        pub touches : Touches (asked a.pages b.pages) (attempt a.pages) (attempt b.pages) array (stores_asked calls) (puts calls) (17 * rows_drawn calls) (34 * rows_put calls)
        pub sets : All (λ q. PutsFor a b array q.state q.call q.answered) calls
