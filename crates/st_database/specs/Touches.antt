-- What calls in a row ask of the pages of a database, and what they give.
use Rattle.std.specs.Prelude.{◌≡◌, ℕ, ◌+◌, ◌*◌, ◌≤◌, ◌⊎◌, ◌||◌, ◌&&◌, Bool, false, if◌then◌else◌, List, map, length, Option, Some, None, Result, IsTrue, IfOk, IfErr, is_some}
use Rattle.std.specs.List.{list_any}
use Rattle.std.specs.Str.{bytes_eq}
use Rattle.st_values.specs.declared.value.Value.{Value}
use Rattle.st_values.specs.Order.{same_value}
use Rattle.st_page.specs.declared.fault.PageFault.{PageFault}
use Rattle.st_lattice.specs.Outline.{Outline}
use Rattle.st_pages.specs.declared.places.Place.{Place}
use Rattle.st_pages.specs.Attempt.{Array, Attempt, Agrees, over}
use Rattle.st_pages.specs.Places.{place_of}
use Rattle.st_pages.specs.Reading.{OfDamage}
use Rattle.st_store.specs.Rows.{row_with}
use Rattle.st_store.specs.Stores.{is_page_of}
use Rattle.st_index.specs.Turned.{turned_places}
use Rattle.st_index.specs.Noted.{differences, rows_for}
use Rattle.st_database.specs.Database.{View, IsDatabase}

-- the stores of places
abbrev pub stores_at : List Place → List ℕ
stores_at places = map (λ p. p.store) places

-- whether a page is one of some stores, by its bytes
abbrev pub belongs : List ℕ → Array → ℕ → Bool
belongs stores array page = list_any (λ store. is_page_of store (array page)) stores

-- whether a page is one of some stores, or was drawn
abbrev pub may_touch : List ℕ → Attempt → Array → ℕ → Bool
may_touch stores b array page = belongs stores array page || b.drawn page

-- whether a row's key is new among rows, whether the row is, and whether there is one to be taken out: how many rows that are
abbrev pub added_by : ℕ → List ℕ → List (List ℕ) → ℕ
added_by key row rows = if is_some (row_with key row rows) then 0 else 1

abbrev pub is_row : List ℕ → Option (List ℕ) → Bool
is_row row None = false
is_row row (Some other) = bytes_eq row other

abbrev pub changed_by : ℕ → List ℕ → List (List ℕ) → ℕ
changed_by key row rows = if is_row row (row_with key row rows) then 0 else 1

abbrev pub removed_by : ℕ → List ℕ → List (List ℕ) → ℕ
removed_by key row rows = if is_some (row_with key row rows) then 1 else 0

-- how many rows a change of a value adds to an attribute's index and inverse, and how many it adds or takes out
abbrev pub pairs_added : ℕ → List Place → Value → Value → ℕ
pairs_added number places old new = if same_value old new then 0 else length (turned_places number places) * rows_for new

abbrev pub pairs_changed : ℕ → List Place → Value → Value → ℕ
pairs_changed number places old new = if same_value old new then 0 else length (turned_places number places) * (rows_for old + rows_for new)

module _ (asked : (ℕ → Bool) → (ℕ → Bool) → ℕ → Type 0) (a b : Attempt) (array : Array) where
  -- What calls asked of an array that agrees with what was seen: only pages of these stores, and drawn ones, were got, and put if
  -- any were; a page that is one of a store now was one of it, or was drawn; at most so many pages were drawn, and at most so many
  -- have other bytes.
  pub record Touches (stores : List ℕ) (puts : Bool) (most more : ℕ) : Type 0 where
    pub asks : asked (may_touch stores b (over a array)) (λ page. puts && may_touch stores b (over a array) page) most
    pub numbers : (store page : ℕ) → IsTrue (is_page_of store (over b array page)) → IsTrue (is_page_of store (over a array page)) ⊎ IsTrue (b.drawn page)
    pub few : differences (over a array) (over b array) ≤ more

-- What calls give in a database: a right answer, and the database that they leave; no page is bad.
module _ (form : Place → Array → List ℕ → List (List ℕ) → Type 0) (asked : (ℕ → Bool) → (ℕ → Bool) → ℕ → Type 0) (a b : Attempt) (array : Array) (schema : Outline) (places : List Place) where
  pub record Leads {A : Type 0} (after : View) (right : A → Type 0) (stores : List ℕ) (puts : Bool) (most more : ℕ) (result : Result A PageFault) : Type 0 where
    pub answers : IfOk result (λ x. right x × IsDatabase form (over b array) schema places after)
    pub sound : IfErr result (OfDamage (λ page at. ⊥))
    pub touches : Touches asked a b array stores puts most more

-- Something holds of each database with a schema and the places of its stores that pages were in front of calls, where it agrees with
-- what was seen behind them.
abbrev pub OfDatabase : (Place → Array → List ℕ → List (List ℕ) → Type 0) → Attempt → Attempt → Outline → List Place → (Array → View → Type 0) → Type 0
OfDatabase form a b schema places Holds = (array : Array) (view : View) → Agrees b array → IsDatabase form (over a array) schema places view → Holds array view

-- the same of each database that has a store at a place
abbrev pub WithStore : (Place → Array → List ℕ → List (List ℕ) → Type 0) → Attempt → Attempt → Place → (Array → Outline → List Place → View → Type 0) → Type 0
WithStore form a b place Holds =
    (array : Array) (schema : Outline) (places : List Place) (view : View) → Agrees b array → IsDatabase form (over a array) schema places view → place_of place.store places ≡ Some place → Holds array schema places view
