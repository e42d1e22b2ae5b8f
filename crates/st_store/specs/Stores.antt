-- What it is to be a store, whatever its form.
use Rattle.std.specs.Prelude.{◌≡◌, ℕ, suc, slice_get, nat_le, ◌<◌, ◌⊎◌, ◌==◌, ◌||◌, ◌&&◌, not, Bool, true, false, List, [], ◌∷◌, Some, None, IsSome, IsTrue, is_some}
use Rattle.std.specs.List.{list_any}
use Rattle.std.specs.Str.{bytes_eq}
use Rattle.st_image.specs.Fields.{blank, kind_of, store_of, last_serial_of, rows_of}
use Rattle.st_image.specs.Grammar.{AreFair, IsRowPage}
use Rattle.st_pages.specs.declared.places.Place.{Place}
use Rattle.st_pages.specs.Attempt.{Array, Attempt, Agrees, over, how_many, may_put, page_count}
use Rattle.st_store.specs.declared.cursor.Cursor.{Cursor}
use Rattle.st_store.specs.Rows.{with_row, without_row, row_with}

-- a store may stand at a place: its first page is one, and its key and its width are fair
pub record IsPlace (place : Place) : Type 0 where
  pub first : place.first < 65536
  pub fair : AreFair place.key place.width

-- whether a page is among some
abbrev pub among : List ℕ → ℕ → Bool
among pages page = list_any (λ other. other == page) pages

-- whether a page was drawn between two values of an attempt
abbrev pub drew_between : Attempt → Attempt → ℕ → Bool
drew_between old new page = new.drawn page && not (old.drawn page)

-- all pages
abbrev pub any_page : ℕ → Bool
any_page page = true

-- all that was written may be put
abbrev pub HasPutStores : Attempt → Type 0
HasPutStores a = (page : ℕ) → IsSome (a.written page) → IsTrue (may_put a page)

-- something holds of the pages and the rows of a store, where an array has one at a place
abbrev pub OfStore : (Place → Array → List ℕ → List (List ℕ) → Type 0) → Place → Array → (List ℕ → List (List ℕ) → Type 0) → Type 0
OfStore form place array Holds = (pages : List ℕ) (rows : List (List ℕ)) → form place array pages rows → Holds pages rows

-- something holds of each array that agrees with what was seen behind calls, under what was written before and behind them
abbrev pub ForBoth : Attempt → Attempt → (Array → Array → Type 0) → Type 0
ForBoth old new Holds = (pages : Array) → Agrees new pages → Holds (over old pages) (over new pages)

-- of how many pages the bytes differ, one page counted in any case
abbrev pub changes : ℕ → Array → Array → ℕ
changes first before after = how_many (λ page. (page == first) || not (bytes_eq (before page) (after page))) page_count

-- whether a page is one of a store, by its number and its kind
abbrev pub is_page_of : ℕ → List ℕ → Bool
is_page_of store page = (store_of page == store) && (nat_le 2 (kind_of page) && nat_le (kind_of page) 4)

-- a page that is one of a store behind calls was one of it in front of them, or was drawn
abbrev pub KeepNumbers : Attempt → Attempt → Array → Array → Type 0
KeepNumbers a b before after = (store page : ℕ) → IsTrue (is_page_of store (after page)) → IsTrue (is_page_of store (before page)) ⊎ IsTrue (drew_between a b page)

-- an array is as another one
abbrev pub IsSame : Array → Array → Type 0
IsSame before after = (page : ℕ) → after page ≡ before page

-- the row with a key was found, or there is none
abbrev pub Found : ℕ → List ℕ → List (List ℕ) → Bool → List ℕ → Type 0
Found key sought rows true row = row_with key sought rows ≡ Some row
Found key sought rows false row = row_with key sought rows ≡ None

module _ (form : Place → Array → List ℕ → List (List ℕ) → Type 0) (spot : Place → Array → List ℕ → ℕ → Type 0) (asked : (ℕ → Bool) → (ℕ → Bool) → ℕ → Type 0) (reach : Place → Array → ℕ → Bool)
    (place : Place) (a b : Attempt) (before after : Array) (pages : List ℕ) where
  -- What a change of a store leaves: its rows now, in pages that it had or that were drawn, blank ones; each of those that
  -- isn't one of its pages now is blank. All other pages are as they were, and so is the last serial of the first one.
  pub record Changed (rows : List (List ℕ)) : Type 0 where
    pub pages_now : List ℕ
    pub has : form place after pages_now rows
    pub taken : (page : ℕ) → IsTrue (among pages_now page) → IsTrue (among pages page || drew_between a b page)
    pub left : (page : ℕ) → IsTrue (among pages page || drew_between a b page) → IsTrue (among pages_now page) ⊎ (after page ≡ blank)
    pub drawn : (page : ℕ) → IsTrue (drew_between a b page) → before page ≡ blank
    pub others : (page : ℕ) → IsTrue (among pages page || drew_between a b page) ⊎ (after page ≡ before page)
    pub serial : last_serial_of (after place.first) ≡ last_serial_of (before place.first)

  -- A row was put into a store. Where its key was there, no other page than that of its row was put, and none was drawn.
  -- Where the row itself was there, no page changed.
  pub record Inserted (row : List ℕ) (rows : List (List ℕ)) (was_there : Bool) : Type 0 where
    pub changed : Changed (with_row place.key row rows)
    pub was : was_there ≡ is_some (row_with place.key row rows)
    pub page : ℕ
    pub stood : spot place before row page
    pub put : IsSome (b.written page)
    pub alone : IsTrue was_there → asked (reach place before) (λ other. other == page) 0
    pub same : row_with place.key row rows ≡ Some row → (other : ℕ) → after other ≡ before other

  -- The row with a key was taken out of a store. Where there was none, the page on which it would stand was put as it is,
  -- and no other.
  pub record Removed (sought : List ℕ) (rows : List (List ℕ)) (was_there : Bool) : Type 0 where
    pub changed : Changed (without_row place.key sought rows)
    pub was : was_there ≡ is_some (row_with place.key sought rows)
    pub page : ℕ
    pub stood : spot place before sought page
    pub put : IsSome (b.written page)
    pub alone : was_there ≡ false → asked (reach place before) (λ other. other == page) 0
    pub same : was_there ≡ false → (other : ℕ) → after other ≡ before other

-- a page of rows of a store, in a chain or a tree
abbrev pub IsRowsOf : Place → List ℕ → Type 0
IsRowsOf place page = (kind : ℕ) × IsRowPage kind place.store place.key place.width page

-- a cursor's page is one of a store's rows
abbrev pub Fits : Place → Cursor → Type 0
Fits place cursor = IsRowsOf place cursor.page

-- a row is the one that a cursor passed last
abbrev pub HasPassed : Place → Cursor → List ℕ → Type 0
HasPassed place cursor row = (index : ℕ) × (cursor.index ≡ suc index) × (slice_get (rows_of place.width cursor.page) index ≡ Some row)

-- a cursor went on by a row, or there is none left
abbrev pub Advanced : (List (List ℕ) → Type 0) → List (List ℕ) → Bool → List ℕ → Type 0
Advanced Ahead rest true row = (others : List (List ℕ)) × (rest ≡ row ∷ others) × Ahead others
Advanced Ahead rest false row = rest ≡ []
