-- A store as a chain of pages: each page names the one behind it.
use Rattle.std.specs.Prelude.{◌≡◌, ◌≢◌, ℕ, suc, ◌+◌, ◌-◌, ◌^◌, ◌<◌, ◌≤◌, ◌⊎◌, ◌==◌, ◌&&◌, not, Bool, List, [], ◌∷◌, ◌++◌, take, drop, flat_map, IsTrue}
use Rattle.std.specs.List.{list_all, list_any}
use Rattle.st_values.specs.Arranged.{ascends, each_pair}
use Rattle.st_image.specs.Bytes.{number}
use Rattle.st_image.specs.Fields.{count_of, next_of, last_serial_of, rows_of}
use Rattle.st_image.specs.Grammar.{IsRowPage, row_before}
use Rattle.st_image.specs.Prefixes.{IsFirstWrong}
use Rattle.st_pages.specs.declared.places.Place.{Place}
use Rattle.st_pages.specs.Attempt.{Array}
use Rattle.st_pages.specs.Chains.{way}
use Rattle.st_store.specs.declared.cursor.Cursor.{Cursor}

-- a page of a store's chain
abbrev pub IsChainPage : Place → List ℕ → Type 0
IsChainPage place page = IsRowPage 2 place.store place.key place.width page

-- the rows in pages, one page after the other
abbrev pub rows_in : Place → Array → List ℕ → List (List ℕ)
rows_in place array pages = flat_map (λ page. rows_of place.width (array page)) pages

-- pages follow one another from a first one on, each a page of a store's chain that names the next one, and the last one
-- names none
abbrev pub Follow : Place → Array → ℕ → List ℕ → Type 0
Follow place array first [] = ⊥
Follow place array first (page ∷ []) = (page ≡ first) × IsChainPage place (array page) × (next_of (array page) ≡ 0)
Follow place array first (page ∷ other ∷ pages) =
    (page ≡ first) × IsChainPage place (array page) × (0 < next_of (array page)) × Follow place array (next_of (array page)) (other ∷ pages)

-- pages behind a first one have rows, and no last serial
abbrev pub AreLater : Array → List ℕ → Type 0
AreLater array pages = IsTrue (list_all (λ page. not (count_of (array page) == 0) && (last_serial_of (array page) == 0)) pages)

-- The pages of a chain, and its rows: the pages follow one another from the store's first one on, which is a page that there
-- is, none of them twice, each but the first has rows and no last serial, and the keys ascend over all of them.
pub record IsChainOf (place : Place) (array : Array) (pages : List ℕ) (rows : List (List ℕ)) : Type 0 where
  pub first : place.first < 65536
  pub follow : Follow place array place.first pages
  pub once : IsTrue (each_pair (λ page other. not (page == other)) pages)
  pub later : AreLater array (drop 1 pages)
  pub are : rows ≡ rows_in place array pages
  pub ascend : IsTrue (ascends (row_before place.key) rows)

-- pages lead from a first one to another one, each a page of a store's chain
abbrev pub LeadTo : Place → Array → ℕ → List ℕ → ℕ → Type 0
LeadTo place array first [] end = end ≡ first
LeadTo place array first (page ∷ pages) end =
    (page ≡ first) × IsChainPage place (array page) × (0 < next_of (array page)) × LeadTo place array (next_of (array page)) pages end

-- The way to a page of a chain: pages that lead to it, each but the first with rows, whose keys ascend.
pub record IsWay (place : Place) (array : Array) (pages : List ℕ) (end : ℕ) : Type 0 where
  pub leads : LeadTo place array place.first pages end
  pub filled : IsTrue (list_all (λ page. not (count_of (array page) == 0)) (drop 1 pages))
  pub ascend : IsTrue (ascends (row_before place.key) (rows_in place array pages))

-- keys don't ascend on a page behind others: it has no row, or its first key isn't above the keys before
abbrev pub IsMisplaced : Place → Array → List ℕ → ℕ → Type 0
IsMisplaced place array [] page = ⊥
IsMisplaced place array (first ∷ pages) page =
    (count_of (array page) ≡ 0) ⊎ (IsTrue (ascends (row_before place.key) (rows_in place array (first ∷ pages ++ page ∷ []))) → ⊥)

-- A bad page of a chain, and its place: the way leads to a page whose bytes leave the grammar there, or whose keys aren't
-- above those before, where the place is its first key's.
pub record IsBadPage (place : Place) (array : Array) (page at : ℕ) : Type 0 where
  pub pages : List ℕ
  pub way : IsWay place array pages page
  pub wrong : IsFirstWrong (IsChainPage place) (array page) at ⊎ ((at ≡ 16) × IsChainPage place (array page) × IsMisplaced place array pages page)

-- whether a page is on the way of a chain; each page but the first has a key more, so that there are at most so many, and
-- one behind them that is bad
unfoldable pub is_on_chain : Place → Array → ℕ → Bool
is_on_chain place array page = list_any (λ other. other == page) (way (suc (suc (256 ^ place.key))) array place.first)

-- a page goes on up to a key: it is the last one, or its last key isn't below
abbrev pub GoesUpTo : Place → Array → List ℕ → ℕ → Type 0
GoesUpTo place array row page =
    (next_of (array page) ≡ 0) ⊎ IsTrue (list_any (λ other. not (row_before place.key other row)) (rows_of place.width (array page)))

-- The page on which the row with a key stands or would stand: the first one that goes on up to it.
pub record IsSpot (place : Place) (array : Array) (row : List ℕ) (page : ℕ) : Type 0 where
  pub pages : List ℕ
  pub way : IsWay place array pages page
  pub before : IsTrue (list_all (λ other. row_before place.key other row) (rows_in place array pages))
  pub up_to : GoesUpTo place array row page

-- a cursor stands on a page of a chain, which has rows if it isn't the first, behind so many of them
pub record IsAt (place : Place) (array : Array) (cursor : Cursor) (pages : List ℕ) (page : ℕ) : Type 0 where
  pub way : IsWay place array pages page
  pub number : cursor.number ≡ page
  pub image : array page ≡ cursor.page
  pub filled : (pages ≡ []) ⊎ (count_of cursor.page ≢ 0)
  pub sound : IsChainPage place cursor.page
  pub ascend : IsTrue (ascends (row_before place.key) (rows_in place array (pages ++ page ∷ [])))
  pub passed : cursor.index ≤ count_of cursor.page

-- a cursor stands in a chain
abbrev pub SitsInChain : Place → Array → Cursor → Type 0
SitsInChain place array cursor = (pages : List ℕ) × (page : ℕ) × IsAt place array cursor pages page

-- the rows that are ahead of a cursor in a chain: all but those of the pages before, and those that are passed
pub record IsAheadInChain (place : Place) (array : Array) (cursor : Cursor) (rest : List (List ℕ)) : Type 0 where
  pub all_pages : List ℕ
  pub rows : List (List ℕ)
  pub chain : IsChainOf place array all_pages rows
  pub pages : List ℕ
  pub page : ℕ
  pub sits : IsAt place array cursor pages page
  pub rest_is : rows ≡ rows_in place array pages ++ take cursor.index (rows_of place.width (array page)) ++ rest

-- one above the number that the last key of rows spells, or another one where there are none
unfoldable pub top : ℕ → ℕ → List (List ℕ) → ℕ
top key low [] = low
top key low (row ∷ rows) = top key (number (take key row) + 1) rows

-- how many keys there are above those of the rows that a cursor passed
abbrev pub left_in_chain : Place → Cursor → ℕ
left_in_chain place cursor = 256 ^ place.key - top place.key 0 (take cursor.index (rows_of place.width cursor.page))
