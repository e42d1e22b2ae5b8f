-- What a change of one or two pages of a chain leaves.
use Rattle.std.specs.Prelude.{◌≡◌, ◌≢◌, ℕ, ◌<◌, ◌⊎◌, ◌==◌, ◌||◌, Bool, true, false, List, ◌++◌, Option, Some, None, IsSome, IsTrue, is_some}
use Rattle.st_image.specs.Fields.{blank, count_of, next_of, rows_of, with_next}
use Rattle.st_pages.specs.declared.places.Place.{Place}
use Rattle.st_pages.specs.Attempt.{Array, Attempt}
use Rattle.st_page_rows.specs.PageRows.{IsSibling, Laid, SameHead}
use Rattle.st_store.specs.Rows.{row_with, with_row, without_row}
use Rattle.st_store.specs.Stores.{drew_between, is_page_of}
use Rattle.st_chain.specs.declared.walk.Spot.{Spot}

-- an array is as another one, but for a page
abbrev pub Elsewhere : Array → Array → ℕ → Type 0
Elsewhere before after page = (other : ℕ) → other ≢ page → after other ≡ before other

-- an array is as another one, but for two pages
abbrev pub ElsewhereBoth : Array → Array → ℕ → ℕ → Type 0
ElsewhereBoth before after page second = (other : ℕ) → other ≢ page → other ≢ second → after other ≡ before other

-- sets of pages: one and those that were drawn; two
abbrev pub page_or_drawn : Attempt → Attempt → ℕ → ℕ → Bool
page_or_drawn a b page other = (other == page) || drew_between a b other

abbrev pub either_of : ℕ → ℕ → ℕ → Bool
either_of page second other = (other == page) || (other == second)

-- the page in front of a spot, if there is one; that page and the spot's
abbrev pub is_in_front : Option ℕ → ℕ → Bool
is_in_front None page = false
is_in_front (Some previous) page = page == previous

abbrev pub is_previous : Spot → ℕ → Bool
is_previous spot page = is_in_front spot.previous page

abbrev pub spot_or_previous : Spot → ℕ → Bool
spot_or_previous spot other = (other == spot.page) || is_previous spot other

-- no page was drawn
abbrev pub NoneDrawn : (ℕ → Bool) → Type 0
NoneDrawn drew = (page : ℕ) → drew page ≡ false

-- A page was drawn that can stand in a chain, so not page 0. All that were drawn had not been written.
pub record IsDrawn (a b : Attempt) (page : ℕ) : Type 0 where
  pub some : 0 < page
  pub within : page < 65536
  pub drew : IsTrue (drew_between a b page)
  pub seen : IsSome (b.seen page)
  pub unwritten : (other : ℕ) → IsTrue (drew_between a b other) → a.written other ≡ None

-- a page is of no store that another one isn't of
abbrev pub OfNoOther : List ℕ → List ℕ → Type 0
OfNoOther new image = (store : ℕ) → IsTrue (is_page_of store new) → IsTrue (is_page_of store image)

-- a page is as another one in front, and has these rows
pub record IsMade (width : ℕ) (image new : List ℕ) (rows : List (List ℕ)) : Type 0 where
  pub laid : Laid width new
  pub head : SameHead image new
  pub lists : rows_of width new ≡ rows

-- two pages have these rows, some of them each
pub record IsParted (width : ℕ) (image left right : List ℕ) (rows : List (List ℕ)) : Type 0 where
  pub laid : Laid width left
  pub head : SameHead image left
  pub some : count_of left ≢ 0
  pub other_laid : Laid width right
  pub other_head : IsSibling image right
  pub other_some : count_of right ≢ 0
  pub lists : rows_of width left ++ rows_of width right ≡ rows

module _ (place : Place) (drew : ℕ → Bool) (before after : Array) where
  -- a page has other rows, and no page was drawn
  pub record IsEdit (page : ℕ) (image : List ℕ) (rows : List (List ℕ)) : Type 0 where
    pub new : List ℕ
    pub made : IsMade place.width image new rows
    pub is : after page ≡ new
    pub elsewhere : Elsewhere before after page
    pub none : NoneDrawn drew

  -- a page shares these rows with one that was drawn, which is behind it
  pub record IsSplit (page : ℕ) (image : List ℕ) (rows : List (List ℕ)) : Type 0 where
    pub drawn : ℕ
    pub left : List ℕ
    pub right : List ℕ
    pub some : 0 < drawn
    pub within : drawn < 65536
    pub is_drawn : IsTrue (drew drawn)
    pub blanks : (other : ℕ) → IsTrue (drew other) → before other ≡ blank
    pub parts : IsParted place.width image left right rows
    pub is : after page ≡ with_next drawn left
    pub other : after drawn ≡ right
    pub elsewhere : ElsewhereBoth before after page drawn

module _ (before after : Array) where
  -- a page is blank, and the one in front of it names the one that was behind it
  pub record IsUnlinked (previous page next : ℕ) : Type 0 where
    pub names : previous ≢ page → after previous ≡ with_next next (before previous)
    pub gone : after page ≡ blank
    pub elsewhere : ElsewhereBoth before after previous page

  -- a page stays in its chain: it is the first one, or it has rows
  pub record IsKept (spot : Spot) (image : List ℕ) : Type 0 where
    pub is : after spot.page ≡ image
    pub elsewhere : Elsewhere before after spot.page
    pub stays : (spot.previous ≡ None) ⊎ (count_of image ≢ 0)

  -- a page that has no more rows goes out of its chain
  pub record IsGone (spot : Spot) (image : List ℕ) : Type 0 where
    pub empty : count_of image ≡ 0
    pub previous : ℕ
    pub front : spot.previous ≡ Some previous
    pub unlinked : IsUnlinked previous spot.page (next_of image)

module _ (place : Place) (before after : Array) where
  -- a page with these rows is put, or goes out of its chain
  pub record IsRid (spot : Spot) (image : List ℕ) (rows : List (List ℕ)) : Type 0 where
    pub new : List ℕ
    pub made : IsMade place.width image new rows
    pub goes : IsKept before after spot new ⊎ IsGone before after spot new

  -- there was no row with a key on a page, and nothing changed
  pub record IsAsItWas (image key : List ℕ) : Type 0 where
    pub none : row_with place.key key (rows_of place.width image) ≡ None
    pub rows : without_row place.key key (rows_of place.width image) ≡ rows_of place.width image
    pub same : (other : ℕ) → after other ≡ before other

  -- the row with a key was taken out of a page, or there was none
  abbrev pub IsTakenOut : Spot → List ℕ → List ℕ → Bool → Type 0
  IsTakenOut spot image key true = IsTrue (is_some (row_with place.key key (rows_of place.width image))) × IsRid spot image (without_row place.key key (rows_of place.width image))
  IsTakenOut spot image key false = IsAsItWas image key

module _ (place : Place) (drew : ℕ → Bool) (before after : Array) where
  -- a row was put into a page: in place of the one with its key, or as one more
  pub record IsPutIn (page : ℕ) (image row : List ℕ) (was : Bool) : Type 0 where
    pub was_there : was ≡ is_some (row_with place.key row (rows_of place.width image))
    pub same : row_with place.key row (rows_of place.width image) ≡ Some row → (other : ℕ) → after other ≡ before other
    pub changed : IsEdit place drew before after page image (with_row place.key row (rows_of place.width image))
        ⊎ IsSplit place drew before after page image (with_row place.key row (rows_of place.width image))
