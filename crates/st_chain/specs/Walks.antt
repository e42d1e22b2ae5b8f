-- How a walk along a chain comes to a page.
use Rattle.std.specs.Prelude.{◌≡◌, ◌≢◌, ℕ, ◌⊎◌, ◌<◌, not, List, [], ◌∷◌, ◌++◌, MatchOption, IsTrue}
use Rattle.std.specs.List.{list_all, list_any}
use Rattle.st_values.specs.Arranged.{ascends}
use Rattle.st_image.specs.Fields.{count_of, next_of, rows_of}
use Rattle.st_image.specs.Grammar.{row_before}
use Rattle.st_image.specs.Prefixes.{IsFirstWrong}
use Rattle.st_pages.specs.declared.places.Place.{Place}
use Rattle.st_pages.specs.Attempt.{Array}
use Rattle.st_store.specs.Chain.{IsChainPage, IsWay, rows_in}
use Rattle.st_chain.specs.declared.walk.Spot.{Spot}

-- the rows of a page are above those of a page before it: it has some, and the keys ascend from one to the other
pub record IsAbove (place : Place) (page next : List ℕ) : Type 0 where
  pub some : count_of next ≢ 0
  pub ascend : IsTrue (ascends (row_before place.key) (rows_of place.width page ++ rows_of place.width next))

-- why a page isn't a page of a chain behind another one
abbrev pub IsNoNext : Place → List ℕ → List ℕ → ℕ → Type 0
IsNoNext place page next at =
    IsFirstWrong (IsChainPage place) next at ⊎ ((at ≡ 16) × IsChainPage place next × (IsAbove place page next → ⊥))

-- an image goes on up to a key: it is that of the last page, or its last key isn't below
abbrev pub ImageUpTo : Place → List ℕ → List ℕ → Type 0
ImageUpTo place key image = (next_of image ≡ 0) ⊎ IsTrue (list_any (λ row. not (row_before place.key row key)) (rows_of place.width image))

-- all rows of an image are below a key, and another page is behind it
pub record IsBelow (place : Place) (key image : List ℕ) : Type 0 where
  pub more : 0 < next_of image
  pub rows : IsTrue (list_all (λ row. row_before place.key row key) (rows_of place.width image))

-- the page in front of a page, if there is one, is the last of those on the way to it
abbrev pub IsBehind : Spot → List ℕ → Type 0
IsBehind spot pages = MatchOption spot.previous (pages ≡ []) (λ page. (front : List ℕ) × (pages ≡ front ++ page ∷ []))

-- a walk has come to a page, whose image this is: all keys before are below one
pub record HasCome (place : Place) (array : Array) (key : List ℕ) (spot : Spot) (image : List ℕ) : Type 0 where
  pub pages : List ℕ
  pub way : IsWay place array pages spot.page
  pub behind : IsBehind spot pages
  pub at : array spot.page ≡ image
  pub filled : (pages ≡ []) ⊎ (count_of image ≢ 0)
  pub ascend : IsTrue (ascends (row_before place.key) (rows_in place array pages ++ rows_of place.width image))
  pub below : IsTrue (list_all (λ row. row_before place.key row key) (rows_in place array pages))

-- a walk has come to the page on which the row with a key stands or would stand
pub record IsLocated (place : Place) (array : Array) (key : List ℕ) (spot : Spot) (image : List ℕ) : Type 0 where
  pub come : HasCome place array key spot image
  pub up_to : ImageUpTo place key image
