-- What reading pages gives.
use Rattle.std.specs.Prelude.{◌≡◌, ℕ, ◌<◌, ◌≤◌, ◌++◌, ◌⊎◌, ◌==◌, if◌then◌else◌, Bool, true, false, List, [], ◌∷◌, length}
use Rattle.st_image.specs.declared.wanted.Wanted.{Wanted}
use Rattle.st_image.specs.Fields.{next_of, last_serial_of, with_last_serial}
use Rattle.st_image.specs.Grammar.{IsPage, IsRowPage}
use Rattle.st_pages.specs.Attempt.{Array, page_count}
use Rattle.st_pages.specs.declared.places.Place.{Place}
use Rattle.st_pages.specs.Chains.{IsChain, IsEndless}

-- a chain, up to its end or for as many pages as there are; of its images something holds
abbrev pub Walked : Bool → Wanted → Array → ℕ → (List (List ℕ) → Type 0) → Type 0
Walked true wanted pages first Holds = (images : List (List ℕ)) × (length images ≤ page_count) × IsChain wanted pages first images × Holds images
Walked false wanted pages first Holds = IsEndless wanted pages first

-- one page of a chain: its image, which is what is wanted, and the page behind it
pub record Stepped (wanted : Wanted) (next : ℕ) (image : List ℕ) (Had Has : List (List ℕ) → Type 0) : Type 0 where
  pub wanted_page : IsPage wanted image
  pub next_page : next ≡ next_of image
  pub gathered : (images : List (List ℕ)) → Had images → Has (images ++ image ∷ [])

-- a list that goes up to a limit: it is as a whole, or both are longer
abbrev pub IsUpTo : {A : Type 0} → ℕ → List A → List A → Type 0
IsUpTo limit part whole = (part ≡ whole) ⊎ ((limit < length part) × (limit < length whole))

-- an extent's first page, and its last serial
pub record HasSerial (place : Place) (serial : ℕ) (pages : Array) : Type 0 where
  pub page : IsRowPage 2 place.store place.key place.width (pages place.first)
  pub serial_is : serial ≡ last_serial_of (pages place.first)

-- an extent's first page has another last serial now; all else stays
pub record SetsSerial (place : Place) (serial : ℕ) (old new : Array) : Type 0 where
  pub page : IsRowPage 2 place.store place.key place.width (old place.first)
  pub pages : (page : ℕ) → new page ≡ (if page == place.first then with_last_serial serial (old place.first) else old page)
