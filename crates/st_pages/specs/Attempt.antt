-- What an attempt at a transaction knows of pages, and how each call moves it.
use Rattle.std.specs.Prelude.{◌≡◌, ℕ, zero, suc, ◌+◌, ◌<◌, ◌≤◌, ◌==◌, ◌||◌, ◌&&◌, Bool, true, false, not, if◌then◌else◌, List, length, Option, Some, None, IsSome, IsTrue, is_some, nat_le}
use Rattle.std.specs.Option.{option_or}
use Rattle.std.specs.Str.{bytes_eq}
use Rattle.st_image.specs.Bytes.{IsBytes}
use Rattle.st_image.specs.Fields.{blank, kind_of}

-- the bytes of all pages, by their numbers
abbrev pub Array : Type 0
Array = ℕ → List ℕ

-- the image of each page that was seen first, and of each that was written last; which pages were drawn
pub record Attempt : Type 0 where
  pub seen : ℕ → Option (List ℕ)
  pub written : ℕ → Option (List ℕ)
  pub drawn : ℕ → Bool

-- nothing is known
abbrev pub fresh_attempt : Attempt
fresh_attempt = record { seen = λ _. None; written = λ _. None; drawn = λ _. false }

-- the image that is known of a page: what was written last, else what was seen first
abbrev pub known : Attempt → ℕ → Option (List ℕ)
known a page = option_or (a.written page) (a.seen page)

-- behind a call that got an image of a page
abbrev pub saw : ℕ → List ℕ → Attempt → Attempt
saw page image a =
    record { seen = λ p. if p == page then option_or (a.seen p) (Some image) else a.seen p; written = a.written; drawn = a.drawn }

-- behind a call that put an image of a page
abbrev pub wrote : ℕ → List ℕ → Attempt → Attempt
wrote page image a =
    record { seen = a.seen; written = λ p. if p == page then Some image else a.written p; drawn = a.drawn }

-- behind a call that drew a page
abbrev pub drew : ℕ → Attempt → Attempt
drew page a =
    record { seen = λ p. if p == page then option_or (a.seen p) (Some blank) else a.seen p; written = a.written; drawn = λ p. (p == page) || a.drawn p }

-- an array has what was seen of it
abbrev pub Agrees : Attempt → Array → Type 0
Agrees a pages = (page : ℕ) (image : List ℕ) → a.seen page ≡ Some image → pages page ≡ image

-- an image, or another one where there is none
abbrev pub image_or : List ℕ → Option (List ℕ) → List ℕ
image_or other None = other
image_or other (Some image) = image

-- an array under what was written
abbrev pub over : Attempt → Array → Array
over a pages = λ page. image_or (pages page) (a.written page)

-- whether what was written differs from what was seen
abbrev pub differs : Option (List ℕ) → Option (List ℕ) → Bool
differs seen None = false
differs None (Some written) = true
differs (Some seen) (Some written) = not (bytes_eq seen written)

-- of how many numbers below one a test holds
abbrev pub how_many : (ℕ → Bool) → ℕ → ℕ
how_many test zero = 0
how_many test (suc n) = how_many test n + (if test n then 1 else 0)

-- how many pages there are
unfoldable pub page_count : ℕ
page_count = 65536

-- how many pages were changed: their last image differs from their first one
abbrev pub changed : Attempt → ℕ
changed a = how_many (λ page. differs (a.seen page) (a.written page)) page_count

-- how many pages were drawn
abbrev pub draws : Attempt → ℕ
draws a = how_many a.drawn page_count

-- whether a page was blank when it was seen
abbrev pub was_blank : Option (List ℕ) → Bool
was_blank None = false
was_blank (Some image) = bytes_eq image blank

-- how many pages were taken into use: drawn, or blank when they were seen, and written
abbrev pub taken : Attempt → ℕ
taken a = how_many (λ page. a.drawn page || (was_blank (a.seen page) && is_some (a.written page))) page_count

-- whether an image is one of a page of rows or of a tree
abbrev pub is_of_store : Option (List ℕ) → Bool
is_of_store None = false
is_of_store (Some image) = nat_le 2 (kind_of image) && nat_le (kind_of image) 4

-- whether a step of a transaction may put a page: it was drawn, or it was a page of a store when it was seen
abbrev pub may_put : Attempt → ℕ → Bool
may_put a page = a.drawn page || is_of_store (a.seen page)

-- an image of a page: its 4,096 bytes
pub record IsImage (image : List ℕ) : Type 0 where
  pub size : length image ≡ 4096
  pub bytes : IsBytes image

-- What holds of each attempt: images are those of pages, what was written or drawn was seen, a page was blank when it was
-- drawn, and at most 4,000 pages were changed.
pub record IsSound (a : Attempt) : Type 0 where
  pub within : (page : ℕ) → IsSome (a.seen page) → page < 65536
  pub seen : (page : ℕ) (image : List ℕ) → a.seen page ≡ Some image → IsImage image
  pub written : (page : ℕ) (image : List ℕ) → a.written page ≡ Some image → IsImage image × IsSome (a.seen page)
  pub drawn : (page : ℕ) → IsTrue (a.drawn page) → a.seen page ≡ Some blank
  pub few : changed a ≤ 4000
