-- What is kept of each page of an array, and what it tells of an attempt.
use Rattle.std.specs.Prelude.{◌≡◌, ℕ, ◌==◌, ◌&&◌, Bool, true, false, not, if◌then◌else◌, List, Option, Some, None, is_some, get_or}
use Rattle.std.specs.Str.{bytes_eq}
use Rattle.st_image.specs.Fields.{blank}
use Rattle.st_pages.specs.Attempt.{Array, Attempt, IsImage, differs}

-- the array of some images: blank pages stand behind them
abbrev pub array_of : List (List ℕ) → Array
array_of images = λ page. get_or images page blank

-- what is kept of a page: whether it was seen, whether it was drawn, whether it is blank in the array, and what was put last
pub record Kept : Type 0 where
  pub seen : Bool
  pub drawn : Bool
  pub is_blank : Bool
  pub put : Option (List ℕ)

-- before any call
abbrev pub unused : Bool → Kept
unused is_blank = record { seen = false; drawn = false; is_blank = is_blank; put = None }

-- what a table keeps of a page; those behind it are blank
abbrev pub kept_of : List Kept → ℕ → Kept
kept_of table = λ page. get_or table page (unused true)

-- one page is kept otherwise
abbrev pub kept_but : ℕ → Kept → (ℕ → Kept) → ℕ → Kept
kept_but page new kept = λ p. if p == page then new else kept p

-- what was seen first of a page
abbrev pub seen_of : List ℕ → Kept → Option (List ℕ)
seen_of image kept = if kept.seen then Some image else None

-- what an attempt knows
abbrev pub attempt_of : Array → (ℕ → Kept) → Attempt
attempt_of array kept =
    record { seen = λ p. seen_of (array p) (kept p); written = λ p. (kept p).put; drawn = λ p. (kept p).drawn }

-- whether a page can still be drawn: it is blank in the array, and was neither drawn nor put
abbrev pub is_free : Kept → Bool
is_free kept = kept.is_blank && (not kept.drawn && not (is_some kept.put))

-- whether a page was changed
abbrev pub is_changed : List ℕ → Kept → Bool
is_changed image kept = differs (seen_of image kept) kept.put

-- whether a page of an array is blank
abbrev pub is_blank_in : Array → ℕ → Bool
is_blank_in array page = bytes_eq (array page) blank

-- what is kept of a page fits its image in the array
pub record IsKept (image : List ℕ) (kept : Kept) : Type 0 where
  pub is_image : IsImage image
  pub is_blank : kept.is_blank ≡ bytes_eq image blank
  pub drawn : kept.drawn ≡ true → kept.seen ≡ true
  pub drawn_blank : kept.drawn ≡ true → kept.is_blank ≡ true
  pub put_seen : is_some kept.put ≡ true → kept.seen ≡ true
  pub put : (last : List ℕ) → kept.put ≡ Some last → IsImage last

-- one where a test holds, else none
abbrev pub one : Bool → ℕ
one test = if test then 1 else 0
