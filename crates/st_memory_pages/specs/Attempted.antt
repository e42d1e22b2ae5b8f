-- An array and what an attempt knows of it, as they are held.
use Rattle.std.specs.Prelude.{◌≡◌, ℕ, ◌&&◌, ◌⊎◌, Bool, not, List, None, is_some}
use Rattle.st_page.specs.declared.fault.PageFault.{PageFault}
use Rattle.st_page.specs.declared.fault.PageFault.TheVariants.{Full, TooManyPages, Memory}
use Rattle.st_pages.specs.Attempt.{Array, Attempt, wrote, changed, how_many, page_count}
use Rattle.st_pages.specs.Calls.{Room}
use Rattle.st_memory_pages.specs.declared.attempted.Attempted.{Attempted}
use Rattle.st_memory_pages.specs.Slots.{array_of, kept_of, attempt_of, is_blank_in}

-- the array that the attempt began with
abbrev pub array : Attempted → Array
array held = array_of held.images.items

-- what the attempt knows
abbrev pub attempt : Attempted → Attempt
attempt held = attempt_of (array_of held.images.items) (kept_of held.table.items)

-- how many pages are in use, and how many are left
abbrev pub room : Attempted → Room
room held = record { in_use = held.in_use; left = held.left }

-- the room of an array at the beginning: the pages that aren't blank are in use, and the others are left
abbrev pub first_room : Array → Room
first_room pages =
    record { in_use = how_many (λ page. not (is_blank_in pages page)) page_count; left = how_many (is_blank_in pages) page_count }

-- whether a page is left to be drawn: it is blank in the array, and was neither drawn nor put
abbrev pub is_left : Array → Attempt → ℕ → Bool
is_left pages a page = is_blank_in pages page && (not (a.drawn page) && not (is_some (a.written page)))

-- why an image isn't put: 4,001 pages would be changed, or memory wants for a page that wasn't put before
abbrev pub IsPutFault : ℕ → List ℕ → Attempt → PageFault → Type 0
IsPutFault page image a fault = ((fault ≡ TooManyPages 4001) × (changed (wrote page image a) ≡ 4001)) ⊎ ((fault ≡ Memory) × (a.written page ≡ None))

-- why no page is drawn: none is left, and that many are in use
abbrev pub IsDrawFault : Room → PageFault → Type 0
IsDrawFault r fault = (fault ≡ Full r.in_use) × (r.left ≡ 0)
