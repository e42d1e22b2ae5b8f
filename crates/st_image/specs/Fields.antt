-- The fields of a page, as its bytes have them.
use Rattle.std.specs.Prelude.{ℕ, zero, suc, ◌+◌, List, [], ◌∷◌, ◌++◌, length, take, drop, get_or, replicate}
use Rattle.std.specs.Int.{w16, w32, to_be_bytes}
use Rattle.st_image.specs.Bytes.{number, part}

-- a page that is not used
unfoldable pub blank : List ℕ
blank = replicate 4096 0

-- its kind: 0 free, 1 a piece of the schema, 2 a page of a chain, 3 a leaf of a tree, 4 an inner page of one, 5 roots
abbrev pub kind_of : List ℕ → ℕ
kind_of page = get_or page 0 0

-- how much stands in it: bytes of the schema, rows, children or roots
abbrev pub count_of : List ℕ → ℕ
count_of page = number (part 2 2 page)

-- the number of the store that it is of
abbrev pub store_of : List ℕ → ℕ
store_of page = number (part 4 4 page)

-- the page behind it, 0 for none
abbrev pub next_of : List ℕ → ℕ
next_of page = number (part 8 4 page)

-- the last serial that was given out of the type whose entities are in the store
abbrev pub last_serial_of : List ℕ → ℕ
last_serial_of page = number (part 12 4 page)

-- what stands behind these
abbrev pub body_of : List ℕ → List ℕ
body_of page = drop 16 page

-- so many pieces of one width, from the front of some bytes
abbrev pub pieces : ℕ → ℕ → List ℕ → List (List ℕ)
pieces zero width bytes = []
pieces (suc count) width bytes = take width bytes ∷ pieces count width (drop width bytes)

-- the rows of a page, where each has a width
abbrev pub rows_of : ℕ → List ℕ → List (List ℕ)
rows_of width page = pieces (count_of page) width (body_of page)

-- a page with other bytes from a place on
abbrev pub with_part : ℕ → List ℕ → List ℕ → List ℕ
with_part at bytes page = take at page ++ bytes ++ drop (at + length bytes) page

-- a page with another field
abbrev pub with_kind : ℕ → List ℕ → List ℕ
with_kind kind page = with_part 0 (kind ∷ []) page

abbrev pub with_count : ℕ → List ℕ → List ℕ
with_count count page = with_part 2 (to_be_bytes w16 count) page

abbrev pub with_store : ℕ → List ℕ → List ℕ
with_store store page = with_part 4 (to_be_bytes w32 store) page

abbrev pub with_next : ℕ → List ℕ → List ℕ
with_next next page = with_part 8 (to_be_bytes w32 next) page

abbrev pub with_last_serial : ℕ → List ℕ → List ℕ
with_last_serial serial page = with_part 12 (to_be_bytes w32 serial) page
