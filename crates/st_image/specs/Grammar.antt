-- What a page may be: the grammar of each kind, by its fields.
use Rattle.std.specs.Prelude.{◌≡◌, ℕ, ◌+◌, ◌-◌, ◌*◌, ◌/◌, ◌^◌, ◌<◌, ◌≤◌, ◌⊎◌, Bool, nat_lt, if◌then◌else◌, List, length, take, drop, get_or, IsTrue, ⊤}
use Rattle.std.specs.List.{All}
use Rattle.std.specs.Ordering.{nat_cmp, is_lt}
use Rattle.std.specs.Cmp.Lexicographic.{slice_cmp}
use Rattle.st_values.specs.Arranged.{each_pair}
use Rattle.st_image.specs.declared.wanted.Wanted.{Wanted}
use Rattle.st_image.specs.declared.wanted.Wanted.TheVariants.{Free, Schema, Roots, Chain, Leaf, Node}
use Rattle.st_image.specs.Bytes.{IsBytes, AreBlank, number}
use Rattle.st_image.specs.Fields.{blank, kind_of, count_of, store_of, next_of, last_serial_of, body_of, pieces}

-- what stands in front of a page's body: its kind, the least and the most that it may count, its store, and the greatest
-- next page and last serial that it may have
pub record Header : Type 0 where
  pub kind : ℕ
  pub least : ℕ
  pub most : ℕ
  pub store : ℕ
  pub next : ℕ
  pub last : ℕ

pub record HasHeader (header : Header) (page : List ℕ) : Type 0 where
  pub kind : kind_of page ≡ header.kind
  pub spare : get_or page 1 0 ≡ 0
  pub least : header.least ≤ count_of page
  pub most : count_of page ≤ header.most
  pub store : store_of page ≡ header.store
  pub next : next_of page ≤ header.next
  pub last : last_serial_of page ≤ header.last

-- a page of 4,096 bytes with a header, and with a body that may stand behind what the header counts
pub record IsForm (header : Header) (IsBody : ℕ → List ℕ → Type 0) (page : List ℕ) : Type 0 where
  pub size : length page ≡ 4096
  pub bytes : IsBytes page
  pub has_header : HasHeader header page
  pub body : IsBody (count_of page) (body_of page)

-- a body of so many bytes of the schema: what is behind them is zero
abbrev pub IsPiece : ℕ → List ℕ → Type 0
IsPiece count body = AreBlank (drop count body)

-- whether a row stands before another, by the first bytes of both
abbrev pub row_before : ℕ → List ℕ → List ℕ → Bool
row_before key a b = is_lt (slice_cmp nat_cmp (take key a) (take key b))

-- a body of so many rows: their keys ascend, and what is behind them is zero
pub record AreRows (key width count : ℕ) (body : List ℕ) : Type 0 where
  pub ascend : IsTrue (each_pair (row_before key) (pieces count width body))
  pub behind : AreBlank (drop (count * width) body)

-- the same where each row is a key and the number of a page
pub record AreEntries (key count : ℕ) (body : List ℕ) : Type 0 where
  pub rows : AreRows key (key + 4) count body
  pub pages : All (λ row. number (drop key row) < 65536) (pieces count (key + 4) body)

-- the same where the first key is all zeros, as above the children of an inner page
pub record AreChildren (key count : ℕ) (body : List ℕ) : Type 0 where
  pub entries : AreEntries key count body
  pub first : AreBlank (take key body)

-- how many rows of a width a page has room for
abbrev pub capacity : ℕ → ℕ
capacity width = 4080 / width

-- the greatest page number; the greatest serial
abbrev pub last_page : ℕ
last_page = 65535

abbrev pub last_serial : ℕ
last_serial = 2 ^ 32 - 1

-- the greatest last serial that a page of a store may have: only a store of entities has one
abbrev pub serial_limit : ℕ → ℕ
serial_limit store = if nat_lt store 65536 then last_serial else 0

abbrev pub schema_header : Header
schema_header = record { kind = 1; least = 1; most = 4080; store = 0; next = last_page; last = 0 }

abbrev pub roots_header : Header
roots_header = record { kind = 5; least = 0; most = capacity 8; store = 0; next = last_page; last = 0 }

-- a page of rows, of a kind
abbrev pub rows_header : ℕ → ℕ → ℕ → Header
rows_header kind store width =
    record { kind = kind; least = 0; most = capacity width; store = store; next = last_page; last = serial_limit store }

abbrev pub inner_header : ℕ → ℕ → Header
inner_header store key =
    record { kind = 4; least = 2; most = capacity (key + 4); store = store; next = 0; last = serial_limit store }

-- a page of rows, of a kind, a store, a key and a width
abbrev pub IsRowPage : ℕ → ℕ → ℕ → ℕ → List ℕ → Type 0
IsRowPage kind store key width page = IsForm (rows_header kind store width) (AreRows key width) page

-- what is in the grammar that is wanted of a page
abbrev pub IsPage : Wanted → List ℕ → Type 0
IsPage Free page = page ≡ blank
IsPage Schema page = IsForm schema_header IsPiece page
IsPage Roots page = IsForm roots_header (AreEntries 4) page
IsPage (Chain store key width) page = IsRowPage 2 store key width page
IsPage (Leaf store key width) page = IsRowPage 3 store key width page
IsPage (Node store key width) page =
    IsRowPage 3 store key width page ⊎ IsForm (inner_header store key) (AreChildren key) page

-- A key of rows is from 1 to 207 bytes long and no longer than they are, and a row has at most 1,000 bytes.
pub record AreFair (key width : ℕ) : Type 0 where
  pub least : 1 ≤ key
  pub most : key ≤ 207
  pub within : key ≤ width
  pub short : width ≤ 1000

-- the key and the width that are wanted are fair, where there are any
abbrev pub IsFair : Wanted → Type 0
IsFair (Chain store key width) = AreFair key width
IsFair (Leaf store key width) = AreFair key width
IsFair (Node store key width) = AreFair key width
IsFair _ = ⊤
