-- Parts of a page's grammar, one behind the other.
use Rattle.std.specs.Prelude.{◌≡◌, ℕ, zero, suc, ◌+◌, ◌-◌, ◌*◌, ◌^◌, ◌≤◌, ◌<◌, Bool, true, false, if◌then◌else◌, List, length, take, drop, Option, MatchOption}
use Rattle.st_image.specs.Bytes.{IsBytes, number}
use Rattle.st_image.specs.Prefixes.{IsFirstWrong}

-- so many bytes that spell a number from one to another
pub record Field (width low high : ℕ) (bytes : List ℕ) : Type 0 where
  pub wide : length bytes ≡ width
  pub sound : IsBytes bytes
  pub least : low ≤ number bytes
  pub most : number bytes ≤ high

-- so many bytes
pub record Free (width : ℕ) (bytes : List ℕ) : Type 0 where
  pub wide : length bytes ≡ width
  pub sound : IsBytes bytes

-- so many bytes in one grammar, and behind them the rest in another, which may depend on them
pub record Seq (width : ℕ) (Is : List ℕ → Type 0) (Then : List ℕ → List ℕ → Type 0) (bytes : List ℕ) : Type 0 where
  pub front : Is (take width bytes)
  pub rest : Then (take width bytes) (drop width bytes)

-- what a check found: that bytes are in a grammar, or the first place at which they leave it
abbrev pub Finds : (List ℕ → Type 0) → List ℕ → Option ℕ → Type 0
Finds Is bytes fault = MatchOption fault (Is bytes) (λ place. (place < length bytes) × IsFirstWrong Is bytes place)

-- what stands in a row behind its key: the number of a page or anything
abbrev pub Tail : Bool → ℕ → List ℕ → Type 0
Tail true width = Field width 0 65535
Tail false width = Free width

-- a row whose key is from one number to another
abbrev pub Row : Bool → ℕ → ℕ → ℕ → ℕ → List ℕ → Type 0
Row child key width low high = Seq key (Field key low high) (λ _. Tail child (width - key))

-- the greatest key of a row that so many rows have to follow: 0 if it is the first child's
abbrev pub ceiling : ℕ → Bool → ℕ → ℕ
ceiling key first left = if first then 0 else 256 ^ key - 1 - left

-- so many rows, the keys of which begin at a number and ascend, and then so many zeros
unfoldable pub Rows : Bool → ℕ → ℕ → ℕ → Bool → ℕ → ℕ → List ℕ → Type 0
Rows child key width behind first zero low = Field behind 0 0
Rows child key width behind first (suc left) low =
    Seq width (Row child key width low (ceiling key first left)) (λ row. Rows child key width behind false left (number (take key row) + 1))

-- what stands in front of a page's body: its kind and a spare byte, what it counts, its store, the next page and the last
-- serial
abbrev pub IsHead : ℕ → ℕ → ℕ → ℕ → ℕ → ℕ → List ℕ → Type 0
IsHead kind least most store next last =
    Seq 2 (Field 2 (kind * 256) (kind * 256)) (λ _. Seq 2 (Field 2 least most) (λ _. Seq 4 (Field 4 store store) (λ _. Seq 4 (Field 4 0 next) (λ _. Field 4 0 last))))

-- what a page's front counts
abbrev pub counted : List ℕ → ℕ
counted page = number (take 2 (drop 2 page))

-- so many bytes of a body, and zeros behind them
abbrev pub IsText : ℕ → List ℕ → Type 0
IsText count = Seq count (Free count) (λ _. Field (4080 - count) 0 0)

-- a page of rows: what is in front of them, and the rows
abbrev pub RowPage : ℕ → ℕ → ℕ → ℕ → ℕ → ℕ → Bool → ℕ → ℕ → Bool → List ℕ → Type 0
RowPage kind least most store next last child key width first =
    Seq 16 (IsHead kind least most store next last) (λ head. Rows child key width (4080 - counted head * width) first (counted head) 0)

-- a page of text
abbrev pub TextPage : ℕ → ℕ → ℕ → ℕ → ℕ → ℕ → List ℕ → Type 0
TextPage kind least most store next last = Seq 16 (IsHead kind least most store next last) (λ head. IsText (counted head))
