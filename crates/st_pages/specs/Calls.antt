-- What the calls of pages answer, and why.
use Rattle.std.specs.Prelude.{◌≡◌, ℕ, suc, ◌+◌, ◌-◌, ◌^◌, ◌<◌, ◌≤◌, ◌⊎◌, ◌==◌, ◌||◌, Bool, true, false, if◌then◌else◌, List, Option, Some, None, Result, Ok, Err, IsSome, IsTrue, IfSome, ⊤}
use Rattle.st_edge.specs.Faults.{Rose}
use Rattle.st_page.specs.declared.fault.PageFault.{PageFault}
use Rattle.st_page.specs.declared.fault.PageFault.TheVariants.{BadPage, Conflict, Full, TooManyPages, DiskFault, Closed, Memory}
use Rattle.st_image.specs.Fields.{blank}
use Rattle.st_pages.specs.Attempt.{Attempt, wrote, changed, draws, taken, page_count}

-- a count behind one more; at its greatest value it stays
abbrev pub risen : ℕ → ℕ
risen n = if n == 2 ^ 64 - 1 then n else n + 1

-- the answers that were faults but want of memory: how many, and the last one, as long as no call has gone well behind it
pub record Met : Type 0 where
  pub count : ℕ
  pub last : Option PageFault

-- the same behind an answer
abbrev pub met_behind : {A : Type 0} → Met → Result A PageFault → Met
met_behind met (Err Memory) = met
met_behind met (Err fault) = record { count = risen met.count; last = Some fault }
met_behind met (Ok x) = record { count = met.count; last = None }

-- the fault of a call of pages that is met; that a page is damaged is found out behind a call
abbrev pub met_fault : PageFault → Option PageFault
met_fault (BadPage page place) = None
met_fault Memory = None
met_fault fault = Some fault

-- An answer hands on what was met: a fault that is neither a damaged page nor want of memory is the last that was met, and
-- one more was met.
abbrev pub HandsOn : {A : Type 0} → Met → Met → Result A PageFault → Type 0
HandsOn old new (Ok x) = ⊤
HandsOn old new (Err fault) = IfSome (met_fault fault) (λ f. (new.last ≡ Some f) × Rose old.count new.count)

-- what is counted: calls of `get`, conflicts, faults of what lies below; and whether that was closed by an earlier fault
pub record Counts : Type 0 where
  pub gets : ℕ
  pub conflicts : ℕ
  pub faults : ℕ

-- no count falls
pub record NeverFall (old new : Counts) : Type 0 where
  pub gets : old.gets ≤ new.gets
  pub conflicts : old.conflicts ≤ new.conflicts
  pub faults : old.faults ≤ new.faults

-- Why a page wasn't got: another client holds it, what lies below failed or was closed before, or memory wants.
abbrev pub IsGetCause : ℕ → Counts → Counts → Type 0 → PageFault → Type 0
IsGetCause page old new closed (Conflict other holder) = (other ≡ page) × Rose old.conflicts new.conflicts
IsGetCause page old new closed DiskFault = Rose old.faults new.faults
IsGetCause page old new closed Closed = closed
IsGetCause page old new closed Memory = ⊤
IsGetCause page old new closed _ = ⊥

-- Why a page wasn't put: as above, or 4,001 pages would be changed.
abbrev pub IsPutCause : ℕ → List ℕ → Attempt → Counts → Counts → Type 0 → PageFault → Type 0
IsPutCause page image a old new closed (TooManyPages count) = (count ≡ 4001) × (changed (wrote page image a) ≡ 4001)
IsPutCause page image a old new closed fault = IsGetCause page old new closed fault

-- a fault that calls meet which put and draw nothing: neither too many pages nor none that is free
abbrev pub is_of_looking : PageFault → Bool
is_of_looking (Full in_use) = false
is_of_looking (TooManyPages count) = false
is_of_looking _ = true

-- how many pages were in use when the attempt began, and how many are left to be drawn, where these are told
pub record Room : Type 0 where
  pub in_use : ℕ
  pub left : ℕ

-- why no page was drawn, by the room that is told: none is left, and that many are in use
abbrev pub IsFull : Option Room → ℕ → Type 0
IsFull room in_use = IfSome room (λ r. (r.left ≡ 0) × (in_use ≡ r.in_use))

-- What a fault that was met last tells of the pages: as many are changed as may be, or none is left to be drawn.
abbrev pub IsStopped : Attempt → Option Room → PageFault → Type 0
IsStopped a room (TooManyPages count) = (count ≡ 4001) × (changed a ≡ 4000)
IsStopped a room (Full in_use) = IsFull room in_use
IsStopped a room _ = ⊤

-- Why no page was drawn: what lies below failed or was closed before, none is left, or memory wants.
abbrev pub IsDrawCause : Option Room → Counts → Counts → Type 0 → PageFault → Type 0
IsDrawCause room old new closed (Full in_use) = IsFull room in_use
IsDrawCause room old new closed DiskFault = Rose old.faults new.faults
IsDrawCause room old new closed Closed = closed
IsDrawCause room old new closed Memory = ⊤
IsDrawCause room old new closed _ = ⊥

-- a page that may be drawn: it wasn't drawn or written, and if it was seen it was blank
pub record MayBeDrawn (a : Attempt) (page : ℕ) : Type 0 where
  pub within : page < 65536
  pub seen : IfSome (a.seen page) (λ image. image ≡ blank)
  pub written : a.written page ≡ None
  pub drawn : a.drawn page ≡ false

-- of the pages that are left to be drawn one is taken, where that is told
abbrev pub TakesOne : Option Room → Option Room → Type 0
TakesOne None new = new ≡ None
TakesOne (Some room) new = (n : ℕ) × (room.left ≡ suc n) × (new ≡ Some (record { in_use = room.in_use; left = n }))

-- a page that is put is taken from those that are left at most where it may be drawn
abbrev pub TakesAtMostOne : Attempt → ℕ → Option Room → Option Room → Type 0
TakesAtMostOne a page old new = (new ≡ old) ⊎ (MayBeDrawn a page × TakesOne old new)

-- as many are left, or fewer; all else is told as before
abbrev pub IsNoMore : Option Room → Option Room → Type 0
IsNoMore None new = new ≡ None
IsNoMore (Some room) new = (n : ℕ) × (new ≡ Some (record { in_use = room.in_use; left = n })) × (n ≤ room.left)

-- the pages that were in use, those that are left and those that the attempt has taken are at least all pages
abbrev pub IsAllRoom : Attempt → Option Room → Type 0
IsAllRoom a room = IfSome room (λ r. page_count ≤ r.in_use + r.left + taken a)

-- What was asked for: pages that were seen since are of one set or were drawn, those of which something else is written
-- now are of another, and at most so many were drawn.
pub record HasAsked (old new : Attempt) (got put : ℕ → Bool) (most : ℕ) : Type 0 where
  pub got_only : (page : ℕ) → IsSome (new.seen page) → IsSome (old.seen page) ⊎ IsTrue (got page || new.drawn page)
  pub put_only : (page : ℕ) → (new.written page ≡ old.written page) ⊎ IsTrue (put page)
  pub drew_most : draws new ≤ draws old + most

-- sets of pages: none, and one alone
abbrev pub no_page : ℕ → Bool
no_page page = false

abbrev pub only : ℕ → ℕ → Bool
only page other = other == page

-- all pages of one set are of another
abbrev pub IsWithin : (ℕ → Bool) → (ℕ → Bool) → Type 0
IsWithin some more = (page : ℕ) → IsTrue (some page) → IsTrue (more page)
