-- What contracts see of pages in memory, and what every call keeps of them, the answers of calls aside.
use Rattle.std.specs.Prelude.{◌≡◌, ◌⊎◌, ℕ, ◌≤◌, ◌==◌, Bool, List, Some, None, IsSome, IsTrue}
use Rattle.std.specs.List.{list_any}
use Rattle.st_page.specs.declared.fault.PageFault.TheVariants.{Full, TooManyPages}
use Rattle.st_pages.specs.Attempt.{Array, Attempt, changed}
use Rattle.st_pages.specs.Calls.{Counts, Met, Room, NeverFall, risen}
use Rattle.st_memory_pages.specs.declared.memory_pages.Tried.{Tried}
use Rattle.st_memory_pages.specs.Attempted.{array, attempt, room}

-- the array that the attempt began with, what the attempt knows of it, what was counted, which faults were met, and how many
-- pages are in use and left
pub record Memory : Type 0 where
  pub array : Array
  pub attempt : Attempt
  pub counts : Counts
  pub met : Met
  pub room : Room

-- what contracts see of pages whose answers aren't counted yet
abbrev pub tried_memory : Tried → Memory
tried_memory tried = record {
  array = array tried.held;
  attempt = attempt tried.held;
  counts = record { gets = tried.tally.gets; conflicts = 0; faults = tried.tally.faults };
  met = record { count = tried.tally.met; last = tried.tally.last };
  room = room tried.held;
}

-- the fault that was met last tells how full the pages are
pub record TellsStop (memory : Memory) : Type 0 where
  pub many : (count : ℕ) → memory.met.last ≡ Some (TooManyPages count) → (count ≡ 4001) × (changed memory.attempt ≡ 4000)
  pub full : (in_use : ℕ) → memory.met.last ≡ Some (Full in_use) → (memory.room.left ≡ 0) × (in_use ≡ memory.room.in_use)

-- what was seen stays seen, what is written is written, if differently, what was drawn stays drawn; and what is drawn since
-- was not written
pub record Grows (old new : Attempt) : Type 0 where
  pub seen : (page : ℕ) (image : List ℕ) → old.seen page ≡ Some image → new.seen page ≡ Some image
  pub written : (page : ℕ) → IsSome (old.written page) → IsSome (new.written page)
  pub drawn : (page : ℕ) → IsTrue (old.drawn page) → IsTrue (new.drawn page)
  pub fresh : (page : ℕ) → IsTrue (new.drawn page) → IsTrue (old.drawn page) ⊎ (old.written page ≡ None)

-- what every call keeps: the array stays, the attempt grows, no count falls, and no more pages are left
pub record Follows (old new : Memory) : Type 0 where
  pub array : new.array ≡ old.array
  pub grows : Grows old.attempt new.attempt
  pub counts : NeverFall old.counts new.counts
  pub met : old.met.count ≤ new.met.count
  pub in_use : new.room.in_use ≡ old.room.in_use
  pub left : new.room.left ≤ old.room.left

-- whether the next call is to fail
abbrev pub will_fail : Tried → Bool
will_fail tried = list_any (λ n. n == risen tried.tally.calls) tried.tally.failing.items

-- one more call was made
pub record CountsOne (old new : Tried) : Type 0 where
  pub calls : new.tally.calls ≡ risen old.tally.calls
  pub failing : new.tally.failing.items ≡ old.tally.failing.items
