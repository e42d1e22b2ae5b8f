-- What contracts see of pages in memory.
use Rattle.std.specs.Prelude.{ℕ, Bool, List}
use Rattle.st_memory_pages.specs.declared.memory_pages.MemoryPages.{MemoryPages}
use Rattle.st_memory_pages.specs.Tried.{Memory, tried_memory, will_fail, CountsOne}

abbrev pub memory_of : MemoryPages → Memory
memory_of pages = tried_memory pages.tried

-- how many calls of `get`, `put` and `fresh` were made, and which of them are to fail
abbrev pub calls_of : MemoryPages → ℕ
calls_of pages = pages.tried.tally.calls

abbrev pub failing_of : MemoryPages → List ℕ
failing_of pages = pages.tried.tally.failing.items

-- whether the next call is to fail
abbrev pub fails_next : MemoryPages → Bool
fails_next pages = will_fail pages.tried

-- one more call was made
abbrev pub CountsCall : MemoryPages → MemoryPages → Type 0
CountsCall old new = CountsOne old.tried new.tried
