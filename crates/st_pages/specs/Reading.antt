-- What holds of each page array that agrees with what was seen.
use Rattle.std.specs.Prelude.{ℕ, ⊤}
use Rattle.st_page.specs.declared.fault.PageFault.{PageFault}
use Rattle.st_page.specs.declared.fault.PageFault.TheVariants.{BadPage}
use Rattle.st_pages.specs.Attempt.{Array, Attempt, Agrees, over}

-- Something holds of each array that agrees with what was seen behind calls, under what was written in front of them.
abbrev pub ForEach : Attempt → Attempt → (Array → Type 0) → Type 0
ForEach old new Holds = (pages : Array) → Agrees new pages → Holds (over old pages)

-- what holds of the page and the place of a damaged page
abbrev pub OfDamage : (ℕ → ℕ → Type 0) → PageFault → Type 0
OfDamage Holds (BadPage page place) = Holds page place
OfDamage Holds _ = ⊤
