-- The schema and the places together.
use Rattle.std.proofs.Common.{◌≡◌, Bool, true, false, ◌||◌, IsTrue, refl, inr}
use Rattle.st_page.specs.declared.fault.PageFault.{PageFault}
use Rattle.st_page.specs.declared.fault.PageFault.TheVariants.{BadPage, Conflict, Full, TooManyPages, DiskFault, Closed, Memory}
use Rattle.st_lattice.specs.Outline.{Outline}
use Rattle.st_pages.specs.Attempt.{Array, Attempt}
use Rattle.st_pages.specs.Calls.{IsWithin}
use Rattle.st_pages.specs.Chains.{is_on_way}
use Rattle.st_catalog.specs.Catalog.{SpellsSchema, RootsBroken, IsBroken}
use Rattle.st_pages.specs.Reading.{ForEach, OfDamage}
use Rattle.st_pages.proofs.Carried.{Stays, under, later}

left-of : (a b : Bool) → IsTrue a → IsTrue (a || b)
left-of true b e = refl
left-of false b e = cc

right-of : (a b : Bool) → IsTrue b → IsTrue (a || b)
right-of true b e = refl
right-of false b e = e

pub first-of : (array : Array) → IsWithin (is_on_way array 1) (λ page. is_on_way array 1 page || is_on_way array 0 page)
first-of array = λ page e. left-of (is_on_way array 1 page) (is_on_way array 0 page) e

pub second-of : (array : Array) → IsWithin (is_on_way array 0) (λ page. is_on_way array 1 page || is_on_way array 0 page)
second-of array = λ page e. right-of (is_on_way array 1 page) (is_on_way array 0 page) e

pub roots-broken : (old mid new : Attempt) (schema : Outline) (fault : PageFault) → mid.written ≡ old.written → Stays mid new → ForEach old mid (λ array. SpellsSchema array schema)
    → OfDamage (λ page place. ForEach mid new (λ array. RootsBroken array schema page place)) fault → OfDamage (λ page place. ForEach old new (λ array. IsBroken array page place)) fault
roots-broken old mid new schema (BadPage page place) e stays spells broken = λ pages agrees.
    inr (schema, later old mid new (λ a. SpellsSchema a schema) stays spells pages agrees, under old mid new (λ a. RootsBroken a schema page place) e broken pages agrees)
roots-broken old mid new schema (Conflict page holder) e stays spells broken = tt
roots-broken old mid new schema (Full in_use) e stays spells broken = tt
roots-broken old mid new schema (TooManyPages many) e stays spells broken = tt
roots-broken old mid new schema DiskFault e stays spells broken = tt
roots-broken old mid new schema Closed e stays spells broken = tt
roots-broken old mid new schema Memory e stays spells broken = tt
