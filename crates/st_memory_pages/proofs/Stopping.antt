-- The fault that was met last tells how full the pages are, behind a call that puts a page.
use Rattle.std.proofs.Common.{◌≡◌, ℕ, ◌≤◌, ◌==◌, Bool, true, false, List, Option, Some, None, IsSome, Result, Ok, Err, IfSome, IfErr, OnErr, sym, ap, ◌∙◌, subst, arith}
use Rattle.std.proofs.lemmas.Bool.Decides.{nat_tests}
use Rattle.std.specs.Prelude.{if◌then◌else◌}
use Rattle.st_page.specs.declared.fault.PageFault.{PageFault}
use Rattle.st_page.specs.declared.fault.PageFault.TheVariants.{BadPage, Conflict, Full, TooManyPages, DiskFault, Closed, Memory}
use Rattle.st_pages.specs.Attempt.{Attempt, IsSound, changed, differs, page_count, wrote}
use Rattle.st_pages.specs.Calls.{Counts, Met, Room, IsStopped, IsPutCause, met_behind, risen}
use Rattle.st_memory_pages.specs.Slots.{one}
use Rattle.st_memory_pages.specs.Tried.{Memory as Seen, TellsStop}
use Rattle.st_memory_pages.proofs.Counting.{how_many-at, below_page_count}

-- where as many are changed as may be
one-at-most : (b : Bool) → one b ≤ 1
one-at-most true = omega arith
one-at-most false = omega arith

other : (p page : ℕ) → (p ≡ page → ⊥) → (p == page) ≡ false
other p page apart = grind (arith, nat_tests, apart)

pub full-changed : (a : Attempt) (page : ℕ) (image : List ℕ) → IsSound a → IsSome (a.seen page) → changed (wrote page image a) ≡ 4001 → changed a ≡ 4000
full-changed a page image sound seen many =
    let f : ℕ → Bool = λ p. differs (a.seen p) (a.written p) in
    let g : ℕ → Bool = λ p. differs (a.seen p) ((wrote page image a).written p) in
    let at = how_many-at f g page page_count (below_page_count page (sound.within page seen)) (λ p apart. ap (λ (b : Bool). differs (a.seen p) (if b then Some image else a.written p)) (other p page apart)) in
    let few = sound.few in
    let most = one-at-most (g page) in
    omega (arith, at, few, most, many)

-- the fault behind a call
module _ (old new : Met) (a b : Attempt) (room now : Room) where
  abbrev Stopped : Met → Attempt → Room → Type 0
  Stopped met x r = IfSome met.last (IsStopped x (Some r))

  anew : (last : Option PageFault) (count : ℕ) → new ≡ record { count = count; last = last } → IfSome last (IsStopped b (Some now)) → Stopped new b now
  anew last count e is = subst (λ (m : Met). Stopped m b now) (sym e) is

  again : b ≡ a → now ≡ room → new ≡ old → Stopped old a room → Stopped new b now
  again same same_room e is = subst (λ (m : Met). Stopped m b now) (sym e) (subst (λ (x : Attempt). Stopped old x now) (sym same) (subst (λ (r : Room). Stopped old a r) (sym same_room) is))

  pub stopped-put : (r : Result Unit PageFault) (page : ℕ) (image : List ℕ) (c d : Counts) → IsSound a → IsSome (a.seen page) → OnErr r (b ≡ a) → OnErr r (now ≡ room)
      → IfErr r (IsPutCause page image a c d ⊥) → new ≡ met_behind old r → Stopped old a room → Stopped new b now
  stopped-put (Ok x) page image c d sound seen same same_room cause e is = anew None old.count e tt
  stopped-put (Err (BadPage q at)) page image c d sound seen same same_room cause e is = absurd cause
  stopped-put (Err (Conflict q holder)) page image c d sound seen same same_room cause e is = anew (Some (Conflict q holder)) (risen old.count) e tt
  stopped-put (Err (Full in_use)) page image c d sound seen same same_room cause e is = absurd cause
  stopped-put (Err (TooManyPages count)) page image c d sound seen same same_room cause e is =
      anew (Some (TooManyPages count)) (risen old.count) e (cause.0, ap changed same ∙ full-changed a page image sound seen cause.1)
  stopped-put (Err DiskFault) page image c d sound seen same same_room cause e is = anew (Some DiskFault) (risen old.count) e tt
  stopped-put (Err Closed) page image c d sound seen same same_room cause e is = absurd cause
  stopped-put (Err Memory) page image c d sound seen same same_room cause e is = again same same_room e is

-- what is told, from what holds of the last fault
pub tells : (memory : Seen) → IfSome memory.met.last (IsStopped memory.attempt (Some memory.room)) → TellsStop memory
tells memory is = record {
  many = λ count e. subst (λ (o : Option PageFault). IfSome o (IsStopped memory.attempt (Some memory.room))) e is;
  full = λ in_use e. subst (λ (o : Option PageFault). IfSome o (IsStopped memory.attempt (Some memory.room))) e is;
}
