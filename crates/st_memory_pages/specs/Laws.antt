-- The laws of pages, of pages in memory.
use Rattle.std.proofs.Common.{◌≡◌, ℕ, ◌+◌, ◌≤◌, ◌||◌, ◌⊎◌, Bool, true, inl, inr, List, Option, Some, None, IsSome, IsTrue, IfSome, refl, sym, ap, ◌∙◌, arith}
use Rattle.std.proofs.lemmas.Bool.{or_cases, or_left, or_right}
use Rattle.st_pages.specs.Attempt.{Attempt, IsSound as IsSoundAttempt, Agrees, how_many, page_count}
use Rattle.st_page.specs.declared.fault.PageFault.{PageFault}
use Rattle.st_page.specs.declared.fault.PageFault.TheVariants.{BadPage, Conflict, Full, TooManyPages, DiskFault, Closed, Memory as Wanting}
use Rattle.st_pages.specs.Calls.{Room, HasAsked, IsWithin, IsNoMore, IsAllRoom, IsStopped}
use Rattle.st_memory_pages.specs.declared.memory_pages.MemoryPages.{MemoryPages}
use Rattle.st_memory_pages.specs.Attempted.{first_room, is_left}
use Rattle.st_memory_pages.specs.Memory.{memory_of}
use Rattle.st_memory_pages.specs.Tried.{Memory, Grows, Follows, TellsStop}
use Rattle.st_memory_pages.specs.Whole.{whole-sound, whole-room, whole-agrees, whole-used, whole-left}

-- an attempt grows
pub grows-itself : (a : Attempt) → Grows a a
grows-itself a = record { seen = λ page image e. e; written = λ page h. h; drawn = λ page h. h; fresh = λ page h. inl h }

pub grows-on : (a b c : Attempt) → Grows a b → Grows b c → Grows a c
grows-on a b c first second = record {
  seen = λ page image e. second.seen page image (first.seen page image e);
  written = λ page h. second.written page (first.written page h);
  drawn = λ page h. second.drawn page (first.drawn page h);
  fresh = λ page h. elim (second.fresh page h) [
    | inl d ↦ first.fresh page d
    | inr e ↦ inr (none-before (a.written page) (b.written page) (first.written page) e)
  ];
}
  where
    not-some : (y : Option (List ℕ)) → IsSome y → y ≡ None → ⊥
    not-some None h e = cc
    not-some (Some image) h e = cc

    none-before : (x y : Option (List ℕ)) → (IsSome x → IsSome y) → y ≡ None → x ≡ None
    none-before None y h e = refl
    none-before (Some image) y h e = absurd (not-some y (h refl) e)

-- nothing was asked for
pub asked-nothing : (a : Attempt) (got put : ℕ → Bool) → HasAsked a a got put 0
asked-nothing a got put = record { got_only = λ page h. inl h; put_only = λ page. inl refl; drew_most = omega arith }

pub asked-more : (a b : Attempt) (got put got_too put_too : ℕ → Bool) (most more : ℕ) → IsWithin got got_too → IsWithin put put_too
    → most ≤ more → HasAsked a b got put most → HasAsked a b got_too put_too more
asked-more a b got put got_too put_too most more got_more put_more few asked = record {
  got_only = λ page h. elim (asked.got_only page h) [
    | inl before ↦ inl before
    | inr e ↦ inr (either page (or_cases (got page) (b.drawn page) e))
  ];
  put_only = λ page. elim (asked.put_only page) [ inl same ↦ inl same | inr e ↦ inr (put_more page e) ];
  drew_most = let drew = asked.drew_most in omega (arith, few, drew);
}
  where
    either : (page : ℕ) → ((got page ≡ true) ⊎ (b.drawn page ≡ true)) → (got_too page || b.drawn page) ≡ true
    either page (inl e) = or_left (got_too page) (b.drawn page) (got_more page e)
    either page (inr e) = or_right (got_too page) (b.drawn page) e

pub asked-on : (a b c : Attempt) (got put : ℕ → Bool) (most more : ℕ) → Grows b c → HasAsked a b got put most → HasAsked b c got put more
    → HasAsked a c got put (most + more)
asked-on a b c got put most more grows first second = record {
  got_only = λ page h. elim (second.got_only page h) [
    | inl before ↦ at page (first.got_only page before)
    | inr e ↦ inr e
  ];
  put_only = λ page. joined page (first.put_only page) (second.put_only page);
  drew_most = let one = first.drew_most in let two = second.drew_most in omega (arith, one, two);
}
  where
    drawn : (page : ℕ) → ((got page ≡ true) ⊎ (b.drawn page ≡ true)) → (got page || c.drawn page) ≡ true
    drawn page (inl e) = or_left (got page) (c.drawn page) e
    drawn page (inr e) = or_right (got page) (c.drawn page) (grows.drawn page e)

    at : (page : ℕ) → (IsSome (a.seen page) ⊎ IsTrue (got page || b.drawn page)) → IsSome (a.seen page) ⊎ IsTrue (got page || c.drawn page)
    at page (inl before) = inl before
    at page (inr e) = inr (drawn page (or_cases (got page) (b.drawn page) e))

    joined : (page : ℕ) → ((b.written page ≡ a.written page) ⊎ IsTrue (put page)) → ((c.written page ≡ b.written page) ⊎ IsTrue (put page))
        → (c.written page ≡ a.written page) ⊎ IsTrue (put page)
    joined page (inl one) (inl two) = inl (two ∙ one)
    joined page (inl one) (inr e) = inr e
    joined page (inr e) other = inr e

-- no more is left
pub no-more : (in_use left new_in_use new_left : ℕ) → new_in_use ≡ in_use → new_left ≤ left
    → IsNoMore (Some (record { in_use = in_use; left = left })) (Some (record { in_use = new_in_use; left = new_left }))
no-more in_use left new_in_use new_left same few =
    let room : ℕ → Option Room = λ n. Some (record { in_use = n; left = new_left }) in
    (new_left, ap room same, few)

-- every attempt is sound
pub is-sound : (m : MemoryPages) → IsSoundAttempt (memory_of m).attempt
is-sound m = whole-sound m.tried.held.images.items m.tried.held.table.items m.tried.held.changed m.tried.held.left m.tried.held.in_use m.tried.held.cursor m.tried.held.sound

-- all pages are in use, left or taken
pub is-all-room : (m : MemoryPages) → IsAllRoom (memory_of m).attempt (Some (memory_of m).room)
is-all-room m = whole-room m.tried.held.images.items m.tried.held.table.items m.tried.held.changed m.tried.held.left m.tried.held.in_use m.tried.held.cursor m.tried.held.sound

-- the fault that was met last tells how full the pages are
told-stop : (memory : Memory) (last : Option PageFault) → last ≡ memory.met.last → TellsStop memory → IfSome last (IsStopped memory.attempt (Some memory.room))
told-stop memory None e is = tt
told-stop memory (Some (BadPage page place)) e is = tt
told-stop memory (Some (Conflict page holder)) e is = tt
told-stop memory (Some (Full in_use)) e is = is.full in_use (sym e)
told-stop memory (Some (TooManyPages count)) e is = is.many count (sym e)
told-stop memory (Some DiskFault) e is = tt
told-stop memory (Some Closed) e is = tt
told-stop memory (Some Wanting) e is = tt

pub is-stopped : (m : MemoryPages) → IfSome (memory_of m).met.last (IsStopped (memory_of m).attempt (Some (memory_of m).room))
is-stopped m = told-stop (memory_of m) (memory_of m).met.last refl m.stopped

-- what every call keeps
pub follows-itself : (m : Memory) → Follows m m
follows-itself m = record {
  array = refl;
  grows = grows-itself m.attempt;
  counts = record { gets = omega arith; conflicts = omega arith; faults = omega arith };
  met = omega arith;
  in_use = refl;
  left = omega arith;
}

pub follows-on : (a b c : Memory) → Follows a b → Follows b c → Follows a c
follows-on a b c first second = record {
  array = second.array ∙ first.array;
  grows = grows-on a.attempt b.attempt c.attempt first.grows second.grows;
  counts =
      let one = first.counts in
      let two = second.counts in
      record { gets = omega (arith, one, two); conflicts = omega (arith, one, two); faults = omega (arith, one, two) };
  met = let one = first.met in let two = second.met in omega (arith, one, two);
  in_use = second.in_use ∙ first.in_use;
  left = let one = first.left in let two = second.left in omega (arith, one, two);
}

pub room-stays : (a b : Memory) → Follows a b → IsNoMore (Some a.room) (Some b.room)
room-stays a b stays = no-more a.room.in_use a.room.left b.room.in_use b.room.left stays.in_use stays.left

-- the array has what was seen of it
pub agrees : (m : MemoryPages) → Agrees (memory_of m).attempt (memory_of m).array
agrees m = whole-agrees m.tried.held.images.items m.tried.held.table.items

-- how many pages are in use, and how many are left
pub in-use : (m : MemoryPages) → (memory_of m).room.in_use ≡ (first_room (memory_of m).array).in_use
in-use m = whole-used m.tried.held.images.items m.tried.held.table.items m.tried.held.changed m.tried.held.left m.tried.held.in_use m.tried.held.cursor m.tried.held.sound

pub left : (m : MemoryPages) → (memory_of m).room.left ≡ how_many (is_left (memory_of m).array (memory_of m).attempt) page_count
left m = whole-left m.tried.held.images.items m.tried.held.table.items m.tried.held.changed m.tried.held.left m.tried.held.in_use m.tried.held.cursor m.tried.held.sound
