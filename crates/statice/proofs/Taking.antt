-- What a sink took, in one piece after another, and what a source gave.
use Rattle.std.proofs.Common.{◌≡◌, inl, inr, ℕ, ◌+◌, ◌≤◌, List, [], ◌++◌, refl, length, take, Option, Some, None, arith}
use Rattle.std.specs.Prelude.{IfSome}
use Rattle.std.proofs.KnownBytes.{Appends-trans}
use Rattle.std.proofs.Math.Seq.{take-append-add}
use Rattle.st_edge.specs.Faults.{Rose}
use Rattle.st_edge.specs.States.{SinkState, TakesAll, Takes}

-- behind a front that went in
pub takes_behind : (old mid new : SinkState) (front text : List ℕ) → TakesAll old mid front → old.faults ≤ mid.faults → mid.faults ≤ new.faults → Takes mid new text → Takes old new (front ++ text)
takes_behind old mid new front text first le up (inl whole) = inl (Appends-trans old.taken mid.taken new.taken front text first whole)
takes_behind old mid new front text first le up (inr (rose, (n, part))) =
    inr (after old.faults mid.faults new.faults le rose, (length front + n, rw (take-append-add front text n) (Appends-trans old.taken mid.taken new.taken front (take n text) first part)))
  where
    after : (a b c : ℕ) → a ≤ b → Rose b c → Rose a c
    after a b c le rose = λ h. let r = rose h in omega arith

-- some input is what a source gave
pub some_input : (left : Option (List ℕ)) → (input : List ℕ) × IfSome left (λ bytes. input ≡ bytes)
some_input None = ([], tt)
some_input (Some xs) = (xs, refl)
