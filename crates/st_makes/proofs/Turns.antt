-- What is said of calls, said of others that give the same.
use Rattle.std.proofs.Common.{ℕ, false, List, [], Result, Ok, Err}
use Rattle.std.specs.Prelude.{◌++◌}
use Rattle.std.proofs.lemmas.List.Elements.{All-nil}
use Rattle.st_values.specs.declared.value.EntityId.{EntityId}
use Rattle.st_plain.specs.declared.fault.BaseFault.{BaseFault}
use Rattle.st_plain.specs.declared.fault.BaseFault.TheVariants.{Refused, Page, Memory}
use Rattle.st_plain.specs.Base.{Asked}
use Rattle.st_terms.specs.Looks.{AreAmong, Place, Looks, Answers}
use Rattle.st_terms.proofs.Looking.{at-more, looks-then}

pub looks-as : {A : Type 0} (stands : Type 0) (asks : List Asked → Type 0) (got : EntityId → ℕ → Type 0) (right other : A → Type 0) (some others : List ℕ) (places : List Place) (r : Result A BaseFault)
    → ((x : A) → right x → other x) → AreAmong some others → Looks stands asks got right some places r → Looks stands asks got other others places r
looks-as {A = A} stands asks got right other some others places r f among l = record { answers = by r l.answers; asked = at-more asks false some others among l.asked; reached = l.reached }
  where
    by : (r : Result A BaseFault) → Answers stands right r → Answers stands other r
    by (Ok x) h = (f x h.0, h.1)
    by (Err (Refused refusal)) h = h
    by (Err (Page fault)) h = h
    by (Err Memory) h = h

-- calls behind others that were answered; what those reached is not kept
pub looks-next : {A C : Type 0} (stands behind : Type 0) (first second whole : List Asked → Type 0) (got got_then : EntityId → ℕ → Type 0) (right_first : A → Type 0) (right_then : C → Type 0)
    (some others : List ℕ) (places : List Place) (x : A) (r : Result C BaseFault)
    → ((f g : List Asked) → first f → second g → whole (f ++ g)) → ((e : EntityId) (n : ℕ) → got e n → got_then e n)
    → Looks stands first got right_first some places (Ok x) → Looks behind second got_then right_then others [] r → Looks behind whole got_then right_then (some ++ others) [] r
looks-next stands behind first second whole got got_then right_first right_then some others places x r on stay f g =
    looks-then stands behind first second whole got got_then right_first right_then some others [] [] x r on stay
    (record { answers = f.answers; asked = f.asked; reached = All-nil (λ p. got p.entity p.number) }) g
