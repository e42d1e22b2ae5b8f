-- Two terms that are looked at, one after the other.
use Rattle.std.proofs.Common.{◌≡◌, ℕ, List, Ok, Err}
use Rattle.std.specs.Prelude.{◌++◌}
use Rattle.st_values.specs.declared.value.EntityId.{EntityId}
use Rattle.st_values.specs.declared.value.Value.{Value}
use Rattle.st_plain.specs.declared.fault.BaseFault.{BaseFault}
use Rattle.st_plain.specs.declared.fault.BaseFault.TheVariants.{Refused, Page, Memory}
use Rattle.st_plain.specs.Base.{Asked}
use Rattle.st_terms.specs.Looks.{Place, Looks}
use Rattle.st_terms.proofs.Looking.{looks-then}
use Rattle.st_changes.specs.declared.values.Given.{Given}

-- calls that were not answered, whatever they were to answer
pub looks-other : {A C : Type 0} (stands : Type 0) (asks : List Asked → Type 0) (got : EntityId → ℕ → Type 0) (right : A → Type 0) (right_other : C → Type 0) (stores : List ℕ) (places further : List Place) (e : BaseFault)
    → Looks stands asks got right stores places (Err e) → Looks stands asks got right_other stores further (Err e)
looks-other stands asks got right right_other stores places further (Refused r) f = absurd f.answers
looks-other stands asks got right right_other stores places further (Page fault) f = record { answers = f.answers; asked = f.asked; reached = tt }
looks-other stands asks got right right_other stores places further Memory f = record { answers = tt; asked = f.asked; reached = tt }

pub looks-fail-second : (stands behind : Type 0) (first second whole : List Asked → Type 0) (got got_then : EntityId → ℕ → Type 0) (a b : Value) (some others : List ℕ) (places further : List Place) (x : Value) (e : BaseFault)
    → ((f g : List Asked) → first f → second g → whole (f ++ g)) → ((n : EntityId) (k : ℕ) → got n k → got_then n k)
    → Looks {A = Value} stands first got (λ v. v ≡ a) some places (Ok x) → Looks {A = Value} behind second got_then (λ v. v ≡ b) others further (Err e)
    → Looks {A = Given} behind whole got_then (λ given. (given.target ≡ a) × (given.value ≡ b)) (some ++ others) (places ++ further) (Err e)
looks-fail-second stands behind first second whole got got_then a b some others places further x e on stay f g =
    looks-other behind whole got_then (λ v. v ≡ b) _ (some ++ others) (places ++ further) (places ++ further) e
    (looks-then stands behind first second whole got got_then (λ v. v ≡ a) (λ v. v ≡ b) some others places further x (Err e) on stay f g)

pub looks-both : (stands behind : Type 0) (first second whole : List Asked → Type 0) (got got_then : EntityId → ℕ → Type 0) (a b : Value) (some others : List ℕ) (places further : List Place) (x y : Value)
    → ((f g : List Asked) → first f → second g → whole (f ++ g)) → ((n : EntityId) (k : ℕ) → got n k → got_then n k)
    → Looks {A = Value} stands first got (λ v. v ≡ a) some places (Ok x) → Looks {A = Value} behind second got_then (λ v. v ≡ b) others further (Ok y)
    → Looks {A = Given} behind whole got_then (λ given. (given.target ≡ a) × (given.value ≡ b)) (some ++ others) (places ++ further) (Ok (record { target = x; value = y }))
looks-both stands behind first second whole got got_then a b some others places further x y on stay f g =
    let both = looks-then stands behind first second whole got got_then (λ v. v ≡ a) (λ v. v ≡ b) some others places further x (Ok y) on stay f g in
    record { answers = ((f.answers.0, both.answers.0), both.answers.1); asked = both.asked; reached = both.reached }
