-- Rule 4 for one after another.
use Rattle.std.proofs.Common.{◌≡◌, ℕ, ◌+◌, ◌<◌, false, List, [], ◌∷◌, Option, Some, None, Result, Ok, length, take, drop, get_or, refl, sym, ◌∙◌, ap}
use Rattle.std.specs.Prelude.{◌++◌, flat_map, map, find, if◌then◌else◌}
use Rattle.st_values.specs.declared.value.EntityId.{EntityId}
use Rattle.st_values.specs.declared.value.Value.{Value}
use Rattle.st_values.proofs.Tests.{either}
use Rattle.st_lattice.specs.declared.attribute.Attribute.{Attribute}
use Rattle.st_lattice.specs.Stores.{aside}
use Rattle.st_state.specs.declared.refusal.Refusal.{Refusal}
use Rattle.st_state.specs.State.{State, turned}
use Rattle.st_state.specs.Legal.{IsNearlyLegal}
use Rattle.st_state.specs.Refusals.{first_of}
use Rattle.st_state.specs.Bases.{is_other, shared_with, not_unique}
use Rattle.st_meaning.specs.Rules.{shared}
use Rattle.st_plain.specs.declared.fault.BaseFault.{BaseFault}
use Rattle.st_plain.specs.Base.{Asked}
use Rattle.st_terms.specs.Looks.{Looks}
use Rattle.st_terms.proofs.Looking.{among-itself}
use Rattle.st_makes.specs.declared.filling.Filling.{Filling}
use Rattle.st_makes.specs.Makes.{rule_of, IsMeant, may_have}
use Rattle.st_makes.proofs.Holding.{unheld, not-held}
use Rattle.st_makes.proofs.Turns.{looks-as, looks-next}
use Rattle.st_makes.proofs.Gives.{drop-next}

-- nobody has what an attribute can't have, nor is it asked of one that isn't unique
pub no-share-unless : (s : State) (filled : Option EntityId) (a : Attribute) (v : Value) → a.unique ≡ false → None ≡ not_unique s a filled v
no-share-unless s filled a v h = sym (ap (λ b. if b then shared_with s.schema a (find (is_other filled) (turned a.number v s.triples)) else None) h)

pub no-share : (s : State) → IsNearlyLegal s → (filled : Option EntityId) (a : Attribute) (v : Value) → IsMeant s a v → may_have a.kind v ≡ false → None ≡ not_unique s a filled v
no-share s n filled a v m h =
    either a.unique (λ b. None ≡ (if b then shared_with s.schema a (find (is_other filled) (turned a.number v s.triples)) else None))
    (λ _. sym (ap (λ es. shared_with s.schema a (find (is_other filled) es)) (unheld s n a v m.there (not-held s a.kind v h)))) (λ _. refl)

module _ (s : State) (filled : Option EntityId) where
  abbrev pub stores : Filling → List ℕ
  stores f = aside f.attribute

  abbrev pub refuses : List Filling → Option Refusal
  refuses fs = first_of (map (shared s filled) (map rule_of fs))

  -- one more
  pub share-next : {A : Type 0} (fillings : List Filling) (i : ℕ) (f : Filling) (right : A → Type 0) (r : Result A BaseFault) (other : A → Type 0) (stands behind : Type 0) (first second whole : List Asked → Type 0) (got got_then : EntityId → ℕ → Type 0)
      → ((x : A) → refuses (drop i fillings) ≡ refuses fillings → right x → other x)
      → ((f g : List Asked) → first f → second g → whole (f ++ g)) → ((e : EntityId) (n : ℕ) → got e n → got_then e n)
      → Looks {A = Unit {0}} stands first got (λ _. refuses (drop i fillings) ≡ refuses fillings) (flat_map stores (take i fillings)) [] (Ok tt)
      → (stands → Looks behind second got_then right (stores f) [] r)
      → Looks behind whole got_then other (flat_map stores (take i fillings) ++ stores f) [] r
  share-next fillings i f right r other stands behind first second whole got got_then turn on stay l m =
      looks-next stands behind first second whole got got_then (λ _. refuses (drop i fillings) ≡ refuses fillings) other (flat_map stores (take i fillings)) (stores f) [] tt r on stay l
      (looks-as behind second got_then right other (stores f) (stores f) [] r (λ x k. turn x l.answers.0 k) (among-itself (stores f)) (m l.answers.1))

  -- the first that refuses
  pub refuses-here : (fillings : List Filling) (i : ℕ) (f : Filling) (r : Refusal) → i < length fillings → f ≡ get_or fillings i f → Some r ≡ shared s filled (rule_of f)
      → refuses (drop i fillings) ≡ refuses fillings → Some r ≡ refuses fillings
  refuses-here fillings i f r h e k so_far =
      ap (λ o. first_of (o ∷ map (shared s filled) (map rule_of (drop (i + 1) fillings)))) k ∙ sym (ap refuses (drop-next fillings i f h e)) ∙ so_far

  pub refuses-later : (fillings : List Filling) (i : ℕ) (f : Filling) → i < length fillings → f ≡ get_or fillings i f → None ≡ shared s filled (rule_of f)
      → refuses (drop i fillings) ≡ refuses fillings → refuses (drop (i + 1) fillings) ≡ refuses fillings
  refuses-later fillings i f h e k so_far =
      ap (λ o. first_of (o ∷ map (shared s filled) (map rule_of (drop (i + 1) fillings)))) k ∙ sym (ap refuses (drop-next fillings i f h e)) ∙ so_far

  -- what is known where one was looked at
  abbrev pub Looked : List Filling → ℕ → Filling → Option Refusal → Type 0
  Looked fillings i f o = (o ≡ shared s filled (rule_of f)) × (refuses (drop i fillings) ≡ refuses fillings)
