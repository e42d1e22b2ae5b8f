-- States in which some triples that speak of an entity are gone.
use Rattle.std.proofs.Common.{◌≡◌, ℕ, true, List, [], ◌∷◌, refl, sym, ap, ◌∙◌}
use Rattle.std.specs.Prelude.{not}
use Rattle.std.specs.List.{list_all}
use Rattle.std.proofs.lemmas.List.Elements.{All-filter}
use Rattle.st_values.specs.declared.value.EntityId.{EntityId}
use Rattle.st_values.specs.declared.value.Value.{Value}
use Rattle.st_values.proofs.Tests.{all-filter, either, left, right}
use Rattle.st_state.specs.declared.triple.Triple.{Triple}
use Rattle.st_state.specs.State.{State, entity_deleted, member_taken, same_triple, speaks_of}
use Rattle.st_state.specs.Legal.{IsNearlyLegal}
use Rattle.st_state.proofs.Kept.{filter-nearly}
use Rattle.st_standing.specs.Standing.{FitsOne, IsOfProgram}
use Rattle.st_standing.proofs.Filtered.{filter-first}
use Rattle.st_standing.proofs.OfKind.{same_triple-is}
use Rattle.st_removals.specs.Clears.{IsLess}
use Rattle.st_removals.specs.Taken.{taken_all}

-- ---- states that are less

pub less-itself : (e : EntityId) (s : State) → IsLess e s s
less-itself e s = record { schema = refl; live = refl; last = refl; deleted = refl; fewer = λ test h. h }

pub less-then : (e : EntityId) (s t u : State) → IsLess e s t → IsLess e t u → IsLess e s u
less-then e s t u x y = record {
  schema = y.schema ∙ x.schema;
  live = y.live ∙ x.live;
  last = y.last ∙ x.last;
  deleted = y.deleted ∙ x.deleted;
  fewer = λ test h. y.fewer test (x.fewer test h);
}

-- one triple is gone
pub less-taken : (e : EntityId) (s : State) (number : ℕ) (h : EntityId) (v : Value) → speaks_of e (record { attribute = number; entity = h; value = v }) ≡ true → IsLess e s (member_taken s number h v)
less-taken e s number h v speaks = record {
  schema = refl;
  live = refl;
  last = refl;
  deleted = ap (λ (ts : List Triple). record (entity_deleted s e) { triples = ts }) (filter-first (λ t. not (speaks_of e t)) (λ t. not (same_triple gone t)) s.triples others);
  fewer = λ test a. all-filter test (λ t. not (same_triple gone t)) s.triples a;
}
  where
    gone : Triple
    gone = record { attribute = number; entity = h; value = v }

    -- one that doesn't speak of the entity is another one
    others : (t : Triple) → not (speaks_of e t) ≡ true → not (same_triple gone t) ≡ true
    others t k =
        either (same_triple gone t) (λ b. not b ≡ true) (λ m. sym (ap (λ (u : Triple). not (speaks_of e u)) (sym (same_triple-is gone t m)) ∙ ap not speaks) ∙ k) (λ _. refl)

pub less-all : (e : EntityId) (ts : List Triple) (s : State) → list_all (speaks_of e) ts ≡ true → IsLess e s (taken_all ts s)
less-all e [] s h = less-itself e s
less-all e (t ∷ ts) s h =
    let next : State = member_taken s t.attribute t.entity t.value in
    less-then e s next (taken_all ts next) (less-taken e s t.attribute t.entity t.value (left (speaks_of e t) (list_all (speaks_of e) ts) h)) (less-all e ts next (right (speaks_of e t) (list_all (speaks_of e) ts) h))

-- ---- what stays where some triples are taken out

pub all-schema : (ts : List Triple) (s : State) → (taken_all ts s).schema ≡ s.schema
all-schema [] s = refl
all-schema (t ∷ ts) s = all-schema ts (member_taken s t.attribute t.entity t.value)

pub all-live : (ts : List Triple) (s : State) → (taken_all ts s).live ≡ s.live
all-live [] s = refl
all-live (t ∷ ts) s = all-live ts (member_taken s t.attribute t.entity t.value)

pub all-last : (ts : List Triple) (s : State) → (taken_all ts s).last ≡ s.last
all-last [] s = refl
all-last (t ∷ ts) s = all-last ts (member_taken s t.attribute t.entity t.value)

pub all-nearly : (ts : List Triple) (s : State) → IsNearlyLegal s → IsNearlyLegal (taken_all ts s)
all-nearly [] s n = n
all-nearly (t ∷ ts) s n = all-nearly ts (member_taken s t.attribute t.entity t.value) (filter-nearly s (λ u. not (same_triple t u)) n)

pub all-program : (ts : List Triple) (s : State) → IsOfProgram s → IsOfProgram (taken_all ts s)
all-program [] s p = p
all-program (t ∷ ts) s p =
    all-program ts (member_taken s t.attribute t.entity t.value)
    (record { entities = p.entities; values = All-filter (λ u. not (same_triple t u)) (FitsOne s.schema) s.triples p.values; serials = p.serials })
