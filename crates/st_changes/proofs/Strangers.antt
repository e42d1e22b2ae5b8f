-- A text that is too long for an attribute is nowhere its value.
use Rattle.std.proofs.Common.{◌≡◌, true, false, List, [], ◌∷◌, Some, None, length, refl, sym, ◌∙◌, ap, subst}
use Rattle.std.specs.Prelude.{◌==◌, ◌&&◌, ◌||◌, not, cond, filter, find, if◌then◌else◌}
use Rattle.std.specs.List.{list_all}
use Rattle.st_values.specs.declared.value.EntityId.{EntityId}
use Rattle.st_values.specs.declared.value.Kind.{Kind}
use Rattle.st_values.specs.declared.value.Kind.TheVariants as kind
use Rattle.st_values.specs.declared.value.Value.{Value}
use Rattle.st_values.specs.declared.value.Value.TheVariants as value
use Rattle.st_values.specs.Order.{same_value, same_entity}
use Rattle.st_values.proofs.Entities.{same_value-is, same_value-itself}
use Rattle.st_values.proofs.Tests.{left, right, either, never, all-weaken}
use Rattle.st_lattice.specs.declared.attribute.Attribute.{Attribute}
use Rattle.st_lattice.specs.Outline.{attribute}
use Rattle.st_lattice.specs.Lattice.{isa}
use Rattle.st_lattice.specs.Stores.{passes}
use Rattle.st_state.specs.declared.refusal.Refusal.{Refusal}
use Rattle.st_state.specs.declared.refusal.Refusal.TheVariants.{TextTooLong}
use Rattle.st_state.specs.declared.triple.Triple.{Triple}
use Rattle.st_state.specs.State.{State, is_live, same_triple, turned, member_taken}
use Rattle.st_state.specs.Legal.{can_hold, is_sound, IsNearlyLegal}
use Rattle.st_state.specs.Bases.{is_other, shared_with, not_unique}
use Rattle.st_state.proofs.Changed.{number-is, number-itself}
use Rattle.st_state.proofs.Members.{nothing-found}
use Rattle.st_meaning.specs.Rules.{too_long}
use Rattle.st_changes.proofs.Running.{some-none}

module _ (s : State) where
  -- what can be held is short enough
  held-short : (k : Kind) (v : Value) (r : Refusal) → too_long k v ≡ Some r → can_hold s k v ≡ true → ⊥
  held-short kind.Int v r e h = some-none r (sym e)
  held-short kind.Bool v r e h = some-none r (sym e)
  held-short (kind.Entity ty) v r e h = some-none r (sym e)
  held-short (kind.Text limit) value.Null r e h = some-none r (sym e)
  held-short (kind.Text limit) (value.Int i) r e h = some-none r (sym e)
  held-short (kind.Text limit) (value.Bool i) r e h = some-none r (sym e)
  held-short (kind.Text limit) (value.Entity i) r e h = some-none r (sym e)
  held-short (kind.Text limit) (value.Text text) r e h = some-none r (sym e ∙ ap (λ b. if b then None else Some (TextTooLong (length text) limit)) h)

module _ (s : State) (n : IsNearlyLegal s) (a : Attribute) (found : attribute s.schema a.number ≡ Some a) (v : Value) (r : Refusal) (long : too_long a.kind v ≡ Some r) where
  -- no triple has the value there
  stranger : (t : Triple) → is_sound s t ≡ true → (t.attribute == a.number) ≡ true → same_value t.value v ≡ true → ⊥
  stranger t h number same =
      let here = right (is_live s t.entity) (passes (λ x. isa s.schema t.entity.ty x.owner && can_hold s x.kind t.value) (attribute s.schema t.attribute)) h in
      let at : passes (λ x. isa s.schema t.entity.ty x.owner && can_hold s x.kind t.value) (Some a) ≡ true =
      subst (λ o. passes (λ x. isa s.schema t.entity.ty x.owner && can_hold s x.kind t.value) o ≡ true) found
      (subst (λ z. passes (λ x. isa s.schema t.entity.ty x.owner && can_hold s x.kind t.value) (attribute s.schema z) ≡ true) (number-is t.attribute a.number number) here) in
      held-short s a.kind v r long (subst (λ z. can_hold s a.kind z ≡ true) (same_value-is t.value v same) (right (isa s.schema t.entity.ty a.owner) (can_hold s a.kind t.value) at))

  -- so no entity has it
  pub held-nowhere : not_unique s a None v ≡ None
  held-nowhere =
      either a.unique (λ b. (if b then shared_with s.schema a (find (is_other None) (turned a.number v s.triples)) else None) ≡ None)
      (λ _. ap (shared_with s.schema a) nobody) (λ _. refl)
    where
      nobody : find (is_other None) (turned a.number v s.triples) ≡ None
      nobody =
          nothing-found (is_other None) (λ (t : Triple). t.entity) (λ (t : Triple). (t.attribute == a.number) && same_value t.value v) s.triples
          (all-weaken (is_sound s) (λ t. not ((t.attribute == a.number) && same_value t.value v) || false)
          (λ t h. ap (λ b. not b || false) (never ((t.attribute == a.number) && same_value t.value v) (λ k. stranger t h (left (t.attribute == a.number) (same_value t.value v) k) (right (t.attribute == a.number) (same_value t.value v) k))))
          s.triples n.sound)

  -- and where it is taken out of a set the state stays
  pub taken-nothing : (e : EntityId) → s ≡ member_taken s a.number e v
  taken-nothing e = ap (λ ts. record s { triples = ts }) (sym (kept s.triples n.sound))
    where
      apart : (t : Triple) → is_sound s t ≡ true → same_triple (record { attribute = a.number; entity = e; value = v }) t ≡ false
      apart t h = never (same_triple (record { attribute = a.number; entity = e; value = v }) t) (λ k.
          let number = left (a.number == t.attribute) (same_entity e t.entity && same_value v t.value) k in
          let same = right (same_entity e t.entity) (same_value v t.value) (right (a.number == t.attribute) (same_entity e t.entity && same_value v t.value) k) in
          stranger t h (subst (λ z. (z == a.number) ≡ true) (number-is a.number t.attribute number) (number-itself a.number))
          (subst (λ z. same_value z v ≡ true) (same_value-is v t.value same) (same_value-itself v)))

      kept : (ts : List Triple) → list_all (is_sound s) ts ≡ true → filter (λ other. not (same_triple (record { attribute = a.number; entity = e; value = v }) other)) ts ≡ ts
      kept [] h = refl
      kept (t ∷ ts) h =
          let others = filter (λ other. not (same_triple (record { attribute = a.number; entity = e; value = v }) other)) ts in
          ap (λ b. cond (not b) (t ∷ others) others) (apart t (left (is_sound s t) (list_all (is_sound s) ts) h))
          ∙ ap (λ xs. t ∷ xs) (kept ts (right (is_sound s t) (list_all (is_sound s) ts) h))
