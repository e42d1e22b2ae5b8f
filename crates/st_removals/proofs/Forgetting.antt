-- A value that speaks of an entity and is taken out of a set, as a step of the entity's deletion.
use Rattle.std.proofs.Common.{◌≡◌, ℕ, ◌+◌, ◌*◌, ◌≤◌, Bool, true, List, Option, Some, None, Result, Ok, Err, refl, sym, ap, ◌∙◌, subst, arith, true≢false, if◌then◌else◌}
use Rattle.std.specs.Prelude.{◌&&◌}
use Rattle.st_values.specs.declared.value.EntityId.{EntityId}
use Rattle.st_values.specs.declared.value.Value.{Value}
use Rattle.st_values.proofs.Tests.{either, right}
use Rattle.st_page.specs.declared.fault.PageFault.{PageFault}
use Rattle.st_lattice.specs.declared.attribute.Attribute.{Attribute}
use Rattle.st_lattice.specs.Lattice.{isa}
use Rattle.st_lattice.specs.Outline.{attribute}
use Rattle.st_lattice.specs.Stores.{deleted, passes}
use Rattle.st_pages.specs.declared.places.Place.{Place}
use Rattle.st_pages.specs.Attempt.{Array, Attempt}
use Rattle.st_index.proofs.Called.{PageLaws}
use Rattle.st_database.proofs.Touching.{touches-more}
use Rattle.st_state.specs.State.{State, has_value, member_taken, speaks_of}
use Rattle.st_state.specs.Legal.{IsNearlyLegal}
use Rattle.st_state.specs.Calls.{Admits, Take, changed_stores}
use Rattle.st_state.proofs.Members.{some-is}
use Rattle.st_counts.specs.Counts.{turned_count}
use Rattle.st_edits.specs.Steps.{Takes}
use Rattle.st_removals.specs.Clears.{Clears, tally}
use Rattle.st_removals.proofs.Among.{changed-among}
use Rattle.st_removals.proofs.Counted.{taken-counted, taken-no-more}
use Rattle.st_removals.proofs.Fewer.{less-taken}

module _ {Self : Type 0} (attempt : Self → Attempt) (follows : Self → Self → Type 0) (asked : Self → Self → (ℕ → Bool) → (ℕ → Bool) → ℕ → Type 0) (page_laws : PageLaws attempt follows asked)
    (form : Place → Array → List ℕ → List (List ℕ) → Type 0) (x z : Self) (array : Array) (places : List Place) (s : State) (legal : IsNearlyLegal s) (h : EntityId) (number : ℕ) (v : Value) (admits : Admits s (Take h number v)) (e : EntityId)
    (speaks : speaks_of e (record { attribute = number; entity = h; value = v }) ≡ true) where
  abbrev taken : State
  taken = member_taken s number h v

  -- how many rows the value has
  abbrev rows_of : Attribute → ℕ
  rows_of a = if has_value s number h v then 1 + turned_count a else 0

  enough : (a b : Attribute) → attribute s.schema number ≡ Some a → attribute s.schema number ≡ Some b → has_value s number h v ≡ true → 1 + turned_count b ≤ rows_of a
  enough a b f g has =
      subst (λ (c : Attribute). 1 + turned_count c ≤ rows_of a) (some-is a b (sym f ∙ g))
      (subst (λ (c : Bool). 1 + turned_count a ≤ (if c then 1 + turned_count a else 0)) (sym has) (omega arith))

  falls : (a : Attribute) → attribute s.schema number ≡ Some a → a.many ≡ true → rows_of a + tally taken e ≤ tally s e
  falls a f many =
      either (has_value s number h v) (λ c. has_value s number h v ≡ c → (if c then 1 + turned_count a else 0) + tally taken e ≤ tally s e)
      (λ _ has. taken-counted s legal number h v a f many e speaks has) (λ _ _. let less = taken-no-more s legal number h v a f many e in omega (arith, less)) refl

  is-set : (a : Attribute) → attribute s.schema number ≡ Some a → a.many ≡ true
  is-set a f = right (isa s.schema h.ty a.owner) a.many (sym (ap (passes (λ b. isa s.schema h.ty b.owner && b.many)) f) ∙ admits.0.many)

  abbrev Taking : Result Bool PageFault → Type 0
  Taking result = (most : ℕ) → ((a : Attribute) → attribute s.schema number ≡ Some a → has_value s number h v ≡ true → 1 + turned_count a ≤ most) → Takes form (asked x z) (attempt x) (attempt z) array places s h number v most result

  abbrev Forgets : Result Unit PageFault → Type 0
  Forgets result = Clears form (asked x z) (attempt x) (attempt z) array places e s (λ t. t ≡ member_taken s number h v) result

  -- the attribute is there
  with-attribute : (X : Type 0) → ((a : Attribute) → attribute s.schema number ≡ Some a → X) → X
  with-attribute X found = by (attribute s.schema number) refl
    where
      by : (o : Option Attribute) → attribute s.schema number ≡ o → X
      by None f = absurd (true≢false (sym admits.0.many ∙ ap (passes (λ b. isa s.schema h.ty b.owner && b.many)) f))
      by (Some a) f = found a f

  pub forgets-done : (was : Bool) (done : Unit) → Taking (Ok was) → Forgets (Ok done)
  forgets-done was done takes = with-attribute (Forgets (Ok done)) (λ a f.
      let t = takes (rows_of a) (λ b g has. enough a b f g has) in
      let less = falls a f (is-set a f) in
      record {
        spent = rows_of a;
        within = omega (arith, less);
        touches = touches-more attempt follows asked page_laws x z array (changed_stores s.schema h number) (deleted s.schema e.ty) true true 0 0 (34 * rows_of a) (34 * rows_of a)
            (changed-among s h number v e legal admits speaks) (λ w. w) (omega arith) (omega arith) t.touches;
        sound = tt;
        answers = (taken, less-taken e s number h v speaks, t.answers.1, less, refl);
      })

  pub forgets-fault : (fault : PageFault) → Taking (Err fault) → Forgets (Err fault)
  forgets-fault fault takes = with-attribute (Forgets (Err fault)) (λ a f.
      let t = takes (rows_of a) (λ b g has. enough a b f g has) in
      let less = falls a f (is-set a f) in
      record {
        spent = rows_of a;
        within = omega (arith, less);
        touches = touches-more attempt follows asked page_laws x z array (changed_stores s.schema h number) (deleted s.schema e.ty) true true 0 0 (34 * rows_of a) (34 * rows_of a)
            (changed-among s h number v e legal admits speaks) (λ w. w) (omega arith) (omega arith) t.touches;
        sound = t.sound;
        answers = tt;
      })
