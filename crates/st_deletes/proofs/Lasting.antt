-- What holds of a state, and of one in which fewer triples speak of an entity.
use Rattle.std.proofs.Common.{◌≡◌, ℕ, true, get_or, List, Some, refl, sym, ap, ◌∙◌, true≢false}
use Rattle.std.specs.Prelude.{◌&&◌}
use Rattle.std.specs.List.{All, list_any}
use Rattle.std.proofs.lemmas.List.Elements.{All-weaker}
use Rattle.st_values.specs.declared.value.EntityId.{EntityId}
use Rattle.st_values.specs.declared.value.Kind.{Kind}
use Rattle.st_values.specs.declared.value.Kind.TheVariants as kind
use Rattle.st_values.specs.declared.value.Value.{Value}
use Rattle.st_values.specs.declared.value.Value.TheVariants.{Int, Null, Bool as Truth, Text, Entity}
use Rattle.st_values.specs.Order.{same_entity}
use Rattle.st_values.proofs.Tests.{both, left, right}
use Rattle.st_lattice.specs.declared.attribute.Attribute.{Attribute}
use Rattle.st_lattice.specs.Lattice.{isa}
use Rattle.st_lattice.specs.Outline.{Outline, attribute}
use Rattle.st_lattice.specs.Stores.{passes}
use Rattle.st_state.specs.State.{State, is_live}
use Rattle.st_state.specs.Legal.{can_hold}
use Rattle.st_state.specs.Calls.{CanHold, HasSet}
use Rattle.st_state.proofs.Kept.{passes-weaken}
use Rattle.st_removals.specs.Clears.{IsLess}
use Rattle.st_deletes.specs.Cleared.{AreCleared, AreUnheld, AreWithout, IsHolder, is_cleared, is_unheld, is_without}
use Rattle.st_deletes.specs.Needs.{names_type}

module _ (e : EntityId) (s t : State) (less : IsLess e s t) where
  pub live-stays : (x : EntityId) → is_live s x ≡ true → is_live t x ≡ true
  live-stays x h = ap (list_any (same_entity x)) less.live ∙ h

  pub number-stays : (n : ℕ) (a : Attribute) → attribute s.schema n ≡ Some a → attribute t.schema n ≡ Some a
  number-stays n a h = ap (λ (o : Outline). attribute o n) less.schema ∙ h

  pub numbers-stay : (xs : List Attribute) → All (λ a. attribute s.schema a.number ≡ Some a) xs → All (λ a. attribute t.schema a.number ≡ Some a) xs
  numbers-stay xs all k d l = number-stays _ _ (all k d l)

  pub holder-stays : (a : Attribute) (h : EntityId) → IsHolder s a h → IsHolder t a h
  holder-stays a h is = record { live = live-stays h is.live; owner = ap (λ (o : Outline). isa o h.ty a.owner) less.schema ∙ is.owner }

  pub holders-stay : (a : Attribute) (hs : List EntityId) → All (IsHolder s a) hs → All (IsHolder t a) hs
  holders-stay a hs all = All-weaker (IsHolder s a) (IsHolder t a) (holder-stays a) hs all

  held : (k : Kind) (v : Value) → can_hold s k v ≡ true → can_hold t k v ≡ true
  held kind.Int (Int n) h = refl
  held kind.Int Null h = absurd (true≢false (sym h))
  held kind.Int (Truth b) h = absurd (true≢false (sym h))
  held kind.Int (Text x) h = absurd (true≢false (sym h))
  held kind.Int (Entity x) h = absurd (true≢false (sym h))
  held kind.Bool (Truth b) h = refl
  held kind.Bool Null h = absurd (true≢false (sym h))
  held kind.Bool (Int n) h = absurd (true≢false (sym h))
  held kind.Bool (Text x) h = absurd (true≢false (sym h))
  held kind.Bool (Entity x) h = absurd (true≢false (sym h))
  held (kind.Text limit) (Text x) h = h
  held (kind.Text limit) Null h = absurd (true≢false (sym h))
  held (kind.Text limit) (Int n) h = absurd (true≢false (sym h))
  held (kind.Text limit) (Truth b) h = absurd (true≢false (sym h))
  held (kind.Text limit) (Entity x) h = absurd (true≢false (sym h))
  held (kind.Entity ty) (Entity x) h =
      both (isa t.schema x.ty ty) (is_live t x) (ap (λ (o : Outline). isa o x.ty ty) less.schema ∙ left (isa s.schema x.ty ty) (is_live s x) h) (live-stays x (right (isa s.schema x.ty ty) (is_live s x) h))
  held (kind.Entity ty) Null h = absurd (true≢false (sym h))
  held (kind.Entity ty) (Int n) h = absurd (true≢false (sym h))
  held (kind.Entity ty) (Truth b) h = absurd (true≢false (sym h))
  held (kind.Entity ty) (Text x) h = absurd (true≢false (sym h))

  pub hold-stays : (n : ℕ) (v : Value) → CanHold s n v → CanHold t n v
  hold-stays n v h =
      ap (λ (o : Outline). passes (λ a. can_hold t a.kind v) (attribute o n)) less.schema
      ∙ passes-weaken (λ a. can_hold s a.kind v) (λ a. can_hold t a.kind v) (attribute s.schema n) (λ a k. held a.kind v k) h

  pub holds-stay : (n : ℕ) (vs : List Value) → All (CanHold s n) vs → All (CanHold t n) vs
  holds-stay n vs all = All-weaker (CanHold s n) (CanHold t n) (hold-stays n) vs all

  pub set-stays : (x : EntityId) (n : ℕ) → HasSet s x n → HasSet t x n
  set-stays x n has = record {
    live = live-stays x has.live;
    many = ap (λ (o : Outline). passes (λ a. isa o x.ty a.owner && a.many) (attribute o n)) less.schema ∙ has.many;
  }

  pub names-stay : (k : Kind) → names_type s.schema e.ty k ≡ true → names_type t.schema e.ty k ≡ true
  names-stay k h = ap (λ (o : Outline). names_type o e.ty k) less.schema ∙ h

  -- what was taken out stays out
  pub unheld-stay : (n : ℕ) (x : EntityId) (hs : List EntityId) → AreUnheld n x hs s → AreUnheld n x hs t
  unheld-stay n x hs all k d l other = less.fewer (is_unheld n x _) (all k d l other)

  pub without-stay : (n : ℕ) (x : EntityId) (vs : List Value) → AreWithout n x vs s → AreWithout n x vs t
  without-stay n x vs all k d l = less.fewer (is_without n x _) (all k d l)

  pub cleared-stay : (x : EntityId) (xs : List Attribute) → AreCleared x xs s → AreCleared x xs t
  cleared-stay x xs all k d l = less.fewer (is_cleared (get_or xs k d) x) (all k d l)

-- an attribute whose values may be of an entity's type can hold it
pub can-name : (s : State) (e : EntityId) (k : Kind) → names_type s.schema e.ty k ≡ true → is_live s e ≡ true → can_hold s k (Entity e) ≡ true
can-name s e kind.Int h live = absurd (true≢false (sym h))
can-name s e kind.Bool h live = absurd (true≢false (sym h))
can-name s e (kind.Text limit) h live = absurd (true≢false (sym h))
can-name s e (kind.Entity ty) h live = both (isa s.schema e.ty ty) (is_live s e) h live

-- and one that holds it, may
pub names-held : (s : State) (e : EntityId) (k : Kind) → can_hold s k (Entity e) ≡ true → names_type s.schema e.ty k ≡ true
names-held s e kind.Int h = absurd (true≢false (sym h))
names-held s e kind.Bool h = absurd (true≢false (sym h))
names-held s e (kind.Text limit) h = absurd (true≢false (sym h))
names-held s e (kind.Entity ty) h = left (isa s.schema e.ty ty) (is_live s e) h

pub hold-named : (s : State) (e : EntityId) (n : ℕ) (a : Attribute) → attribute s.schema n ≡ Some a → names_type s.schema e.ty a.kind ≡ true → is_live s e ≡ true → CanHold s n (Entity e)
hold-named s e n a f h live = ap (passes (λ x. can_hold s x.kind (Entity e))) f ∙ can-name s e a.kind h live

pub set-of : (s : State) (e : EntityId) (n : ℕ) (a : Attribute) → attribute s.schema n ≡ Some a → is_live s e ≡ true → isa s.schema e.ty a.owner ≡ true → a.many ≡ true → HasSet s e n
set-of s e n a f live owner many = record {
  live = live;
  many = ap (passes (λ x. isa s.schema e.ty x.owner && x.many)) f ∙ both (isa s.schema e.ty a.owner) a.many owner many;
}
