-- Rule 6: which attributes may have an entity as a value, and where those that have it are found.
use Rattle.std.proofs.Common.{◌≡◌, ℕ, suc, ◌+◌, ◌<◌, length, get_or, drop, add-one, drop-cons, Bool, true, false, List, [], ◌∷◌, Option, Some, None, Result, Ok, Err, IsTrue, refl, sym, ap, subst, ◌∙◌, true≢false}
use Rattle.std.specs.Prelude.{◌==◌, ◌&&◌, ◌||◌, ◌++◌, nat_lt, find, map, is_some, if◌then◌else◌}
use Rattle.std.specs.List.{All}
use Rattle.std.specs.Result.{IsErr, IsErrAnd}
use Rattle.std.proofs.lemmas.List.Sorted.{All-permutation}
use Rattle.st_values.specs.declared.value.EntityId.{EntityId}
use Rattle.st_values.specs.declared.value.Kind.{Kind}
use Rattle.st_values.specs.declared.value.Kind.TheVariants as kind
use Rattle.st_values.specs.declared.value.Value.{Value}
use Rattle.st_values.specs.declared.value.Value.TheVariants.{Entity}
use Rattle.st_values.specs.Order.{same_value}
use Rattle.st_values.proofs.Entities.{same_value-is}
use Rattle.st_values.proofs.Placing.{arranged-permutation}
use Rattle.st_values.proofs.Tests.{both, either, left, never, right}
use Rattle.st_page.specs.declared.fault.PageFault.{PageFault}
use Rattle.st_lattice.specs.declared.attribute.Attribute.{Attribute}
use Rattle.st_lattice.specs.Outline.{Outline, attribute}
use Rattle.st_lattice.specs.Lattice.{by_number, isa}
use Rattle.st_lattice.specs.Stores.{cell, deleted, index_of, inverse_of, passes, whole}
use Rattle.st_store.specs.Stores.{among}
use Rattle.st_store.proofs.Ordering.{filter-none}
use Rattle.st_state.specs.declared.refusal.Refusal.{Refusal}
use Rattle.st_state.specs.declared.triple.Triple.{Triple}
use Rattle.st_state.specs.Refusals.{first_of}
use Rattle.st_state.specs.State.{State, is_live, turned}
use Rattle.st_state.specs.Bases.{is_other, needed, needed_by}
use Rattle.st_state.specs.Calls.{CanHold, found_in, stores_by}
use Rattle.st_state.specs.Legal.{IsNearlyLegal, can_hold, is_sound}
use Rattle.st_state.proofs.Changed.{number-is}
use Rattle.st_state.proofs.Members.{find-member}
use Rattle.st_database.proofs.Touching.{AreAmong, among-first, among-second}
use Rattle.st_standing.proofs.Fitting.{each-found}
use Rattle.st_removals.proofs.Among.{can-hold-may, referring-among}
use Rattle.st_deletes.specs.Needs.{names_type}

-- where those that have a value are found, all changes with the attribute's value
found-whole : (schema : Outline) (a : Attribute) → AreAmong (found_in schema a) (whole schema a)
found-whole schema a n h =
    either (is_some a.inverse) (λ b. IsTrue (among-in (if b then inverse_of a else if a.index || a.unique then index_of a else cell schema a))
    → IsTrue (among-in (whole schema a)))
    (λ _ k. among-second (cell schema a ++ index_of a) (inverse_of a) n k)
    (λ _. either (a.index || a.unique) (λ b. IsTrue (among-in (if b then index_of a else cell schema a)) → IsTrue (among-in (whole schema a)))
    (λ _ k. among-first (cell schema a ++ index_of a) (inverse_of a) n (among-second (cell schema a) (index_of a) n k))
    (λ _ k. among-first (cell schema a ++ index_of a) (inverse_of a) n (among-first (cell schema a) (index_of a) n k))) h
  where
    among-in : List ℕ → Bool
    among-in stores = among stores n

module _ (s : State) (legal : IsNearlyLegal s) (e : EntityId) where
  -- a kind can hold an entity that is live where it names its type
  can-name : (k : Kind) → can_hold s k (Entity e) ≡ true → names_type s.schema e.ty k ≡ true
  can-name kind.Int h = absurd (true≢false (sym h))
  can-name kind.Bool h = absurd (true≢false (sym h))
  can-name (kind.Text limit) h = absurd (true≢false (sym h))
  can-name (kind.Entity ty) h = left (isa s.schema e.ty ty) (is_live s e) h

  name-can : is_live s e ≡ true → (k : Kind) → names_type s.schema e.ty k ≡ true → can_hold s k (Entity e) ≡ true
  name-can live kind.Int h = absurd (true≢false (sym h))
  name-can live kind.Bool h = absurd (true≢false (sym h))
  name-can live (kind.Text limit) h = absurd (true≢false (sym h))
  name-can live (kind.Entity ty) h = both (isa s.schema e.ty ty) (is_live s e) h live

  module _ (a : Attribute) (f : attribute s.schema a.number ≡ Some a) where
    -- nothing refers to it by an attribute that doesn't
    has-not : names_type s.schema e.ty a.kind ≡ false → (t : Triple) → is_sound s t ≡ true → ((t.attribute == a.number) && same_value t.value (Entity e)) ≡ false
    has-not off t sound =
        never ((t.attribute == a.number) && same_value t.value (Entity e)) (λ h.
        let at = number-is t.attribute a.number (left (t.attribute == a.number) (same_value t.value (Entity e)) h) in
        let is = same_value-is t.value (Entity e) (right (t.attribute == a.number) (same_value t.value (Entity e)) h) in
        let fits = right (is_live s t.entity) (passes (λ b. isa s.schema t.entity.ty b.owner && can_hold s b.kind t.value) (attribute s.schema t.attribute)) sound in
        let here : (isa s.schema t.entity.ty a.owner && can_hold s a.kind t.value) ≡ true =
        sym (ap (passes (λ b. isa s.schema t.entity.ty b.owner && can_hold s b.kind t.value)) (ap (attribute s.schema) at ∙ f)) ∙ fits in
        true≢false (sym (can-name a.kind (subst (λ (v : Value). can_hold s a.kind v ≡ true) is (right (isa s.schema t.entity.ty a.owner) (can_hold s a.kind t.value) here))) ∙ off))

    none-turned : names_type s.schema e.ty a.kind ≡ false → turned a.number (Entity e) s.triples ≡ []
    none-turned off =
        ap (map (λ (t : Triple). t.entity))
        (filter-none (λ t. (t.attribute == a.number) && same_value t.value (Entity e)) (is_sound s) (has-not off) s.triples legal.sound)

    -- no other one needs it by an attribute that admits null, or that doesn't name its type
    pub needed-not : a.no_nulls ≡ false → needed s e a ≡ None
    needed-not off = ap (λ (b : Bool). if b then needed_by s.schema a (find (is_other (Some e)) (turned a.number (Entity e) s.triples)) else None) off

    pub needed-nothing : names_type s.schema e.ty a.kind ≡ false → needed s e a ≡ None
    needed-nothing off =
        ap (λ (es : List EntityId). if a.no_nulls then needed_by s.schema a (find (is_other (Some e)) es) else None) (none-turned off)
        ∙ either a.no_nulls (λ b. (if b then needed_by s.schema a None else None) ≡ None) (λ _. refl) (λ _. refl)

    pub needed-found : (schema : Outline) (other : Option EntityId) → s.schema ≡ schema → a.no_nulls ≡ true → other ≡ find (is_other (Some e)) (turned a.number (Entity e) s.triples) → needed_by schema a other ≡ needed s e a
    needed-found schema other same on is =
        ap (needed_by schema a) is ∙ ap (λ (o : Outline). needed_by o a (find (is_other (Some e)) (turned a.number (Entity e) s.triples))) (sym same)
        ∙ sym (ap (λ (b : Bool). if b then needed_by s.schema a (find (is_other (Some e)) (turned a.number (Entity e) s.triples)) else None) on)

    module _ (live : is_live s e ≡ true) (names : names_type s.schema e.ty a.kind ≡ true) where
      pub can-have : CanHold s a.number (Entity e)
      can-have = ap (passes (λ b. can_hold s b.kind (Entity e))) f ∙ name-can live a.kind names

      -- where those that have it are found, a deletion may ask
      found-here : AreAmong (stores_by (found_in s.schema) (attribute s.schema a.number)) (deleted s.schema e.ty)
      found-here =
          subst (λ (o : Option Attribute). AreAmong (stores_by (found_in s.schema) o) (deleted s.schema e.ty)) (sym f)
          (λ n h. referring-among s.schema e.ty a (find-member (λ b. b.number == a.number) a s.schema.attributes f) (can-hold-may s a e legal (name-can live a.kind names)) n (found-whole s.schema a n h))

      pub found-deleted : (schema : Outline) → s.schema ≡ schema → AreAmong (stores_by (found_in schema) (attribute schema a.number)) (deleted schema e.ty)
      found-deleted schema same = subst (λ (o : Outline). AreAmong (stores_by (found_in o) (attribute o a.number)) (deleted o e.ty)) same found-here

-- ---- the first refusal of several

pub first-some : (o : Option Refusal) (os : List (Option Refusal)) → is_some o ≡ true → first_of (o ∷ os) ≡ o
first-some None os h = absurd (true≢false (sym h))
first-some (Some r) os h = refl

pub first-none : (o : Option Refusal) (os : List (Option Refusal)) → is_some o ≡ false → first_of (o ∷ os) ≡ first_of os
first-none None os h = refl
first-none (Some r) os h = absurd (true≢false h)

-- that of the attributes from one on
pub first-from : (s : State) (e : EntityId) (xs : List Attribute) (i : ℕ) (a : Attribute) → i < length xs → a ≡ get_or xs i a → first_of (map (needed s e) (drop i xs)) ≡ first_of (needed s e a ∷ map (needed s e) (drop (i + 1) xs))
first-from s e xs i a less is =
    ap (λ (l : List Attribute). first_of (map (needed s e) l)) (drop-cons xs i a less)
    ∙ ap (λ (x : Attribute). first_of (needed s e x ∷ map (needed s e) (drop (suc i) xs))) (sym is) ∙ ap (λ (n : ℕ). first_of (needed s e a ∷ map (needed s e) (drop n xs))) (sym (add-one i))

-- each attribute is found by its number, in whatever order
pub each-numbered : (s : State) → IsNearlyLegal s → All (λ a. attribute s.schema a.number ≡ Some a) (by_number s.schema)
each-numbered s legal =
    All-permutation (λ a. attribute s.schema a.number ≡ Some a) s.schema.attributes (by_number s.schema)
    (arranged-permutation (λ a b. nat_lt a.number b.number) s.schema.attributes) (each-found s.schema.attributes legal.consistent.numbers)

-- a fault that is handed on is the answer
pub handed : {A : Type 0} (P : Result A PageFault → Type 0) (e : PageFault) (r : Result A PageFault) → IsErr r × IsErrAnd r (λ x. x ≡ e) → P (Err e) → P r
handed P e (Ok y) h p = absurd (true≢false (sym h.0))
handed P e (Err x) h p = subst (λ (z : PageFault). P (Err z)) (sym h.1) p
