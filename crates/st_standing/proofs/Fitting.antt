-- The values and entities of a state fit: those of its triples, its pairs, and the cells of its entities.
use Rattle.std.proofs.Common.{◌≡◌, ℕ, pos, Bool, true, false, List, [], ◌∷◌, ◌++◌, get_or, Option, Some, None, refl, sym, ap, subst, ◌∙◌, true≢false}
use Rattle.std.specs.Prelude.{◌==◌, ◌&&◌, ◌||◌, cond, not, map, filter, find, flat_map}
use Rattle.std.specs.List.{All, list_all, list_any}
use Rattle.std.proofs.lemmas.List.Elements.{All-cons, All-filter, All-head, All-nil, All-tail, filter_passes}
use Rattle.st_values.specs.declared.value.EntityId.{EntityId}
use Rattle.st_values.specs.declared.value.Kind.{Kind}
use Rattle.st_values.specs.declared.value.Kind.TheVariants as kind
use Rattle.st_values.specs.declared.value.Value.{Value}
use Rattle.st_values.specs.declared.value.Value.TheVariants.{Null, Int, Bool as Truth, Text, Entity}
use Rattle.st_values.specs.Arranged.{each_pair}
use Rattle.st_values.specs.Order.{same_entity}
use Rattle.st_values.proofs.Entities.{same_entity-is}
use Rattle.st_values.proofs.Tests.{all-weaken, either, left, never, not-true, right}
use Rattle.st_lattice.specs.declared.attribute.Attribute.{Attribute}
use Rattle.st_lattice.specs.Lattice.{attributes_in, isa}
use Rattle.st_lattice.specs.Outline.{attribute}
use Rattle.st_lattice.specs.Stores.{passes}
use Rattle.st_keys.specs.Keys.{Fits, IsEntity}
use Rattle.st_rows.specs.declared.field.Field.TheVariants.{Cell}
use Rattle.st_rows.specs.Rows.{AreHeld, HoldsInCell, cell_of, row_fields}
use Rattle.st_state.specs.declared.triple.Triple.{Triple}
use Rattle.st_state.specs.State.{State, is_at, is_live, value_at, value_in}
use Rattle.st_state.specs.Legal.{can_hold, is_sound, IsNearlyLegal}
use Rattle.st_state.specs.Rows.{entity_row}
use Rattle.st_state.proofs.Changed.{number-is, number-itself, other_number}
use Rattle.st_state.proofs.Kept.{passes-weaken}
use Rattle.st_state.proofs.Members.{find-passes, some-is}
use Rattle.st_state.proofs.Set.{null}
use Rattle.st_index.specs.Turned.{IsOrNull}
use Rattle.st_standing.specs.Standing.{FitsOne, IsOfProgram}

-- ---- what holds of all

module _ {X : Type 0} (P : X → Type 0) where
  pub found-holds : (p : X → Bool) (xs : List X) (x : X) → All P xs → find p xs ≡ Some x → P x
  found-holds p [] x all e = absurd (none x e)
    where
      none : (y : X) → None ≡ Some y → ⊥
      none y k = cc
  found-holds p (y ∷ ys) x all e =
      either (p y) (λ b. cond b (Some y) (find p ys) ≡ Some x → P x)
      (λ _ k. subst P (some-is y x k) (All-head P y ys all)) (λ _ k. found-holds p ys x (All-tail P y ys all) k) e

  -- what is kept has what is so of each that passes
  pub kept-holds : (p : X → Bool) (xs : List X) → All (λ x. p x ≡ true → P x) xs → All P (filter p xs)
  kept-holds p xs all k d l = All-filter p (λ x. p x ≡ true → P x) xs all k d l (filter_passes p xs k d l)

pub all-passed : {X : Type 0} (p : X → Bool) (xs : List X) → list_all p xs ≡ true → All (λ x. p x ≡ true) xs
all-passed p [] h = All-nil (λ x. p x ≡ true)
all-passed p (x ∷ xs) h = All-cons (λ y. p y ≡ true) x xs (left (p x) (list_all p xs) h) (all-passed p xs (right (p x) (list_all p xs) h))

-- an entity among others is as they are
pub among-holds : (P : EntityId → Type 0) (e : EntityId) (xs : List EntityId) → All P xs → list_any (same_entity e) xs ≡ true → P e
among-holds P e [] all h = absurd (true≢false (sym h))
among-holds P e (x ∷ xs) all h =
    either (same_entity e x) (λ b. (b || list_any (same_entity e) xs) ≡ true → P e)
    (λ k _. subst P (sym (same_entity-is e x k)) (All-head P x xs all)) (λ _ m. among-holds P e xs (All-tail P x xs all) m) h

-- where numbers differ, each attribute is found by its own
pub each-found : (xs : List Attribute) → each_pair other_number xs ≡ true → All (λ a. find (λ x. x.number == a.number) xs ≡ Some a) xs
each-found [] h = All-nil (λ a. find (λ x. x.number == a.number) [] ≡ Some a)
each-found (x ∷ xs) h =
    All-cons (λ a. find (λ y. y.number == a.number) (x ∷ xs) ≡ Some a) x xs (ap (λ b. cond b (Some x) (find (λ y. y.number == x.number) xs)) (number-itself x.number))
    (λ k d l.
    ap (λ b. cond b (Some x) (find (λ y. y.number == (get_or xs k d).number) xs))
    (apart (get_or xs k d) (all-passed (other_number x) xs (left (list_all (other_number x) xs) (each_pair other_number xs) h) k d l))
    ∙ each-found xs (right (list_all (other_number x) xs) (each_pair other_number xs) h) k d l)
  where
    apart : (a : Attribute) → not (a.number == x.number) ≡ true → (x.number == a.number) ≡ false
    apart a m =
        never (x.number == a.number) (λ k.
        true≢false (sym (subst (λ n. (n == x.number) ≡ true) (number-is x.number a.number k) (number-itself x.number)) ∙ not-true (a.number == x.number) m))

-- ---- values

pub null-is : (v : Value) → null v ≡ true → v ≡ Null
null-is Null h = refl
null-is (Int i) h = absurd (true≢false (sym h))
null-is (Truth b) h = absurd (true≢false (sym h))
null-is (Text t) h = absurd (true≢false (sym h))
null-is (Entity x) h = absurd (true≢false (sym h))

pub or-null : (k : Kind) (v : Value) → Fits k v → IsOrNull k v
or-null k Null fits = tt
or-null k (Int i) fits = fits
or-null k (Truth b) fits = fits
or-null k (Text t) fits = fits
or-null k (Entity x) fits = fits

in-cell : (k : Kind) (v : Value) → IsOrNull k v → HoldsInCell k v
in-cell k Null fits = tt
in-cell k (Int i) fits = fits
in-cell k (Truth b) fits = fits
in-cell k (Text t) fits = fits
in-cell k (Entity x) fits = fits

-- null fits no kind
pub not-null : (k : Kind) (v : Value) → Fits k v → null v ≡ false
not-null kind.Int Null fits = absurd fits
not-null kind.Bool Null fits = absurd fits
not-null (kind.Text limit) Null fits = absurd fits
not-null (kind.Entity ty) Null fits = absurd fits
not-null k (Int i) fits = refl
not-null k (Truth b) fits = refl
not-null k (Text t) fits = refl
not-null k (Entity x) fits = refl

-- ---- a state

module _ (s : State) (legal : IsNearlyLegal s) where
  abbrev attribute_right : Triple → Attribute → Bool
  attribute_right t b = isa s.schema t.entity.ty b.owner && can_hold s b.kind t.value

  -- no triple has null
  pub no-null : (t : Triple) → is_sound s t ≡ true → null t.value ≡ false
  no-null t h =
      never (null t.value) (λ m. true≢false
      (none (attribute s.schema t.attribute)
      (passes-weaken (attribute_right t) (λ b. false) (attribute s.schema t.attribute)
      (λ b k. sym (holds-null b.kind) ∙ ap (can_hold s b.kind) (sym (null-is t.value m)) ∙ right (isa s.schema t.entity.ty b.owner) (can_hold s b.kind t.value) k)
      (right (is_live s t.entity) (passes (attribute_right t) (attribute s.schema t.attribute)) h))))
    where
      holds-null : (k : Kind) → can_hold s k Null ≡ false
      holds-null kind.Int = refl
      holds-null kind.Bool = refl
      holds-null (kind.Text limit) = refl
      holds-null (kind.Entity ty) = refl

      none : (o : Option Attribute) → passes (λ b. false) o ≡ true → true ≡ false
      none None k = sym k
      none (Some b) k = sym k

  pub filled : list_all (λ t. not (null t.value)) s.triples ≡ true
  filled = all-weaken (is_sound s) (λ t. not (null t.value)) (λ t h. ap not (no-null t h)) s.triples legal.sound

  module _ (program : IsOfProgram s) where
    sound-entity : (t : Triple) → is_sound s t ≡ true → IsEntity t.entity
    sound-entity t h = among-holds IsEntity t.entity s.live program.entities (left (is_live s t.entity) (passes (attribute_right t) (attribute s.schema t.attribute)) h)

    module _ (n : ℕ) (a : Attribute) (f : attribute s.schema n ≡ Some a) where
      value-fits : (t : Triple) → FitsOne s.schema t → (t.attribute == n) ≡ true → Fits a.kind t.value
      value-fits t fits m = fits a (ap (attribute s.schema) (number-is t.attribute n m) ∙ f)

      -- the triples of an attribute have values that fit its kind, and entities
      pub triples-fit : All (λ t. (t.attribute == n) ≡ true → Fits a.kind t.value × IsEntity t.entity) s.triples
      triples-fit k d l m = (value-fits (get_or s.triples k d) (program.values k d l) m, sound-entity (get_or s.triples k d) (all-passed (is_sound s) s.triples legal.sound k d l))

      -- an entity's single value fits, if it isn't null
      pub value-at-fits : (e : EntityId) → IsOrNull a.kind (value_at n e s.triples)
      value-at-fits e = by (find (is_at n e) s.triples) refl
        where
          by : (o : Option Triple) → find (is_at n e) s.triples ≡ o → IsOrNull a.kind (value_in o)
          by None h = tt
          by (Some t) h =
              or-null a.kind t.value
              (found-holds (λ u. (u.attribute == n) ≡ true → Fits a.kind u.value) (is_at n e) s.triples t (λ k d l m. (triples-fit k d l m).0) h
              (left (t.attribute == n) (same_entity t.entity e) (find-passes (is_at n e) t s.triples h)))

    -- ---- the row of an entity

    cells-held : (e : EntityId) (xs : List Attribute) → All (λ a. HoldsInCell a.kind (value_at a.number e s.triples)) xs
        → AreHeld (flat_map cell_of xs) (map (λ a. value_at a.number e s.triples) (filter (λ a. not a.many && not a.column) xs))
    cells-held e [] all = tt
    cells-held e (a ∷ xs) all =
        let later = cells-held e xs (All-tail (λ b. HoldsInCell b.kind (value_at b.number e s.triples)) a xs all) in
        either a.many (λ m. held m a.column)
        (λ _. later) (λ _. either a.column (λ c. held false c) (λ _. later) (λ _. (All-head (λ b. HoldsInCell b.kind (value_at b.number e s.triples)) a xs all, later)))
      where
        held : Bool → Bool → Type 0
        held m c =
            AreHeld (cond (m || c) [] (Cell a.kind ∷ []) ++ flat_map cell_of xs)
            (map (λ b. value_at b.number e s.triples) (cond (not m && not c) (a ∷ filter (λ b. not b.many && not b.column) xs) (filter (λ b. not b.many && not b.column) xs)))

    pub row-held : (e : EntityId) → IsEntity e → AreHeld (row_fields s.schema e.ty) (Int (pos e.serial) ∷ (entity_row s e).cells)
    row-held e entity = (
      (entity.0, entity.1),
      cells-held e (attributes_in s.schema e.ty)
          (All-filter (λ a. isa s.schema e.ty a.owner) (λ a. HoldsInCell a.kind (value_at a.number e s.triples)) s.schema.attributes
          (λ k d l.
          let a = get_or s.schema.attributes k d in
          in-cell a.kind (value_at a.number e s.triples) (value-at-fits a.number a (each-found s.schema.attributes legal.consistent.numbers k d l) e))),
    )
