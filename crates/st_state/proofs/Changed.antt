-- What a value put into an attribute, or taken out of a set, leaves of a legal state.
use Rattle.std.proofs.Common.{◌≡◌, ℕ, Bool, true, false, List, [], ◌∷◌, Option, Some, None, refl, sym, ap, subst, ◌∙◌, arith, true≢false}
use Rattle.std.specs.Prelude.{◌==◌, not, ◌&&◌, ◌||◌, cond, find, if◌then◌else◌}
use Rattle.std.specs.List.{list_all, list_any}
use Rattle.st_values.specs.declared.value.EntityId.{EntityId}
use Rattle.st_values.specs.declared.value.Value.{Value}
use Rattle.st_values.specs.Order.{same_value, same_entity}
use Rattle.st_values.specs.Arranged.{each_pair}
use Rattle.st_values.proofs.Placing.{differ, ascends-placed}
use Rattle.st_values.proofs.Entities.{same_entity-itself, same_value-is, same_value-itself}
use Rattle.st_values.proofs.Tests.{not-true, one-of, first-of, other-of, never, all-each, all-two, any-kept, any-placed, pairs-placed, none-found, both, left, right, either, all-weaken, all-filter, all-placed}
use Rattle.st_lattice.specs.declared.attribute.Attribute.{Attribute}
use Rattle.st_lattice.specs.Outline.{attribute}
use Rattle.st_lattice.specs.Lattice.{isa, attributes_in}
use Rattle.st_lattice.specs.Stores.{passes}
use Rattle.st_state.specs.declared.triple.Triple.{Triple}
use Rattle.st_state.specs.State.{State, is_live, triple_before, same_triple, with_triple, is_at, turned, triple_added, triple_taken, member_added, member_taken}
use Rattle.st_state.specs.Legal.{can_hold, is_sound, apart_at_entity, apart_in_value, is_filled, IsNearlyLegal, IsLegal}
use Rattle.st_state.proofs.Orders.{triple_before-strict}
use Rattle.st_state.proofs.Kept.{filter-nearly}

-- ---- attributes with one number

pub number-is : (x y : ℕ) → (x == y) ≡ true → x ≡ y
number-is x y h = grind (arith, h)

pub number-itself : (x : ℕ) → (x == x) ≡ true
number-itself x = grind arith

abbrev pub other_number : Attribute → Attribute → Bool
other_number a b = not (b.number == a.number)

-- where numbers differ, what the attribute with a number has, all attributes with that number have
pub found-only : (p : Attribute → Bool) (number : ℕ) (a : Attribute) (xs : List Attribute) → each_pair other_number xs ≡ true
    → find (λ x. x.number == number) xs ≡ Some a → p a ≡ true → list_all (λ b. not (b.number == number) || p b) xs ≡ true
found-only p number a [] e f h = refl
found-only p number a (x ∷ xs) e f h =
    either (x.number == number) (λ _. list_all (λ b. not (b.number == number) || p b) (x ∷ xs) ≡ true)
    (λ k.
    let same : Some x ≡ Some a = sym (ap (λ b. cond b (Some x) (find (λ y. y.number == number) xs)) k) ∙ f in
    let here : p x ≡ true = ap held same ∙ h in
    both (not (x.number == number) || p x) (list_all (λ b. not (b.number == number) || p b) xs) (one-of (not (x.number == number)) (p x) here)
    (all-weaken (other_number x) (λ b. not (b.number == number) || p b)
    (λ b m. first-of (not (b.number == number)) (p b) (subst (λ n. not (b.number == n) ≡ true) (number-is x.number number k) m)) xs
    (left (list_all (other_number x) xs) (each_pair other_number xs) e)))
    (λ k.
    both (not (x.number == number) || p x) (list_all (λ b. not (b.number == number) || p b) xs) (first-of (not (x.number == number)) (p x) (ap not k))
    (found-only p number a xs (right (list_all (other_number x) xs) (each_pair other_number xs) e)
    (sym (ap (λ b. cond b (Some x) (find (λ y. y.number == number) xs)) k) ∙ f) h))
  where
    held : Option Attribute → Bool
    held None = true
    held (Some b) = p b

module _ (s : State) (number : ℕ) (e : EntityId) (v : Value) where
  abbrev pub new : Triple
  new = record { attribute = number; entity = e; value = v }

  -- ---- a triple more

  -- a triple that goes well with others
  pub record GoesWell (ts : List Triple) : Type 0 where
    pub sound : is_sound s new ≡ true
    pub differs : list_all (differ triple_before new) ts ≡ true
    pub single : list_all (apart_at_entity s.schema new) ts ≡ true
    pub single_back : list_all (λ t. apart_at_entity s.schema t new) ts ≡ true
    pub unique : list_all (apart_in_value s.schema new) ts ≡ true
    pub unique_back : list_all (λ t. apart_in_value s.schema t new) ts ≡ true

  pub placed-nearly : (ts : List Triple) → IsNearlyLegal (record s { triples = ts }) → GoesWell ts → IsNearlyLegal (record s { triples = with_triple new ts })
  placed-nearly ts n w = record {
    orderly = n.orderly;
    consistent = n.consistent;
    counts = n.counts;
    live_ascends = n.live_ascends;
    triples_ascend = ascends-placed triple_before triple_before-strict new ts n.triples_ascend w.differs;
    counted = n.counted;
    sound = all-placed triple_before (is_sound s) new ts w.sound n.sound;
    single = pairs-placed triple_before (apart_at_entity s.schema) new ts n.single w.single w.single_back;
    unique = pairs-placed triple_before (apart_in_value s.schema) new ts n.unique w.unique w.unique_back;
  }

  -- another triple differs from the new one
  pub apart : (t : Triple) → (new ≡ t → ⊥) → differ triple_before new t ≡ true
  apart t h =
      either (triple_before new t) (λ b. (b || triple_before t new) ≡ true) (λ k. refl)
      (λ k. either (triple_before t new) (λ b. b ≡ true) (λ m. refl) (λ m. absurd (h (triple_before-strict.tie new t k m))))

  -- ---- an attribute found by its number

  module _ (a : Attribute) (f : attribute s.schema number ≡ Some a) where
    passes-found : (p : Attribute → Bool) → p a ≡ true → passes p (attribute s.schema number) ≡ true
    passes-found p h = ap (passes p) f ∙ h

    -- an attribute of the number, by any number that is the same
    passes-same : (p : Attribute → Bool) (other : ℕ) → (number == other) ≡ true → p a ≡ true → passes p (attribute s.schema other) ≡ true
    passes-same p other k h = subst (λ n. passes p (attribute s.schema n) ≡ true) (number-is number other k) (passes-found p h)

    pub sound-new : is_live s e ≡ true → isa s.schema e.ty a.owner ≡ true → can_hold s a.kind v ≡ true → is_sound s new ≡ true
    sound-new l o c =
        both (is_live s e) (passes (λ x. isa s.schema e.ty x.owner && can_hold s x.kind v) (attribute s.schema number)) l
        (passes-found (λ x. isa s.schema e.ty x.owner && can_hold s x.kind v) (both (isa s.schema e.ty a.owner) (can_hold s a.kind v) o c))

    -- nobody but the entity itself has the value, if the attribute is unique
    abbrev pub Alone : (EntityId → Bool) → Type 0
    Alone is_other = a.unique ≡ true → find is_other (turned number v s.triples) ≡ None

    -- each triple with the value is the entity's own, or the attribute isn't unique
    pub alone-all : (is_other : EntityId → Bool) → Alone is_other
        → list_all (λ t. not a.unique || (not ((t.attribute == number) && same_value t.value v) || not (is_other t.entity))) s.triples ≡ true
    alone-all is_other h =
        either a.unique (λ b. list_all (λ t. not b || (not ((t.attribute == number) && same_value t.value v) || not (is_other t.entity))) s.triples ≡ true)
        (λ k. none-found is_other (λ (t : Triple). t.entity) (λ (t : Triple). (t.attribute == number) && same_value t.value v) s.triples (h k))
        (λ k. all-each (λ t. true) s.triples (λ t. refl))

    -- what keeps a triple apart in its value from the new one
    abbrev pub Unlike : Triple → Type 0
    Unlike t = (not a.unique || not ((t.attribute == number) && same_value t.value v)) ≡ true

    pub unlike-new : (t : Triple) → Unlike t → apart_in_value s.schema new t ≡ true
    unlike-new t h =
        either a.unique (λ _. apart_in_value s.schema new t ≡ true)
        (λ k. one-of (passes (λ x. not x.unique) (attribute s.schema number)) (not ((t.attribute == number) && same_value t.value v))
        (other-of (not a.unique) (not ((t.attribute == number) && same_value t.value v)) h (ap not k)))
        (λ k. first-of (passes (λ x. not x.unique) (attribute s.schema number)) (not ((t.attribute == number) && same_value t.value v)) (passes-found (λ x. not x.unique) (ap not k)))

    pub unlike-back : (t : Triple) → Unlike t → apart_in_value s.schema t new ≡ true
    unlike-back t h =
        either ((number == t.attribute) && same_value v t.value) (λ b. (passes (λ x. not x.unique) (attribute s.schema t.attribute) || not b) ≡ true)
        (λ k.
        let same = left (number == t.attribute) (same_value v t.value) k in
        let back : ((t.attribute == number) && same_value t.value v) ≡ true =
        both (t.attribute == number) (same_value t.value v) (subst (λ n. (n == number) ≡ true) (number-is number t.attribute same) (number-itself number))
        (subst (λ w. same_value w v ≡ true) (same_value-is v t.value (right (number == t.attribute) (same_value v t.value) k)) (same_value-itself v)) in
        let plain : not a.unique ≡ true = either (not a.unique) (λ b. b ≡ true) (λ m. refl) (λ m. absurd (true≢false (sym (other-of (not a.unique) (not ((t.attribute == number) && same_value t.value v)) h m) ∙ ap not back))) in
        first-of (passes (λ x. not x.unique) (attribute s.schema t.attribute)) false (passes-same (λ x. not x.unique) t.attribute same plain))
        (λ k. one-of (passes (λ x. not x.unique) (attribute s.schema t.attribute)) true refl)

    -- ---- a value put into a set

    module _ (many : a.many ≡ true) where
      set-new : (t : Triple) → apart_at_entity s.schema new t ≡ true
      set-new t = first-of (passes (λ x. x.many) (attribute s.schema number)) (not (is_at number e t)) (passes-found (λ x. x.many) many)

      set-back : (t : Triple) → apart_at_entity s.schema t new ≡ true
      set-back t =
          either (is_at t.attribute t.entity new) (λ b. (passes (λ x. x.many) (attribute s.schema t.attribute) || not b) ≡ true)
          (λ k. first-of (passes (λ x. x.many) (attribute s.schema t.attribute)) false (passes-same (λ x. x.many) t.attribute (left (number == t.attribute) (same_entity e t.entity) k) many))
          (λ k. one-of (passes (λ x. x.many) (attribute s.schema t.attribute)) true refl)

      same_triple-itself : same_triple new new ≡ true
      same_triple-itself = both (number == number) (same_entity e e && same_value v v) (number-itself number) (both (same_entity e e) (same_value v v) (same_entity-itself e) (same_value-itself v))

      fresh-all : (ts : List Triple) → list_any (same_triple new) ts ≡ false → list_all (λ t. not (same_triple new t)) ts ≡ true
      fresh-all [] h = refl
      fresh-all (t ∷ ts) h =
          either (same_triple new t) (λ b. (b || list_any (same_triple new) ts) ≡ false → (not b && list_all (λ u. not (same_triple new u)) ts) ≡ true)
          (λ k m. absurd (true≢false m)) (λ k m. fresh-all ts m) h

      well-added : is_live s e ≡ true → isa s.schema e.ty a.owner ≡ true → can_hold s a.kind v ≡ true → Alone (λ other. true) → list_any (same_triple new) s.triples ≡ false → GoesWell s.triples
      well-added l o c u fresh =
          let none = all-weaken (λ t. not a.unique || (not ((t.attribute == number) && same_value t.value v) || false)) (λ t. not a.unique || not ((t.attribute == number) && same_value t.value v))
          (λ t h. ap (λ b. not a.unique || b) (sym (or-none (not ((t.attribute == number) && same_value t.value v)))) ∙ h) s.triples (alone-all (λ other. true) u) in
          record {
            sound = sound-new l o c;
            differs = all-weaken (λ t. not (same_triple new t)) (differ triple_before new)
                (λ t h. apart t (λ i. true≢false (sym h ∙ ap (λ z. not (same_triple new z)) (sym i) ∙ ap not same_triple-itself))) s.triples (fresh-all s.triples fresh);
            single = all-each (apart_at_entity s.schema new) s.triples set-new;
            single_back = all-each (λ t. apart_at_entity s.schema t new) s.triples set-back;
            unique = all-weaken _ (apart_in_value s.schema new) unlike-new s.triples none;
            unique_back = all-weaken _ (λ t. apart_in_value s.schema t new) unlike-back s.triples none;
          }
        where
          or-none : (b : Bool) → (b || false) ≡ b
          or-none true = refl
          or-none false = refl

      pub added-nearly : IsNearlyLegal s → is_live s e ≡ true → isa s.schema e.ty a.owner ≡ true → can_hold s a.kind v ≡ true → Alone (λ other. true) → IsNearlyLegal (member_added s number e v)
      added-nearly n l o c u = by (list_any (same_triple new) s.triples) refl
        where
          by : (b : Bool) → list_any (same_triple new) s.triples ≡ b → IsNearlyLegal (record s { triples = if b then s.triples else with_triple new s.triples })
          by true h = n
          by false h = placed-nearly s.triples n (well-added l o c u h)

      pub added-legal : IsLegal s → is_live s e ≡ true → isa s.schema e.ty a.owner ≡ true → can_hold s a.kind v ≡ true → Alone (λ other. true) → IsLegal (member_added s number e v)
      added-legal g l o c u = record {
        nearly = added-nearly g.nearly l o c u;
        filled = all-weaken (is_filled s) (is_filled (member_added s number e v))
            (λ x f. all-weaken (λ b. not b.no_nulls || list_any (is_at b.number x) s.triples) (λ b. not b.no_nulls || list_any (is_at b.number x) (triple_added new s.triples))
            (λ b m. more b.no_nulls (is_at b.number x) m) (attributes_in s.schema x.ty) f) s.live g.filled;
      }
        where
          more : (wanted : Bool) (p : Triple → Bool) → (not wanted || list_any p s.triples) ≡ true → (not wanted || list_any p (triple_added new s.triples)) ≡ true
          more false p m = refl
          more true p m = either (list_any (same_triple new) s.triples) (λ b. list_any p (if b then s.triples else with_triple new s.triples) ≡ true) (λ _. m)
              (λ _. any-placed triple_before p new s.triples (one-of (p new) (list_any p s.triples) m))

      -- ---- a value taken out of a set

      pub taken-legal : IsLegal s → IsLegal (member_taken s number e v)
      taken-legal g = record {
        nearly = filter-nearly s (λ t. not (same_triple new t)) g.nearly;
        filled = all-weaken (is_filled s) (is_filled (member_taken s number e v)) (λ x h. still x h) s.live g.filled;
      }
        where
          others : (x : EntityId) → list_all (λ b. not (b.number == number) || b.many) (attributes_in s.schema x.ty) ≡ true
          others x = all-filter (λ b. not (b.number == number) || b.many) (λ b. isa s.schema x.ty b.owner) s.schema.attributes
              (found-only (λ b. b.many) number a s.schema.attributes g.nearly.consistent.numbers f many)

          no_sets : (x : EntityId) → list_all (λ b. not (b.many && b.no_nulls)) (attributes_in s.schema x.ty) ≡ true
          no_sets x = all-filter (λ b. not (b.many && b.no_nulls)) (λ b. isa s.schema x.ty b.owner) s.schema.attributes g.nearly.consistent.sets

          single : (x : EntityId) → list_all (λ b. not b.no_nulls || not (b.number == number)) (attributes_in s.schema x.ty) ≡ true
          single x = all-two (λ b. not (b.number == number) || b.many) (λ b. not (b.many && b.no_nulls)) (λ b. not b.no_nulls || not (b.number == number)) (attributes_in s.schema x.ty)
              (λ b m n. by b.no_nulls (b.number == number) b.many m n) (others x) (no_sets x)
            where
              by : (no_nulls same m : Bool) → (not same || m) ≡ true → not (m && no_nulls) ≡ true → (not no_nulls || not same) ≡ true
              by false same m h k = refl
              by true false m h k = refl
              by true true false h k = h
              by true true true h k = k

          keeps : (x : EntityId) (b : Attribute) → (not b.no_nulls || list_any (is_at b.number x) s.triples) ≡ true → (not b.no_nulls || not (b.number == number)) ≡ true
              → (not b.no_nulls || list_any (is_at b.number x) (triple_taken new s.triples)) ≡ true
          keeps x b h k =
              either b.no_nulls (λ _. (not b.no_nulls || list_any (is_at b.number x) (triple_taken new s.triples)) ≡ true)
              (λ w. one-of (not b.no_nulls) (list_any (is_at b.number x) (triple_taken new s.triples))
              (any-kept (is_at b.number x) (λ t. not (same_triple new t)) s.triples (other-of (not b.no_nulls) (list_any (is_at b.number x) s.triples) h (ap not w))
              (all-each (λ t. not (is_at b.number x t) || not (same_triple new t)) s.triples (λ t. unlike t (other-of (not b.no_nulls) (not (b.number == number)) k (ap not w))))))
              (λ w. first-of (not b.no_nulls) (list_any (is_at b.number x) (triple_taken new s.triples)) (ap not w))
            where
              unlike : (t : Triple) → not (b.number == number) ≡ true → (not (is_at b.number x t) || not (same_triple new t)) ≡ true
              unlike t d =
                  either (is_at b.number x t) (λ c. (not c || not (same_triple new t)) ≡ true)
                  (λ m. ap not (never (same_triple new t) (λ n.
                  let one : t.attribute ≡ b.number = number-is t.attribute b.number (left (t.attribute == b.number) (same_entity t.entity x) m) in
                  let two : number ≡ t.attribute = number-is number t.attribute (left (number == t.attribute) (same_entity e t.entity && same_value v t.value) n) in
                  true≢false (sym (number-itself b.number) ∙ ap (λ c. b.number == c) (sym (two ∙ one)) ∙ not-true (b.number == number) d))))
                  (λ m. refl)

          still : (x : EntityId) → is_filled s x ≡ true → is_filled (member_taken s number e v) x ≡ true
          still x h = all-two (λ b. not b.no_nulls || list_any (is_at b.number x) s.triples) (λ b. not b.no_nulls || not (b.number == number))
              (λ b. not b.no_nulls || list_any (is_at b.number x) (triple_taken new s.triples)) (attributes_in s.schema x.ty) (keeps x) h (single x)
