-- What a single value that is set leaves of a legal state.
use Rattle.std.proofs.Common.{◌≡◌, ℕ, Bool, true, false, List, Some, refl, sym, ap, subst, ◌∙◌, true≢false}
use Rattle.std.specs.Prelude.{◌==◌, not, ◌&&◌, ◌||◌, filter}
use Rattle.std.specs.List.{list_all, list_any}
use Rattle.st_values.specs.declared.value.EntityId.{EntityId}
use Rattle.st_values.specs.declared.value.Value.{Value}
use Rattle.st_values.specs.declared.value.Value.TheVariants.{Null, Int, Bool as Truth, Text, Entity}
use Rattle.st_values.specs.Order.{same_value, same_entity}
use Rattle.st_values.proofs.Placing.{differ}
use Rattle.st_values.proofs.Entities.{same_entity-is, same_entity-itself}
use Rattle.st_values.proofs.Tests.{not-true, one-of, first-of, other-of, never, all-two, all-kept, all-filtered, all-each, any-kept, any-placed, both, left, right, either, all-weaken, all-filter, all-placed}
use Rattle.st_lattice.specs.declared.attribute.Attribute.{Attribute}
use Rattle.st_lattice.specs.Outline.{attribute}
use Rattle.st_lattice.specs.Lattice.{isa, attributes_in}
use Rattle.st_lattice.specs.Stores.{passes}
use Rattle.st_state.specs.declared.triple.Triple.{Triple}
use Rattle.st_state.specs.State.{State, is_live, triple_before, with_triple, is_at, with_value, attribute_set}
use Rattle.st_state.specs.Legal.{can_hold, apart_at_entity, apart_in_value, is_filled, IsNearlyLegal, IsLegal}
use Rattle.st_state.proofs.Kept.{filter-nearly}
use Rattle.st_state.proofs.Changed.{number-is, number-itself, found-only, new, GoesWell, placed-nearly, apart, sound-new, Alone, alone-all, unlike-new, unlike-back}

abbrev pub null : Value → Bool
null Null = true
null _ = false

module _ (s : State) (number : ℕ) (e : EntityId) (v : Value) where
  abbrev elsewhere : Triple → Bool
  elsewhere t = not (is_at number e t)

  abbrev base : List Triple
  base = filter elsewhere s.triples

  -- what is put is the value's triple, or nothing
  put-null : v ≡ Null → with_value number e v base ≡ base
  put-null h = ap (λ w. with_value number e w base) h

  put-value : (w : Value) → null w ≡ false → with_value number e w base ≡ with_triple (new s number e w) base
  put-value Null h = absurd (true≢false h)
  put-value (Int i) h = refl
  put-value (Truth b) h = refl
  put-value (Text t) h = refl
  put-value (Entity x) h = refl

  null-is : (w : Value) → null w ≡ true → w ≡ Null
  null-is Null h = refl
  null-is (Int i) h = absurd (true≢false (sym h))
  null-is (Truth b) h = absurd (true≢false (sym h))
  null-is (Text t) h = absurd (true≢false (sym h))
  null-is (Entity x) h = absurd (true≢false (sym h))

  new-is-at : is_at number e (new s number e v) ≡ true
  new-is-at = both (number == number) (same_entity e e) (number-itself number) (same_entity-itself e)

  back : (t : Triple) → is_at t.attribute t.entity (new s number e v) ≡ true → is_at number e t ≡ true
  back t h =
      both (t.attribute == number) (same_entity t.entity e)
      (subst (λ n. (n == number) ≡ true) (number-is number t.attribute (left (number == t.attribute) (same_entity e t.entity) h)) (number-itself number))
      (subst (λ x. same_entity x e ≡ true) (same_entity-is e t.entity (right (number == t.attribute) (same_entity e t.entity) h)) (same_entity-itself e))

  -- a value elsewhere stays
  pub elsewhere-stays : (k : ℕ) (x : EntityId) → is_at k x (new s number e v) ≡ false → list_any (is_at k x) s.triples ≡ true → list_any (is_at k x) (attribute_set s number e v).triples ≡ true
  elsewhere-stays k x d h =
      either (null v) (λ _. list_any (is_at k x) (with_value number e v base) ≡ true)
      (λ m. ap (list_any (is_at k x)) (put-null (null-is v m)) ∙ stays)
      (λ m. ap (list_any (is_at k x)) (put-value v m) ∙ any-placed triple_before (is_at k x) (new s number e v) base (one-of (is_at k x (new s number e v)) (list_any (is_at k x) base) stays))
    where
      unlike : (t : Triple) → (not (is_at k x t) || elsewhere t) ≡ true
      unlike t =
          either (is_at k x t) (λ b. (not b || elsewhere t) ≡ true)
          (λ m. ap not (never (is_at number e t) (λ n.
          let one : t.attribute ≡ k = number-is t.attribute k (left (t.attribute == k) (same_entity t.entity x) m) in
          let two : t.attribute ≡ number = number-is t.attribute number (left (t.attribute == number) (same_entity t.entity e) n) in
          let here : t.entity ≡ x = same_entity-is t.entity x (right (t.attribute == k) (same_entity t.entity x) m) in
          let there : t.entity ≡ e = same_entity-is t.entity e (right (t.attribute == number) (same_entity t.entity e) n) in
          let same : is_at k x (new s number e v) ≡ true =
          both (number == k) (same_entity e x) (subst (λ z. (number == z) ≡ true) (sym two ∙ one) (number-itself number)) (subst (λ z. same_entity e z ≡ true) (sym there ∙ here) (same_entity-itself e)) in
          true≢false (sym same ∙ d))))
          (λ m. refl)

      stays : list_any (is_at k x) base ≡ true
      stays = any-kept (is_at k x) elsewhere s.triples h (all-each (λ t. not (is_at k x t) || elsewhere t) s.triples unlike)

  -- a value that is set is there
  pub here-set : null v ≡ false → list_any (is_at number e) (attribute_set s number e v).triples ≡ true
  here-set m =
      ap (list_any (is_at number e)) (put-value v m)
      ∙ any-placed triple_before (is_at number e) (new s number e v) base (first-of (is_at number e (new s number e v)) (list_any (is_at number e) base) new-is-at)

  -- an attribute of the number may be null, or the value isn't
  abbrev allowed : Attribute → Bool
  allowed b = not (b.number == number) || (not b.no_nulls || not (null v))

  -- what the new triple and all others have, all have
  pub all-set : (q : Triple → Bool) → q (new s number e v) ≡ true → list_all q s.triples ≡ true → list_all q (attribute_set s number e v).triples ≡ true
  all-set q h k =
      either (null v) (λ _. list_all q (with_value number e v base) ≡ true)
      (λ m. ap (list_all q) (put-null (null-is v m)) ∙ all-filter q elsewhere s.triples k)
      (λ m. ap (list_all q) (put-value v m) ∙ all-placed triple_before q (new s number e v) base h (all-filter q elsewhere s.triples k))

  module _ (a : Attribute) (f : attribute s.schema number ≡ Some a) where
    well-set : is_live s e ≡ true → isa s.schema e.ty a.owner ≡ true → can_hold s a.kind v ≡ true → Alone s number e v a f (λ o. not (same_entity e o)) → GoesWell s number e v base
    well-set l o c u = record {
      sound = sound-new s number e v a f l o c;
      differs = all-filtered elsewhere (differ triple_before (new s number e v)) s.triples
          (λ t h. apart s number e v t (λ i. true≢false (sym new-is-at ∙ ap (is_at number e) i ∙ not-true (is_at number e t) h)));
      single = all-filtered elsewhere (apart_at_entity s.schema (new s number e v)) s.triples (λ t h. one-of (passes (λ x. x.many) (attribute s.schema number)) (elsewhere t) h);
      single_back = all-filtered elsewhere (λ t. apart_at_entity s.schema t (new s number e v)) s.triples
          (λ t h. one-of (passes (λ x. x.many) (attribute s.schema t.attribute)) (not (is_at t.attribute t.entity (new s number e v)))
          (ap not (never (is_at t.attribute t.entity (new s number e v)) (λ m. true≢false (sym (back t m) ∙ not-true (is_at number e t) h)))));
      unique = all-weaken (λ t. not a.unique || not ((t.attribute == number) && same_value t.value v)) (apart_in_value s.schema (new s number e v)) (unlike-new s number e v a f) base unlike-all;
      unique_back = all-weaken (λ t. not a.unique || not ((t.attribute == number) && same_value t.value v)) (λ t. apart_in_value s.schema t (new s number e v)) (unlike-back s number e v a f) base unlike-all;
    }
      where
        unlike : (t : Triple) → (not a.unique || (not ((t.attribute == number) && same_value t.value v) || not (not (same_entity e t.entity)))) ≡ true → elsewhere t ≡ true
            → (not a.unique || not ((t.attribute == number) && same_value t.value v)) ≡ true
        unlike t h k =
            either (not a.unique) (λ b. (b || not ((t.attribute == number) && same_value t.value v)) ≡ true) (λ m. refl)
            (λ m. ap not (never ((t.attribute == number) && same_value t.value v) (λ n.
            let own = other-of (not ((t.attribute == number) && same_value t.value v)) (not (not (same_entity e t.entity)))
            (other-of (not a.unique) (not ((t.attribute == number) && same_value t.value v) || not (not (same_entity e t.entity))) h m) (ap not n) in
            let same : same_entity e t.entity ≡ true = twice (same_entity e t.entity) own in
            let at : is_at number e t ≡ true = both (t.attribute == number) (same_entity t.entity e) (left (t.attribute == number) (same_value t.value v) n)
            (subst (λ z. same_entity z e ≡ true) (same_entity-is e t.entity same) (same_entity-itself e)) in
            true≢false (sym at ∙ not-true (is_at number e t) k))))
          where
            twice : (b : Bool) → not (not b) ≡ true → b ≡ true
            twice true h = refl
            twice false h = h

        unlike-all : list_all (λ t. not a.unique || not ((t.attribute == number) && same_value t.value v)) base ≡ true
        unlike-all = all-kept _ elsewhere (λ t. not a.unique || not ((t.attribute == number) && same_value t.value v)) s.triples unlike (alone-all s number e v a f (λ o. not (same_entity e o)) u)

    pub set-nearly : IsNearlyLegal s → is_live s e ≡ true → isa s.schema e.ty a.owner ≡ true → (null v ≡ false → can_hold s a.kind v ≡ true)
        → Alone s number e v a f (λ o. not (same_entity e o)) → IsNearlyLegal (attribute_set s number e v)
    set-nearly n l o c u =
        either (null v) (λ _. IsNearlyLegal (attribute_set s number e v))
        (λ m. subst (λ ts. IsNearlyLegal (record s { triples = ts })) (sym (put-null (null-is v m))) (filter-nearly s elsewhere n))
        (λ m. subst (λ ts. IsNearlyLegal (record s { triples = ts })) (sym (put-value v m)) (placed-nearly s number e v base (filter-nearly s elsewhere n) (well-set l o (c m) u)))

    pub set-legal : IsLegal s → is_live s e ≡ true → isa s.schema e.ty a.owner ≡ true → (null v ≡ false → can_hold s a.kind v ≡ true)
        → Alone s number e v a f (λ o. not (same_entity e o)) → (a.no_nulls ≡ true → null v ≡ false) → IsLegal (attribute_set s number e v)
    set-legal g l o c u w = record {
      nearly = set-nearly g.nearly l o c u;
      filled = all-weaken (is_filled s) (is_filled (attribute_set s number e v)) (λ x h. still x h) s.live g.filled;
    }
      where
        no_null : (not a.no_nulls || not (null v)) ≡ true
        no_null = either a.no_nulls (λ b. (not b || not (null v)) ≡ true) (λ k. ap not (w k)) (λ k. refl)

        all_allowed : (x : EntityId) → list_all allowed (attributes_in s.schema x.ty) ≡ true
        all_allowed x = all-filter allowed (λ b. isa s.schema x.ty b.owner) s.schema.attributes
            (found-only (λ b. not b.no_nulls || not (null v)) number a s.schema.attributes g.nearly.consistent.numbers f no_null)

        keeps : (x : EntityId) (b : Attribute) → (not b.no_nulls || list_any (is_at b.number x) s.triples) ≡ true → allowed b ≡ true
            → (not b.no_nulls || list_any (is_at b.number x) (attribute_set s number e v).triples) ≡ true
        keeps x b h k =
            either b.no_nulls (λ _. (not b.no_nulls || list_any (is_at b.number x) (attribute_set s number e v).triples) ≡ true)
            (λ m. one-of (not b.no_nulls) (list_any (is_at b.number x) (attribute_set s number e v).triples)
            (either (is_at b.number x (new s number e v)) (λ _. list_any (is_at b.number x) (attribute_set s number e v).triples ≡ true)
            (λ n.
            let one : number ≡ b.number = number-is number b.number (left (number == b.number) (same_entity e x) n) in
            let two : e ≡ x = same_entity-is e x (right (number == b.number) (same_entity e x) n) in
            let value : null v ≡ false = not-true (null v) (other-of (not b.no_nulls) (not (null v))
            (other-of (not (b.number == number)) (not b.no_nulls || not (null v)) k (ap not (subst (λ z. (z == number) ≡ true) one (number-itself number)))) (ap not m)) in
            subst (λ z. list_any (is_at z x) (attribute_set s number e v).triples ≡ true) one (subst (λ z. list_any (is_at number z) (attribute_set s number e v).triples ≡ true) two (here-set value)))
            (λ n. elsewhere-stays b.number x n (other-of (not b.no_nulls) (list_any (is_at b.number x) s.triples) h (ap not m)))))
            (λ m. first-of (not b.no_nulls) (list_any (is_at b.number x) (attribute_set s number e v).triples) (ap not m))

        still : (x : EntityId) → is_filled s x ≡ true → is_filled (attribute_set s number e v) x ≡ true
        still x h = all-two (λ b. not b.no_nulls || list_any (is_at b.number x) s.triples) allowed (λ b. not b.no_nulls || list_any (is_at b.number x) (attribute_set s number e v).triples)
            (attributes_in s.schema x.ty) (keeps x) h (all_allowed x)
