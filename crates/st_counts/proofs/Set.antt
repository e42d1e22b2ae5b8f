-- The rows of a single value that is set.
use Rattle.std.proofs.Common.{◌≡◌, ℕ, ◌+◌, ◌*◌, ◌<◌, ◌≤◌, Bool, true, false, cond, List, [], ◌∷◌, Option, Some, None, refl, sym, ap, subst, ◌∙◌, arith, true≢false}
use Rattle.std.specs.Prelude.{◌==◌, not, ◌&&◌, ◌||◌, filter, find}
use Rattle.std.specs.List.{All, list_all, list_any}
use Rattle.st_values.specs.declared.value.EntityId.{EntityId}
use Rattle.st_values.specs.declared.value.Value.{Value}
use Rattle.st_values.specs.declared.value.Value.TheVariants.{Null, Int, Bool as Truth, Text, Entity}
use Rattle.st_values.specs.Arranged.{each_pair, placed}
use Rattle.st_values.specs.Order.{same_entity, same_value}
use Rattle.st_values.proofs.Entities.{same_entity-is, same_entity-itself, same_value-is, same_value-itself}
use Rattle.st_values.proofs.Tests.{all-filtered, all-placed, all-weaken, ascends-weaken, both, either, first-of, left, never, not-true, one-of, other-of, placed-behind, placed-here, right}
use Rattle.st_lattice.specs.declared.attribute.Attribute.{Attribute}
use Rattle.st_lattice.specs.declared.stores.StoreKind.TheVariants.{Set}
use Rattle.st_lattice.specs.Outline.{attribute}
use Rattle.st_lattice.specs.Lattice.{isa}
use Rattle.st_lattice.specs.Stores.{passes}
use Rattle.st_state.specs.declared.triple.Triple.{Triple}
use Rattle.st_state.specs.State.{State, attribute_set, is_at, is_live, same_triple, triple_before, value_at, value_in, with_triple, with_value}
use Rattle.st_state.specs.Legal.{IsNearlyLegal, apart_at_entity}
use Rattle.st_state.specs.Rows.{Row, rows, rows_added, rows_changed, same_key}
use Rattle.st_state.proofs.Changed.{number-is, number-itself}
use Rattle.st_state.proofs.Members.{Member, find-member, find-passes, some-is}
use Rattle.st_state.proofs.Set.{null}
use Rattle.st_counts.specs.Counts.{kept_count, row_count, turned_count}
use Rattle.st_counts.proofs.Tallies.{any-none, tally}
use Rattle.st_counts.proofs.Unlike.{Fits, fits}
use Rattle.st_counts.proofs.Fresh.{MatchesKeys, added-is, fresh-parts, in_extents, in_parts, lacks, rows-tally, same_key-matches, same_row, same_row-matches}
use Rattle.st_counts.proofs.Entities.{value-extents}
use Rattle.st_counts.proofs.Members.{found-inside, found-its, found-low, found-number, placed-member, same-member, same_triple-is, triple}

-- ---- what is found

module _ {X : Type 0} where
  pub find-nothing : (p : X → Bool) (xs : List X) → list_all (λ x. not (p x)) xs ≡ true → find p xs ≡ None
  find-nothing p [] h = refl
  find-nothing p (x ∷ xs) h =
      ap (λ b. cond b (Some x) (find p xs)) (not-true (p x) (left (not (p x)) (list_all (λ y. not (p y)) xs) h))
      ∙ find-nothing p xs (right (not (p x)) (list_all (λ y. not (p y)) xs) h)

  -- the only one that passes is found where it is placed
  pub find-placed : (before : X → X → Bool) (p : X → Bool) (x : X) (xs : List X) → p x ≡ true → list_all (λ y. not (p y)) xs ≡ true → find p (placed before x xs) ≡ Some x
  find-placed before p x [] h a = ap (λ b. cond b (Some x) None) h
  find-placed before p x (y ∷ ys) h a =
      either (before y x) (λ _. find p (placed before x (y ∷ ys)) ≡ Some x)
      (λ k. ap (find p) (placed-behind before x y ys k)
      ∙ ap (λ b. cond b (Some y) (find p (placed before x ys))) (not-true (p y) (left (not (p y)) (list_all (λ z. not (p z)) ys) a))
      ∙ find-placed before p x ys h (right (not (p y)) (list_all (λ z. not (p z)) ys) a))
      (λ k. ap (find p) (placed-here before x y ys k) ∙ ap (λ b. cond b (Some x) (find p (y ∷ ys))) h)

  pub find-none : (p : X → Bool) (xs : List X) → find p xs ≡ None → list_all (λ x. not (p x)) xs ≡ true
  find-none p [] h = refl
  find-none p (x ∷ xs) h =
      either (p x) (λ b. cond b (Some x) (find p xs) ≡ None → (not b && list_all (λ y. not (p y)) xs) ≡ true)
      (λ _ g. absurd (some-none x g)) (λ _ g. find-none p xs g) h
    where
      some-none : (y : X) → Some y ≡ None → ⊥
      some-none y e = cc

  -- where no two pass, each that passes has what the one that is found has
  pub found-all : (p q : X → Bool) (u : X) (xs : List X) → each_pair (λ x y. not (p x) || not (p y)) xs ≡ true → find p xs ≡ Some u → q u ≡ true → list_all (λ y. not (p y) || q y) xs ≡ true
  found-all p q u [] e f h = refl
  found-all p q u (x ∷ xs) e f h =
      let behind = left (list_all (λ z. not (p x) || not (p z)) xs) (each_pair (λ z w. not (p z) || not (p w)) xs) e in
      let among = right (list_all (λ z. not (p x) || not (p z)) xs) (each_pair (λ z w. not (p z) || not (p w)) xs) e in
      either (p x) (λ _. list_all (λ y. not (p y) || q y) (x ∷ xs) ≡ true)
      (λ k.
      let is : x ≡ u = some-is x u (sym (ap (λ b. cond b (Some x) (find p xs)) k) ∙ f) in
      both (not (p x) || q x) (list_all (λ y. not (p y) || q y) xs) (one-of (not (p x)) (q x) (subst (λ z. q z ≡ true) (sym is) h))
      (all-weaken (λ z. not (p x) || not (p z)) (λ y. not (p y) || q y) (λ z m. first-of (not (p z)) (q z) (other-of (not (p x)) (not (p z)) m (ap not k))) xs behind))
      (λ k.
      both (not (p x) || q x) (list_all (λ y. not (p y) || q y) xs) (first-of (not (p x)) (q x) (ap not k))
      (found-all p q u xs among (sym (ap (λ b. cond b (Some x) (find p xs)) k) ∙ f) h))

-- ---- numbers

times : (w : Value) (k n : ℕ) → (null w ≡ false → k ≤ n) → k * row_count w ≤ n
times Null k n h = omega arith
times (Int i) k n h = let less = h refl in omega (arith, less)
times (Truth b) k n h = let less = h refl in omega (arith, less)
times (Text t) k n h = let less = h refl in omega (arith, less)
times (Entity x) k n h = let less = h refl in omega (arith, less)

times-both : (w v : Value) (k m n : ℕ) → k * row_count w ≤ m → k * row_count v ≤ n → k * (row_count w + row_count v) ≤ m + n
times-both w v k m n h i = grind (arith, h, i)

-- ---- a single value that is set

module _ (s : State) (number : ℕ) (e : EntityId) (v : Value) where
  abbrev at : Triple → Bool
  at t = is_at number e t

  abbrev base : List Triple
  base = filter (λ t. not (at t)) s.triples

  abbrev t : Triple
  t = triple number e v

  put-value : (w : Value) → null w ≡ false → with_value number e w base ≡ with_triple (triple number e w) base
  put-value Null h = absurd (true≢false h)
  put-value (Int i) h = refl
  put-value (Truth b) h = refl
  put-value (Text x) h = refl
  put-value (Entity x) h = refl

  at-new : at t ≡ true
  at-new = both (number == number) (same_entity e e) (number-itself number) (same_entity-itself e)

  base-none : list_all (λ u. not (at u)) base ≡ true
  base-none = all-filtered (λ u. not (at u)) (λ u. not (at u)) s.triples (λ u h. h)

  -- the value is what was set
  value-null : (w : Value) → null w ≡ true → value_at number e (with_value number e w base) ≡ w
  value-null Null h = ap value_in (find-nothing at base base-none)
  value-null (Int i) h = absurd (true≢false (sym h))
  value-null (Truth b) h = absurd (true≢false (sym h))
  value-null (Text x) h = absurd (true≢false (sym h))
  value-null (Entity x) h = absurd (true≢false (sym h))

  pub value-set : value_at number e (attribute_set s number e v).triples ≡ v
  value-set =
      either (null v) (λ _. value_at number e (with_value number e v base) ≡ v) (λ k. value-null v k)
      (λ k. ap (value_at number e) (put-value v k) ∙ ap value_in (find-placed triple_before at t base at-new base-none))

  -- what all triples elsewhere have, and the new one, all have
  all-new : (q : Triple → Bool) → list_all q base ≡ true → (null v ≡ false → q t ≡ true) → list_all q (attribute_set s number e v).triples ≡ true
  all-new q h k =
      either (null v) (λ _. list_all q (with_value number e v base) ≡ true) (λ m. without v m)
      (λ m. ap (list_all q) (put-value v m) ∙ all-placed triple_before q t base (k m) h)
    where
      without : (w : Value) → null w ≡ true → list_all q (with_value number e w base) ≡ true
      without Null m = h
      without (Int i) m = absurd (true≢false (sym m))
      without (Truth b) m = absurd (true≢false (sym m))
      without (Text x) m = absurd (true≢false (sym m))
      without (Entity x) m = absurd (true≢false (sym m))

  module _ (n : IsNearlyLegal s) (low : All (λ a. a.number < 65536) s.schema.attributes) (a : Attribute) (f : attribute s.schema number ≡ Some a) (single : a.many ≡ false)
      (changes : same_value (value_at number e s.triples) v ≡ false) where
    abbrev new : State
    new = attribute_set s number e v

    abbrev old : Value
    old = value_at number e s.triples

    -- no two triples give a value to the attribute of the entity
    alone : each_pair (λ x y. not (at x) || not (at y)) s.triples ≡ true
    alone =
        ascends-weaken (apart_at_entity s.schema) (λ x y. not (at x) || not (at y))
        (λ x y h. either (at x) (λ b. at x ≡ b → (not b || not (at y)) ≡ true)
        (λ k _.
        let one : x.attribute ≡ number = number-is x.attribute number (left (x.attribute == number) (same_entity x.entity e) k) in
        let two : x.entity ≡ e = same_entity-is x.entity e (right (x.attribute == number) (same_entity x.entity e) k) in
        let here : (passes (λ z. z.many) (attribute s.schema number) || not (is_at number x.entity y)) ≡ true =
        subst (λ z. (passes (λ w. w.many) (attribute s.schema z) || not (is_at z x.entity y)) ≡ true) one h in
        let there : (passes (λ z. z.many) (attribute s.schema number) || not (at y)) ≡ true =
        subst (λ z. (passes (λ w. w.many) (attribute s.schema number) || not (is_at number z y)) ≡ true) two here in
        other-of (passes (λ z. z.many) (attribute s.schema number)) (not (at y)) there (ap (passes (λ z. z.many)) f ∙ single))
        (λ _ _. refl) refl) s.triples n.single

    -- the new triple wasn't there
    fresh : list_any (same_triple t) s.triples ≡ false
    fresh = never (list_any (same_triple t) s.triples) (λ h. by (find at s.triples) refl (same-member t s.triples h))
      where
        by : (o : Option Triple) → find at s.triples ≡ o → Member t s.triples → ⊥
        by None g m = true≢false (sym at-new ∙ not-true (at t) (m (λ y. not (at y)) (find-none at s.triples g)))
        by (Some u) g m =
            let same = other-of (not (at t)) (same_value u.value v)
            (m (λ y. not (at y) || same_value u.value y.value) (found-all at (λ y. same_value u.value y.value) u s.triples alone g (same_value-itself u.value))) (ap not at-new) in
            true≢false (sym same ∙ ap (λ o. same_value (value_in o) v) (sym g) ∙ changes)

    ok : Fits s
    ok = fits s n low

    ok_new : Fits new
    ok_new = record { types = ok.types; numbers = ok.numbers }

    most : (k m x : ℕ) → k + m ≤ x → m ≤ x
    most k m x h = omega (arith, h)

    -- the rows of the new triple
    new-parts : (match : Row → Row → Bool) → MatchesKeys match → turned_count a * row_count v ≤ in_parts (lacks match s) new
    new-parts match keys =
        times v (turned_count a) (in_parts (lacks match s) new)
        (λ some.
        most (kept_count Set a) (turned_count a) (in_parts (lacks match s) new)
        (fresh-parts match keys s new ok a (found-inside s number a f) (found-low s number a f ok) t
        (λ q k. placed-member t base q (subst (λ ts. list_all q ts ≡ true) (put-value v some) k)) (found-its s number a f) fresh))

    -- the rows of the old one
    old-parts : turned_count a * row_count old ≤ in_parts (lacks same_key new) s
    old-parts = times old (turned_count a) (in_parts (lacks same_key new) s) (λ some. by (find at s.triples) refl some)
      where
        by : (o : Option Triple) → find at s.triples ≡ o → null (value_in o) ≡ false → turned_count a ≤ in_parts (lacks same_key new) s
        by None g some = absurd (true≢false some)
        by (Some u) g some =
            let at_u = find-passes at u s.triples g in
            let its : (u.attribute == a.number) ≡ true =
            subst (λ z. (u.attribute == z) ≡ true) (sym (found-number s number a f)) (left (u.attribute == number) (same_entity u.entity e) at_u) in
            let gone : list_any (same_triple u) new.triples ≡ false =
            any-none (same_triple u) new.triples
            (all-new (λ y. not (same_triple u y))
            (all-filtered (λ y. not (at y)) (λ y. not (same_triple u y)) s.triples
            (λ y h. ap not (never (same_triple u y) (λ k. true≢false (sym (subst (λ z. at z ≡ true) (same_triple-is u y k) at_u) ∙ not-true (at y) h)))))
            (λ _. ap not (never (same_triple u t) (λ k.
            true≢false (sym (subst (λ z. same_value z v ≡ true) (sym (ap value (same_triple-is u t k))) (same_value-itself v)) ∙ ap (λ o. same_value (value_in o) v) (sym g) ∙ changes))))) in
            most (kept_count Set a) (turned_count a) (in_parts (lacks same_key new) s)
            (fresh-parts same_key same_key-matches new s ok_new a (found-inside s number a f) (found-low s number a f ok) u (find-member at u s.triples g) its gone)
          where
            value : Triple → Value
            value y = y.value

    pub set-added : turned_count a * row_count v ≤ rows_added s new
    set-added =
        let is = added-is s new in
        let parts = new-parts same_key same_key-matches in
        ends (turned_count a * row_count v) (in_extents (lacks same_key s) new) (in_parts (lacks same_key s) new) (rows_added s new) parts is
      where
        ends : (k x y z : ℕ) → k ≤ y → z ≡ x + y → k ≤ z
        ends k x y z h i = omega (arith, h, i)

    module _ (column : a.column ≡ false) (live : is_live s e ≡ true) (has : isa s.schema e.ty a.owner ≡ true) where
      differs : same_value (value_at number e new.triples) old ≡ false
      differs =
          never (same_value (value_at number e new.triples) old) (λ k.
          let is : v ≡ old = sym value-set ∙ same_value-is (value_at number e new.triples) old k in
          true≢false (sym (subst (λ z. same_value z v ≡ true) is (same_value-itself v)) ∙ changes))

      own : 1 ≤ in_extents (lacks same_row s) new
      own = value-extents s ok e new.triples a live (found-inside s number a f) has single column
          (subst (λ z. same_value (value_at z e new.triples) (value_at z e s.triples) ≡ false) (sym (found-number s number a f)) differs)

      pub set-changed : 1 + turned_count a * (row_count old + row_count v) ≤ rows_changed s new
      set-changed =
          let first = rows-tally (lacks same_row s) new in
          let second = rows-tally (lacks same_key new) s in
          let both_ways = times-both old v (turned_count a) (in_parts (lacks same_key new) s) (in_parts (lacks same_row s) new) old-parts (new-parts same_row same_row-matches) in
          ends (turned_count a * (row_count old + row_count v)) (in_extents (lacks same_row s) new) (in_parts (lacks same_row s) new) (in_extents (lacks same_key new) s) (in_parts (lacks same_key new) s)
          (tally (lacks same_row s) (rows new)) (tally (lacks same_key new) (rows s)) own both_ways first second
        where
          ends : (k x y z w p q : ℕ) → 1 ≤ x → k ≤ w + y → p ≡ x + y → q ≡ z + w → 1 + k ≤ p + q
          ends k x y z w p q h i j l = omega (arith, h, i, j, l)
