-- A converse is in order, and the entities that have a value are those that it lists with the value.
use Rattle.std.proofs.Common.{◌≡◌, ℕ, Bool, true, false, List, [], ◌∷◌, IsTrue, refl, sym, ap, subst, ◌∙◌, true≢false}
use Rattle.std.specs.Prelude.{◌==◌, not, ◌&&◌, ◌||◌, nat_lt, cond, map, filter, IsPermutation}
use Rattle.std.specs.List.{list_all}
use Rattle.std.specs.declared.cmp.Ordering.{Ordering}
use Rattle.std.specs.declared.cmp.Ordering.TheVariants.{Less, Equal, Greater}
use Rattle.std.specs.Ordering.{is_lt, is_eq, ordering_then}
use Rattle.std.specs.Cmp.{IsTotalOrder, then_total, on_total}
use Rattle.std.proofs.lemmas.List.Sorted.{IsPermutation-refl}
use Rattle.st_values.specs.declared.value.Value.{Value}
use Rattle.st_values.specs.Order.{entity_order, value_order, value_before, same_value, entity_before, same_entity}
use Rattle.st_values.specs.Arranged.{each_pair, ascends, placed, arranged}
use Rattle.st_values.proofs.Total.{entity_order_total, value_order_total}
use Rattle.st_values.proofs.Exact.{both_equal, exact_entities, exact_values}
use Rattle.st_values.proofs.Placing.{differ, IsStrict, ascends-arranged, arranged-unique, arranged-permutation}
use Rattle.st_values.proofs.Entities.{same_value-is, same_value-itself, strict}
use Rattle.st_values.proofs.Tests.{not-true, one-of, first-of, other-of, never, both, left, right, either, all-weaken, all-filter, ascends-weaken, placed-behind, placed-here}
use Rattle.st_state.specs.declared.triple.Triple.{Triple}
use Rattle.st_state.specs.State.{triple_before, turned, Pair, pair_before, pair_of, converse}
use Rattle.st_state.proofs.Orders.{before_then, triple_before-strict}
use Rattle.st_state.proofs.Changed.{number-is, number-itself}

-- ---- what is kept of a list in order

module _ {X : Type 0} (before : X → X → Bool) (o : IsStrict before) (q : X → Bool) where
  placed-front : (x : X) (zs : List X) → list_all (λ z. not (before z x)) zs ≡ true → placed before x zs ≡ x ∷ zs
  placed-front x [] h = refl
  placed-front x (z ∷ zs) h = placed-here before x z zs (not-true (before z x) (left (not (before z x)) (list_all (λ w. not (before w x)) zs) h))

  filter-placed : (x : X) (xs : List X) → ascends before xs ≡ true → filter q (placed before x xs) ≡ cond (q x) (placed before x (filter q xs)) (filter q xs)
  filter-placed x [] h = refl
  filter-placed x (y ∷ ys) h =
      either (before y x) (λ _. filter q (placed before x (y ∷ ys)) ≡ cond (q x) (placed before x (filter q (y ∷ ys))) (filter q (y ∷ ys)))
      (λ k.
      let later = filter-placed x ys (right (list_all (before y) ys) (ascends before ys) h) in
      ap (filter q) (placed-behind before x y ys k)
      ∙ either (q y) (λ c. cond c (y ∷ filter q (placed before x ys)) (filter q (placed before x ys)) ≡ cond (q x) (placed before x (cond c (y ∷ filter q ys) (filter q ys))) (cond c (y ∷ filter q ys) (filter q ys)))
      (λ _. ap (λ z. y ∷ z) later ∙ either (q x) (λ d. (y ∷ cond d (placed before x (filter q ys)) (filter q ys)) ≡ cond d (placed before x (y ∷ filter q ys)) (y ∷ filter q ys))
      (λ _. sym (placed-behind before x y (filter q ys) k)) (λ _. refl))
      (λ _. later))
      (λ k.
      let behind : list_all (λ z. not (before z x)) (y ∷ ys) ≡ true =
      both (not (before y x)) (list_all (λ z. not (before z x)) ys) (ap not k)
      (all-weaken (before y) (λ z. not (before z x)) (λ z m. ap not (never (before z x) (λ n. true≢false (sym (o.chain y z x m n) ∙ k)))) ys (left (list_all (before y) ys) (ascends before ys) h)) in
      ap (filter q) (placed-here before x y ys k)
      ∙ ap (λ z. cond (q x) z (filter q (y ∷ ys))) (sym (placed-front x (filter q (y ∷ ys)) (all-filter (λ z. not (before z x)) q (y ∷ ys) behind))))

  filter-arranged : (xs : List X) → ascends (differ before) xs ≡ true → filter q (arranged before xs) ≡ arranged before (filter q xs)
  filter-arranged [] d = refl
  filter-arranged (x ∷ xs) d =
      let rest = right (list_all (differ before x) xs) (ascends (differ before) xs) d in
      filter-placed x (arranged before xs) (ascends-arranged before o xs rest)
      ∙ either (q x) (λ c. cond c (placed before x (filter q (arranged before xs))) (filter q (arranged before xs)) ≡ arranged before (cond c (x ∷ filter q xs) (filter q xs)))
      (λ _. ap (placed before x) (filter-arranged xs rest)) (λ _. filter-arranged xs rest)

  -- a list in order is as it is arranged
  arranged-same : (xs : List X) → ascends before xs ≡ true → xs ≡ arranged before xs
  arranged-same xs a =
      arranged-unique before o xs xs (ascends-weaken before (differ before) (λ x y h. first-of (before x y) (before y x) h) xs a) (IsPermutation-refl xs) a

filter-map : {X Y : Type 0} (f : X → Y) (q : Y → Bool) (xs : List X) → filter q (map f xs) ≡ map f (filter (λ x. q (f x)) xs)
filter-map f q [] = refl
filter-map f q (x ∷ xs) =
    either (q (f x)) (λ c. cond c (f x ∷ filter q (map f xs)) (filter q (map f xs)) ≡ map f (cond c (x ∷ filter (λ y. q (f y)) xs) (filter (λ y. q (f y)) xs)))
    (λ _. ap (λ z. f x ∷ z) (filter-map f q xs)) (λ _. filter-map f q xs)

filter-filter : {X : Type 0} (p q : X → Bool) (xs : List X) → filter q (filter p xs) ≡ filter (λ x. p x && q x) xs
filter-filter p q [] = refl
filter-filter p q (x ∷ xs) =
    either (p x) (λ c. filter q (cond c (x ∷ filter p xs) (filter p xs)) ≡ cond (c && q x) (x ∷ filter (λ y. p y && q y) xs) (filter (λ y. p y && q y) xs))
    (λ _. ap (λ z. cond (q x) (x ∷ z) z) (filter-filter p q xs)) (λ _. filter-filter p q xs)

map-map : {X Y Z : Type 0} (f : X → Y) (g : Y → Z) (xs : List X) → map g (map f xs) ≡ map (λ x. g (f x)) xs
map-map f g [] = refl
map-map f g (x ∷ xs) = ap (λ z. g (f x) ∷ z) (map-map f g xs)

pairs-map : {X Y : Type 0} (r : Y → Y → Bool) (f : X → Y) (xs : List X) → each_pair (λ x y. r (f x) (f y)) xs ≡ true → each_pair r (map f xs) ≡ true
pairs-map r f [] h = refl
pairs-map r f (x ∷ xs) h =
    both (list_all (r (f x)) (map f xs)) (each_pair r (map f xs)) (all xs (left (list_all (λ y. r (f x) (f y)) xs) (each_pair (λ y z. r (f y) (f z)) xs) h))
    (pairs-map r f xs (right (list_all (λ y. r (f x) (f y)) xs) (each_pair (λ y z. r (f y) (f z)) xs) h))
  where
    all : (ys : List _) → list_all (λ y. r (f x) (f y)) ys ≡ true → list_all (r (f x)) (map f ys) ≡ true
    all [] k = refl
    all (y ∷ ys) k = both (r (f x) (f y)) (list_all (r (f x)) (map f ys)) (left (r (f x) (f y)) (list_all (λ z. r (f x) (f z)) ys) k) (all ys (right (r (f x) (f y)) (list_all (λ z. r (f x) (f z)) ys) k))

-- each pair of elements that are kept, since both pass
pairs-filtered : {X : Type 0} (r s : X → X → Bool) (p : X → Bool) → ((x y : X) → p x ≡ true → p y ≡ true → r x y ≡ true → s x y ≡ true) → (xs : List X) → each_pair r xs ≡ true → each_pair s (filter p xs) ≡ true
pairs-filtered r s p h [] e = refl
pairs-filtered r s p h (x ∷ xs) e =
    let rest = pairs-filtered r s p h xs (right (list_all (r x) xs) (each_pair r xs) e) in
    either (p x) (λ c. each_pair s (cond c (x ∷ filter p xs) (filter p xs)) ≡ true)
    (λ k. both (list_all (s x) (filter p xs)) (each_pair s (filter p xs)) (all k xs (left (list_all (r x) xs) (each_pair r xs) e)) rest) (λ _. rest)
  where
    all : p x ≡ true → (ys : List _) → list_all (r x) ys ≡ true → list_all (s x) (filter p ys) ≡ true
    all k [] a = refl
    all k (y ∷ ys) a =
        either (p y) (λ c. p y ≡ c → list_all (s x) (cond c (y ∷ filter p ys) (filter p ys)) ≡ true)
        (λ m n. both (s x y) (list_all (s x) (filter p ys)) (h x y k m (left (r x y) (list_all (r x) ys) a)) (all k ys (right (r x y) (list_all (r x) ys) a)))
        (λ m n. all k ys (right (r x y) (list_all (r x) ys) a)) refl

-- ---- pairs

abbrev pair_order : Pair → Pair → Ordering
pair_order a b = ordering_then (value_order a.value b.value) (entity_order a.entity b.entity)

pair_before-is : (a b : Pair) → pair_before a b ≡ is_lt (pair_order a b)
pair_before-is a b = before_then (value_order a.value b.value) (entity_order a.entity b.entity)

pair_order_total : IsTotalOrder pair_order
pair_order_total = then_total (on_total (λ (p : Pair). p.value) value_order_total) (on_total (λ (p : Pair). p.entity) entity_order_total)

pair_order_exact : (a b : Pair) → pair_order a b ≡ Equal → a ≡ b
pair_order_exact a b e =
    let k = both_equal (value_order a.value b.value) (entity_order a.entity b.entity) e in
    λ i. record { value = exact_values a.value b.value k.0 i; entity = exact_entities a.entity b.entity k.1 i }

pub pair_before-strict : IsStrict pair_before
pair_before-strict = subst IsStrict (λ i a b. sym (pair_before-is a b) i) (strict pair_order pair_order_total pair_order_exact)

module _ (attribute : ℕ) (ts : List Triple) (h : IsTrue (ascends triple_before ts)) where
  abbrev of_attribute : Triple → Bool
  of_attribute t = t.attribute == attribute

  abbrev pairs : List Pair
  pairs = map pair_of (filter of_attribute ts)

  -- triples of one attribute differ in their pairs
  pairs-differ : ascends (differ pair_before) pairs ≡ true
  pairs-differ =
      pairs-map (differ pair_before) pair_of (filter of_attribute ts)
      (pairs-filtered triple_before (λ t u. differ pair_before (pair_of t) (pair_of u)) of_attribute
      (λ t u p q b.
      either (pair_before (pair_of t) (pair_of u)) (λ c. (c || pair_before (pair_of u) (pair_of t)) ≡ true) (λ _. refl)
      (λ m. either (pair_before (pair_of u) (pair_of t)) (λ c. c ≡ true) (λ _. refl)
      (λ n.
      let same = pair_before-strict.tie (pair_of t) (pair_of u) m n in
      let is : t ≡ u = λ i. record { attribute = (number-is t.attribute attribute p ∙ sym (number-is u.attribute attribute q)) i; entity = (same i).entity; value = (same i).value } in
      absurd (true≢false (sym b ∙ ap (λ z. triple_before z u) is ∙ triple_before-strict.itself u))))) ts h)

  pub converse-ascends : IsTrue (ascends pair_before (converse attribute ts))
  converse-ascends = ascends-arranged pair_before pair_before-strict pairs pairs-differ

  pub converse-permutation : IsPermutation (map pair_of (filter (λ t. t.attribute == attribute) ts)) (converse attribute ts)
  converse-permutation = arranged-permutation pair_before pairs

  module _ (v : Value) where
    abbrev has_value : Pair → Bool
    has_value p = same_value p.value v

    abbrev hits : Triple → Bool
    hits t = (t.attribute == attribute) && same_value t.value v

    kept : filter has_value pairs ≡ map pair_of (filter hits ts)
    kept = filter-map pair_of has_value (filter of_attribute ts) ∙ ap (map pair_of) (filter-filter of_attribute (λ t. same_value t.value v) ts)

    -- triples of one attribute with one value stand in the order of their entities
    hits-ascend : ascends pair_before (map pair_of (filter hits ts)) ≡ true
    hits-ascend =
        pairs-map pair_before pair_of (filter hits ts)
        (pairs-filtered triple_before (λ t u. pair_before (pair_of t) (pair_of u)) hits (λ t u p q b. by t u p q b) ts h)
      where
        by : (t u : Triple) → hits t ≡ true → hits u ≡ true → triple_before t u ≡ true → pair_before (pair_of t) (pair_of u) ≡ true
        by t u p q b =
            let one : t.attribute ≡ u.attribute = number-is t.attribute attribute (left (t.attribute == attribute) (same_value t.value v) p) ∙ sym (number-is u.attribute attribute (left (u.attribute == attribute) (same_value u.value v) q)) in
            let two : t.value ≡ u.value = same_value-is t.value v (right (t.attribute == attribute) (same_value t.value v) p) ∙ sym (same_value-is u.value v (right (u.attribute == attribute) (same_value u.value v) q)) in
            either (pair_before (pair_of t) (pair_of u)) (λ c. c ≡ true) (λ _. refl)
            (λ m. either (pair_before (pair_of u) (pair_of t)) (λ _. false ≡ true)
            (λ n.
            let later : entity_before u.entity t.entity ≡ true =
            other-of (value_before u.value t.value) (entity_before u.entity t.entity)
            (subst (λ z. (value_before u.value t.value || (z && entity_before u.entity t.entity)) ≡ true) (subst (λ w. same_value u.value w ≡ true) (sym two) (same_value-itself u.value)) n)
            (ap (value_before u.value) two ∙ value-itself u.value) in
            let back : triple_before u t ≡ true =
            one-of (nat_lt u.attribute t.attribute) ((u.attribute == t.attribute) && (entity_before u.entity t.entity || (same_entity u.entity t.entity && value_before u.value t.value)))
            (both (u.attribute == t.attribute) (entity_before u.entity t.entity || (same_entity u.entity t.entity && value_before u.value t.value)) (subst (λ z. (u.attribute == z) ≡ true) (sym one) (number-itself u.attribute))
            (first-of (entity_before u.entity t.entity) (same_entity u.entity t.entity && value_before u.value t.value) later)) in
            absurd (true≢false (sym (triple_before-strict.chain t u t b back) ∙ triple_before-strict.itself t)))
            (λ n.
            let same = pair_before-strict.tie (pair_of t) (pair_of u) m n in
            let is : t ≡ u = λ i. record { attribute = one i; entity = (same i).entity; value = (same i).value } in
            absurd (true≢false (sym b ∙ ap (λ z. triple_before z u) is ∙ triple_before-strict.itself u))))
          where
            value-itself : (w : Value) → value_before w w ≡ false
            value-itself w = itself (value_order w w) (same_value-itself w)
              where
                itself : (r : Ordering) → is_eq r ≡ true → is_lt r ≡ false
                itself Less e = sym e
                itself Equal e = refl
                itself Greater e = refl

    pub turned-converse : turned attribute v ts ≡ map (λ p. p.entity) (filter (λ p. same_value p.value v) (converse attribute ts))
    turned-converse =
        sym (map-map pair_of (λ (p : Pair). p.entity) (filter hits ts))
        ∙ ap (map (λ (p : Pair). p.entity)) (arranged-same pair_before pair_before-strict has_value (map pair_of (filter hits ts)) hits-ascend ∙ ap (arranged pair_before) (sym kept) ∙ sym (filter-arranged pair_before pair_before-strict has_value pairs pairs-differ))
