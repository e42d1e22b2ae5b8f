-- A schema that was read tells its attributes apart: by their numbers and, within a type, by their names.
use Rattle.std.proofs.Common.{◌≡◌, ◌∙◌, ℕ, zero, suc, ◌+◌, ◌<◌, ◌≤◌, Bool, true, false, List, [], ◌∷◌, ◌++◌, length, get_or, Option, Some, None, refl, sym, ap, subst, arith, All, true≢false}
use Rattle.std.specs.Prelude.{not, ◌==◌, ◌||◌, ◌&&◌, cond, filter, flat_map, nat_lt}
use Rattle.std.specs.List.{list_any, list_all, range_with_len}
use Rattle.std.specs.Option.{option_map}
use Rattle.std.specs.Str.{bytes_eq}
use Rattle.std.proofs.lemmas.Bool.Decides.{nat_tests}
use Rattle.std.proofs.lemmas.List.{get_or_past}
use Rattle.std.proofs.lemmas.List.Elements.{All-head, All-tail}
use Rattle.std.proofs.lemmas.List.Folds.{list_all-append, list_any-append}
use Rattle.std.proofs.lemmas.Slice.Eq.{bytes_eq-Decides}
use Rattle.st_values.specs.Arranged.{each_pair}
use Rattle.st_values.proofs.Tests.{both, left, right, either, all-weaken, all-two}
use Rattle.st_lattice.specs.declared.attribute.Attribute.{Attribute}
use Rattle.st_lattice.specs.declared.feature.Named.{Named}
use Rattle.st_lattice.specs.Outline.{Outline, IsOrderly}
use Rattle.st_lattice.specs.Lattice.{isa_within, isa, below, attributes_in}
use Rattle.st_lattice.specs.Features.{own, inverse, named, features}
use Rattle.st_lattice.specs.Consistent.{IsConsistent}
use Rattle.st_schema.specs.declared.fault.SchemaFault.{SchemaFault}
use Rattle.st_schema.specs.declared.fault.SchemaFault.TheVariants.{Repeated}
use Rattle.st_schema.specs.declared.written.Setting.{Setting}
use Rattle.st_schema.specs.declared.written.Setting.TheVariants as setting
use Rattle.st_schema.specs.declared.written.Choice.{Choice}
use Rattle.st_schema.specs.declared.written.Worded.{Worded}
use Rattle.st_schema.specs.declared.written.AttributeForm.{AttributeForm}
use Rattle.st_schema.specs.declared.written.TypeForm.{TypeForm}
use Rattle.st_schema.specs.declared.written.Written.{Written}
use Rattle.st_schema.specs.Checks.{goes_with, choice_fault, choices_in, bad_option, written_fault, too_many, repeated_type, parents_fault, unknown_type}
use Rattle.st_schema.specs.Resolved.{is_on, is_no_nulls, attributes_from, all_attributes, resolved}
use Rattle.st_schema.specs.Meaning.{same_place, clash_after, repeated_feature, clashes, is_ambiguous, is_lesser, least_ambiguous, ambiguous_at, wide_at, first_of, schema_fault}
use Rattle.st_schema.proofs.Content.{option_or_none}
use Rattle.st_schema.proofs.Kept.{goes_first}
use Rattle.st_schema.proofs.Orderly.{count_from}

-- ---- numbers

-- numbers from one on
abbrev Counts : ℕ → List Attribute → Type 0
Counts n [] = Unit {0}
Counts n (a ∷ attributes) = (a.number ≡ n) × Counts (n + 1) attributes

counts_from : (names : List (List ℕ)) (number owner : ℕ) (attributes : List AttributeForm) → Counts number (attributes_from names number owner attributes)
counts_from names number owner [] = tt
counts_from names number owner (a ∷ attributes) = (refl, counts_from names (number + 1) owner attributes)

counts_append : (n : ℕ) (xs ys : List Attribute) → Counts n xs → Counts (n + length xs) ys → Counts n (xs ++ ys)
counts_append n [] ys h k = let e : n + 0 ≡ n = omega arith in subst (λ m. Counts m ys) e k
counts_append n (x ∷ xs) ys h k =
    let e : n + suc (length xs) ≡ (n + 1) + length xs = omega arith in (h.0, counts_append (n + 1) xs ys h.1 (subst (λ m. Counts m ys) e k))

counts_all : (names : List (List ℕ)) (number owner : ℕ) (types : List TypeForm) → Counts number (all_attributes names number owner types)
counts_all names number owner [] = tt
counts_all names number owner (t ∷ types) =
    counts_append number (attributes_from names number owner t.attributes) (all_attributes names (number + length t.attributes) (owner + 1) types)
    (counts_from names number owner t.attributes)
    (subst (λ m. Counts (number + m) (all_attributes names (number + length t.attributes) (owner + 1) types)) (sym (count_from names number owner t.attributes))
    (counts_all names (number + length t.attributes) (owner + 1) types))

differs : (m n : ℕ) → m < n → (n == m) ≡ false
differs m n h = grind (arith, nat_tests, h)

others : (n m : ℕ) (xs : List Attribute) → Counts n xs → m < n → list_all (λ b. not (b.number == m)) xs ≡ true
others n m [] h less = refl
others n m (x ∷ xs) h less =
    both (not (x.number == m)) (list_all (λ b. not (b.number == m)) xs) (ap (λ k. not (k == m)) h.0 ∙ ap not (differs m n less)) (others (n + 1) m xs h.1 (omega (arith, less)))

numbers_differ : (n : ℕ) (xs : List Attribute) → Counts n xs → each_pair (λ a b. not (b.number == a.number)) xs ≡ true
numbers_differ n [] h = refl
numbers_differ n (x ∷ xs) h =
    both (list_all (λ b. not (b.number == x.number)) xs) (each_pair (λ a b. not (b.number == a.number)) xs)
    (ap (λ m. list_all (λ b. not (b.number == m)) xs) h.0 ∙ others (n + 1) n xs h.1 (omega arith)) (numbers_differ (n + 1) xs h.1)

-- ---- sets

-- no option that goes with a set forbids null
not_set : (w : Worded) (s : Setting) → goes_with w true s ≡ true → is_no_nulls s ≡ false
not_set w (setting.Inverse name) g = refl
not_set w (setting.Unique on) g = refl
not_set w (setting.NoNulls true) g = absurd (true≢false (sym g))
not_set w (setting.NoNulls false) g = refl
not_set w (setting.Index on) g = refl

sets_take_nulls : (w : Worded) (choices : List Choice) → choice_fault w true choices ≡ None → is_on is_no_nulls choices ≡ false
sets_take_nulls w [] e = refl
sets_take_nulls w (c ∷ choices) e =
    let goes = goes_first (goes_with w true c.setting) w true c.place choices e in
    ap (λ b. b || is_on is_no_nulls choices) (not_set w c.setting goes.0) ∙ sets_take_nulls w choices goes.1

nulls_or_single : (many : Bool) (w : Worded) (choices : List Choice) → choice_fault w many choices ≡ None → not (many && is_on is_no_nulls choices) ≡ true
nulls_or_single false w choices e = refl
nulls_or_single true w choices e = ap not (sets_take_nulls w choices e)

abbrev takes_nulls : Attribute → Bool
takes_nulls a = not (a.many && a.no_nulls)

sets_from : (names : List (List ℕ)) (number owner : ℕ) (attributes : List AttributeForm) → choices_in attributes ≡ None → list_all takes_nulls (attributes_from names number owner attributes) ≡ true
sets_from names number owner [] e = refl
sets_from names number owner (a ∷ attributes) e =
    let parts = option_or_none (choice_fault a.worded a.many a.choices) (choices_in attributes) e in
    both (not (a.many && is_on is_no_nulls a.choices)) (list_all takes_nulls (attributes_from names (number + 1) owner attributes)) (nulls_or_single a.many a.worded a.choices parts.0)
    (sets_from names (number + 1) owner attributes parts.1)

sets_all : (names : List (List ℕ)) (number owner : ℕ) (types : List TypeForm) → bad_option types ≡ None → list_all takes_nulls (all_attributes names number owner types) ≡ true
sets_all names number owner [] e = refl
sets_all names number owner (t ∷ types) e =
    let parts = option_or_none (choices_in t.attributes) (bad_option types) e in
    list_all-append takes_nulls (attributes_from names number owner t.attributes) (all_attributes names (number + length t.attributes) (owner + 1) types)
    ∙ both _ _ (sets_from names number owner t.attributes parts.0) (sets_all names (number + length t.attributes) (owner + 1) types parts.1)

-- ---- pairs of a list

module _ {X : Type 0} where
  -- what each pair has and what any two elements have, each pair has together; xs are some of all
  pairs_with : (r s t : X → X → Bool) → ((x y : X) → r x y ≡ true → s x y ≡ true → t x y ≡ true) → (all xs : List X) → ((q : X → Bool) → list_all q all ≡ true → list_all q xs ≡ true) →
      each_pair r xs ≡ true → list_all (λ x. list_all (s x) all) xs ≡ true → each_pair t xs ≡ true
  pairs_with r s t h all [] sub e k = refl
  pairs_with r s t h all (x ∷ xs) sub e k =
      both (list_all (t x) xs) (each_pair t xs)
      (all-two (r x) (s x) (t x) xs (h x) (left (list_all (r x) xs) (each_pair r xs) e)
      (right (s x x) (list_all (s x) xs) (sub (s x) (left (list_all (s x) all) (list_all (λ y. list_all (s y) all) xs) k))))
      (pairs_with r s t h all xs (λ q a. right (q x) (list_all q xs) (sub q a)) (right (list_all (r x) xs) (each_pair r xs) e)
      (right (list_all (s x) all) (list_all (λ y. list_all (s y) all) xs) k))

  -- what a pair has of which both are kept
  abbrev IfBoth : (X → Bool) → (X → X → Bool) → X → X → Bool
  IfBoth p t x y = not (p x) || (not (p y) || t x y)

  all_kept : (here : Bool) (p t : X → Bool) → here ≡ true → (xs : List X) → list_all (λ y. not here || (not (p y) || t y)) xs ≡ true → list_all t (filter p xs) ≡ true
  all_kept here p t k [] a = refl
  all_kept here p t k (y ∷ ys) a =
      let rest = all_kept here p t k ys (right (not here || (not (p y) || t y)) (list_all (λ z. not here || (not (p z) || t z)) ys) a) in
      let this : (not here || (not (p y) || t y)) ≡ true = left (not here || (not (p y) || t y)) (list_all (λ z. not here || (not (p z) || t z)) ys) a in
      either (p y) (λ b. (not here || (not b || t y)) ≡ true → list_all t (cond b (y ∷ filter p ys) (filter p ys)) ≡ true)
      (λ _ h. both (t y) (list_all t (filter p ys)) (subst (λ c. (not c || t y) ≡ true) k h) rest) (λ _ h. rest) this

  pairs_kept : (p : X → Bool) (t : X → X → Bool) (xs : List X) → each_pair (IfBoth p t) xs ≡ true → each_pair t (filter p xs) ≡ true
  pairs_kept p t [] e = refl
  pairs_kept p t (x ∷ xs) e =
      let rest = pairs_kept p t xs (right (list_all (IfBoth p t x) xs) (each_pair (IfBoth p t) xs) e) in
      either (p x) (λ b. each_pair t (cond b (x ∷ filter p xs) (filter p xs)) ≡ true)
      (λ k. both (list_all (t x) (filter p xs)) (each_pair t (filter p xs)) (all_kept (p x) p (t x) k xs (left (list_all (IfBoth p t x) xs) (each_pair (IfBoth p t) xs) e)) rest) (λ _. rest)

  none_kept : (p : X → Bool) (t : X → X → Bool) (xs : List X) → list_all (λ x. not (p x)) xs ≡ true → each_pair t (filter p xs) ≡ true
  none_kept p t [] a = refl
  none_kept p t (x ∷ xs) a =
      let rest = none_kept p t xs (right (not (p x)) (list_all (λ y. not (p y)) xs) a) in
      either (p x) (λ b. not b ≡ true → each_pair t (cond b (x ∷ filter p xs) (filter p xs)) ≡ true) (λ _ h. absurd (true≢false (sym h))) (λ _ _. rest)
      (left (not (p x)) (list_all (λ y. not (p y)) xs) a)

  pairs_behind : (r : X → X → Bool) (xs ys : List X) → each_pair r (xs ++ ys) ≡ true → each_pair r ys ≡ true
  pairs_behind r [] ys e = e
  pairs_behind r (x ∷ xs) ys e = pairs_behind r xs ys (right (list_all (r x) (xs ++ ys)) (each_pair r (xs ++ ys)) e)

-- ---- features and their attributes

-- what all features have, the attributes' own ones have
own_all : (q : Named → Bool) (attributes : List Attribute) → list_all q (flat_map named attributes) ≡ true → list_all (λ a. q (own a)) attributes ≡ true
own_all q [] e = refl
own_all q (a ∷ attributes) e =
    let more = right (q (own a)) (list_all q (inverse a ++ flat_map named attributes)) e in
    both (q (own a)) (list_all (λ b. q (own b)) attributes) (left (q (own a)) (list_all q (inverse a ++ flat_map named attributes)) e)
    (own_all q attributes (right (list_all q (inverse a)) (list_all q (flat_map named attributes)) (sym (list_all-append q (inverse a) (flat_map named attributes)) ∙ more)))

own_pairs : (r : Named → Named → Bool) (attributes : List Attribute) → each_pair r (flat_map named attributes) ≡ true → each_pair (λ a b. r (own a) (own b)) attributes ≡ true
own_pairs r [] e = refl
own_pairs r (a ∷ attributes) e =
    let rest = flat_map named attributes in
    let first = left (list_all (r (own a)) (inverse a ++ rest)) (each_pair r (inverse a ++ rest)) e in
    let more = right (list_all (r (own a)) (inverse a ++ rest)) (each_pair r (inverse a ++ rest)) e in
    both (list_all (λ b. r (own a) (own b)) attributes) (each_pair (λ a b. r (own a) (own b)) attributes)
    (own_all (r (own a)) attributes (right (list_all (r (own a)) (inverse a)) (list_all (r (own a)) rest) (sym (list_all-append (r (own a)) (inverse a) rest) ∙ first)))
    (own_pairs r attributes (pairs_behind r (inverse a) rest more))

-- ---- features of one type

no_fault : {A : Type 0} (b : Bool) (x : A) (rest : Option A) → cond b (Some x) rest ≡ None → (b ≡ false) × (rest ≡ None)
no_fault true x rest e = absurd (cc)
no_fault false x rest e = (refl, e)

first_not : (a b : Bool) → not (a || b) ≡ true → not a ≡ true
first_not true b e = e
first_not false b e = refl

last_not : (a b : Bool) → not (a || (b || false)) ≡ true → not b ≡ true
last_not true b e = absurd (true≢false (sym e))
last_not false true e = e
last_not false false e = refl

-- features of which none has the place of another one, nor of one of those before them
record AreApart (before fs : List Named) : Type 0 where
  pub fresh : list_all (λ g. not (list_any (same_place g) before)) fs ≡ true
  pub pairs : each_pair (λ f g. not (same_place g f)) fs ≡ true

clash_apart : (before fs : List Named) → clash_after before fs ≡ None → AreApart before fs
clash_apart before [] e = record { fresh = refl; pairs = refl }
clash_apart before (f ∷ fs) e =
    let parts = no_fault (list_any (same_place f) before) f.name (clash_after (before ++ f ∷ []) fs) e in
    let more = clash_apart (before ++ f ∷ []) fs parts.1 in
    let split : (g : Named) → not (list_any (same_place g) (before ++ f ∷ [])) ≡ true → not (list_any (same_place g) before || (same_place g f || false)) ≡ true =
    λ g h. sym (ap not (list_any-append (same_place g) before (f ∷ []))) ∙ h in
    record {
      fresh =
          both (not (list_any (same_place f) before)) (list_all (λ g. not (list_any (same_place g) before)) fs) (ap not parts.0)
          (all-weaken (λ g. not (list_any (same_place g) (before ++ f ∷ []))) (λ g. not (list_any (same_place g) before))
          (λ g h. first_not (list_any (same_place g) before) (same_place g f || false) (split g h)) fs more.fresh);
      pairs =
          both (list_all (λ g. not (same_place g f)) fs) (each_pair (λ f g. not (same_place g f)) fs)
          (all-weaken (λ g. not (list_any (same_place g) (before ++ f ∷ []))) (λ g. not (same_place g f))
          (λ g h. last_not (list_any (same_place g) before) (same_place g f) (split g h)) fs more.fresh)
          more.pairs;
    }

-- ---- features that come to a type from several types

module _ (schema : Outline) (ty : ℕ) (fs : List Named) where
  -- a feature that was found isn't lost again, so that where none is found none is ambiguous
  found_stays : (least : Named) (more : List Named) → least_ambiguous schema ty fs (Some least) more ≡ None → ⊥
  found_stays least [] e = cc
  found_stays least (f ∷ more) e =
      either (is_ambiguous schema ty fs f && is_lesser (Some least) f) (λ b. least_ambiguous schema ty fs (cond b (Some f) (Some least)) more ≡ None → ⊥)
      (λ _ h. found_stays f more h) (λ _ h. found_stays least more h) e

  unambiguous : (more : List Named) → least_ambiguous schema ty fs None more ≡ None → list_all (λ f. not (is_ambiguous schema ty fs f)) more ≡ true
  unambiguous [] e = refl
  unambiguous (f ∷ more) e =
      either (is_ambiguous schema ty fs f)
      (λ b. least_ambiguous schema ty fs (cond (b && true) (Some f) None) more ≡ None → (not b && list_all (λ g. not (is_ambiguous schema ty fs g)) more) ≡ true)
      (λ _ h. absurd (found_stays f more h)) (λ _ h. unambiguous more h) e

first_none : (fault : ℕ → Option SchemaFault) (m k : ℕ) → first_of fault (range_with_len m k) ≡ None → (ty : ℕ) → m ≤ ty → ty < m + k → fault ty ≡ None
first_none fault m zero e ty p q = absurd (omega (arith, p, q))
first_none fault m (suc k) e ty p q =
    let parts = option_or_none (fault m) (first_of fault (range_with_len (m + 1) k)) e in
    either (ty == m) (λ _. fault ty ≡ None)
    (λ same. let is : ty ≡ m = grind (arith, same) in ap fault is ∙ parts.0)
    (λ other. let above : m + 1 ≤ ty = grind (arith, nat_tests, other, p) in first_none fault (m + 1) k parts.1 ty above (omega (arith, q)))

no_image : {A B : Type 0} (f : A → B) (o : Option A) → option_map f o ≡ None → o ≡ None
no_image f None e = refl
no_image f (Some x) e = absurd (cc)

-- equal texts and numbers are equal the other way round
bytes_turned : (xs ys : List ℕ) → bytes_eq xs ys ≡ true → bytes_eq ys xs ≡ true
bytes_turned xs ys e = (bytes_eq-Decides ys xs).1 (sym ((bytes_eq-Decides xs ys).0 e))

number_turned : (m n : ℕ) → (m == n) ≡ true → (n == m) ≡ true
number_turned m n e = grind (arith, e)

-- Two attributes of a type have different names: where the type has both (pa, pb), one name (e) would be that of two
-- features of one owner (o), or would come from two owners.
names_apart : (pa pb o o' e e' : Bool) → (o ≡ true → o' ≡ true) → (e ≡ true → e' ≡ true) → not (o' && e') ≡ true → (not pa || not ((pb && not o) && e)) ≡ true → (not pa || (not pb || not e)) ≡ true
names_apart false pb o o' e e' h k r s = refl
names_apart true false o o' e e' h k r s = refl
names_apart true true o o' false e' h k r s = refl
names_apart true true true o' true e' h k r s = absurd (true≢false (sym r ∙ ap (λ b. not (b && e')) (h refl) ∙ ap not (k refl)))
names_apart true true false o' true e' h k r s = absurd (true≢false (sym s))

all_not : {X : Type 0} (p : X → Bool) (xs : List X) → not (list_any p xs) ≡ true → list_all (λ x. not (p x)) xs ≡ true
all_not p [] e = refl
all_not p (x ∷ xs) e = either (p x) (λ b. not (b || list_any p xs) ≡ true → (not b && list_all (λ y. not (p y)) xs) ≡ true) (λ _ h. h) (λ _ h. all_not p xs h) e

all_true : {X : Type 0} (xs : List X) → list_all (λ x. true) xs ≡ true
all_true [] = refl
all_true (x ∷ xs) = all_true xs

-- a number that no type has is of no other one
isa_outside : (parents : List (List ℕ)) (ty owner : ℕ) → length parents ≤ ty → owner < ty → isa_within ty parents ty owner ≡ false
isa_outside parents zero owner h k = absurd (omega (arith, k))
isa_outside parents (suc steps) owner h k = rw (differs owner (suc steps) k, get_or_past parents (suc steps) [] h) refl

module _ (schema : Outline) where
  -- no two attributes of one owner have one name
  own_apart : repeated_feature schema ≡ None → each_pair (λ a b. not (same_place (own b) (own a))) schema.attributes ≡ true
  own_apart e =
      let apart = clash_apart [] (features schema) (no_image Repeated (clash_after [] (features schema)) e) in
      own_pairs (λ f g. not (same_place g f)) schema.attributes apart.pairs

  -- no two attributes that one type has from two owners have one name
  abbrev IsNoClash : ℕ → Attribute → Attribute → Bool
  IsNoClash ty a b = not (isa schema ty a.owner) || not (clashes schema ty (own a) (own b))

  no_clash : (ty : ℕ) (a : Attribute) → not (is_ambiguous schema ty (features schema) (own a)) ≡ true → list_all (IsNoClash ty a) schema.attributes ≡ true
  no_clash ty a h =
      either (isa schema ty a.owner)
      (λ c. not (c && list_any (clashes schema ty (own a)) (features schema)) ≡ true → list_all (λ b. not c || not (clashes schema ty (own a) (own b))) schema.attributes ≡ true)
      (λ _ k. own_all (λ g. not (clashes schema ty (own a) g)) schema.attributes (all_not (clashes schema ty (own a)) (features schema) k))
      (λ _ _. all_true schema.attributes) h

  never_clash : (ty : ℕ) → ambiguous_at schema (features schema) ty ≡ None → list_all (λ a. list_all (IsNoClash ty a) schema.attributes) schema.attributes ≡ true
  never_clash ty e =
      let none = unambiguous schema ty (features schema) (features schema) (no_image _ (least_ambiguous schema ty (features schema) None (features schema)) e) in
      all-weaken (λ a. not (is_ambiguous schema ty (features schema) (own a))) (λ a. list_all (IsNoClash ty a) schema.attributes) (no_clash ty) schema.attributes
      (own_all (λ f. not (is_ambiguous schema ty (features schema) f)) schema.attributes none)

  names_inside : (ty : ℕ) → repeated_feature schema ≡ None → ambiguous_at schema (features schema) ty ≡ None → each_pair (λ a b. not (bytes_eq b.name a.name)) (attributes_in schema ty) ≡ true
  names_inside ty one two =
      pairs_kept (λ a. isa schema ty a.owner) (λ a b. not (bytes_eq b.name a.name)) schema.attributes
      (pairs_with (λ a b. not (same_place (own b) (own a))) (IsNoClash ty) (IfBoth (λ a. isa schema ty a.owner) (λ a b. not (bytes_eq b.name a.name)))
      (λ a b r s. names_apart (isa schema ty a.owner) (isa schema ty b.owner) (b.owner == a.owner) (a.owner == b.owner) (bytes_eq b.name a.name) (bytes_eq a.name b.name) (number_turned b.owner a.owner) (bytes_turned b.name a.name) r s)
      schema.attributes schema.attributes (λ q k. k) (own_apart one) (never_clash ty two))

  outside : (ty : ℕ) → length schema.parents ≤ ty → (attributes : List Attribute) → All (λ a. a.owner < ty) attributes → list_all (λ a. not (isa schema ty a.owner)) attributes ≡ true
  outside ty h [] all = refl
  outside ty h (a ∷ attributes) all =
      both (not (isa schema ty a.owner)) (list_all (λ b. not (isa schema ty b.owner)) attributes)
      (ap not (isa_outside schema.parents ty a.owner h (All-head (λ (b : Attribute). b.owner < ty) a attributes all))) (outside ty h attributes (All-tail (λ (b : Attribute). b.owner < ty) a attributes all))

  names_outside : (ty : ℕ) → IsOrderly schema → length schema.names ≤ ty → each_pair (λ a b. not (bytes_eq b.name a.name)) (attributes_in schema ty) ≡ true
  names_outside ty orderly h =
      let parents = orderly.parents in
      none_kept (λ a. isa schema ty a.owner) (λ a b. not (bytes_eq b.name a.name)) schema.attributes
      (outside ty (omega (arith, parents, h)) schema.attributes
      (λ k d inside. let owner : (get_or schema.attributes k d).owner < length schema.names = orderly.owners k d inside in omega (arith, owner, h)))

  names_differ : IsOrderly schema → schema_fault schema ≡ None → (ty : ℕ) → each_pair (λ a b. not (bytes_eq b.name a.name)) (attributes_in schema ty) ≡ true
  names_differ orderly e ty =
      let parts = option_or_none (repeated_feature schema) _ e in
      let more = option_or_none (first_of (ambiguous_at schema (features schema)) (below (length schema.names))) (first_of (wide_at schema) (below (length schema.names))) parts.1 in
      either (nat_lt ty (length schema.names)) (λ _. each_pair (λ a b. not (bytes_eq b.name a.name)) (attributes_in schema ty) ≡ true)
      (λ k. let inside : ty < length schema.names = grind (arith, nat_tests, k) in
      names_inside ty parts.0 (first_none (ambiguous_at schema (features schema)) 0 (length schema.names) more.0 ty (omega arith) (omega (arith, inside))))
      (λ k. let past : length schema.names ≤ ty = grind (arith, nat_tests, k) in names_outside ty orderly past)

pub resolved_consistent : (w : Written) → written_fault w.types ≡ None → IsOrderly (resolved w) → schema_fault (resolved w) ≡ None → IsConsistent (resolved w)
resolved_consistent w fits orderly right =
    let names : List (List ℕ) = (resolved w).names in
    let one = option_or_none (too_many w.types) _ fits in
    let two = option_or_none (repeated_type w.types) _ one.1 in
    let three = option_or_none (parents_fault [] w.types) _ two.1 in
    let four = option_or_none (unknown_type names w.types) (bad_option w.types) three.1 in
    record {
      numbers = numbers_differ 0 (all_attributes names 0 0 w.types) (counts_all names 0 0 w.types);
      names = names_differ (resolved w) orderly right;
      sets = sets_all names 0 0 w.types four.1;
    }
