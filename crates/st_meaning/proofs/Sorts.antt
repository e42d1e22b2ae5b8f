-- A term that passes the checks stands for a value that its place can take.
use Rattle.std.proofs.Common.{◌≡◌, ℕ, Bool, true, false, List, [], ◌∷◌, Option, Some, None, refl, sym, ap, subst, ◌∙◌, true≢false}
use Rattle.std.specs.Prelude.{◌==◌, ◌&&◌, cond, find, if◌then◌else◌}
use Rattle.std.specs.List.{list_all}
use Rattle.std.specs.Str.{bytes_eq}
use Rattle.st_values.specs.declared.value.EntityId.{EntityId}
use Rattle.st_values.specs.declared.value.Kind.{Kind}
use Rattle.st_values.specs.declared.value.Kind.TheVariants as kind
use Rattle.st_values.specs.declared.value.Value.{Value}
use Rattle.st_values.specs.declared.value.Value.TheVariants as value
use Rattle.st_values.specs.Order.{same_entity}
use Rattle.st_values.proofs.Tests.{left, right, either}
use Rattle.st_lattice.specs.declared.attribute.Attribute.{Attribute}
use Rattle.st_lattice.specs.declared.feature.Feature.{Feature}
use Rattle.st_lattice.specs.declared.feature.Feature.TheVariants as feature
use Rattle.st_lattice.specs.declared.called.Called.{Called}
use Rattle.st_lattice.specs.declared.called.Called.TheVariants.{Nothing, Own, Inverse}
use Rattle.st_lattice.specs.Features.{lookup}
use Rattle.st_lattice.specs.Outline.{Outline, type_named, attribute}
use Rattle.st_lattice.specs.Lattice.{isa}
use Rattle.st_lattice.specs.Stores.{passes}
use Rattle.st_lattice.specs.Called.{own, inverse, called_by, called}
use Rattle.st_query.specs.declared.term.Literal.TheVariants as literal
use Rattle.st_query.specs.declared.term.Term.{Term}
use Rattle.st_query.specs.declared.term.Variable.{Variable}
use Rattle.st_query.specs.declared.kind.Expected.{Expected}
use Rattle.st_query.specs.declared.kind.Expected.TheVariants.{Storable}
use Rattle.st_query.specs.declared.kind.Typing.{Typing}
use Rattle.st_query.specs.declared.kind.Typing.TheVariants.{One, Many}
use Rattle.st_query.specs.declared.kind.Sort.{Sort}
use Rattle.st_query.specs.declared.kind.Sort.TheVariants as sort
use Rattle.st_query.specs.Ways.{Start, Written, Named, way}
use Rattle.st_query.specs.Terms.{entity_value, variable_named, bound_to}
use Rattle.st_query.specs.Kinds.{value_sort, kind_sort, known, fits, store_well, start_typing, start_name, entity_typing, variable_typing, feature_typing, attribute_typing}
use Rattle.st_state.specs.declared.refusal.Refusal.{Refusal}
use Rattle.st_state.specs.declared.refusal.Refusal.TheVariants.{WrongType}
use Rattle.st_state.specs.declared.triple.Triple.{Triple}
use Rattle.st_state.specs.State.{State, is_live, is_at, value_at, value_in, values_at}
use Rattle.st_state.specs.Legal.{can_hold, is_sound, IsNearlyLegal}
use Rattle.st_state.specs.Refusals.{first_of}
use Rattle.st_state.proofs.Changed.{number-is}
use Rattle.st_meaning.specs.Terms.{Single, Set, single, attribute_value, inverse_value, feature_value, features_value, start_value, term_meaning, term_value}
use Rattle.st_meaning.specs.Checks.{fit_or_refused, way_refused, term_refused}
use Rattle.st_meaning.proofs.Descent.{isa-chain}

-- ---- refusals

pub some-none : {A : Type 0} (a : A) → Some a ≡ None → ⊥
some-none a e = cc

-- where the first of several is none, each is
pub first-none : (o : Option Refusal) (os : List (Option Refusal)) → first_of (o ∷ os) ≡ None → o ≡ None
first-none None os e = refl
first-none (Some r) os e = absurd (some-none r e)

pub others-none : (o : Option Refusal) (os : List (Option Refusal)) → first_of (o ∷ os) ≡ None → first_of os ≡ None
others-none None os e = e
others-none (Some r) os e = absurd (some-none r e)

pub when-none : (b : Bool) (r : Refusal) → (if b then None else Some r) ≡ None → b ≡ true
when-none true r e = refl
when-none false r e = absurd (some-none r e)

pub unless-none : (b : Bool) (r : Refusal) → (if b then Some r else None) ≡ None → b ≡ false
unless-none true r e = absurd (some-none r e)
unless-none false r e = refl

-- ---- sorts

-- what fits what fits a sort fits the sort
pub store-chain : (schema : Outline) → ((t u w : ℕ) → isa schema t u ≡ true → isa schema u w ≡ true → isa schema t w ≡ true)
    → (a b c : Sort) → (b ≡ sort.Null → ⊥) → store_well schema a b ≡ true → store_well schema b c ≡ true → store_well schema a c ≡ true
store-chain schema t a sort.Null c n h k = absurd (n refl)
store-chain schema t sort.Null sort.Int c n h k = absurd (true≢false (sym h))
store-chain schema t sort.Null sort.Bool c n h k = absurd (true≢false (sym h))
store-chain schema t sort.Null sort.Text c n h k = absurd (true≢false (sym h))
store-chain schema t sort.Null (sort.Entity u) c n h k = absurd (true≢false (sym h))
store-chain schema t sort.Int sort.Int c n h k = k
store-chain schema t sort.Int sort.Bool c n h k = absurd (true≢false (sym h))
store-chain schema t sort.Int sort.Text c n h k = absurd (true≢false (sym h))
store-chain schema t sort.Int (sort.Entity u) c n h k = absurd (true≢false (sym h))
store-chain schema t sort.Bool sort.Int c n h k = absurd (true≢false (sym h))
store-chain schema t sort.Bool sort.Bool c n h k = k
store-chain schema t sort.Bool sort.Text c n h k = absurd (true≢false (sym h))
store-chain schema t sort.Bool (sort.Entity u) c n h k = absurd (true≢false (sym h))
store-chain schema t sort.Text sort.Int c n h k = absurd (true≢false (sym h))
store-chain schema t sort.Text sort.Bool c n h k = absurd (true≢false (sym h))
store-chain schema t sort.Text sort.Text c n h k = k
store-chain schema t sort.Text (sort.Entity u) c n h k = absurd (true≢false (sym h))
store-chain schema t (sort.Entity w) sort.Int c n h k = absurd (true≢false (sym h))
store-chain schema t (sort.Entity w) sort.Bool c n h k = absurd (true≢false (sym h))
store-chain schema t (sort.Entity w) sort.Text c n h k = absurd (true≢false (sym h))
store-chain schema t (sort.Entity w) (sort.Entity u) (sort.Entity z) n h k = t z u w k h
store-chain schema t (sort.Entity w) (sort.Entity u) sort.Null n h k = refl
store-chain schema t (sort.Entity w) (sort.Entity u) sort.Int n h k = absurd (true≢false (sym k))
store-chain schema t (sort.Entity w) (sort.Entity u) sort.Bool n h k = absurd (true≢false (sym k))
store-chain schema t (sort.Entity w) (sort.Entity u) sort.Text n h k = absurd (true≢false (sym k))

pub kind_sort-some : (k : Kind) → kind_sort k ≡ sort.Null → ⊥
kind_sort-some kind.Int e = cc
kind_sort-some kind.Bool e = cc
kind_sort-some (kind.Text limit) e = cc
kind_sort-some (kind.Entity ty) e = cc

pub null-stores : (schema : Outline) (a : Sort) → store_well schema a sort.Null ≡ true
null-stores schema sort.Null = refl
null-stores schema sort.Int = refl
null-stores schema sort.Bool = refl
null-stores schema sort.Text = refl
null-stores schema (sort.Entity ty) = refl

-- ---- values that are stored

-- an entity that is live, or no entity
abbrev pub LiveValue : State → Value → Type 0
LiveValue s v = (e : EntityId) → v ≡ value.Entity e → is_live s e ≡ true

pub not-entity : (v : Value) (e : EntityId) → (v ≡ value.Null) → v ≡ value.Entity e → ⊥
not-entity v e h k = cc

module _ (s : State) (n : IsNearlyLegal s) where
  pub held-sort : (k : Kind) (v : Value) → can_hold s k v ≡ true → store_well s.schema (kind_sort k) (value_sort v) ≡ true
  held-sort kind.Int (value.Int i) h = refl
  held-sort kind.Int value.Null h = refl
  held-sort kind.Int (value.Bool b) h = h
  held-sort kind.Int (value.Text t) h = h
  held-sort kind.Int (value.Entity e) h = h
  held-sort kind.Bool (value.Bool b) h = refl
  held-sort kind.Bool value.Null h = refl
  held-sort kind.Bool (value.Int b) h = h
  held-sort kind.Bool (value.Text t) h = h
  held-sort kind.Bool (value.Entity e) h = h
  held-sort (kind.Text limit) (value.Text t) h = refl
  held-sort (kind.Text limit) value.Null h = refl
  held-sort (kind.Text limit) (value.Int b) h = h
  held-sort (kind.Text limit) (value.Bool t) h = h
  held-sort (kind.Text limit) (value.Entity e) h = h
  held-sort (kind.Entity ty) (value.Entity e) h = left (isa s.schema e.ty ty) (is_live s e) h
  held-sort (kind.Entity ty) value.Null h = refl
  held-sort (kind.Entity ty) (value.Int b) h = h
  held-sort (kind.Entity ty) (value.Bool t) h = h
  held-sort (kind.Entity ty) (value.Text e) h = h

  pub held-live : (k : Kind) (v : Value) → can_hold s k v ≡ true → (e : EntityId) → v ≡ value.Entity e → is_live s e ≡ true
  held-live k v h e eq = by k (subst (λ w. can_hold s k w ≡ true) eq h)
    where
      by : (k : Kind) → can_hold s k (value.Entity e) ≡ true → is_live s e ≡ true
      by kind.Int h = absurd (true≢false (sym h))
      by kind.Bool h = absurd (true≢false (sym h))
      by (kind.Text limit) h = absurd (true≢false (sym h))
      by (kind.Entity ty) h = right (isa s.schema e.ty ty) (is_live s e) h

  -- the value that is found for an attribute of an entity: null, or one that the attribute can hold
  pub found-held : (a : Attribute) (e : EntityId) → attribute s.schema a.number ≡ Some a → (ts : List Triple) → list_all (is_sound s) ts ≡ true
      → (P : Value → Type 0) → P value.Null → ((v : Value) → can_hold s a.kind v ≡ true → P v) → P (value_in (find (is_at a.number e) ts))
  found-held a e f [] h P z g = z
  found-held a e f (t ∷ ts) h P z g =
      either (is_at a.number e t) (λ b. P (value_in (cond b (Some t) (find (is_at a.number e) ts))))
      (λ k.
      let here = right (is_live s t.entity) (passes (λ x. isa s.schema t.entity.ty x.owner && can_hold s x.kind t.value) (attribute s.schema t.attribute)) (left (is_sound s t) (list_all (is_sound s) ts) h) in
      let same : t.attribute ≡ a.number = number-is t.attribute a.number (left (t.attribute == a.number) (same_entity t.entity e) k) in
      let at : passes (λ x. isa s.schema t.entity.ty x.owner && can_hold s x.kind t.value) (Some a) ≡ true =
      subst (λ o. passes (λ x. isa s.schema t.entity.ty x.owner && can_hold s x.kind t.value) o ≡ true) f
      (subst (λ z. passes (λ x. isa s.schema t.entity.ty x.owner && can_hold s x.kind t.value) (attribute s.schema z) ≡ true) same here) in
      g t.value (right (isa s.schema t.entity.ty a.owner) (can_hold s a.kind t.value) at))
      (λ k. found-held a e f ts (right (is_sound s t) (list_all (is_sound s) ts) h) P z g)

  -- what a feature gives where a single value is wanted
  pub attribute-gives : (a : Attribute) (v : Value) → attribute s.schema a.number ≡ Some a → (P : Value → Type 0) → P value.Null → ((w : Value) → can_hold s a.kind w ≡ true → P w) → P (single (attribute_value s a v))
  attribute-gives a (value.Entity e) f P z g =
      either a.many (λ b. P (single (if b then Set (values_at a.number e s.triples) else Single (value_at a.number e s.triples)))) (λ _. z) (λ _. found-held a e f s.triples n.sound P z g)
  attribute-gives a value.Null f P z g = either a.many (λ b. P (single (if b then Set [] else Single value.Null))) (λ _. z) (λ _. z)
  attribute-gives a (value.Int _) f P z g = either a.many (λ b. P (single (if b then Set [] else Single value.Null))) (λ _. z) (λ _. z)
  attribute-gives a (value.Bool _) f P z g = either a.many (λ b. P (single (if b then Set [] else Single value.Null))) (λ _. z) (λ _. z)
  attribute-gives a (value.Text _) f P z g = either a.many (λ b. P (single (if b then Set [] else Single value.Null))) (λ _. z) (λ _. z)

  pub inverse-gives : (a : Attribute) (v : Value) → single (inverse_value s a v) ≡ value.Null
  inverse-gives a (value.Entity e) = refl
  inverse-gives a value.Null = refl
  inverse-gives a (value.Int _) = refl
  inverse-gives a (value.Bool _) = refl
  inverse-gives a (value.Text _) = refl

-- ---- terms

-- an attribute that is called by a name is found by its number
pub number-found : (number : ℕ) (a : Attribute) (xs : List Attribute) → find (λ x. x.number == number) xs ≡ Some a → (a.number == number) ≡ true
number-found number a [] f = absurd (some-none a (sym f))
number-found number a (x ∷ xs) f =
    either (x.number == number) (λ _. (a.number == number) ≡ true)
    (λ k. subst (λ b. (b.number == number) ≡ true) (some-is x a (sym (ap (λ b. cond b (Some x) (find (λ y. y.number == number) xs)) k) ∙ f)) k)
    (λ k. number-found number a xs (sym (ap (λ b. cond b (Some x) (find (λ y. y.number == number) xs)) k) ∙ f))
  where
    some-is : (x a : Attribute) → Some x ≡ Some a → x ≡ a
    some-is x a e = cc

pub own-found : (schema : Outline) (number : ℕ) (a : Attribute) → own (attribute schema number) ≡ Own a → attribute schema a.number ≡ Some a
own-found schema number a h = by (attribute schema number) refl h
  where
    nothing : Nothing ≡ Own a → ⊥
    nothing e = cc

    inside : (b : Attribute) → Own b ≡ Own a → b ≡ a
    inside b e = cc

    by : (o : Option Attribute) → attribute schema number ≡ o → own o ≡ Own a → attribute schema a.number ≡ Some a
    by None e k = absurd (nothing k)
    by (Some b) e k =
        let f : attribute schema number ≡ Some a = e ∙ ap Some (inside b k) in
        subst (λ z. attribute schema z ≡ Some a) (sym (number-is a.number number (number-found number a schema.attributes f))) f

pub inverse-apart : (schema : Outline) (number : ℕ) (a : Attribute) → inverse (attribute schema number) ≡ Own a → ⊥
inverse-apart schema number a h = by (attribute schema number) h
  where
    by : (o : Option Attribute) → inverse o ≡ Own a → ⊥
    by None e = cc
    by (Some b) e = cc

pub called-own : (schema : Outline) (name : List ℕ) (a : Attribute) → called schema name ≡ Own a → attribute schema a.number ≡ Some a
called-own schema name a h = by (lookup schema name) h
  where
    by : (o : Option Feature) → called_by schema o ≡ Own a → attribute schema a.number ≡ Some a
    by None e = cc
    by (Some (feature.Attribute number)) e = own-found schema number a e
    by (Some (feature.Inverse number)) e = absurd (inverse-apart schema number a e)

module _ (s : State) (n : IsNearlyLegal s) (variables : List Variable) where
  pub null-live : LiveValue s value.Null
  null-live e h = absurd (not-entity value.Null e refl h)

  -- what a feature gives is live
  pub feature-live : (name : List ℕ) (v : Value) → LiveValue s (single (feature_value s (called s.schema name) v))
  feature-live name v = by (called s.schema name) refl
    where
      by : (c : Called Attribute) → called s.schema name ≡ c → LiveValue s (single (feature_value s c v))
      by Nothing h = null-live
      by (Own a) h = attribute-gives s n a v (called-own s.schema name a h) (LiveValue s) null-live (λ w k. held-live s n a.kind w k)
      by (Inverse a) h = subst (LiveValue s) (sym (inverse-gives s n a v)) null-live

  pub features-live : (features : List (List ℕ)) (v : Value) → LiveValue s v → LiveValue s (single (features_value s features v))
  features-live [] v h = h
  features-live (name ∷ names) v h = feature-live name (single (features_value s names v))

  pub term-live : (term : Term) → LiveValue s (start_value s variables (way term).start) → LiveValue s (term_value s variables term)
  unfolding term_meaning
  term-live term h = features-live (way term).features (start_value s variables (way term).start) h

  pub chain : (a b c : Sort) → (b ≡ sort.Null → ⊥) → store_well s.schema a b ≡ true → store_well s.schema b c ≡ true → store_well s.schema a c ≡ true
  chain = store-chain s.schema (isa-chain s.schema n.orderly)

  pub fit-none : (expected : Expected) (name : List ℕ) (typing : Typing) → fit_or_refused s.schema expected name (Some typing) ≡ None → fits s.schema expected typing ≡ true
  fit-none expected name typing h = when-none (fits s.schema expected typing) WrongType h

  pub unknown-none : (expected : Expected) (name : List ℕ) → fit_or_refused s.schema expected name None ≡ None → ⊥
  unknown-none expected name h = cc

  -- what a term begins with is of the sort that was checked
  pub start-sort : (b : Sort) (start : Start) → fit_or_refused s.schema (Storable b) (start_name start) (start_typing s.schema (known variables) start) ≡ None → store_well s.schema b (value_sort (start_value s variables start)) ≡ true
  start-sort b (Written (literal.Entity ty serial)) h = by (type_named s.schema ty) h
    where
      by : (o : Option ℕ) → fit_or_refused s.schema (Storable b) ty (entity_typing o) ≡ None → store_well s.schema b (value_sort (entity_value o serial)) ≡ true
      by None k = absurd (unknown-none (Storable b) ty k)
      by (Some t) k = fit-none (Storable b) ty (One (sort.Entity t)) k
  start-sort b (Written literal.Null) h = fit-none (Storable b) [] (One sort.Null) h
  start-sort b (Written (literal.Int i)) h = fit-none (Storable b) [] (One sort.Int) h
  start-sort b (Written (literal.Bool i)) h = fit-none (Storable b) [] (One sort.Bool) h
  start-sort b (Written (literal.Text i)) h = fit-none (Storable b) [] (One sort.Text) h
  start-sort b (Named name) h = by variables h
    where
      by : (vs : List Variable) → fit_or_refused s.schema (Storable b) name (variable_typing (find (λ k. bytes_eq k.name name) (known vs))) ≡ None → store_well s.schema b (value_sort (bound_to (variable_named vs name))) ≡ true
      by [] k = null-stores s.schema b
      by (v ∷ vs) k =
          either (bytes_eq v.name name) (λ c. fit_or_refused s.schema (Storable b) name (variable_typing (cond c (Some (record { name = v.name; sort = value_sort v.value })) (find (λ k. bytes_eq k.name name) (known vs)))) ≡ None
          → store_well s.schema b (value_sort (bound_to (cond c (Some v) (variable_named vs name)))) ≡ true)
          (λ _ m. fit-none (Storable b) name (One (value_sort v.value)) m) (λ _ m. by vs m) k

  -- a set fits no place of a single value
  pub single-typing : (b : Sort) (a : Attribute) → fits s.schema (Storable b) (attribute_typing a) ≡ true → store_well s.schema b (kind_sort a.kind) ≡ true
  single-typing b a h = either a.many (λ c. fits s.schema (Storable b) (if c then Many (kind_sort a.kind) else One (kind_sort a.kind)) ≡ true → store_well s.schema b (kind_sort a.kind) ≡ true) (λ _ m. absurd (true≢false (sym m))) (λ _ m. m) h

  pub way-sort : (b : Sort) (features : List (List ℕ)) (start : Start) → way_refused s.schema (known variables) (Storable b) features start ≡ None
      → store_well s.schema b (value_sort (single (features_value s features (start_value s variables start)))) ≡ true
  way-sort b [] start h = start-sort b start h
  way-sort b (name ∷ names) start h =
      by (called s.schema name) refl (first-none (fit_or_refused s.schema (Storable b) name (feature_typing (called s.schema name))) _ h)
    where
      rest : Value
      rest = single (features_value s names (start_value s variables start))

      by : (c : Called Attribute) → called s.schema name ≡ c → fit_or_refused s.schema (Storable b) name (feature_typing c) ≡ None → store_well s.schema b (value_sort (single (feature_value s c rest))) ≡ true
      by Nothing e k = null-stores s.schema b
      by (Own a) e k =
          let kind_fits = single-typing b a (fit-none (Storable b) name (attribute_typing a) k) in
          attribute-gives s n a rest (called-own s.schema name a e) (λ w. store_well s.schema b (value_sort w) ≡ true) (null-stores s.schema b)
          (λ w m. chain b (kind_sort a.kind) (value_sort w) (kind_sort-some a.kind) kind_fits (held-sort s n a.kind w m))
      by (Inverse a) e k = subst (λ w. store_well s.schema b (value_sort w) ≡ true) (sym (inverse-gives s n a rest)) (null-stores s.schema b)

  pub term-sort : (b : Sort) (term : Term) → term_refused s.schema (known variables) (Storable b) term ≡ None → store_well s.schema b (value_sort (term_value s variables term)) ≡ true
  unfolding term_refused term_meaning
  term-sort b term h = way-sort b (way term).features (way term).start h
