-- A term that passed the checks can be read: each feature is taken of null, or of a live entity that has it.
use Rattle.std.proofs.Common.{rules, ◌≡◌, ℕ, true, List, [], ◌∷◌, Some, None, refl, sym, ap, subst, true≢false}
use Rattle.std.specs.Prelude.{◌++◌, ◌&&◌, if◌then◌else◌, not, All}
use Rattle.std.proofs.lemmas.List.Elements.{All-nil}
use Rattle.st_values.specs.declared.value.Kind.{Kind}
use Rattle.st_values.specs.declared.value.Kind.TheVariants as kind
use Rattle.st_values.specs.declared.value.Value.{Value}
use Rattle.st_values.specs.declared.value.Value.TheVariants as value
use Rattle.st_values.proofs.Tests.{both, either}
use Rattle.st_lattice.specs.declared.attribute.Attribute.{Attribute}
use Rattle.st_lattice.specs.declared.called.Called.{Called}
use Rattle.st_lattice.specs.declared.called.Called.TheVariants.{Nothing, Own, Inverse}
use Rattle.st_lattice.specs.Outline.{attribute}
use Rattle.st_lattice.specs.Lattice.{isa}
use Rattle.st_lattice.specs.Stores.{passes}
use Rattle.st_lattice.specs.Called.{called}
use Rattle.st_query.specs.declared.kind.Expected.{Expected}
use Rattle.st_query.specs.declared.kind.Expected.TheVariants.{Storable}
use Rattle.st_query.specs.declared.kind.Sort.{Sort}
use Rattle.st_query.specs.declared.kind.Sort.TheVariants as sort
use Rattle.st_query.specs.declared.term.Term.{Term}
use Rattle.st_query.specs.declared.term.Variable.{Variable}
use Rattle.st_query.specs.Kinds.{Known, value_sort, kind_sort, known, store_well, start_typing, start_name, feature_typing, attribute_typing, expected_under}
use Rattle.st_query.specs.Ways.{Start, way}
use Rattle.st_state.specs.State.{State, is_live}
use Rattle.st_state.specs.Legal.{can_hold, IsNearlyLegal}
use Rattle.st_state.specs.Refusals.{first_of}
use Rattle.st_state.specs.Calls.{Get, Members, Turned, Admits}
use Rattle.st_meaning.specs.declared.meaning.Meaning.{Meaning}
use Rattle.st_meaning.specs.declared.meaning.Meaning.TheVariants.{Single}
use Rattle.st_meaning.specs.Terms.{single, feature_value, features_value, start_value}
use Rattle.st_meaning.specs.Checks.{fit_or_refused, way_refused, term_refused}
use Rattle.st_meaning.proofs.Sorts.{LiveValue, first-none, others-none, called-own, held-sort, attribute-gives, inverse-gives, feature-live, fit-none, start-sort, single-typing, chain, kind_sort-some, null-stores}
use Rattle.st_terms.specs.declared.route.Reading.{Reading}
use Rattle.st_terms.specs.declared.route.Reading.TheVariants as reading
use Rattle.st_terms.specs.Routes.{reading_of, readings_of, reading_value, AdmitsReading, AdmitsWalk, walked, AdmitsTerm}
use Rattle.st_terms.proofs.Routes.{called-inverse, features-walked, start-is}

-- ---- one reading

pub one : {X : Type 0} (P : X → Type 0) (x : X) → P x → All P (x ∷ [])
one P x p = search (rules, p)

module _ (s : State) where
  -- an entity that is live, and of the type that has an attribute, admits that the attribute is read
  own-admits : (a : Attribute) (v : Value) → attribute s.schema a.number ≡ Some a → store_well s.schema (sort.Entity a.owner) (value_sort v) ≡ true → LiveValue s v → AdmitsReading s (reading_of (Own a)) v
  own-admits a value.Null f h l = either a.many (λ b. AdmitsReading s (if b then reading.Members a.number else reading.Value a.number) value.Null) (λ _. All-nil (Admits s)) (λ _. All-nil (Admits s))
  own-admits a (value.Int i) f h l = absurd (true≢false (sym h))
  own-admits a (value.Bool i) f h l = absurd (true≢false (sym h))
  own-admits a (value.Text i) f h l = absurd (true≢false (sym h))
  own-admits a (value.Entity e) f h l =
      either a.many (λ b. a.many ≡ b → AdmitsReading s (if b then reading.Members a.number else reading.Value a.number) (value.Entity e))
      (λ k _. one (Admits s) (Members e a.number) (record { live = l e refl; many = subst (λ o. passes (λ x. isa s.schema e.ty x.owner && x.many) o ≡ true) (sym f) (both (isa s.schema e.ty a.owner) a.many h k) }))
      (λ k _. one (Admits s) (Get e a.number) (record { live = l e refl; single = subst (λ o. passes (λ x. isa s.schema e.ty x.owner && not x.many) o ≡ true) (sym f) (both (isa s.schema e.ty a.owner) (not a.many) h (ap not k)) })) refl

  inverse-admits : (a : Attribute) (v : Value) → attribute s.schema a.number ≡ Some a → store_well s.schema (kind_sort a.kind) (value_sort v) ≡ true → LiveValue s v → AdmitsReading s (reading_of (Inverse a)) v
  inverse-admits a value.Null f h l = All-nil (Admits s)
  inverse-admits a (value.Int i) f h l = All-nil (Admits s)
  inverse-admits a (value.Bool i) f h l = All-nil (Admits s)
  inverse-admits a (value.Text i) f h l = All-nil (Admits s)
  inverse-admits a (value.Entity e) f h l = one (Admits s) (Turned a.number (value.Entity e)) (subst (λ o. passes (λ x. can_hold s x.kind (value.Entity e)) o ≡ true) (sym f) (by a.kind h))
    where
      by : (k : Kind) → store_well s.schema (kind_sort k) (sort.Entity e.ty) ≡ true → can_hold s k (value.Entity e) ≡ true
      by kind.Int m = absurd (true≢false (sym m))
      by kind.Bool m = absurd (true≢false (sym m))
      by (kind.Text limit) m = absurd (true≢false (sym m))
      by (kind.Entity ty) m = both (isa s.schema e.ty ty) (is_live s e) m (l e refl)

-- ---- readings one after another

admits-append : (s : State) (xs : List Reading) (x : Reading) (m : Meaning) → AdmitsWalk s xs m → AdmitsReading s x (single (walked s xs m)) → AdmitsWalk s (xs ++ x ∷ []) m
admits-append s [] x m f g = (g, tt)
admits-append s (y ∷ ys) x m f g = (f.0, admits-append s ys x (reading_value s y (single m)) f.1 g)

-- What is known of the value that a term begins with: it is live, and of the sort that was checked.
module _ (s : State) (n : IsNearlyLegal s) (names : List Known) (v : Value) (start : Start) (live : LiveValue s v)
    (sorted : (b : Sort) → fit_or_refused s.schema (Storable b) (start_name start) (start_typing s.schema names start) ≡ None → store_well s.schema b (value_sort v) ≡ true) where
  values-live : (features : List (List ℕ)) → LiveValue s (single (features_value s features v))
  values-live [] = live
  values-live (name ∷ features) = feature-live s n [] name (single (features_value s features v))

  values-sort : (b : Sort) (features : List (List ℕ)) → way_refused s.schema names (Storable b) features start ≡ None → store_well s.schema b (value_sort (single (features_value s features v))) ≡ true
  values-sort b [] h = sorted b h
  values-sort b (name ∷ features) h = by (called s.schema name) refl (first-none (fit_or_refused s.schema (Storable b) name (feature_typing (called s.schema name))) _ h)
    where
      rest : Value
      rest = single (features_value s features v)

      by : (c : Called Attribute) → called s.schema name ≡ c → fit_or_refused s.schema (Storable b) name (feature_typing c) ≡ None → store_well s.schema b (value_sort (single (feature_value s c rest))) ≡ true
      by Nothing e k = null-stores s.schema b
      by (Own a) e k =
          let kind_fits = single-typing s n [] b a (fit-none s n [] (Storable b) name (attribute_typing a) k) in
          attribute-gives s n a rest (called-own s.schema name a e) (λ w. store_well s.schema b (value_sort w) ≡ true) (null-stores s.schema b)
          (λ w m. chain s n [] b (kind_sort a.kind) (value_sort w) (kind_sort-some a.kind) kind_fits (held-sort s n a.kind w m))
      by (Inverse a) e k = subst (λ w. store_well s.schema b (value_sort w) ≡ true) (sym (inverse-gives s n a rest)) (null-stores s.schema b)

  feature-admits : (expected : Expected) (name : List ℕ) (features : List (List ℕ)) → way_refused s.schema names expected (name ∷ features) start ≡ None → AdmitsReading s (reading_of (called s.schema name)) (single (features_value s features v))
  feature-admits expected name features h = by (called s.schema name) refl (others-none (fit_or_refused s.schema expected name (feature_typing (called s.schema name))) _ h)
    where
      rest : Value
      rest = single (features_value s features v)

      by : (c : Called Attribute) → called s.schema name ≡ c → first_of (way_refused s.schema names (expected_under c) features start ∷ []) ≡ None → AdmitsReading s (reading_of c) rest
      by Nothing e k = no rest
        where
          no : (w : Value) → AdmitsReading s reading.Nothing w
          no value.Null = All-nil (Admits s)
          no (value.Int i) = All-nil (Admits s)
          no (value.Bool i) = All-nil (Admits s)
          no (value.Text i) = All-nil (Admits s)
          no (value.Entity i) = All-nil (Admits s)
      by (Own a) e k = own-admits s a rest (called-own s.schema name a e) (values-sort (sort.Entity a.owner) features (first-none _ [] k)) (values-live features)
      by (Inverse a) e k = inverse-admits s a rest (called-inverse s.schema name a e) (values-sort (kind_sort a.kind) features (first-none _ [] k)) (values-live features)

  pub way-admits : (expected : Expected) (features : List (List ℕ)) → way_refused s.schema names expected features start ≡ None → AdmitsWalk s (readings_of s.schema features) (Single v)
  way-admits expected [] h = tt
  way-admits expected (name ∷ features) h =
      admits-append s (readings_of s.schema features) (reading_of (called s.schema name)) (Single v)
      (way-admits (expected_under (called s.schema name)) features (first-none (way_refused s.schema names (expected_under (called s.schema name)) features start) [] (others-none (fit_or_refused s.schema expected name (feature_typing (called s.schema name))) _ h)))
      (subst (λ m. AdmitsReading s (reading_of (called s.schema name)) (single m)) (sym (features-walked s features v)) (feature-admits expected name features h))

-- ---- a term of a statement

pub admitted-term : (s : State) → IsNearlyLegal s → (variables : List Variable) (expected : Expected) (t : Term) → term_refused s.schema (known variables) expected t ≡ None
    → LiveValue s (start_value s variables (way t).start) → AdmitsTerm s variables t
unfolding term_refused
admitted-term s n variables expected t h l = by (way t).start refl (way-admits s n (known variables) (start_value s variables (way t).start) (way t).start l (λ b k. start-sort s n variables b (way t).start k) expected (way t).features h)
  where
    by : (start : Start) → (way t).start ≡ start → AdmitsWalk s (readings_of s.schema (way t).features) (Single (start_value s variables (way t).start)) → AdmitsTerm s variables t
    by start e f = subst (λ v. AdmitsWalk s (readings_of s.schema (way t).features) (Single v)) (sym (start-is s variables (way t).start)) f
