-- The stores that are asked for a term are those of its path.
use Rattle.std.proofs.Common.{◌≡◌, ℕ, Bool, true, false, List, [], ◌∷◌, Option, Some, None, refl, sym, ◌∙◌, ap, subst, true≢false}
use Rattle.std.specs.Prelude.{◌++◌, ◌&&◌, ◌||◌, ◌==◌, find, flat_map, if◌then◌else◌, is_some, not}
use Rattle.std.specs.List.{list_all, list_any}
use Rattle.std.specs.Option.{option_map}
use Rattle.std.proofs.lemmas.Grind.{flat_map-append}
use Rattle.std.proofs.lemmas.List.Folds.{list_all-append}
use Rattle.st_values.specs.declared.value.Kind.{Kind}
use Rattle.st_values.specs.declared.value.Kind.TheVariants as kind
use Rattle.st_values.proofs.Tests.{both, left, right, either, not-true, all-not}
use Rattle.st_lattice.specs.declared.attribute.Attribute.{Attribute}
use Rattle.st_lattice.specs.declared.called.Called.{Called}
use Rattle.st_lattice.specs.declared.called.Called.TheVariants.{Nothing, Own, Inverse}
use Rattle.st_lattice.specs.declared.feature.Feature.{Feature}
use Rattle.st_lattice.specs.declared.feature.Feature.TheVariants as feature
use Rattle.st_lattice.specs.declared.feature.Named.{Named}
use Rattle.st_lattice.specs.Outline.{Outline, attribute}
use Rattle.st_lattice.specs.Features.{inverse_by, named, features, is_called, lookup}
use Rattle.st_lattice.specs.Consistent.{IsConsistent}
use Rattle.st_lattice.specs.Stores.{cell, index_of, inverse_of}
use Rattle.st_lattice.specs.Called.{own, inverse, called_by, called}
use Rattle.st_query.specs.declared.term.Term.{Term}
use Rattle.st_query.specs.declared.term.Variable.{Variable}
use Rattle.st_query.specs.Ways.{way}
use Rattle.st_query.specs.Footprint.{feature_stores, path_stores}
use Rattle.st_state.specs.State.{State}
use Rattle.st_state.specs.Legal.{IsNearlyLegal}
use Rattle.st_state.specs.Calls.{stores_by, found_in}
use Rattle.st_state.proofs.Changed.{number-itself, found-only}
use Rattle.st_state.proofs.Members.{Member, all-members, find-member}
use Rattle.st_meaning.proofs.Sorts.{called-own}
use Rattle.st_terms.specs.declared.route.Reading.TheVariants as reading
use Rattle.st_terms.specs.Looks.{AreAmong}
use Rattle.st_terms.specs.Routes.{reading_of, readings_of, reading_stores, route_of, route_stores, term_stores}
use Rattle.st_terms.proofs.Looking.{among-itself, among-chain, among-left, among-right, among-both}
use Rattle.st_terms.proofs.Routes.{called-inverse}

-- ---- an inverse that is called belongs to an attribute that has one

all-flat : {X Y : Type 0} (p : Y → Bool) (f : X → List Y) (xs : List X) → list_all (λ x. list_all p (f x)) xs ≡ true → list_all p (flat_map f xs) ≡ true
all-flat p f [] h = refl
all-flat p f (x ∷ xs) h =
    list_all-append p (f x) (flat_map f xs)
    ∙ both (list_all p (f x)) (list_all p (flat_map f xs)) (left (list_all p (f x)) (list_all (λ y. list_all p (f y)) xs) h)
    (all-flat p f xs (right (list_all p (f x)) (list_all (λ y. list_all p (f y)) xs) h))

-- whether an attribute with a number has an inverse
abbrev has_inverse : List Attribute → ℕ → Attribute → Bool
has_inverse owners number b = (b.number == number) && is_some b.inverse

abbrev good : List Attribute → Feature → Bool
good owners (feature.Attribute number) = true
good owners (feature.Inverse number) = list_any (has_inverse owners number) owners

member-any : {X : Type 0} (p : X → Bool) (x : X) (xs : List X) → Member x xs → p x ≡ true → list_any p xs ≡ true
member-any p x xs m h =
    either (list_any p xs) (λ b. list_any p xs ≡ b → b ≡ true) (λ _ _. refl)
    (λ k _. absurd (true≢false (sym h ∙ not-true (p x) (m (λ y. not (p y)) (all-not p xs ∙ ap not k))))) refl

named-good : (owners : List Attribute) (b : Attribute) → Member b owners → list_all (λ f. good owners f.feature) (named b) ≡ true
named-good owners b m = by b.inverse b.kind refl
  where
    by : (o : Option (List ℕ)) (k : Kind) → b.inverse ≡ o → list_all (λ f. good owners f.feature) (inverse_by o k b.number) ≡ true
    by None k e = refl
    by (Some name) kind.Int e = refl
    by (Some name) kind.Bool e = refl
    by (Some name) (kind.Text limit) e = refl
    by (Some name) (kind.Entity ty) e =
        both (list_any (has_inverse owners b.number) owners) true
        (member-any (has_inverse owners b.number) b owners m (both (b.number == b.number) (is_some b.inverse) (number-itself b.number) (ap is_some e))) refl

features-good : (schema : Outline) → list_all (λ f. good schema.attributes f.feature) (features schema) ≡ true
features-good schema =
    all-flat (λ f. good schema.attributes f.feature) named schema.attributes
    (all-members (λ b. list_all (λ f. good schema.attributes f.feature) (named b)) schema.attributes (λ b m. named-good schema.attributes b m))

lookup-good : (schema : Outline) (name : List ℕ) (f : Feature) → lookup schema name ≡ Some f → good schema.attributes f ≡ true
lookup-good schema name f h = by (find (is_called schema.names name) (features schema)) refl h
  where
    nothing : None ≡ Some f → ⊥
    nothing e = cc

    inside : (g : Feature) → Some g ≡ Some f → g ≡ f
    inside g e = cc

    by : (o : Option Named) → find (is_called schema.names name) (features schema) ≡ o → option_map (λ n. n.feature) o ≡ Some f → good schema.attributes f ≡ true
    by None e k = absurd (nothing k)
    by (Some n) e k =
        subst (λ g. good schema.attributes g ≡ true) (inside n.feature k)
        (find-member (is_called schema.names name) n (features schema) e (λ g. good schema.attributes g.feature) (features-good schema))

-- of the attributes with a number one has an inverse, so the one that is found has
found-inverted : (schema : Outline) → IsConsistent schema → (number : ℕ) (a : Attribute) → attribute schema number ≡ Some a → list_any (has_inverse schema.attributes number) schema.attributes ≡ true → is_some a.inverse ≡ true
found-inverted schema c number a f h =
    either (is_some a.inverse) (λ b. is_some a.inverse ≡ b → b ≡ true) (λ _ _. refl)
    (λ k _.
    let none = found-only (λ b. not (is_some b.inverse)) number a schema.attributes c.numbers f (ap not k) in
    absurd (true≢false (sym h ∙ not-true (list_any (has_inverse schema.attributes number) schema.attributes)
    (sym (all-not (has_inverse schema.attributes number) schema.attributes) ∙ turned schema.attributes none)))) refl
  where
    one : (a b : Bool) → (not a || not b) ≡ true → not (a && b) ≡ true
    one true true e = e
    one true false e = refl
    one false b e = refl

    turned : (xs : List Attribute) → list_all (λ b. not (b.number == number) || not (is_some b.inverse)) xs ≡ true → list_all (λ b. not (has_inverse schema.attributes number b)) xs ≡ true
    turned [] e = refl
    turned (x ∷ xs) e =
        both (not (has_inverse schema.attributes number x)) (list_all (λ b. not (has_inverse schema.attributes number b)) xs)
        (one (x.number == number) (is_some x.inverse) (left (not (x.number == number) || not (is_some x.inverse)) (list_all (λ b. not (b.number == number) || not (is_some b.inverse)) xs) e))
        (turned xs (right (not (x.number == number) || not (is_some x.inverse)) (list_all (λ b. not (b.number == number) || not (is_some b.inverse)) xs) e))

pub called-inverted : (schema : Outline) → IsConsistent schema → (name : List ℕ) (a : Attribute) → called schema name ≡ Inverse a → is_some a.inverse ≡ true
called-inverted schema c name a h = by (lookup schema name) refl h
  where
    nothing : Nothing ≡ Inverse a → ⊥
    nothing e = cc

    inside : (b : Attribute) → Inverse b ≡ Inverse a → b ≡ a
    inside b e = cc

    apart : (b : Attribute) → Own b ≡ Inverse a → ⊥
    apart b e = cc

    of-own : (o : Option Attribute) → own o ≡ Inverse a → ⊥
    of-own None e = nothing e
    of-own (Some b) e = apart b e

    of-inverse : (number : ℕ) → list_any (has_inverse schema.attributes number) schema.attributes ≡ true → (o : Option Attribute) → attribute schema number ≡ o → inverse o ≡ Inverse a → is_some a.inverse ≡ true
    of-inverse number g None f e = absurd (nothing e)
    of-inverse number g (Some b) f e = subst (λ x. is_some x.inverse ≡ true) (inside b e) (found-inverted schema c number b f g)

    by : (o : Option Feature) → lookup schema name ≡ o → called_by schema o ≡ Inverse a → is_some a.inverse ≡ true
    by None e k = absurd (nothing k)
    by (Some (feature.Attribute number)) e k = absurd (of-own (attribute schema number) k)
    by (Some (feature.Inverse number)) e k = of-inverse number (lookup-good schema name (feature.Inverse number) e) (attribute schema number) refl k

-- ---- readings

reading-among : (schema : Outline) → IsConsistent schema → (name : List ℕ) → AreAmong (reading_stores schema (reading_of (called schema name))) (feature_stores schema (called schema name))
reading-among schema c name = by (called schema name) refl
  where
    by : (k : Called Attribute) → called schema name ≡ k → AreAmong (reading_stores schema (reading_of k)) (feature_stores schema k)
    by Nothing e = among-itself []
    by (Own a) e =
        either a.many (λ b. AreAmong (reading_stores schema (if b then reading.Members a.number else reading.Value a.number)) (cell schema a)) (λ _. at) (λ _. at)
      where
        at : AreAmong (stores_by (cell schema) (attribute schema a.number)) (cell schema a)
        at = subst (λ o. AreAmong (stores_by (cell schema) o) (cell schema a)) (sym (called-own schema name a e)) (among-itself (cell schema a))
    by (Inverse a) e =
        subst (λ o. AreAmong (stores_by (found_in schema) o) (cell schema a ++ inverse_of a)) (sym (called-inverse schema name a e))
        (subst (λ b. AreAmong (if b then inverse_of a else if a.index || a.unique then index_of a else cell schema a) (cell schema a ++ inverse_of a)) (sym (called-inverted schema c name a e)) (among-right (cell schema a) (inverse_of a)))

readings-among : (schema : Outline) → IsConsistent schema → (names : List (List ℕ)) → AreAmong (flat_map (reading_stores schema) (readings_of schema names)) (flat_map (λ name. feature_stores schema (called schema name)) names)
readings-among schema c [] = among-itself []
readings-among schema c (name ∷ names) =
    let here = feature_stores schema (called schema name) in
    let rest = flat_map (λ n. feature_stores schema (called schema n)) names in
    let one = flat_map (reading_stores schema) (reading_of (called schema name) ∷ []) in
    let some = flat_map (reading_stores schema) (readings_of schema names) in
    subst (λ xs. AreAmong xs (here ++ rest)) (sym (flat_map-append (reading_stores schema) (readings_of schema names) (reading_of (called schema name) ∷ [])))
    (among-both some one (here ++ rest) (among-chain some rest (here ++ rest) (readings-among schema c names) (among-right here rest))
    (among-both (reading_stores schema (reading_of (called schema name))) [] (here ++ rest)
    (among-chain (reading_stores schema (reading_of (called schema name))) here (here ++ rest) (reading-among schema c name) (among-left here rest)) (λ test h. refl)))

-- ---- terms

pub route-among : (s : State) → IsNearlyLegal s → (variables : List Variable) (subject : Option (List ℕ)) (t : Term) → AreAmong (route_stores s.schema (route_of s.schema variables subject (way t))) (path_stores s.schema (t ∷ []))
route-among s n variables subject t =
    let stores = flat_map (λ name. feature_stores s.schema (called s.schema name)) (way t).features in
    among-chain (route_stores s.schema (route_of s.schema variables subject (way t))) stores (stores ++ []) (readings-among s.schema n.consistent (way t).features) (among-left stores [])

pub term-among : (s : State) → IsNearlyLegal s → (variables : List Variable) (t : Term) → AreAmong (term_stores s.schema variables t) (path_stores s.schema (t ∷ []))
term-among s n variables t = route-among s n variables None t
