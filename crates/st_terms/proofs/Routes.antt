-- How terms of each kind are looked up, and what the readings of features give.
use Rattle.std.proofs.Common.{rules, ◌≡◌, ℕ, List, [], ◌∷◌, Option, Some, None, Result, refl, sym, ◌∙◌, ap, subst}
use Rattle.std.specs.Prelude.{◌++◌, if◌then◌else◌, is_some, All}
use Rattle.std.proofs.lemmas.List.Elements.{All-append, All-nil}
use Rattle.st_values.specs.declared.value.EntityId.{EntityId}
use Rattle.st_values.specs.declared.value.Value.{Value}
use Rattle.st_values.specs.declared.value.Value.TheVariants as value
use Rattle.st_values.proofs.Tests.{either}
use Rattle.st_lattice.specs.declared.attribute.Attribute.{Attribute}
use Rattle.st_lattice.specs.declared.called.Called.{Called}
use Rattle.st_lattice.specs.declared.called.Called.TheVariants.{Nothing, Own, Inverse}
use Rattle.st_lattice.specs.declared.feature.Feature.{Feature}
use Rattle.st_lattice.specs.declared.feature.Feature.TheVariants as feature
use Rattle.st_lattice.specs.Outline.{Outline, attribute}
use Rattle.st_lattice.specs.Features.{lookup}
use Rattle.st_lattice.specs.Called.{own, inverse, called_by, called}
use Rattle.st_query.specs.declared.term.Literal.{Literal}
use Rattle.st_query.specs.declared.term.Term.{Term}
use Rattle.st_query.specs.declared.term.Term.TheVariants as term
use Rattle.st_query.specs.declared.term.Variable.{Variable}
use Rattle.st_query.specs.Terms.{literal_value}
use Rattle.st_query.specs.Ways.{Start, Written, Named, way}
use Rattle.st_query.proofs.Ways.{way-literal, way-variable, way-path}
use Rattle.st_state.specs.State.{State, value_at, values_at}
use Rattle.st_state.proofs.Changed.{number-is}
use Rattle.st_meaning.specs.declared.meaning.Meaning.{Meaning}
use Rattle.st_meaning.specs.declared.meaning.Meaning.TheVariants.{Single, Set}
use Rattle.st_meaning.specs.Terms.{single, feature_value, features_value, start_value, term_meaning}
use Rattle.st_meaning.proofs.Sorts.{number-found}
use Rattle.st_terms.specs.declared.route.Origin.TheVariants.{Fixed}
use Rattle.st_plain.specs.declared.fault.BaseFault.{BaseFault}
use Rattle.st_plain.specs.Base.{Asked}
use Rattle.st_terms.specs.declared.route.Reading.{Reading}
use Rattle.st_terms.specs.declared.route.Route.{Route}
use Rattle.st_terms.specs.Looks.{Looks}
use Rattle.st_terms.specs.declared.route.Reading.TheVariants as reading
use Rattle.st_terms.specs.Routes.{reading_of, readings_of, origin_of, origin_named, route_of, reading_value, walked, IsReadingOf, origin_value, term_route, route_meaning, route_stores, route_places, term_stores, term_places, AdmitsRoute, AdmitsTerm}

-- ---- terms

pub route_literal : (schema : Outline) (variables : List Variable) (subject : Option (List ℕ)) (written : Literal)
    → route_of schema variables subject (way (term.Literal written)) ≡ record { origin = Fixed (literal_value schema written); readings = [] }
route_literal schema variables subject written = rw (way-literal written) refl

pub route_variable : (schema : Outline) (variables : List Variable) (subject : Option (List ℕ)) (name : List ℕ)
    → route_of schema variables subject (way (term.Variable name)) ≡ record { origin = origin_named variables subject name; readings = [] }
route_variable schema variables subject name = rw (way-variable name) refl

pub route_path : (schema : Outline) (variables : List Variable) (subject : Option (List ℕ)) (name : List ℕ) (inner : Term)
    → let r = route_of schema variables subject (way inner) in
    route_of schema variables subject (way (term.Path name inner)) ≡ record { origin = r.origin; readings = r.readings ++ reading_of (called schema name) ∷ [] }
route_path schema variables subject name inner = rw (way-path name inner) refl

-- ---- the attribute of an inverse

inverse-found : (schema : Outline) (number : ℕ) (a : Attribute) → inverse (attribute schema number) ≡ Inverse a → attribute schema a.number ≡ Some a
inverse-found schema number a h = by (attribute schema number) refl h
  where
    nothing : Nothing ≡ Inverse a → ⊥
    nothing e = cc

    inside : (b : Attribute) → Inverse b ≡ Inverse a → b ≡ a
    inside b e = cc

    by : (o : Option Attribute) → attribute schema number ≡ o → inverse o ≡ Inverse a → attribute schema a.number ≡ Some a
    by None e k = absurd (nothing k)
    by (Some b) e k =
        let f : attribute schema number ≡ Some a = e ∙ ap Some (inside b k) in
        subst (λ z. attribute schema z ≡ Some a) (sym (number-is a.number number (number-found number a schema.attributes f))) f

own-apart : (schema : Outline) (number : ℕ) (a : Attribute) → own (attribute schema number) ≡ Inverse a → ⊥
own-apart schema number a h = by (attribute schema number) h
  where
    by : (o : Option Attribute) → own o ≡ Inverse a → ⊥
    by None e = cc
    by (Some b) e = cc

pub called-inverse : (schema : Outline) (name : List ℕ) (a : Attribute) → called schema name ≡ Inverse a → attribute schema a.number ≡ Some a
called-inverse schema name a h = by (lookup schema name) h
  where
    by : (o : Option Feature) → called_by schema o ≡ Inverse a → attribute schema a.number ≡ Some a
    by None e = cc
    by (Some (feature.Attribute number)) e = absurd (own-apart schema number a e)
    by (Some (feature.Inverse number)) e = inverse-found schema number a e

pub reading_there : (schema : Outline) (name : List ℕ) → IsReadingOf schema (reading_of (called schema name))
reading_there schema name = by (called schema name) refl
  where
    by : (c : Called Attribute) → called schema name ≡ c → IsReadingOf schema (reading_of c)
    by Nothing e = tt
    by (Own a) e = either a.many (λ b. IsReadingOf schema (if b then reading.Members a.number else reading.Value a.number)) (λ _. tt) (λ _. tt)
    by (Inverse a) e = ap is_some (called-inverse schema name a e)

one : {X : Type 0} (P : X → Type 0) (x : X) → P x → All P (x ∷ [])
one P x p = search (rules, p)

pub readings-there : (schema : Outline) (names : List (List ℕ)) → All (IsReadingOf schema) (readings_of schema names)
readings-there schema [] = All-nil (IsReadingOf schema)
readings-there schema (name ∷ names) = All-append (IsReadingOf schema) (readings_of schema names) (reading_of (called schema name) ∷ []) (readings-there schema names) (one (IsReadingOf schema) (reading_of (called schema name)) (reading_there schema name))

-- ---- what readings give

pub reading-is : (s : State) (c : Called Attribute) (v : Value) → reading_value s (reading_of c) v ≡ feature_value s c v
reading-is s Nothing v = by v
  where
    by : (v : Value) → reading_value s reading.Nothing v ≡ Single value.Null
    by value.Null = refl
    by (value.Int _) = refl
    by (value.Bool _) = refl
    by (value.Text _) = refl
    by (value.Entity _) = refl
reading-is s (Own a) v = by v
  where
    by : (v : Value) → reading_value s (if a.many then reading.Members a.number else reading.Value a.number) v ≡ feature_value s (Own a) v
    by value.Null = either a.many (λ b. reading_value s (if b then reading.Members a.number else reading.Value a.number) value.Null ≡ (if b then Set [] else Single value.Null)) (λ _. refl) (λ _. refl)
    by (value.Int i) = either a.many (λ b. reading_value s (if b then reading.Members a.number else reading.Value a.number) (value.Int i) ≡ (if b then Set [] else Single value.Null)) (λ _. refl) (λ _. refl)
    by (value.Bool i) = either a.many (λ b. reading_value s (if b then reading.Members a.number else reading.Value a.number) (value.Bool i) ≡ (if b then Set [] else Single value.Null)) (λ _. refl) (λ _. refl)
    by (value.Text i) = either a.many (λ b. reading_value s (if b then reading.Members a.number else reading.Value a.number) (value.Text i) ≡ (if b then Set [] else Single value.Null)) (λ _. refl) (λ _. refl)
    by (value.Entity e) = either a.many (λ b. reading_value s (if b then reading.Members a.number else reading.Value a.number) (value.Entity e) ≡ (if b then Set (values_at a.number e s.triples) else Single (value_at a.number e s.triples))) (λ _. refl) (λ _. refl)
reading-is s (Inverse a) v = by v
  where
    by : (v : Value) → reading_value s (reading.Inverse a.number) v ≡ feature_value s (Inverse a) v
    by value.Null = refl
    by (value.Int _) = refl
    by (value.Bool _) = refl
    by (value.Text _) = refl
    by (value.Entity _) = refl

-- ---- the meaning of a term that was looked up

walked-append : (s : State) (xs ys : List Reading) (m : Meaning) → walked s (xs ++ ys) m ≡ walked s ys (walked s xs m)
walked-append s [] ys m = refl
walked-append s (x ∷ xs) ys m = walked-append s xs ys (reading_value s x (single m))

pub features-walked : (s : State) (names : List (List ℕ)) (v : Value) → walked s (readings_of s.schema names) (Single v) ≡ features_value s names v
features-walked s [] v = refl
features-walked s (name ∷ names) v =
    walked-append s (readings_of s.schema names) (reading_of (called s.schema name) ∷ []) (Single v)
    ∙ ap (λ m. reading_value s (reading_of (called s.schema name)) (single m)) (features-walked s names v)
    ∙ reading-is s (called s.schema name) (single (features_value s names v))

pub start-is : (s : State) (variables : List Variable) (start : Start) → origin_value (origin_of s.schema variables None start) None ≡ start_value s variables start
start-is s variables (Written written) = refl
start-is s variables (Named name) = refl

pub meaning_of_route : (s : State) (variables : List Variable) (t : Term) → route_meaning s (term_route s.schema variables t) None ≡ term_meaning s variables t
unfolding term_meaning
meaning_of_route s variables t =
    features-walked s (way t).features (origin_value (origin_of s.schema variables None (way t).start) None)
    ∙ ap (λ v. features_value s (way t).features v) (start-is s variables (way t).start)

-- what is said of a term that was looked up, said of the term
pub looked-up : (s : State) (schema : Outline) (variables : List Variable) (t : Term) (route : Route) → s.schema ≡ schema → route ≡ term_route schema variables t
    → (stands : Type 0) (asks : List Asked → Type 0) (got : EntityId → ℕ → Type 0) (r : Result Meaning BaseFault)
    → (AdmitsRoute s route None → Looks stands asks got (λ m. m ≡ route_meaning s route None) (route_stores s.schema route) (route_places s route None) r)
    → AdmitsTerm s variables t → Looks stands asks got (λ m. m ≡ term_meaning s variables t) (term_stores s.schema variables t) (term_places s variables t) r
looked-up s schema variables t route same is stands asks got r f admits =
    let e : route ≡ term_route s.schema variables t = is ∙ ap (λ o. term_route o variables t) (sym same) in
    let g = subst (λ x. AdmitsRoute s x None → Looks stands asks got (λ m. m ≡ route_meaning s x None) (route_stores s.schema x) (route_places s x None) r) e f in
    subst (λ m'. Looks stands asks got (λ m. m ≡ m') (term_stores s.schema variables t) (term_places s variables t) r) (meaning_of_route s variables t) (g admits)
