-- A query that was checked can be asked of each entity of its type, at the stores that its statement touches.
use Rattle.std.proofs.Common.{◌≡◌, ℕ, ◌<◌, zero, suc, Bool, true, false, List, [], ◌∷◌, Option, Some, None, length, get_or, map, refl, sym, ◌∙◌, ap, subst, true≢false, arith}
use Rattle.std.specs.Prelude.{◌++◌, not, if◌then◌else◌, filter, flat_map, All}
use Rattle.std.specs.List.{list_any}
use Rattle.std.proofs.lemmas.Grind.{flat_map-append}
use Rattle.std.proofs.lemmas.List.Elements.{All-nil, All-cons, All-head, All-tail, All-filter, All-weaker, filter_passes}
use Rattle.st_values.specs.declared.value.EntityId.{EntityId}
use Rattle.st_values.specs.Order.{same_entity}
use Rattle.st_values.proofs.Tests.{either, first-of, one-of}
use Rattle.st_values.proofs.Entities.{same_entity-itself}
use Rattle.st_lattice.specs.Outline.{Outline, type_named}
use Rattle.st_lattice.specs.Lattice.{isa}
use Rattle.st_lattice.specs.Called.{called}
use Rattle.st_lattice.specs.Stores.{extents}
use Rattle.st_query.specs.declared.kind.Expected.TheVariants.{AnyValue, Comparable, SetOf}
use Rattle.st_query.specs.declared.query.Condition.{Condition}
use Rattle.st_query.specs.declared.query.Condition.TheVariants as condition
use Rattle.st_query.specs.declared.query.Key.{Key}
use Rattle.st_query.specs.declared.query.Query.{Query}
use Rattle.st_query.specs.declared.statement.Statement.TheVariants.{ForEach}
use Rattle.st_query.specs.declared.term.Term.{Term}
use Rattle.st_query.specs.declared.term.Variable.{Variable}
use Rattle.st_query.specs.Footprint.{feature_stores, path_stores, start_stores, effect_stores, query_stores, whole_called}
use Rattle.st_query.specs.Kinds.{known, known_in, term_sort}
use Rattle.st_query.specs.Ways.{way}
use Rattle.st_query.specs.Written.{begins_with, condition_terms, query_terms, starts_of}
use Rattle.st_state.specs.declared.refusal.Refusal.{Refusal}
use Rattle.st_state.specs.Legal.{IsNearlyLegal}
use Rattle.st_state.specs.Refusals.{first_of}
use Rattle.st_state.specs.State.{State, is_live, entities_of}
use Rattle.st_meaning.specs.Checks.{term_refused, condition_refused, parts_refused, typed_refused}
use Rattle.st_meaning.specs.Rules.{dead}
use Rattle.st_meaning.specs.Terms.{start_value}
use Rattle.st_meaning.proofs.Legality.{dead-none}
use Rattle.st_meaning.proofs.Sorts.{LiveValue, first-none, others-none, some-none}
use Rattle.st_terms.specs.Checked.{IsChecked, present, touched}
use Rattle.st_terms.specs.Looks.{AreAmong}
use Rattle.st_terms.specs.Routes.{route_of, route_stores, AdmitsRoute}
use Rattle.st_terms.proofs.Looking.{among-chain, among-left, among-right, among-both}
use Rattle.st_terms.proofs.Queried.{admitted-in}
use Rattle.st_terms.proofs.Stores.{route-among}
use Rattle.st_select.specs.Search.{test_of, order_key_of, search_of, AdmitsTest, AdmitsTests, AdmitsKeys, AdmitsSearch, test_stores, tests_stores, keys_stores, type_stores, search_stores}

-- ---- refusals and lists

first-left : (xs ys : List (Option Refusal)) → first_of (xs ++ ys) ≡ None → first_of xs ≡ None
first-left [] ys h = refl
first-left (None ∷ xs) ys h = first-left xs ys h
first-left (Some r ∷ xs) ys h = h

first-right : (xs ys : List (Option Refusal)) → first_of (xs ++ ys) ≡ None → first_of ys ≡ None
first-right [] ys h = h
first-right (None ∷ xs) ys h = first-right xs ys h
first-right (Some r ∷ xs) ys h = absurd (some-none r h)

none-all : {X : Type 0} (f : X → Option Refusal) (xs : List X) → first_of (map f xs) ≡ None → All (λ x. f x ≡ None) xs
none-all f [] h = All-nil (λ x. f x ≡ None)
none-all f (x ∷ xs) h = All-cons (λ y. f y ≡ None) x xs (first-none (f x) (map f xs) h) (none-all f xs (others-none (f x) (map f xs) h))

all-left : {X : Type 0} (P : X → Type 0) (xs ys : List X) → All P (xs ++ ys) → All P xs
all-left P [] ys h = All-nil P
all-left P (x ∷ xs) ys h = All-cons P x xs (All-head P x (xs ++ ys) h) (all-left P xs ys (All-tail P x (xs ++ ys) h))

all-right : {X : Type 0} (P : X → Type 0) (xs ys : List X) → All P (xs ++ ys) → All P ys
all-right P [] ys h = h
all-right P (x ∷ xs) ys h = all-right P xs ys (All-tail P x (xs ++ ys) h)

all-unmap : {X Y : Type 0} (P : Y → Type 0) (f : X → Y) (xs : List X) → All P (map f xs) → All (λ x. P (f x)) xs
all-unmap P f [] h = All-nil (λ x. P (f x))
all-unmap P f (x ∷ xs) h = All-cons (λ y. P (f y)) x xs (All-head P (f x) (map f xs) h) (all-unmap P f xs (All-tail P (f x) (map f xs) h))

all-kept : {X Y : Type 0} (P : Y → Type 0) (q : Y → Bool) (f : X → Y) (xs : List X) → All P (filter q (map f xs)) → All (λ x. q (f x) ≡ true → P (f x)) xs
all-kept P q f [] h = All-nil (λ x. q (f x) ≡ true → P (f x))
all-kept P q f (x ∷ xs) h =
    either (q (f x)) (λ b. q (f x) ≡ b → All P (if b then f x ∷ filter q (map f xs) else filter q (map f xs)) → All (λ y. q (f y) ≡ true → P (f y)) (x ∷ xs))
    (λ k _ all. All-cons (λ y. q (f y) ≡ true → P (f y)) x xs (λ _. All-head P (f x) (filter q (map f xs)) all) (all-kept P q f xs (All-tail P (f x) (filter q (map f xs)) all)))
    (λ k _ all. All-cons (λ y. q (f y) ≡ true → P (f y)) x xs (λ m. absurd (true≢false (sym m ∙ k))) (all-kept P q f xs all))
    refl h

live-each : (es : List EntityId) → All (λ e. list_any (same_entity e) es ≡ true) es
live-each es k d within = at es k d within
  where
    at : (xs : List EntityId) (k : ℕ) (d : EntityId) → k < length xs → list_any (same_entity (get_or xs k d)) xs ≡ true
    at [] k d h = absurd (omega (arith, h))
    at (x ∷ xs) zero d h = first-of (same_entity x x) (list_any (same_entity x) xs) (same_entity-itself x)
    at (x ∷ xs) (suc k) d h = one-of (same_entity (get_or xs k d) x) (list_any (same_entity (get_or xs k d)) xs) (at xs k d (omega (arith, h)))

-- ---- what is asked of one entity

-- a term that begins with nothing that isn't live
abbrev LiveTerm : State → List Variable → Query → Term → Type 0
LiveTerm s variables query t = begins_with query.var (way t).start ≡ false → LiveValue s (start_value s variables (way t).start)

module _ (s : State) (n : IsNearlyLegal s) (variables : List Variable) (query : Query) (ty : ℕ) where
  module _ (e : EntityId) (of : isa s.schema e.ty ty ≡ true) (l : is_live s e ≡ true) where
    test-admitted : (c : Condition) → condition_refused s.schema (known_in (known variables) query ty) c ≡ None → All (LiveTerm s variables query) (condition_terms c) → AdmitsTest s e (test_of s.schema variables query.var c)
    test-admitted (condition.Compare sign a b) h live =
        let second = others-none (term_refused s.schema (known_in (known variables) query ty) AnyValue a) _ h in (
          admitted-in s n variables query ty e of l AnyValue a (first-none _ _ h) (All-head (LiveTerm s variables query) a (b ∷ []) live),
          admitted-in s n variables query ty e of l (Comparable (term_sort s.schema (known_in (known variables) query ty) a)) b (first-none _ [] second) (All-head (LiveTerm s variables query) b [] (All-tail (LiveTerm s variables query) a (b ∷ []) live)),
        )
    test-admitted (condition.Null t) h live = (admitted-in s n variables query ty e of l AnyValue t h (All-head (LiveTerm s variables query) t [] live), tt)
    test-admitted (condition.NotNull t) h live = (admitted-in s n variables query ty e of l AnyValue t h (All-head (LiveTerm s variables query) t [] live), tt)
    test-admitted (condition.Member v set) h live =
        let second = others-none (term_refused s.schema (known_in (known variables) query ty) AnyValue v) _ h in (
          admitted-in s n variables query ty e of l AnyValue v (first-none _ _ h) (All-head (LiveTerm s variables query) v (set ∷ []) live),
          admitted-in s n variables query ty e of l (SetOf (term_sort s.schema (known_in (known variables) query ty) v)) set (first-none _ [] second) (All-head (LiveTerm s variables query) set [] (All-tail (LiveTerm s variables query) v (set ∷ []) live)),
        )

    tests-admitted : (cs : List Condition) → All (λ c. condition_refused s.schema (known_in (known variables) query ty) c ≡ None) cs → All (LiveTerm s variables query) (flat_map condition_terms cs)
        → AdmitsTests s (map (test_of s.schema variables query.var) cs) e
    tests-admitted [] h live = All-nil (AdmitsTest s e)
    tests-admitted (c ∷ cs) h live =
        All-cons (AdmitsTest s e) (test_of s.schema variables query.var c) (map (test_of s.schema variables query.var) cs)
        (test-admitted c (All-head (λ x. condition_refused s.schema (known_in (known variables) query ty) x ≡ None) c cs h) (all-left (LiveTerm s variables query) (condition_terms c) (flat_map condition_terms cs) live))
        (tests-admitted cs (All-tail (λ x. condition_refused s.schema (known_in (known variables) query ty) x ≡ None) c cs h) (all-right (LiveTerm s variables query) (condition_terms c) (flat_map condition_terms cs) live))

    keys-admitted : (ks : List Key) → All (λ k. term_refused s.schema (known_in (known variables) query ty) AnyValue k.term ≡ None) ks → All (λ k. LiveTerm s variables query k.term) ks
        → AdmitsKeys s (map (order_key_of s.schema variables query.var) ks) e
    keys-admitted [] h live = All-nil (λ k. AdmitsRoute s k.route (Some e))
    keys-admitted (k ∷ ks) h live =
        All-cons (λ x. AdmitsRoute s x.route (Some e)) (order_key_of s.schema variables query.var k) (map (order_key_of s.schema variables query.var) ks)
        (admitted-in s n variables query ty e of l AnyValue k.term (All-head (λ x. term_refused s.schema (known_in (known variables) query ty) AnyValue x.term ≡ None) k ks h) (All-head (λ x. LiveTerm s variables query x.term) k ks live))
        (keys-admitted ks (All-tail (λ x. term_refused s.schema (known_in (known variables) query ty) AnyValue x.term ≡ None) k ks h) (All-tail (λ x. LiveTerm s variables query x.term) k ks live))

-- ---- what is asked of all

pub search-admitted : (s : State) (variables : List Variable) (query : Query) → IsChecked (present s variables) (ForEach query) → AdmitsSearch s (search_of s.schema variables query)
search-admitted s variables query checked = by (type_named s.schema query.ty) checked.text
  where
    by : (ty : Option ℕ) → typed_refused query.ty (λ t. parts_refused s.schema query (known_in (known variables) query t)) ty ≡ None → AdmitsSearch s (record { ty = ty; tests = map (test_of s.schema variables query.var) query.conditions; keys = map (order_key_of s.schema variables query.var) query.keys })
    by None h = record { tests = All-nil (AdmitsTests s (map (test_of s.schema variables query.var) query.conditions)); keys = All-nil (AdmitsKeys s (map (order_key_of s.schema variables query.var) query.keys)) }
    by (Some ty) h =
        let n = checked.legal.nearly in
        let known_names = known_in (known variables) query ty in
        let conditions = map (condition_refused s.schema known_names) query.conditions in
        let keys = map (λ (key : Key). term_refused s.schema known_names AnyValue key.term) query.keys in
        let both = first-left (conditions ++ keys) _ h in
        let live : All (LiveTerm s variables query) (query_terms query) =
        All-weaker (λ t. not (begins_with query.var (way t).start) ≡ true → dead s (start_value s variables (way t).start) ≡ None) (LiveTerm s variables query)
        (λ t f k. dead-none s (start_value s variables (way t).start) (f (ap not k))) (query_terms query)
        (all-kept (λ start. dead s (start_value s variables start) ≡ None) (λ start. not (begins_with query.var start)) (λ (t : Term). (way t).start) (query_terms query)
        (none-all (λ start. dead s (start_value s variables start)) (starts_of (ForEach query)) checked.live)) in
        let asked_terms = flat_map condition_terms query.conditions in
        let key_terms = map (λ (key : Key). key.term) query.keys in
        let live_two = all-left (LiveTerm s variables query) (asked_terms ++ key_terms) query.shown live in
        let there : All (λ e. (isa s.schema e.ty ty ≡ true) × (is_live s e ≡ true)) (entities_of s ty) =
        λ k d within. (filter_passes (λ e. isa s.schema e.ty ty) s.live k d within, All-filter (λ e. isa s.schema e.ty ty) (λ e. is_live s e ≡ true) s.live (live-each s.live) k d within) in
        record {
          tests =
              All-weaker (λ e. (isa s.schema e.ty ty ≡ true) × (is_live s e ≡ true)) (AdmitsTests s (map (test_of s.schema variables query.var) query.conditions))
              (λ e k. tests-admitted s n variables query ty e k.0 k.1 query.conditions (none-all (condition_refused s.schema known_names) query.conditions (first-left conditions keys both))
              (all-left (LiveTerm s variables query) asked_terms key_terms live_two)) (entities_of s ty) there;
          keys =
              All-weaker (λ e. (isa s.schema e.ty ty ≡ true) × (is_live s e ≡ true)) (AdmitsKeys s (map (order_key_of s.schema variables query.var) query.keys))
              (λ e k. keys-admitted s n variables query ty e k.0 k.1 query.keys (none-all (λ key. term_refused s.schema known_names AnyValue key.term) query.keys (first-right conditions keys both))
              (all-unmap (LiveTerm s variables query) (λ (key : Key). key.term) query.keys (all-right (LiveTerm s variables query) asked_terms key_terms live_two))) (entities_of s ty) there;
        }

-- ---- the stores

nothing-among : (xs : List ℕ) → AreAmong [] xs
nothing-among xs = λ test h. refl

path-left : (schema : Outline) (xs ys : List Term) → AreAmong (path_stores schema xs) (path_stores schema (xs ++ ys))
path-left schema xs ys =
    let each = λ (t : Term). flat_map (λ name. feature_stores schema (called schema name)) (way t).features in
    subst (AreAmong (flat_map each xs)) (sym (flat_map-append each xs ys)) (among-left (flat_map each xs) (flat_map each ys))

path-right : (schema : Outline) (xs ys : List Term) → AreAmong (path_stores schema ys) (path_stores schema (xs ++ ys))
path-right schema xs ys =
    let each = λ (t : Term). flat_map (λ name. feature_stores schema (called schema name)) (way t).features in
    subst (AreAmong (flat_map each ys)) (sym (flat_map-append each xs ys)) (among-right (flat_map each xs) (flat_map each ys))

module _ (s : State) (n : IsNearlyLegal s) (variables : List Variable) (var : List ℕ) where
  -- a term that is the first of some, or any of them
  one-among : (t : Term) (xs ys : List Term) → AreAmong (route_stores s.schema (route_of s.schema variables (Some var) (way t))) (path_stores s.schema (xs ++ (t ∷ []) ++ ys))
  one-among t xs ys =
      among-chain (route_stores s.schema (route_of s.schema variables (Some var) (way t))) (path_stores s.schema (t ∷ [])) (path_stores s.schema (xs ++ (t ∷ []) ++ ys)) (route-among s n variables (Some var) t)
      (among-chain (path_stores s.schema (t ∷ [])) (path_stores s.schema (xs ++ (t ∷ []))) (path_stores s.schema (xs ++ (t ∷ []) ++ ys)) (path-right s.schema xs (t ∷ [])) (path-left s.schema (xs ++ (t ∷ [])) ys))

  two-among : (a b : Term) → AreAmong (route_stores s.schema (route_of s.schema variables (Some var) (way a)) ++ route_stores s.schema (route_of s.schema variables (Some var) (way b))) (path_stores s.schema (a ∷ b ∷ []))
  two-among a b =
      among-both (route_stores s.schema (route_of s.schema variables (Some var) (way a))) (route_stores s.schema (route_of s.schema variables (Some var) (way b))) (path_stores s.schema (a ∷ b ∷ []))
      (one-among a [] (b ∷ [])) (one-among b (a ∷ []) [])

  alone-among : (a : Term) → AreAmong (route_stores s.schema (route_of s.schema variables (Some var) (way a)) ++ []) (path_stores s.schema (a ∷ []))
  alone-among a = among-both (route_stores s.schema (route_of s.schema variables (Some var) (way a))) [] (path_stores s.schema (a ∷ [])) (route-among s n variables (Some var) a) (nothing-among (path_stores s.schema (a ∷ [])))

  test-among : (c : Condition) → AreAmong (test_stores s.schema (test_of s.schema variables var c)) (path_stores s.schema (condition_terms c))
  test-among (condition.Compare sign a b) = two-among a b
  test-among (condition.Null t) = alone-among t
  test-among (condition.NotNull t) = alone-among t
  test-among (condition.Member v set) = two-among v set

  tests-among : (cs : List Condition) → AreAmong (tests_stores s.schema (map (test_of s.schema variables var) cs)) (path_stores s.schema (flat_map condition_terms cs))
  tests-among [] = nothing-among []
  tests-among (c ∷ cs) =
      let here = test_stores s.schema (test_of s.schema variables var c) in
      let rest = tests_stores s.schema (map (test_of s.schema variables var) cs) in
      let all = path_stores s.schema (flat_map condition_terms (c ∷ cs)) in
      among-both here rest all (among-chain here (path_stores s.schema (condition_terms c)) all (test-among c) (path-left s.schema (condition_terms c) (flat_map condition_terms cs)))
      (among-chain rest (path_stores s.schema (flat_map condition_terms cs)) all (tests-among cs) (path-right s.schema (condition_terms c) (flat_map condition_terms cs)))

  keys-among : (ks : List Key) → AreAmong (keys_stores s.schema (map (order_key_of s.schema variables var) ks)) (path_stores s.schema (map (λ key. key.term) ks))
  keys-among [] = nothing-among []
  keys-among (k ∷ ks) =
      let here = route_stores s.schema (route_of s.schema variables (Some var) (way k.term)) in
      let rest = keys_stores s.schema (map (order_key_of s.schema variables var) ks) in
      let others = map (λ (key : Key). key.term) ks in
      let all = path_stores s.schema (k.term ∷ others) in
      among-both here rest all (one-among k.term [] others) (among-chain rest (path_stores s.schema others) all (keys-among ks) (path-right s.schema (k.term ∷ []) others))

type-among : (schema : Outline) (query : Query) (ty : Option ℕ) → AreAmong (type_stores schema ty) (query_stores schema query ty)
type-among schema query None = nothing-among []
type-among schema query (Some ty) = among-left (extents schema ty) (flat_map (λ term. flat_map (λ name. whole_called schema (called schema name)) (way term).features) (query_terms query))

pub search-among : (s : State) → IsNearlyLegal s → (variables : List Variable) (query : Query) → AreAmong (search_stores s.schema (search_of s.schema variables query)) (touched s.schema variables (ForEach query))
search-among s n variables query =
    let schema = s.schema in
    let ty = type_stores schema (type_named schema query.ty) in
    let tests = tests_stores schema (map (test_of schema variables query.var) query.conditions) in
    let keys = keys_stores schema (map (order_key_of schema variables query.var) query.keys) in
    let asked_terms = flat_map condition_terms query.conditions in
    let key_terms = map (λ (key : Key). key.term) query.keys in
    let starts = flat_map (start_stores schema variables) (starts_of (ForEach query)) in
    let paths = path_stores schema (query_terms query) in
    let effects = effect_stores schema variables (ForEach query) in
    let all = touched schema variables (ForEach query) in
    let paths-in : AreAmong paths all = among-chain paths (starts ++ paths) all (among-right starts paths) (among-left (starts ++ paths) effects) in
    let terms-in : AreAmong (path_stores schema (asked_terms ++ key_terms)) all = among-chain (path_stores schema (asked_terms ++ key_terms)) paths all (path-left schema (asked_terms ++ key_terms) query.shown) paths-in in
    among-both (ty ++ tests) keys all
    (among-both ty tests all (among-chain ty effects all (type-among schema query (type_named schema query.ty)) (among-right (starts ++ paths) effects))
    (among-chain tests (path_stores schema asked_terms) all (tests-among s n variables query.var query.conditions)
    (among-chain (path_stores schema asked_terms) (path_stores schema (asked_terms ++ key_terms)) all (path-left schema asked_terms key_terms) terms-in)))
    (among-chain keys (path_stores schema key_terms) all (keys-among s n variables query.var query.keys)
    (among-chain (path_stores schema key_terms) (path_stores schema (asked_terms ++ key_terms)) all (path-right schema asked_terms key_terms) terms-in))
