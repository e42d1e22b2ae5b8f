-- What a query shows of entities that it may select: it can be asked, at the stores that the statement touches, and means what is written.
use Rattle.std.proofs.Common.{◌≡◌, ℕ, Bool, true, false, List, [], ◌∷◌, Option, Some, None, Result, length, map, refl, sym, ◌∙◌, ap, subst, true≢false}
use Rattle.std.specs.Prelude.{◌++◌, not, if◌then◌else◌, filter, flat_map, All}
use Rattle.std.proofs.lemmas.Grind.{flat_map-append}
use Rattle.std.proofs.lemmas.List.Elements.{All-nil, All-cons, All-head, All-tail, All-weaker}
use Rattle.st_values.specs.declared.value.EntityId.{EntityId}
use Rattle.st_values.specs.declared.value.Value.TheVariants.{Entity}
use Rattle.st_values.proofs.Tests.{either}
use Rattle.st_lattice.specs.Outline.{Outline, type_named}
use Rattle.st_lattice.specs.Lattice.{isa}
use Rattle.st_lattice.specs.Called.{called}
use Rattle.st_query.specs.declared.kind.Expected.TheVariants.{Anything, AnyValue}
use Rattle.st_query.specs.declared.query.Key.{Key}
use Rattle.st_query.specs.declared.query.Query.{Query}
use Rattle.st_query.specs.declared.statement.Statement.TheVariants.{ForEach}
use Rattle.st_query.specs.declared.term.Term.{Term}
use Rattle.st_query.specs.declared.term.Variable.{Variable}
use Rattle.st_query.specs.Footprint.{feature_stores, path_stores, start_stores, effect_stores}
use Rattle.st_query.specs.Kinds.{known, known_in}
use Rattle.st_query.specs.Ways.{way}
use Rattle.st_query.specs.Written.{begins_with, condition_terms, query_terms, starts_of}
use Rattle.st_state.specs.declared.refusal.Refusal.{Refusal}
use Rattle.st_state.specs.Legal.{IsNearlyLegal}
use Rattle.st_state.specs.Refusals.{first_of}
use Rattle.st_state.specs.State.{State, is_live}
use Rattle.st_plain.specs.declared.fault.BaseFault.{BaseFault}
use Rattle.st_plain.specs.Base.{Asked}
use Rattle.st_meaning.specs.declared.meaning.Meaning.TheVariants.{Single}
use Rattle.st_meaning.specs.Checks.{term_refused, condition_refused, parts_refused, typed_refused}
use Rattle.st_meaning.specs.Rules.{dead}
use Rattle.st_meaning.specs.Selection.{variables_at}
use Rattle.st_meaning.specs.Statements.{tail, entity_tail, count_tail, query_tails}
use Rattle.st_meaning.specs.Terms.{start_value, term_meaning}
use Rattle.st_meaning.proofs.Legality.{dead-none}
use Rattle.st_meaning.proofs.Sorts.{LiveValue, first-none, others-none, some-none}
use Rattle.st_terms.specs.declared.route.Route.{Route}
use Rattle.st_terms.specs.Checked.{IsChecked, present, touched}
use Rattle.st_terms.specs.Looks.{AreAmong, Looks}
use Rattle.st_terms.specs.Routes.{route_of, route_meaning, route_stores, AdmitsRoute}
use Rattle.st_terms.proofs.Looking.{among-chain, among-left, among-right, among-both, looks-more, no-places}
use Rattle.st_terms.proofs.Queried.{admitted-in, meaning-in}
use Rattle.st_terms.proofs.Stores.{route-among}
use Rattle.st_lines.specs.Shown.{AreOf, shown_tail, shown_stores, shown_places}

-- ---- refusals and lists

first-right : (xs ys : List (Option Refusal)) → first_of (xs ++ ys) ≡ None → first_of ys ≡ None
first-right [] ys h = h
first-right (None ∷ xs) ys h = first-right xs ys h
first-right (Some r ∷ xs) ys h = absurd (some-none r h)

none-all : {X : Type 0} (f : X → Option Refusal) (xs : List X) → first_of (map f xs) ≡ None → All (λ x. f x ≡ None) xs
none-all f [] h = All-nil (λ x. f x ≡ None)
none-all f (x ∷ xs) h = All-cons (λ y. f y ≡ None) x xs (first-none (f x) (map f xs) h) (none-all f xs (others-none (f x) (map f xs) h))

all-right : {X : Type 0} (P : X → Type 0) (xs ys : List X) → All P (xs ++ ys) → All P ys
all-right P [] ys h = h
all-right P (x ∷ xs) ys h = all-right P xs ys (All-tail P x (xs ++ ys) h)

all-kept : {X Y : Type 0} (P : Y → Type 0) (q : Y → Bool) (f : X → Y) (xs : List X) → All P (filter q (map f xs)) → All (λ x. q (f x) ≡ true → P (f x)) xs
all-kept P q f [] h = All-nil (λ x. q (f x) ≡ true → P (f x))
all-kept P q f (x ∷ xs) h =
    either (q (f x)) (λ b. q (f x) ≡ b → All P (if b then f x ∷ filter q (map f xs) else filter q (map f xs)) → All (λ y. q (f y) ≡ true → P (f y)) (x ∷ xs))
    (λ k _ all. All-cons (λ y. q (f y) ≡ true → P (f y)) x xs (λ _. All-head P (f x) (filter q (map f xs)) all) (all-kept P q f xs (All-tail P (f x) (filter q (map f xs)) all)))
    (λ k _ all. All-cons (λ y. q (f y) ≡ true → P (f y)) x xs (λ m. absurd (true≢false (sym m ∙ k))) (all-kept P q f xs all))
    refl h

-- what a query shows, looked up
abbrev pub routes_of : Outline → List Variable → Query → List Route
routes_of schema variables query = map (λ t. route_of schema variables (Some query.var) (way t)) query.shown

-- looked up by parts that are the query's
pub routes-read : (schema other : Outline) (variables : List Variable) (query : Query) (subject : List ℕ) (terms : List Term) → schema ≡ other → subject ≡ query.var → terms ≡ query.shown
    → map (λ t. route_of schema variables (Some subject) (way t)) terms ≡ routes_of other variables query
routes-read schema other variables query subject terms e f g =
    ap (λ x. map (λ t. route_of schema variables (Some x) (way t)) terms) f ∙ ap (map (λ t. route_of schema variables (Some query.var) (way t))) g ∙ ap (λ x. routes_of x variables query) e

-- ---- what is asked

-- a term that begins with nothing that isn't live
abbrev LiveTerm : State → List Variable → Query → Term → Type 0
LiveTerm s variables query t = begins_with query.var (way t).start ≡ false → LiveValue s (start_value s variables (way t).start)

-- terms can be read of an entity of the type
terms-admitted : (s : State) (n : IsNearlyLegal s) (variables : List Variable) (query : Query) (ty : ℕ) (e : EntityId) → isa s.schema e.ty ty ≡ true → is_live s e ≡ true → (ts : List Term)
    → All (λ t. term_refused s.schema (known_in (known variables) query ty) Anything t ≡ None) ts → All (LiveTerm s variables query) ts
    → All (λ route. AdmitsRoute s route (Some e)) (map (λ t. route_of s.schema variables (Some query.var) (way t)) ts)
terms-admitted s n variables query ty e of l [] h live = All-nil (λ route. AdmitsRoute s route (Some e))
terms-admitted s n variables query ty e of l (t ∷ ts) h live =
    All-cons (λ route. AdmitsRoute s route (Some e)) (route_of s.schema variables (Some query.var) (way t)) (map (λ x. route_of s.schema variables (Some query.var) (way x)) ts)
    (admitted-in s n variables query ty e of l Anything t (All-head (λ x. term_refused s.schema (known_in (known variables) query ty) Anything x ≡ None) t ts h) (All-head (LiveTerm s variables query) t ts live))
    (terms-admitted s n variables query ty e of l ts (All-tail (λ x. term_refused s.schema (known_in (known variables) query ty) Anything x ≡ None) t ts h) (All-tail (LiveTerm s variables query) t ts live))

pub shown-admitted : (s : State) (variables : List Variable) (query : Query) → IsChecked (present s variables) (ForEach query) → (entities : List EntityId) → AreOf s query entities
    → All (λ e. All (λ route. AdmitsRoute s route (Some e)) (routes_of s.schema variables query)) entities
shown-admitted s variables query checked entities of = by (type_named s.schema query.ty) refl checked.text
  where
    by : (ty : Option ℕ) → type_named s.schema query.ty ≡ ty → typed_refused query.ty (λ t. parts_refused s.schema query (known_in (known variables) query t)) ty ≡ None
        → All (λ e. All (λ route. AdmitsRoute s route (Some e)) (routes_of s.schema variables query)) entities
    by None named h = absurd (some-none _ h)
    by (Some ty) named h =
        let known_names = known_in (known variables) query ty in
        let conditions = map (condition_refused s.schema known_names) query.conditions in
        let keys = map (λ (key : Key). term_refused s.schema known_names AnyValue key.term) query.keys in
        let live : All (LiveTerm s variables query) (query_terms query) =
        All-weaker (λ t. not (begins_with query.var (way t).start) ≡ true → dead s (start_value s variables (way t).start) ≡ None) (LiveTerm s variables query)
        (λ t f k. dead-none s (start_value s variables (way t).start) (f (ap not k))) (query_terms query)
        (all-kept (λ start. dead s (start_value s variables start) ≡ None) (λ start. not (begins_with query.var start)) (λ (t : Term). (way t).start) (query_terms query)
        (none-all (λ start. dead s (start_value s variables start)) (starts_of (ForEach query)) checked.live)) in
        let others = flat_map condition_terms query.conditions ++ map (λ (key : Key). key.term) query.keys in
        All-weaker (λ e. (is_live s e ≡ true) × ((t : ℕ) → type_named s.schema query.ty ≡ Some t → isa s.schema e.ty t ≡ true)) (λ e. All (λ route. AdmitsRoute s route (Some e)) (routes_of s.schema variables query))
        (λ e k. terms-admitted s checked.legal.nearly variables query ty e (k.1 ty named) k.0 query.shown
        (none-all (term_refused s.schema known_names Anything) query.shown (first-right (conditions ++ keys) _ h)) (all-right (LiveTerm s variables query) others query.shown live)) entities of

-- ---- what is shown

module _ (s : State) (variables : List Variable) (query : Query) where
  meanings : (e : EntityId) (ts : List Term) → map (λ route. route_meaning s route (Some e)) (map (λ t. route_of s.schema variables (Some query.var) (way t)) ts) ≡ map (term_meaning s (variables_at variables query e)) ts
  meanings e [] = refl
  meanings e (t ∷ ts) =
      ap (λ m. m ∷ map (λ route. route_meaning s route (Some e)) (map (λ x. route_of s.schema variables (Some query.var) (way x)) ts)) (meaning-in s variables query e t)
      ∙ ap (λ ms. term_meaning s (variables_at variables query e) t ∷ ms) (meanings e ts)

  tail-means : (e : EntityId) → shown_tail s s.schema.names (routes_of s.schema variables query) e ≡ entity_tail (present s variables) query e
  tail-means e = ap (λ ms. tail s.schema.names 42 (Single (Entity e) ∷ ms)) (meanings e query.shown)

  all-mean : (es : List EntityId) → map (shown_tail s s.schema.names (routes_of s.schema variables query)) es ≡ map (entity_tail (present s variables) query) es
  all-mean [] = refl
  all-mean (e ∷ es) =
      ap (λ z. z ∷ map (shown_tail s s.schema.names (routes_of s.schema variables query)) es) (tail-means e) ∙ ap (λ zs. entity_tail (present s variables) query e ∷ zs) (all-mean es)

  pub tails-mean : (names : List (List ℕ)) → names ≡ s.schema.names → (entities : List EntityId)
      → map (shown_tail s names (routes_of s.schema variables query)) entities ++ count_tail (length entities) ∷ [] ≡ query_tails (present s variables) query entities
  tails-mean names e entities =
      ap (λ z. map (shown_tail s z (routes_of s.schema variables query)) entities ++ count_tail (length entities) ∷ []) e ∙ ap (λ z. z ++ count_tail (length entities) ∷ []) (all-mean entities)

-- ---- the stores

nothing-among : (xs : List ℕ) → AreAmong [] xs
nothing-among xs = λ test h. refl

path-left : (schema : Outline) (xs ys : List Term) → AreAmong (path_stores schema xs) (path_stores schema (xs ++ ys))
path-left schema xs ys =
    let each = λ (t : Term). flat_map (λ name. feature_stores schema (called schema name)) (way t).features in
    subst (AreAmong (flat_map each xs)) (sym (flat_map-append each xs ys)) (among-left (flat_map each xs) (flat_map each ys))

path-right : (schema : Outline) (xs ys : List Term) → AreAmong (path_stores schema ys) (path_stores schema (xs ++ ys))
path-right schema xs ys =
    let each = λ (t : Term). flat_map (λ name. feature_stores schema (called schema name)) (way t).features in
    subst (AreAmong (flat_map each ys)) (sym (flat_map-append each xs ys)) (among-right (flat_map each xs) (flat_map each ys))

module _ (s : State) (n : IsNearlyLegal s) (variables : List Variable) (query : Query) where
  terms-among : (ts : List Term) → AreAmong (shown_stores s (map (λ t. route_of s.schema variables (Some query.var) (way t)) ts)) (path_stores s.schema ts)
  terms-among [] = nothing-among []
  terms-among (t ∷ ts) =
      let here = route_stores s.schema (route_of s.schema variables (Some query.var) (way t)) in
      let rest = shown_stores s (map (λ x. route_of s.schema variables (Some query.var) (way x)) ts) in
      let all = path_stores s.schema (t ∷ ts) in
      among-both here rest all (among-chain here (path_stores s.schema (t ∷ [])) all (route-among s n variables (Some query.var) t) (path-left s.schema (t ∷ []) ts))
      (among-chain rest (path_stores s.schema ts) all (terms-among ts) (path-right s.schema (t ∷ []) ts))

  one-among : AreAmong (shown_stores s (routes_of s.schema variables query)) (touched s.schema variables (ForEach query))
  one-among =
      let schema = s.schema in
      let here = shown_stores s (routes_of schema variables query) in
      let starts = flat_map (start_stores schema variables) (starts_of (ForEach query)) in
      let paths = path_stores schema (query_terms query) in
      let effects = effect_stores schema variables (ForEach query) in
      let all = touched schema variables (ForEach query) in
      among-chain here (path_stores schema query.shown) all (terms-among query.shown)
      (among-chain (path_stores schema query.shown) paths all (path-right schema (flat_map condition_terms query.conditions ++ map (λ (key : Key). key.term) query.keys) query.shown)
      (among-chain paths (starts ++ paths) all (among-right starts paths) (among-left (starts ++ paths) effects)))

  pub shown-among : (entities : List EntityId) → AreAmong (flat_map (λ e. shown_stores s (routes_of s.schema variables query)) entities) (touched s.schema variables (ForEach query))
  shown-among [] = nothing-among (touched s.schema variables (ForEach query))
  shown-among (e ∷ es) =
      among-both (shown_stores s (routes_of s.schema variables query)) (flat_map (λ x. shown_stores s (routes_of s.schema variables query)) es) (touched s.schema variables (ForEach query)) one-among (shown-among es)

-- ---- the whole

-- what is shown by the routes is what the statement answers
pub each-answered : {A : Type 0} (says : A → List (List ℕ) → Type 0) (stands : Type 0) (asks : List Asked → Type 0) (got : EntityId → ℕ → Type 0) (s : State) (variables : List Variable) (query : Query) (entities : List EntityId)
    (names : List (List ℕ)) (routes : List Route) (r : Result A BaseFault) → IsChecked (present s variables) (ForEach query) → AreOf s query entities → names ≡ s.schema.names → routes ≡ routes_of s.schema variables query
    → (All (λ e. All (λ route. AdmitsRoute s route (Some e)) routes) entities
    → Looks stands asks got (λ lines. says lines (map (shown_tail s names routes) entities ++ count_tail (length entities) ∷ [])) (flat_map (λ e. shown_stores s routes) entities) (flat_map (shown_places s routes) entities) r)
    → Looks stands asks got (λ lines. says lines (query_tails (present s variables) query entities)) (touched s.schema variables (ForEach query)) [] r
each-answered says stands asks got s variables query entities names routes r checked of named looked h =
    let ours = routes_of s.schema variables query in
    let some = flat_map (λ e. shown_stores s ours) entities in
    let all = touched s.schema variables (ForEach query) in
    let places = flat_map (shown_places s ours) entities in
    let shown =
    subst
    (λ rs. All (λ e. All (λ route. AdmitsRoute s route (Some e)) rs) entities
    → Looks stands asks got (λ lines. says lines (map (shown_tail s names rs) entities ++ count_tail (length entities) ∷ [])) (flat_map (λ e. shown_stores s rs) entities) (flat_map (shown_places s rs) entities) r)
    looked h (shown-admitted s variables query checked entities of) in
    no-places stands asks got (λ lines. says lines (query_tails (present s variables) query entities)) all places r
    (looks-more stands asks got (λ lines. says lines (query_tails (present s variables) query entities)) some all places r (shown-among s checked.legal.nearly variables query entities)
    (subst (λ text. Looks stands asks got (λ lines. says lines text) some places r) (tails-mean s variables query names named entities) shown))
