-- What a statement gives, from what its calls give.
use Rattle.std.proofs.Common.{◌≡◌, ℕ, Bool, true, false, List, [], ◌∷◌, Option, Some, None, Result, Ok, Err, refl, sym, ◌∙◌, ap, subst}
use Rattle.std.proofs.Common.{inl, inr, append-nil, true≢false, get_or, length, arith, ◌<◌}
use Rattle.std.specs.Prelude.{◌++◌, ◌&&◌, ◌+◌, zero, suc, slice_get, IsTrue, not, map, filter, flat_map, All, OnOk}
use Rattle.std.specs.List.{list_all, list_any}
use Rattle.std.proofs.lemmas.List.Elements.{All-nil, All-append}
use Rattle.st_values.specs.declared.value.EntityId.{EntityId}
use Rattle.st_values.specs.Order.{same_entity}
use Rattle.st_values.proofs.Entities.{same_entity-itself}
use Rattle.st_values.specs.Arranged.{arranged}
use Rattle.st_values.proofs.Tests.{both, left, right, either, not-true, all-not, all-filter, all-arranged}
use Rattle.st_lattice.specs.Outline.{type_named}
use Rattle.st_lattice.specs.Lattice.{isa}
use Rattle.st_query.specs.declared.query.Query.{Query}
use Rattle.st_state.proofs.Members.{Member, all-members, member-filter, member-passes}
use Rattle.st_lines.specs.Shown.{AreOf}
use Rattle.st_query.specs.declared.statement.Statement.{Statement}
use Rattle.st_query.specs.declared.statement.Statement.TheVariants.{Find, Let, Print, ForEach}
use Rattle.st_query.specs.declared.kind.Expected.{Expected}
use Rattle.st_query.specs.declared.kind.Expected.TheVariants.{Anything, AnyValue}
use Rattle.st_query.specs.declared.term.Term.{Term}
use Rattle.st_query.specs.Kinds.{known}
use Rattle.st_query.specs.Ways.{Start, way}
use Rattle.st_query.specs.Written.{is_written, terms_of, starts_of}
use Rattle.st_query.specs.declared.term.Variable.{Variable}
use Rattle.st_query.specs.Footprint.{start_stores, feature_stores, path_stores, effect_stores}
use Rattle.st_lattice.specs.Called.{called}
use Rattle.st_state.specs.declared.refusal.Refusal.{Refusal}
use Rattle.st_state.specs.declared.refusal.Refusal.TheVariants.{UnknownName, WrongType, NullNotAllowed, NotUnique, NoSuchEntity, StillNeeded, NotASet, TextTooLong, NumbersSpent, Aborted, NullEntity, TooManyPages, Full}
use Rattle.st_state.specs.State.{State, is_live, entities_of}
use Rattle.st_state.specs.Legal.{IsNearlyLegal}
use Rattle.st_state.specs.Refusals.{first_of}
use Rattle.st_meaning.specs.Statements.{Present, value_now, does, print_tail, answers, query_tails}
use Rattle.st_meaning.specs.Selection.{holds, variables_at, entities_in, written_before, selected}
use Rattle.st_meaning.specs.Rules.{dead, rules_1_2_7, rule_5, refusal}
use Rattle.st_meaning.specs.Terms.{start_value}
use Rattle.st_meaning.specs.Checks.{term_refused}
use Rattle.st_meaning.proofs.Sorts.{first-none, others-none}
use Rattle.st_meaning.proofs.Legality.{dead-none}
use Rattle.st_plain.specs.declared.fault.BaseFault.{BaseFault}
use Rattle.st_plain.specs.declared.fault.BaseFault.TheVariants.{Refused, Page, Memory}
use Rattle.st_plain.specs.Base.{Asked, Reaches}
use Rattle.st_terms.specs.Looks.{AreAmong, AskedAt, Place, Answers, Looks, Concludes, Changes}
use Rattle.st_terms.specs.Checked.{present, IsChecked, touched, places_of}
use Rattle.st_terms.proofs.Looking.{among-itself, among-chain, among-left, among-right, among-both, at-more, at-looking, reaches-nothing, looks-more, looks-then}
use Rattle.st_terms.proofs.Stores.{term-among}
use Rattle.st_terms.proofs.Admitted.{one, admitted-term}
use Rattle.st_terms.specs.Routes.{AdmitsTerm, term_stores}
use Rattle.st_changes.specs.Effects.{SetsAt}
use Rattle.st_running.specs.Steps.{may_put, first_place, Steps, bound_by, IsOutcome}
use Rattle.st_running.specs.declared.outcome.Outcome.{Outcome}
use Rattle.st_running.specs.Ran.{Ran, IsOnward}
use Rattle.st_values.specs.declared.value.Value.{Value}
use Rattle.st_query.specs.Terms.{bind}

-- what answers give that were looked for, where nothing is refused and the state stays
concluded : {A : Type 0} (due : Option Refusal) (stands : State → Type 0) (s after : State) (right : A → Type 0) (r : Result A BaseFault) → due ≡ None → s ≡ after → Answers (stands s) right r → Concludes due stands s after right r
concluded due stands s after right (Ok x) n e f = (n, f.0, subst stands e f.1)
concluded due stands s after right (Err (Refused refusal)) n e f = absurd f
concluded due stands s after right (Err (Page fault)) n e f = f
concluded due stands s after right (Err Memory) n e f = tt

-- nothing is said of no places
sets-none : {A : Type 0} (r : Result A BaseFault) (P : Place → Type 0) (places : List Place) → places ≡ [] → OnOk r (All P places)
sets-none (Ok x) P places e = subst (All P) (sym e) (All-nil P)
sets-none (Err fault) P places e = tt

-- a statement that only looks
pub looked : {A : Type 0} (p : Present) (st : Statement) (stands : State → Type 0) (asks : List Asked → Type 0) (got : EntityId → ℕ → Type 0) (right : A → Type 0) (r : Result A BaseFault)
    → refusal p st ≡ None → p.state ≡ (does p st).state → first_place p st ≡ []
    → Looks (stands p.state) asks got right (touched p.state.schema p.variables st) (places_of p st) r → Steps p st stands asks got right r
looked p st stands asks got right r n e firsts f = record {
  concludes = concluded (refusal p st) stands p.state (does p st).state right r n e f.answers;
  asked = at-looking asks (may_put st) (touched p.state.schema p.variables st) f.asked;
  reached = f.reached;
  first = inr f.asked;
  sets = sets-none r (SetsAt asks p.state) (first_place p st) firsts;
}

-- calls that only look and were not answered, whatever was to come behind
pub look-failed : {A C : Type 0} (p : Present) (st : Statement) (stands : State → Type 0) (asks : List Asked → Type 0) (got : EntityId → ℕ → Type 0) (right : A → Type 0) (right_then : C → Type 0) (stores : List ℕ) (places : List Place) (e : BaseFault)
    → AreAmong stores (touched p.state.schema p.variables st) → Looks (stands p.state) asks got right stores places (Err e) → Steps p st stands asks got right_then (Err e)
look-failed p st stands asks got right right_then stores places (Refused r) among f = absurd f.answers
look-failed p st stands asks got right right_then stores places (Page fault) among f =
    let asked = at-more asks false stores (touched p.state.schema p.variables st) among f.asked in
    record { concludes = f.answers; asked = at-looking asks (may_put st) (touched p.state.schema p.variables st) asked; reached = tt; first = inr asked; sets = tt }
look-failed p st stands asks got right right_then stores places Memory among f =
    let asked = at-more asks false stores (touched p.state.schema p.variables st) among f.asked in
    record { concludes = tt; asked = at-looking asks (may_put st) (touched p.state.schema p.variables st) asked; reached = tt; first = inr asked; sets = tt }

-- calls that only look and were answered, and want of memory behind them
pub look-starved : {A C : Type 0} (p : Present) (st : Statement) (stands : State → Type 0) (asks : List Asked → Type 0) (got : EntityId → ℕ → Type 0) (right : A → Type 0) (right_then : C → Type 0) (stores : List ℕ) (places : List Place) (r : Result A BaseFault)
    → AreAmong stores (touched p.state.schema p.variables st) → Looks (stands p.state) asks got right stores places r → Steps p st stands asks got right_then (Err Memory)
look-starved p st stands asks got right right_then stores places r among f =
    let asked = at-more asks false stores (touched p.state.schema p.variables st) among f.asked in
    record { concludes = tt; asked = at-looking asks (may_put st) (touched p.state.schema p.variables st) asked; reached = tt; first = inr asked; sets = tt }

-- calls that only look and were answered
pub look-answered : {A C : Type 0} (p : Present) (st : Statement) (stands : State → Type 0) (asks : List Asked → Type 0) (got : EntityId → ℕ → Type 0) (right : A → Type 0) (right_then : C → Type 0) (stores : List ℕ) (x : A) (y : C)
    → refusal p st ≡ None → p.state ≡ (does p st).state → first_place p st ≡ [] → AreAmong stores (touched p.state.schema p.variables st) → (right x → right_then y)
    → Looks (stands p.state) asks got right stores (places_of p st) (Ok x) → Steps p st stands asks got right_then (Ok y)
look-answered p st stands asks got right right_then stores x y n e firsts among so f =
    let asked = at-more asks false stores (touched p.state.schema p.variables st) among f.asked in
    record { concludes = (n, so f.answers.0, subst stands e f.answers.1); asked = at-looking asks (may_put st) (touched p.state.schema p.variables st) asked; reached = f.reached; first = inr asked; sets = subst (All (SetsAt asks p.state)) (sym firsts) (All-nil (SetsAt asks p.state)) }

-- where the checks refuse nothing, and no rule behind them does
none-of : (text live : Option Refusal) → text ≡ None → live ≡ None → first_of (None ∷ text ∷ live ∷ None ∷ None ∷ None ∷ None ∷ None ∷ None ∷ []) ≡ None
none-of text live e f = ap (λ o. first_of (None ∷ o ∷ live ∷ None ∷ None ∷ None ∷ None ∷ None ∷ None ∷ [])) e ∙ ap (λ o. first_of (None ∷ None ∷ o ∷ None ∷ None ∷ None ∷ None ∷ None ∷ None ∷ [])) f

pub let-free : (p : Present) (var : List ℕ) (t : Term) → IsChecked p (Let var t) → refusal p (Let var t) ≡ None
unfolding refusal
let-free p var t h = none-of (rules_1_2_7 p (Let var t)) (rule_5 p (Let var t)) h.text h.live

pub print-free : (p : Present) (ts : List Term) → IsChecked p (Print ts) → refusal p (Print ts) ≡ None
unfolding refusal
print-free p ts h = none-of (rules_1_2_7 p (Print ts)) (rule_5 p (Print ts)) h.text h.live

-- ---- terms of statements that were checked

module _ (p : Present) (n : IsNearlyLegal p.state) where
  abbrev pub test : Start → Option Refusal
  test start = dead p.state (start_value p.state p.variables start)

  pub term-admitted : (expected : Expected) (t : Term) → term_refused p.state.schema (known p.variables) expected t ≡ None → test (way t).start ≡ None → AdmitsTerm p.state p.variables t
  term-admitted expected t h l = admitted-term p.state n p.variables expected t h (dead-none p.state (start_value p.state p.variables (way t).start) l)

  pub terms-admitted : (expected : Expected) (ts : List Term) → first_of (map (term_refused p.state.schema (known p.variables) expected) ts) ≡ None → first_of (map test (map (λ t. (way t).start) ts)) ≡ None → All (AdmitsTerm p.state p.variables) ts
  terms-admitted expected [] h l = All-nil (AdmitsTerm p.state p.variables)
  terms-admitted expected (t ∷ ts) h l =
      All-append (AdmitsTerm p.state p.variables) (t ∷ []) ts
      (one (AdmitsTerm p.state p.variables) t (term-admitted expected t (first-none (term_refused p.state.schema (known p.variables) expected t) _ h) (first-none (test (way t).start) _ l)))
      (terms-admitted expected ts (others-none (term_refused p.state.schema (known p.variables) expected t) _ h) (others-none (test (way t).start) _ l))

  pub terms-among : (ts : List Term) → AreAmong (flat_map (term_stores p.state.schema p.variables) ts) (path_stores p.state.schema ts)
  terms-among [] = among-itself []
  terms-among (t ∷ ts) =
      let here = flat_map (λ name. feature_stores p.state.schema (called p.state.schema name)) (way t).features in
      among-both (term_stores p.state.schema p.variables t) (flat_map (term_stores p.state.schema p.variables) ts) (here ++ path_stores p.state.schema ts)
      (among-chain (term_stores p.state.schema p.variables t) here (here ++ path_stores p.state.schema ts)
      (subst (AreAmong (term_stores p.state.schema p.variables t)) (append-nil here) (term-among p.state n p.variables t)) (among-left here (path_stores p.state.schema ts)))
      (among-chain (flat_map (term_stores p.state.schema p.variables) ts) (path_stores p.state.schema ts) (here ++ path_stores p.state.schema ts) (terms-among ts) (among-right here (path_stores p.state.schema ts)))

  -- the stores of a statement's paths, and those of what it does, are touched
  pub paths-touched : (st : Statement) → AreAmong (path_stores p.state.schema (terms_of st)) (touched p.state.schema p.variables st)
  paths-touched st =
      let starts = flat_map (start_stores p.state.schema p.variables) (starts_of st) in
      let paths = path_stores p.state.schema (terms_of st) in
      let effects = effect_stores p.state.schema p.variables st in
      among-chain paths (starts ++ paths) ((starts ++ paths) ++ effects) (among-right starts paths) (among-left (starts ++ paths) effects)

pub let-admitted : (p : Present) (var : List ℕ) (t : Term) → IsChecked p (Let var t) → AdmitsTerm p.state p.variables t
let-admitted p var t h = term-admitted p h.legal.nearly AnyValue t h.text (first-none (test p h.legal.nearly (way t).start) [] h.live)

pub let-among : (p : Present) (var : List ℕ) (t : Term) → IsChecked p (Let var t) → AreAmong (term_stores p.state.schema p.variables t) (touched p.state.schema p.variables (Let var t))
let-among p var t h =
    among-chain (term_stores p.state.schema p.variables t) (path_stores p.state.schema (t ∷ [])) (touched p.state.schema p.variables (Let var t)) (term-among p.state h.legal.nearly p.variables t) (paths-touched p h.legal.nearly (Let var t))

pub print-admitted : (p : Present) (ts : List Term) → IsChecked p (Print ts) → All (AdmitsTerm p.state p.variables) ts
print-admitted p ts h = terms-admitted p h.legal.nearly Anything ts h.text h.live

pub print-among : (p : Present) (ts : List Term) → IsChecked p (Print ts) → AreAmong (flat_map (term_stores p.state.schema p.variables) ts) (touched p.state.schema p.variables (Print ts))
print-among p ts h =
    among-chain (flat_map (term_stores p.state.schema p.variables) ts) (path_stores p.state.schema ts) (touched p.state.schema p.variables (Print ts)) (terms-among p h.legal.nearly ts) (paths-touched p h.legal.nearly (Print ts))

-- ---- outcomes

pub let-outcome : (p : Present) (var : List ℕ) (t : Term) (o : Outcome) (v : Value) → o ≡ record { lines = []; bound = Some v } → v ≡ value_now p t → IsOutcome p (Let var t) o
let-outcome p var t o v e f = subst (IsOutcome p (Let var t)) (sym e) (refl, ap (λ x. bind var x p.variables) f)

pub print-outcome : (p : Present) (ts : List Term) (o : Outcome) (line : List ℕ) → o ≡ record { lines = line ∷ []; bound = None } → line ≡ print_tail p ts → IsOutcome p (Print ts) o
print-outcome p ts o line e f = subst (IsOutcome p (Print ts)) (sym e) (ap (λ x. x ∷ []) f, refl)

pub bound-outcome : (p : Present) (st : Statement) (o : Outcome) (v : Value) → answers p st ≡ [] → o ≡ record { lines = []; bound = Some v } → (does p st).variables ≡ bound_by st (Some v) p.variables → IsOutcome p st o
bound-outcome p st o v n e f = subst (IsOutcome p st) (sym e) (sym n, sym f)

-- ---- statements that change something

pub change-failed : {A C : Type 0} (p : Present) (st : Statement) (stands : State → Type 0) (asks : List Asked → Type 0) (got : EntityId → ℕ → Type 0) (right : A → Type 0) (right_then : C → Type 0) (e : BaseFault)
    → may_put st ≡ true → places_of p st ≡ [] → first_place p st ≡ []
    → Changes (refusal p st) stands asks p.state (does p st).state right (touched p.state.schema p.variables st) (Err e) → Steps p st stands asks got right_then (Err e)
change-failed {C = C} p st stands asks got right right_then e m places firsts f = record {
  concludes = by e f.concludes;
  asked = subst (λ b. AskedAt asks b (touched p.state.schema p.variables st)) (sym m) f.asked;
  reached = subst (λ ps. Reaches {A = C} (All (λ place. got place.entity place.number) ps) (Err e)) (sym places) (reaches-nothing {A = C} (λ place. got place.entity place.number) (Err e));
  first = inl (subst (All (λ place. got place.entity place.number)) (sym firsts) (All-nil (λ place. got place.entity place.number)));
  sets = tt;
}
  where
    by : (x : BaseFault) → Concludes (refusal p st) stands p.state (does p st).state right (Err x) → Concludes {A = C} (refusal p st) stands p.state (does p st).state right_then (Err x)
    by (Refused r) h = h
    by (Page fault) h = h
    by Memory h = tt

pub change-answered : {A C : Type 0} (p : Present) (st : Statement) (stands : State → Type 0) (asks : List Asked → Type 0) (got : EntityId → ℕ → Type 0) (right : A → Type 0) (right_then : C → Type 0) (x : A) (y : C)
    → may_put st ≡ true → places_of p st ≡ [] → first_place p st ≡ [] → (right x → right_then y)
    → Changes (refusal p st) stands asks p.state (does p st).state right (touched p.state.schema p.variables st) (Ok x) → Steps p st stands asks got right_then (Ok y)
change-answered p st stands asks got right right_then x y m places firsts so f = record {
  concludes = (f.concludes.0, so f.concludes.1, f.concludes.2);
  asked = subst (λ b. AskedAt asks b (touched p.state.schema p.variables st)) (sym m) f.asked;
  reached = subst (All (λ place. got place.entity place.number)) (sym places) (All-nil (λ place. got place.entity place.number));
  first = inl (subst (All (λ place. got place.entity place.number)) (sym firsts) (All-nil (λ place. got place.entity place.number)));
  sets = subst (All (SetsAt asks p.state)) (sym firsts) (All-nil (SetsAt asks p.state));
}

-- ---- find

pub find-free : (p : Present) (var ty key : List ℕ) (t : Term) → IsChecked p (Find var ty key t) → refusal p (Find var ty key t) ≡ None
unfolding refusal
find-free p var ty key t h = none-of (rules_1_2_7 p (Find var ty key t)) (rule_5 p (Find var ty key t)) h.text h.live

-- ---- for-each

pub query-free : (p : Present) (query : Query) → IsChecked p (ForEach query) → refusal p (ForEach query) ≡ None
unfolding refusal
query-free p query h = none-of (rules_1_2_7 p (ForEach query)) (rule_5 p (ForEach query)) h.text h.live

live-each : (es : List EntityId) → list_all (λ e. list_any (same_entity e) es) es ≡ true
live-each es = all-members (λ e. list_any (same_entity e) es) es (λ e m. by e m)
  where
    by : (e : EntityId) → Member e es → list_any (same_entity e) es ≡ true
    by e m = either (list_any (same_entity e) es) (λ b. list_any (same_entity e) es ≡ b → b ≡ true) (λ _ _. refl)
        (λ k _. absurd (true≢false (sym (same_entity-itself e) ∙ not-true (same_entity e e) (m (λ y. not (same_entity e y)) (all-not (same_entity e) es ∙ ap not k))))) refl

of-type : (s : State) (ty : ℕ) → list_all (λ e. is_live s e && isa s.schema e.ty ty) (entities_of s ty) ≡ true
of-type s ty =
    all-members (λ e. is_live s e && isa s.schema e.ty ty) (entities_of s ty)
    (λ e m. both (is_live s e) (isa s.schema e.ty ty) (member-filter (λ x. isa s.schema x.ty ty) e s.live m (is_live s) (live-each s.live)) (member-passes (λ x. isa s.schema x.ty ty) e s.live m))

-- the entities that are selected are live and of the type
pub selected-of : (p : Present) (query : Query) (es : List EntityId) → es ≡ selected p.state p.variables query → AreOf p.state query es
selected-of p query es e = subst (AreOf p.state query) (sym e) (by (type_named p.state.schema query.ty) refl)
  where
    s : State
    s = p.state

    test : EntityId → Bool
    test = λ x. list_all (holds s (variables_at p.variables query x)) query.conditions

    none-type : (ty : ℕ) → None ≡ Some ty → ⊥
    none-type ty k = cc

    inside : (t ty : ℕ) → Some t ≡ Some ty → t ≡ ty
    inside t ty k = cc

    by : (o : Option ℕ) → type_named s.schema query.ty ≡ o → AreOf s query (arranged (written_before s p.variables query) (filter test (entities_in s (type_named s.schema query.ty))))
    by None k = subst (λ es'. AreOf s query (arranged (written_before s p.variables query) (filter test (entities_in s es')))) (sym k) (All-nil (λ x. (is_live s x ≡ true) × ((ty : ℕ) → type_named s.schema query.ty ≡ Some ty → isa s.schema x.ty ty ≡ true)))
    by (Some t) k =
        subst (λ o'. AreOf s query (arranged (written_before s p.variables query) (filter test (entities_in s o')))) (sym k)
        (all-of (arranged (written_before s p.variables query) (filter test (entities_of s t)))
        (all-arranged (written_before s p.variables query) (λ x. is_live s x && isa s.schema x.ty t) (filter test (entities_of s t)) (all-filter (λ x. is_live s x && isa s.schema x.ty t) test (entities_of s t) (of-type s t))))
      where
        all-of : (xs : List EntityId) → list_all (λ x. is_live s x && isa s.schema x.ty t) xs ≡ true → AreOf s query xs
        all-of [] h = All-nil (λ x. (is_live s x ≡ true) × ((ty : ℕ) → type_named s.schema query.ty ≡ Some ty → isa s.schema x.ty ty ≡ true))
        all-of (x ∷ xs) h =
            let here = left (is_live s x && isa s.schema x.ty t) (list_all (λ y. is_live s y && isa s.schema y.ty t) xs) h in
            All-append (λ y. (is_live s y ≡ true) × ((ty : ℕ) → type_named s.schema query.ty ≡ Some ty → isa s.schema y.ty ty ≡ true)) (x ∷ []) xs
            (one (λ y. (is_live s y ≡ true) × ((ty : ℕ) → type_named s.schema query.ty ≡ Some ty → isa s.schema y.ty ty ≡ true)) x
            (left (is_live s x) (isa s.schema x.ty t) here, λ ty m. subst (λ z. isa s.schema x.ty z ≡ true) (inside t ty (sym k ∙ m)) (right (is_live s x) (isa s.schema x.ty t) here)))
            (all-of xs (right (is_live s x && isa s.schema x.ty t) (list_all (λ y. is_live s y && isa s.schema y.ty t) xs) h))

-- a query: the entities first, and then their lines
module _ (p : Present) (query : Query) (stands : Type 0) (behind : State → Type 0) (first second whole : List Asked → Type 0) (got got_then : EntityId → ℕ → Type 0) (entities slice : List EntityId)
    (on : (f g : List Asked) → first f → second g → whole (f ++ g)) (stay : (e : EntityId) (n : ℕ) → got e n → got_then e n) (same : slice ≡ entities)
    (found : Looks stands first got (λ es. es ≡ selected p.state p.variables query) (touched p.state.schema p.variables (ForEach query)) [] (Ok entities)) where
  abbrev all : List ℕ
  all = touched p.state.schema p.variables (ForEach query)

  abbrev of : AreOf p.state query slice
  of = selected-of p query slice (same ∙ found.answers.0)

  both-looked : {C : Type 0} (right : C → Type 0) (r : Result C BaseFault) → Looks (behind p.state) second got_then right all [] r → Looks (behind p.state) whole got_then right all [] r
  both-looked right r f =
      looks-more (behind p.state) whole got_then right (all ++ all) all [] r (among-both all all all (among-itself all) (among-itself all))
      (looks-then stands (behind p.state) first second whole got got_then (λ es. es ≡ selected p.state p.variables query) right all all [] [] entities r on stay found f)

  pub query-failed : {C D : Type 0} (right : C → Type 0) (right_then : D → Type 0) (e : BaseFault) → (stands → AreOf p.state query slice → Looks (behind p.state) second got_then right all [] (Err e)) → Steps p (ForEach query) behind whole got_then right_then (Err e)
  query-failed right right_then e f = look-failed p (ForEach query) behind whole got_then right right_then all [] e (among-itself all) (both-looked right (Err e) (f found.answers.1 of))

  pub query-answered : IsChecked p (ForEach query) → (lines : List (List ℕ)) (o : Outcome) → o ≡ record { lines = lines; bound = None } → (stands → AreOf p.state query slice → Looks (behind p.state) second got_then (λ ls. ls ≡ query_tails p query slice) all [] (Ok lines))
      → Steps p (ForEach query) behind whole got_then (IsOutcome p (ForEach query)) (Ok o)
  query-answered checked lines o is f =
      look-answered p (ForEach query) behind whole got_then (λ ls. ls ≡ query_tails p query slice) (IsOutcome p (ForEach query)) all lines o (query-free p query checked) refl refl (among-itself all)
      (λ e. subst (IsOutcome p (ForEach query)) (sym is) (e ∙ ap (query_tails p query) (same ∙ found.answers.0), refl)) (both-looked (λ ls. ls ≡ query_tails p query slice) (Ok lines) (f found.answers.1 of))

-- ---- what is done behind a statement

pub step-failed : {A C : Type 0} (p : Present) (st : Statement) (stands : State → Type 0) (asks : List Asked → Type 0) (got : EntityId → ℕ → Type 0) (right : A → Type 0) (right_then : C → Type 0) (e : BaseFault)
    → Steps p st stands asks got right (Err e) → Steps p st stands asks got right_then (Err e)
step-failed {A = A} {C = C} p st stands asks got right right_then e f = record { concludes = by e f.concludes; asked = f.asked; reached = reaches e f.reached; first = f.first; sets = tt }
  where
    by : (x : BaseFault) → Concludes (refusal p st) stands p.state (does p st).state right (Err x) → Concludes {A = C} (refusal p st) stands p.state (does p st).state right_then (Err x)
    by (Refused r) h = h
    by (Page fault) h = h
    by Memory h = tt

    reaches : (x : BaseFault) → Reaches {A = A} (All (λ place. got place.entity place.number) (places_of p st)) (Err x) → Reaches {A = C} (All (λ place. got place.entity place.number) (places_of p st)) (Err x)
    reaches (Refused (UnknownName n)) h = tt
    reaches (Refused WrongType) h = tt
    reaches (Refused (NullNotAllowed n)) h = tt
    reaches (Refused (NotUnique n x)) h = tt
    reaches (Refused (NoSuchEntity x)) h = tt
    reaches (Refused (StillNeeded x n)) h = tt
    reaches (Refused (NotASet n)) h = tt
    reaches (Refused (TextTooLong a b)) h = tt
    reaches (Refused (NumbersSpent n)) h = tt
    reaches (Refused Aborted) h = tt
    reaches (Refused NullEntity) h = tt
    reaches (Refused (TooManyPages n)) h = h
    reaches (Refused (Full n)) h = h
    reaches (Page fault) h = tt
    reaches Memory h = tt

pub step-starved : {A C : Type 0} (p : Present) (st : Statement) (stands : State → Type 0) (asks : List Asked → Type 0) (got : EntityId → ℕ → Type 0) (right : A → Type 0) (right_then : C → Type 0) (r : Result A BaseFault)
    → Steps p st stands asks got right r → Steps p st stands asks got right_then (Err Memory)
step-starved p st stands asks got right right_then r f = record { concludes = tt; asked = f.asked; reached = tt; first = f.first; sets = tt }

pub step-answered : {A C : Type 0} (p : Present) (st : Statement) (stands : State → Type 0) (asks : List Asked → Type 0) (got : EntityId → ℕ → Type 0) (right : A → Type 0) (right_then : C → Type 0) (x : A) (y : C)
    → (right x → right_then y) → Steps p st stands asks got right (Ok x) → Steps p st stands asks got right_then (Ok y)
step-answered p st stands asks got right right_then x y so f = record { concludes = (f.concludes.0, so f.concludes.1, f.concludes.2); asked = f.asked; reached = f.reached; first = f.first; sets = f.sets }

-- a statement that is found by its place
pub is-next : (sts : List Statement) (i : ℕ) (x d : Statement) → x ≡ get_or sts i d → i < length sts → (y : Statement) → slice_get sts i ≡ Some y → x ≡ y
is-next [] i x d e h y f = absurd (omega (arith, h))
is-next (z ∷ zs) zero x d e h y f = e ∙ inside f
  where
    inside : Some z ≡ Some y → z ≡ y
    inside k = cc
is-next (z ∷ zs) (suc i) x d e h y f = is-next zs i x d e (omega (arith, h)) y f

pub next-is : (sts others : List Statement) (i j : ℕ) (x : Statement) → sts ≡ others → i ≡ j → x ≡ get_or sts i x → j < length others → (y : Statement) → slice_get others j ≡ Some y → x ≡ y
next-is sts others i j x e f h within y found = is-next others j x x (h ∙ ap (λ n. get_or sts n x) f ∙ ap (λ ys. get_or ys j x) e) within y found

-- what is said of a statement that was run, said of the one that was next
pub said-of : (s : State) (vs variables : List Variable) (x y : Statement) (stands : State → Type 0) (asks : List Asked → Type 0) (got : EntityId → ℕ → Type 0) (r : Result Outcome BaseFault) → vs ≡ variables → x ≡ y → IsTrue (is_written y)
    → (IsTrue (is_written x) → Steps (present s vs) x stands asks got (IsOutcome (present s vs) x) r) → Steps (present s variables) y stands asks got (IsOutcome (present s variables) y) r
said-of s vs variables x y stands asks got r e f written h =
    subst (λ us. IsTrue (is_written y) → Steps (present s us) y stands asks got (IsOutcome (present s us) y) r) e
    (subst (λ z. IsTrue (is_written z) → Steps (present s vs) z stands asks got (IsOutcome (present s vs) z) r) f h) written

pub ran-built : (old : Ran) (x st : Statement) (o : Outcome) (sts : List Statement) (i : ℕ) (vs new_vs : List Variable) (lines new_lines : List (List ℕ)) → record { statements = sts; ran = i; variables = vs; answers = lines } ≡ old → x ≡ st
    → new_vs ≡ bound_by x o.bound vs → new_lines ≡ lines ++ o.lines
    → record { statements = sts; ran = i + 1; variables = new_vs; answers = new_lines } ≡ record old { ran = old.ran + 1; variables = bound_by st o.bound old.variables; answers = old.answers ++ o.lines }
ran-built old x st o sts i vs new_vs lines new_lines e f g h =
    subst (λ (r : Ran). record { statements = sts; ran = i + 1; variables = new_vs; answers = new_lines } ≡ record r { ran = r.ran + 1; variables = bound_by st o.bound r.variables; answers = r.answers ++ o.lines }) e
    (ap (λ us. record { statements = sts; ran = i + 1; variables = us; answers = new_lines }) (g ∙ ap (λ z. bound_by z o.bound vs) f)
    ∙ ap (λ ls. record { statements = sts; ran = i + 1; variables = bound_by st o.bound vs; answers = ls }) h)

pub onward-said : (p : Present) (st : Statement) (old new : Ran) (o : Outcome) (lines : List (List ℕ)) → p.variables ≡ old.variables → lines ≡ o.lines → new ≡ record old { ran = old.ran + 1; variables = bound_by st o.bound old.variables; answers = old.answers ++ o.lines } → IsOutcome p st o → IsOnward p st old new lines
onward-said p st old new o lines same is e h = (
  is ∙ h.0,
  e ∙ ap (λ vs. record old { ran = old.ran + 1; variables = vs; answers = old.answers ++ o.lines }) (ap (bound_by st o.bound) (sym same) ∙ h.1)
      ∙ ap (λ ls. record old { ran = old.ran + 1; variables = (does p st).variables; answers = old.answers ++ ls }) h.0,
)
