-- Each rule gives only refusals of its own number.
use Rattle.std.proofs.Common.{◌≡◌, ℕ, Bool, true, false, List, [], ◌∷◌, ◌++◌, Option, Some, None, IsTrue, map, suc, ap, refl}
use Rattle.std.specs.Prelude.{not, ◌&&◌, nat_lt, nat_le, if◌then◌else◌, length, slice_index}
use Rattle.st_values.specs.declared.value.EntityId.{EntityId}
use Rattle.st_values.specs.declared.value.Kind.{Kind}
use Rattle.st_values.specs.declared.value.Kind.TheVariants as kind
use Rattle.st_values.specs.declared.value.Value.{Value}
use Rattle.st_values.specs.declared.value.Value.TheVariants as value
use Rattle.st_lattice.specs.declared.attribute.Attribute.{Attribute}
use Rattle.st_lattice.specs.declared.called.Called.{Called}
use Rattle.st_lattice.specs.declared.called.Called.TheVariants.{Nothing, Own, Inverse}
use Rattle.st_lattice.specs.Outline.{Outline, type_named, attribute_name}
use Rattle.st_lattice.specs.Lattice.{attribute_of, by_number}
use Rattle.st_lattice.specs.Called.{called}
use Rattle.st_query.specs.declared.statement.Cell.{Cell}
use Rattle.st_query.specs.declared.query.Condition.{Condition}
use Rattle.st_query.specs.declared.query.Condition.TheVariants as condition
use Rattle.st_query.specs.declared.query.Query.{Query}
use Rattle.st_query.specs.declared.statement.Statement.{Statement}
use Rattle.st_query.specs.declared.statement.Statement.TheVariants.{Make, Set, Add, Take, Delete, Find, Ensure, Let, Print, ForEach, Abort}
use Rattle.st_query.specs.declared.term.Term.{Term}
use Rattle.st_query.specs.declared.kind.Typing.{Typing}
use Rattle.st_query.specs.declared.kind.Expected.{Expected}
use Rattle.st_query.specs.declared.kind.Expected.TheVariants.{Anything, AnyValue}
use Rattle.st_query.specs.Ways.{Start, way}
use Rattle.st_query.specs.Kinds.{Known, known, known_in, fits, start_typing, start_name, feature_typing, expected_under, expected_in}
use Rattle.st_query.specs.Written.{starts_of}
use Rattle.st_state.specs.declared.refusal.Refusal.{Refusal}
use Rattle.st_state.specs.declared.refusal.Refusal.TheVariants.{NullNotAllowed}
use Rattle.st_state.specs.State.{State, is_live}
use Rattle.st_state.specs.Refusals.{first_of}
use Rattle.st_state.specs.Bases.{shared_with, still_needed, needed, needed_by, last_serial, spent}
use Rattle.st_meaning.specs.Terms.{start_value}
use Rattle.st_meaning.specs.Selection.{is_null}
use Rattle.st_meaning.specs.Statements.{Present, value_now}
use Rattle.st_meaning.specs.Checks.{wrong_unless, cell_name_refused, key_name_refused, cell_refused, key_refused, cells_refused, ensure_refused, typed_refused, set_refused, member_refused, condition_refused, parts_refused, text_refused, fit_or_refused, way_refused, term_refused}
use Rattle.st_meaning.specs.Rules.{rule_10, rule_11, rule_8, rule_6, rule_9, rules, refusal, dead, null_target, fillings, Filling, too_long, missing, shared, filled_by, needed_value, spent_type, spent_unless_found}
use Rattle.st_meaning.specs.Laws.{is_by, are_by, order_of_rules, IsFirst}

module _ (ns : List ℕ) where
  abbrev By : Option Refusal → Type 0
  By o = IsTrue (is_by ns o)

  -- the first of several is one of them
  pub by-cons : (o : Option Refusal) (os : List (Option Refusal)) → By o → By (first_of os) → By (first_of (o ∷ os))
  by-cons None os a b = b
  by-cons (Some r) os a b = a

  pub by-map : {X : Type 0} (f : X → Option Refusal) (xs : List X) → ((x : X) → By (f x)) → By (first_of (map f xs))
  by-map f [] h = refl
  by-map f (x ∷ xs) h = by-cons (f x) (map f xs) (h x) (by-map f xs h)

  pub by-append : (os ps : List (Option Refusal)) → By (first_of os) → By (first_of ps) → By (first_of (os ++ ps))
  by-append [] ps a b = b
  by-append (None ∷ os) ps a b = by-append os ps a b
  by-append (Some r ∷ os) ps a b = a

  pub by-unless : (b : Bool) (r : Refusal) → By (Some r) → By (if b then None else Some r)
  by-unless true r h = refl
  by-unless false r h = h

  pub by-when : (b : Bool) (o : Option Refusal) → By o → By (if b then o else None)
  by-when true o h = h
  by-when false o h = refl

abbrev text : List ℕ
text = 1 ∷ 2 ∷ 7 ∷ []

wrong-by : (b : Bool) → By text (wrong_unless b)
wrong-by true = refl
wrong-by false = refl

fit-by : (schema : Outline) (expected : Expected) (name : List ℕ) (typing : Option Typing) → By text (fit_or_refused schema expected name typing)
fit-by schema expected name None = refl
fit-by schema expected name (Some typing) = by-unless text (fits schema expected typing) _ refl

way-by : (schema : Outline) (names : List Known) (expected : Expected) (features : List (List ℕ)) (start : Start) → By text (way_refused schema names expected features start)
way-by schema names expected [] start = fit-by schema expected (start_name start) (start_typing schema names start)
way-by schema names expected (feature ∷ features) start =
    by-cons text (fit_or_refused schema expected feature (feature_typing (called schema feature))) _ (fit-by schema expected feature (feature_typing (called schema feature)))
    (by-cons text (way_refused schema names (expected_under (called schema feature)) features start) [] (way-by schema names (expected_under (called schema feature)) features start) refl)

term-by : (schema : Outline) (names : List Known) (expected : Expected) (term : Term) → By text (term_refused schema names expected term)
unfolding term_refused
term-by schema names expected term = way-by schema names expected (way term).features (way term).start

cell_name-by : (name : List ℕ) (o : Option Attribute) → By text (cell_name_refused name o)
cell_name-by name None = refl
cell_name-by name (Some a) = wrong-by (not a.many)

key_name-by : (name : List ℕ) (o : Option Attribute) → By text (key_name_refused name o)
key_name-by name None = refl
key_name-by name (Some a) = wrong-by a.unique

cell-by : (schema : Outline) (names : List Known) (ty : ℕ) (cell : Cell) → By text (cell_refused schema names ty cell)
cell-by schema names ty cell =
    by-cons text (cell_name_refused cell.name (attribute_of schema ty cell.name)) _ (cell_name-by cell.name (attribute_of schema ty cell.name))
    (by-cons text (term_refused schema names (expected_in (attribute_of schema ty cell.name)) cell.value) [] (term-by schema names _ cell.value) refl)

key-by : (schema : Outline) (names : List Known) (ty : ℕ) (key : List ℕ) (term : Term) → By text (key_refused schema names ty key term)
key-by schema names ty key term =
    by-cons text (key_name_refused key (attribute_of schema ty key)) _ (key_name-by key (attribute_of schema ty key))
    (by-cons text (term_refused schema names (expected_in (attribute_of schema ty key)) term) [] (term-by schema names _ term) refl)

ensure-by : (schema : Outline) (names : List Known) (ty : ℕ) (cells : List Cell) → By text (ensure_refused schema names ty cells)
ensure-by schema names ty [] = refl
ensure-by schema names ty (key ∷ cells) =
    by-cons text (key_refused schema names ty key.name key.value) _ (key-by schema names ty key.name key.value)
    (by-cons text (cells_refused schema names ty cells) [] (by-map text (cell_refused schema names ty) cells (cell-by schema names ty)) refl)

typed-by : (name : List ℕ) (others : ℕ → Option Refusal) (o : Option ℕ) → ((ty : ℕ) → By text (others ty)) → By text (typed_refused name others o)
typed-by name others None h = refl
typed-by name others (Some ty) h = h ty

two-by : (schema : Outline) (names : List Known) (first second : Expected) (target written : Term)
    → By text (first_of (term_refused schema names first target ∷ term_refused schema names second written ∷ []))
two-by schema names first second target written =
    by-cons text (term_refused schema names first target) _ (term-by schema names first target)
    (by-cons text (term_refused schema names second written) [] (term-by schema names second written) refl)

set-by : (schema : Outline) (names : List Known) (feature : List ℕ) (target written : Term) (by : Called Attribute) → By text (set_refused schema names feature target written by)
set-by schema names feature target written Nothing = refl
set-by schema names feature target written (Inverse a) = refl
set-by schema names feature target written (Own a) =
    by-cons text (wrong_unless (not a.many)) _ (wrong-by (not a.many)) (two-by schema names _ _ target written)

member-by : (schema : Outline) (names : List Known) (feature : List ℕ) (target written : Term) (by : Called Attribute) → By text (member_refused schema names feature target written by)
member-by schema names feature target written Nothing = refl
member-by schema names feature target written (Inverse a) = refl
member-by schema names feature target written (Own a) =
    by-cons text (if a.many then None else Some _) _ (by-unless text a.many _ refl) (two-by schema names _ _ target written)

condition-by : (schema : Outline) (names : List Known) (c : Condition) → By text (condition_refused schema names c)
condition-by schema names (condition.Compare sign left right) = two-by schema names _ _ left right
condition-by schema names (condition.Null term) = term-by schema names _ term
condition-by schema names (condition.NotNull term) = term-by schema names _ term
condition-by schema names (condition.Member v set) = two-by schema names _ _ v set

parts-by : (schema : Outline) (query : Query) (names : List Known) → By text (parts_refused schema query names)
parts-by schema query names =
    by-append text (map (condition_refused schema names) query.conditions ++ map (λ key. term_refused schema names AnyValue key.term) query.keys) _
    (by-append text (map (condition_refused schema names) query.conditions) _ (by-map text _ query.conditions (condition-by schema names))
    (by-map text (λ key. term_refused schema names AnyValue key.term) query.keys (λ key. term-by schema names AnyValue key.term)))
    (by-map text (term_refused schema names Anything) query.shown (term-by schema names Anything))

text-by : (schema : Outline) (names : List Known) (s : Statement) → By text (text_refused schema names s)
text-by schema names (Make var ty cells) = typed-by ty _ (type_named schema ty) (λ t. by-map text (cell_refused schema names t) cells (cell-by schema names t))
text-by schema names (Set feature target written) = set-by schema names feature target written (called schema feature)
text-by schema names (Add feature target written) = member-by schema names feature target written (called schema feature)
text-by schema names (Take feature target written) = member-by schema names feature target written (called schema feature)
text-by schema names (Delete target) = term-by schema names _ target
text-by schema names (Find var ty key written) = typed-by ty _ (type_named schema ty) (λ t. key-by schema names t key written)
text-by schema names (Ensure var ty cells) = typed-by ty _ (type_named schema ty) (λ t. ensure-by schema names t cells)
text-by schema names (Let var written) = term-by schema names _ written
text-by schema names (Print terms) = by-map text (term_refused schema names Anything) terms (term-by schema names Anything)
text-by schema names (ForEach query) = typed-by query.ty _ (type_named schema query.ty) (λ t. parts-by schema query (known_in names query t))
text-by schema names Abort = refl

abort-by : (p : Present) (s : Statement) → By (10 ∷ []) (rule_10 p s)
abort-by p Abort = refl
abort-by p _ = refl

dead-by : (state : State) (v : Value) → By (5 ∷ []) (dead state v)
dead-by state (value.Entity e) = by-unless (5 ∷ []) (is_live state e) _ refl
dead-by state _ = refl

null-by : (v : Value) → By (11 ∷ []) (null_target v)
null-by value.Null = refl
null-by _ = refl

target-by : (p : Present) (s : Statement) → By (11 ∷ []) (rule_11 p s)
target-by p (Set feature target written) = null-by (value_now p target)
target-by p (Add feature target written) = null-by (value_now p target)
target-by p (Take feature target written) = null-by (value_now p target)
target-by p (Delete target) = null-by (value_now p target)
target-by p _ = refl

long-by : (k : Kind) (v : Value) → By (8 ∷ []) (too_long k v)
long-by (kind.Text limit) (value.Text t) = by-unless (8 ∷ []) (nat_le (length t) limit) _ refl
long-by (kind.Text limit) value.Null = refl
long-by (kind.Text limit) (value.Int _) = refl
long-by (kind.Text limit) (value.Bool _) = refl
long-by (kind.Text limit) (value.Entity _) = refl
long-by kind.Int v = refl
long-by kind.Bool v = refl
long-by (kind.Entity ty) v = refl

texts-by : (p : Present) (s : Statement) → By (8 ∷ []) (rule_8 p s)
texts-by p (Take feature target written) = refl
texts-by p (Make var ty cells) = by-map (8 ∷ []) _ (fillings p (Make var ty cells)) (λ f. long-by f.attribute.kind f.value)
texts-by p (Set feature target written) = by-map (8 ∷ []) _ (fillings p (Set feature target written)) (λ f. long-by f.attribute.kind f.value)
texts-by p (Add feature target written) = by-map (8 ∷ []) _ (fillings p (Add feature target written)) (λ f. long-by f.attribute.kind f.value)
texts-by p (Ensure var ty cells) = by-map (8 ∷ []) _ (fillings p (Ensure var ty cells)) (λ f. long-by f.attribute.kind f.value)
texts-by p _ = refl

missing-by : (schema : Outline) (f : Filling) → By (3 ∷ []) (missing schema f)
missing-by schema f = by-when (3 ∷ []) (f.wanted && is_null f.value) (Some (NullNotAllowed (attribute_name schema f.attribute))) refl

shared_with-by : (schema : Outline) (a : Attribute) (o : Option EntityId) → By (4 ∷ []) (shared_with schema a o)
shared_with-by schema a None = refl
shared_with-by schema a (Some e) = refl

shared-by : (state : State) (filled : Option EntityId) (f : Filling) → By (4 ∷ []) (shared state filled f)
shared-by state filled f = by-when (4 ∷ []) f.attribute.unique _ (shared_with-by state.schema f.attribute _)

needed_by-by : (schema : Outline) (a : Attribute) (o : Option EntityId) → By (6 ∷ []) (needed_by schema a o)
needed_by-by schema a None = refl
needed_by-by schema a (Some e) = refl

still-by : (state : State) (e : EntityId) → By (6 ∷ []) (still_needed state e)
still-by state e = by-map (6 ∷ []) (needed state e) (by_number state.schema) (λ a. by-when (6 ∷ []) a.no_nulls _ (needed_by-by state.schema a _))

needed-by : (state : State) (v : Value) → By (6 ∷ []) (needed_value state v)
needed-by state (value.Entity e) = still-by state e
needed-by state _ = refl

deleted-by : (p : Present) (s : Statement) → By (6 ∷ []) (rule_6 p s)
deleted-by p (Delete target) = needed-by p.state (value_now p target)
deleted-by p _ = refl

spent-by : (state : State) (ty : ℕ) → By (9 ∷ []) (spent state ty)
spent-by state ty = by-unless (9 ∷ []) (nat_lt (slice_index state.last ty) last_serial) _ refl

spent_type-by : (state : State) (o : Option ℕ) → By (9 ∷ []) (spent_type state o)
spent_type-by state None = refl
spent_type-by state (Some ty) = spent-by state ty

unless_found-by : (state : State) (found : Option EntityId) (o : Option ℕ) → By (9 ∷ []) (spent_unless_found state found o)
unless_found-by state (Some e) o = refl
unless_found-by state None o = spent_type-by state o

numbers-by : (p : Present) (s : Statement) → By (9 ∷ []) (rule_9 p s)
numbers-by p (Make var ty cells) = spent_type-by p.state (type_named p.state.schema ty)
numbers-by p (Ensure var ty cells) = unless_found-by p.state (filled_by p (Ensure var ty cells)) (type_named p.state.schema ty)
numbers-by p _ = refl

both : (a b : Bool) → IsTrue a → IsTrue b → IsTrue (a && b)
both true b h k = k
both false b h k = h

pub own_numbers : (p : Present) (s : Statement) → IsTrue (are_by order_of_rules (rules p s))
own_numbers p s =
    both _ _ (abort-by p s) (both _ _ (text-by p.state.schema (known p.variables) s)
    (both _ _ (by-map (5 ∷ []) _ (starts_of s) (λ start. dead-by p.state (start_value p.state p.variables start)))
    (both _ _ (target-by p s) (both _ _ (texts-by p s)
    (both _ _ (by-map (3 ∷ []) (missing p.state.schema) (fillings p s) (missing-by p.state.schema))
    (both _ _ (by-map (4 ∷ []) (shared p.state (filled_by p s)) (fillings p s) (shared-by p.state (filled_by p s)))
    (both _ _ (deleted-by p s) (both _ _ (numbers-by p s) refl))))))))

first_of-first : (os : List (Option Refusal)) (r : Refusal) → first_of os ≡ Some r → IsFirst os r
first_of-first [] r e = absurd (cc)
first_of-first (None ∷ os) r e =
    let rest = first_of-first os r e in record { place = suc rest.place; here = rest.here; none_before = rest.none_before }
first_of-first (Some q ∷ os) r e = record { place = 0; here = ap Some e; none_before = refl }

pub refusal-first : (p : Present) (s : Statement) (r : Refusal) → refusal p s ≡ Some r → IsFirst (rules p s) r
unfolding refusal
refusal-first p s r e = first_of-first (rules p s) r e
