-- A make that was checked.
use Rattle.std.proofs.Common.{◌≡◌, ℕ, Bool, true, false, List, [], ◌∷◌, Option, Some, None, Result, length, refl, sym, ◌∙◌, ap, subst, true≢false}
use Rattle.std.specs.Prelude.{◌++◌, ◌<◌, not, map, flat_map, is_none, is_some, All}
use Rattle.std.specs.List.{list_all}
use Rattle.std.proofs.lemmas.List.{append-nil}
use Rattle.std.proofs.lemmas.List.Folds.{list_all-append}
use Rattle.st_values.specs.declared.value.EntityId.{EntityId}
use Rattle.st_values.specs.declared.value.Value.{Value}
use Rattle.st_values.specs.declared.value.Value.TheVariants.{Entity}
use Rattle.st_values.proofs.Tests.{both, left, right, all-weaken}
use Rattle.st_lattice.specs.declared.attribute.Attribute.{Attribute}
use Rattle.st_lattice.specs.declared.stores.StoreKind.TheVariants.{Extent}
use Rattle.st_lattice.specs.Outline.{Outline, type_named, attribute}
use Rattle.st_lattice.specs.Lattice.{attributes_in, attribute_of}
use Rattle.st_lattice.specs.Stores.{store, aside, passes}
use Rattle.st_lattice.specs.Called.{called}
use Rattle.st_query.specs.declared.statement.Cell.{Cell}
use Rattle.st_query.specs.declared.statement.Statement.TheVariants.{Make}
use Rattle.st_query.specs.declared.term.Variable.{Variable}
use Rattle.st_query.specs.Footprint.{start_stores, path_stores, feature_stores, make_stores}
use Rattle.st_query.specs.Kinds.{known, expected_in}
use Rattle.st_query.specs.Terms.{bind}
use Rattle.st_query.specs.Ways.{way}
use Rattle.st_query.specs.Written.{starts_of}
use Rattle.st_state.specs.declared.refusal.Refusal.{Refusal}
use Rattle.st_state.specs.declared.refusal.Refusal.TheVariants.{UnknownName, WrongType}
use Rattle.st_state.specs.State.{State, next_entity, entity_made}
use Rattle.st_state.specs.Legal.{IsLegal}
use Rattle.st_state.specs.Refusals.{first_of}
use Rattle.st_state.specs.Bases.{spent}
use Rattle.st_state.specs.Calls.{stores_by, changed_stores}
use Rattle.st_state.proofs.Made.{made-nearly, fresh-live}
use Rattle.st_state.proofs.Members.{Member}
use Rattle.st_meaning.specs.Terms.{start_value, term_value}
use Rattle.st_meaning.specs.Statements.{makes, does}
use Rattle.st_meaning.specs.Checks.{typed_refused, cells_refused, cell_refused, cell_name_refused, term_refused}
use Rattle.st_meaning.specs.Rules.{dead, of_type, spent_type, refusal, rules_1_2_7, rule_5}
use Rattle.st_meaning.specs.Rules as rules
use Rattle.st_meaning.proofs.Sorts.{first-none, others-none, when-none}
use Rattle.st_meaning.proofs.Legality.{dead-none}
use Rattle.st_meaning.proofs.Cells.{option-cases, found, CanAll, can-all}
use Rattle.st_meaning.proofs.Making.{Checked, Lives, Distinct, can-set, within-itself, named-there, own-names, each-none, none-is}
use Rattle.st_meaning.proofs.Whole.{cells-checked, cells-live}
use Rattle.st_terms.specs.Checked.{present, IsChecked, touched}
use Rattle.st_plain.specs.declared.fault.BaseFault.{BaseFault}
use Rattle.st_plain.specs.Base.{Asked}
use Rattle.st_terms.specs.Looks.{AreAmong, Changes}
use Rattle.st_terms.specs.Routes.{AdmitsTerm, term_stores}
use Rattle.st_terms.proofs.Admitted.{admitted-term}
use Rattle.st_terms.proofs.Stores.{term-among}
use Rattle.st_terms.proofs.Looking.{among-itself, among-chain, among-left, among-right, among-both}
use Rattle.st_makes.specs.declared.given.Given.{Given}
use Rattle.st_makes.specs.declared.filling.Filling.{Filling}
use Rattle.st_makes.specs.Makes.{given_by, givens_of, is_key, new_filling, new_fillings, refused_by, givens_set, AdmitsGivens, givens_stores, CanMake, makes_refused, makes_stores}
use Rattle.st_makes.proofs.Checked.{changes-as}
use Rattle.st_makes.proofs.Fillings.{all-with}
use Rattle.st_makes.proofs.Celled.{has_single, has_own, gives, new-same, meant-new, admits-all, sets-same}

-- ---- stores

flat-all : {X : Type 0} (test : ℕ → Bool) (f : X → List ℕ) (xs : List X) → list_all test (flat_map f xs) ≡ true → list_all (λ x. list_all test (f x)) xs ≡ true
flat-all test f [] h = refl
flat-all test f (x ∷ xs) h =
    let k = sym (list_all-append test (f x) (flat_map f xs)) ∙ h in
    both (list_all test (f x)) (list_all (λ y. list_all test (f y)) xs) (left (list_all test (f x)) (list_all test (flat_map f xs)) k) (flat-all test f xs (right (list_all test (f x)) (list_all test (flat_map f xs)) k))

pub member-among : {X : Type 0} (f : X → List ℕ) (x : X) (xs : List X) → Member x xs → AreAmong (f x) (flat_map f xs)
member-among f x xs m = λ test h. m (λ y. list_all test (f y)) (flat-all test f xs h)

pub flat-mapped : {X Y : Type 0} (f : Y → List ℕ) (g : X → Y) (xs : List X) → flat_map f (map g xs) ≡ flat_map (λ x. f (g x)) xs
flat-mapped f g [] = refl
flat-mapped f g (x ∷ xs) = ap (λ ys. f (g x) ++ ys) (flat-mapped f g xs)

pub first-among : (x : ℕ) (xs others : List ℕ) → AreAmong (x ∷ []) others → AreAmong xs others → AreAmong (x ∷ xs) others
first-among x xs others f g = λ test h. both (test x) (list_all test xs) (left (test x) true (f test h)) (g test h)

-- the terms of cells
pub cells-among : (s : State) → IsLegal s → (variables : List Variable) (cells : List Cell) → AreAmong (flat_map (λ c. term_stores s.schema variables c.value) cells) (path_stores s.schema (map (λ (c : Cell). c.value) cells))
cells-among s g variables [] = among-itself []
cells-among s g variables (c ∷ cs) =
    let here = flat_map (λ name. feature_stores s.schema (called s.schema name)) (way c.value).features in
    let rest = path_stores s.schema (map (λ (c : Cell). c.value) cs) in
    let one = term_stores s.schema variables c.value in
    let some = flat_map (λ (d : Cell). term_stores s.schema variables d.value) cs in
    among-both one some (here ++ rest) (among-chain one here (here ++ rest) (subst (AreAmong one) (append-nil here) (term-among s g.nearly variables c.value)) (among-left here rest))
    (among-chain some rest (here ++ rest) (cells-among s g variables cs) (among-right here rest))

-- what is set
pub givens-among : (schema : Outline) (t : ℕ) (e : EntityId) (val : Cell → Value) (whole : List ℕ) (cells : List Cell)
    → ((c : Cell) → Member c cells → (a : Attribute) → attribute_of schema t c.name ≡ Some a → AreAmong (changed_stores schema e a.number) whole) → AreAmong (givens_stores schema e (gives schema t val cells)) whole
givens-among schema t e val whole [] h = λ test k. refl
givens-among schema t e val whole (c ∷ cs) h =
    let later = givens-among schema t e val whole cs (λ d m. h d (λ q a. m q (right (q c) (list_all q cs) a))) in
    option-cases (attribute_of schema t c.name) (λ o. AreAmong (givens_stores schema e (given_by o (val c) ++ gives schema t val cs)) whole) (λ _. later)
    (λ a f. among-both (changed_stores schema e a.number) (givens_stores schema e (gives schema t val cs)) whole (h c (λ q k. left (q c) (list_all q cs) k) a f) later)

module _ (s : State) (variables : List Variable) (g : IsLegal s) (t : ℕ) (cells : List Cell) where
  abbrev all : List Given
  all = givens_of s variables t cells

  -- a new entity's extent, and what its attributes have beside it
  pub makes-among : (key : Option ℕ) → AreAmong (makes_stores s t key all) (make_stores s.schema (Some t))
  makes-among key =
      let whole = store Extent t ∷ flat_map aside (attributes_in s.schema t) in
      let extent : AreAmong (store Extent t ∷ []) whole = among-left (store Extent t ∷ []) (flat_map aside (attributes_in s.schema t)) in
      let beside : AreAmong (flat_map aside (attributes_in s.schema t)) whole = among-right (store Extent t ∷ []) (flat_map aside (attributes_in s.schema t)) in
      among-both (flat_map (λ (f : Filling). aside f.attribute) (new_fillings s.schema t key all)) (store Extent t ∷ [] ++ givens_stores s.schema (next_entity s t) all) whole
      (subst (λ xs. AreAmong xs whole) (sym (flat-mapped (λ (f : Filling). aside f.attribute) (new_filling key all) (attributes_in s.schema t))) beside)
      (among-both (store Extent t ∷ []) (givens_stores s.schema (next_entity s t) all) whole extent
      (givens-among s.schema t (next_entity s t) (λ c. term_value s variables c.value) whole cells
      (λ c m a f.
      let at = found s.schema g.nearly.consistent t c.name a f in
      first-among (store Extent t) (stores_by aside (attribute s.schema a.number)) whole extent
      (subst (λ o. AreAmong (stores_by aside o) whole) (sym at.number)
      (among-chain (aside a) (flat_map aside (attributes_in s.schema t)) whole (member-among aside a (attributes_in s.schema t) at.member) beside)))))

  module _ (owned : list_all (has_own s.schema t) cells ≡ true) (checked : Checked (present s variables) g t cells) (lives : Lives (present s variables) g t cells) where
    -- the terms can be read
    pub terms-admit : (c : Cell) → Member c cells → AdmitsTerm s variables c.value
    terms-admit c m =
        admitted-term s g.nearly variables (expected_in (attribute_of s.schema t c.name)) c.value
        (none-is _ (m (λ c. is_none (term_refused s.schema (known variables) (expected_in (attribute_of s.schema t c.name)) c.value)) checked))
        (dead-none s (start_value s variables (way c.value).start) (none-is _ (m (λ c. is_none (dead s (start_value s variables (way c.value).start))) lives)))

    module _ (there : t < length s.schema.names) (distinct : Distinct (present s variables) g t cells) (key : Option ℕ) (named : Attribute → Bool)
        (same : (a : Attribute) → Member a (attributes_in s.schema t) → is_key key a.number ≡ named a)
        (put : first_of (map (rules.missing s.schema) (rules.new_fillings (present s variables) t cells named)) ≡ None
        → CanAll (next_entity s t) t (entity_made s t) cells (map (λ (c : Cell). term_value s variables c.value) cells) → AdmitsGivens (next_entity s t) all (entity_made s t)) where
      abbrev wholly : List rules.Filling
      wholly = rules.new_fillings (present s variables) t cells named

      pub can-make : CanMake s t key all
      can-make = record {
        nearly = g.nearly;
        meant = meant-new s variables g t cells owned checked lives key;
        admits = λ free.
            let none : refused_by s None wholly ≡ None = sym (ap (refused_by s None) (new-same s variables g t cells owned key named same)) ∙ free in
            let later = others-none (first_of (map (λ f. rules.too_long f.attribute.kind f.value) wholly)) _ none in
            let longs = first-none (first_of (map (λ f. rules.too_long f.attribute.kind f.value) wholly)) _ none in
            let nulls = first-none (first_of (map (rules.missing s.schema) wholly)) _ later in
            let shares = first-none (first_of (map (rules.shared s None) wholly)) [] (others-none (first_of (map (rules.missing s.schema) wholly)) _ later) in
            put nulls
            (can-all (next_entity s t) t (entity_made s t) (λ c. term_value s variables c.value) cells
            (can-set (present s variables) g t there cells distinct named checked lives longs nulls shares));
      }

-- ---- the checks of a make

pub nine : (a b c d e f : Option Refusal) → a ≡ None → b ≡ None → first_of (None ∷ a ∷ b ∷ None ∷ c ∷ d ∷ e ∷ None ∷ f ∷ []) ≡ first_of (first_of (c ∷ d ∷ e ∷ []) ∷ f ∷ [])
nine a b c d e f h k = ap (λ x. first_of (x ∷ b ∷ None ∷ c ∷ d ∷ e ∷ None ∷ f ∷ [])) h ∙ ap (λ x. first_of (x ∷ None ∷ c ∷ d ∷ e ∷ None ∷ f ∷ [])) k ∙ by c d e
  where
    by : (c d e : Option Refusal) → first_of (c ∷ d ∷ e ∷ None ∷ f ∷ []) ≡ first_of (first_of (c ∷ d ∷ e ∷ []) ∷ f ∷ [])
    by (Some r) d e = refl
    by None (Some r) e = refl
    by None None (Some r) = refl
    by None None None = refl

pub name-single : (name : List ℕ) (o : Option Attribute) → cell_name_refused name o ≡ None → passes (λ a. not a.many) o ≡ true
name-single name None h = absurd (no h)
  where
    no : Some (UnknownName name) ≡ None → ⊥
    no k = cc
name-single name (Some a) h = when-none (not a.many) WrongType h

pub singles-own : (schema : Outline) (t : ℕ) (cells : List Cell) → list_all (has_single schema t) cells ≡ true → list_all (has_own schema t) cells ≡ true
singles-own schema t cells h = all-weaken (has_single schema t) (has_own schema t) (λ c k. by (attribute_of schema t c.name) k) cells h
  where
    by : (o : Option Attribute) → passes (λ a. not a.many) o ≡ true → is_some o ≡ true
    by None k = absurd (true≢false (sym k))
    by (Some a) k = refl

pub cells-single : (s : State) (variables : List Variable) (t : ℕ) (cells : List Cell) → cells_refused s.schema (known variables) t cells ≡ None → list_all (has_single s.schema t) cells ≡ true
cells-single s variables t cells h =
    all-weaken (λ c. is_none (cell_refused s.schema (known variables) t c)) (has_single s.schema t)
    (λ c k. name-single c.name (attribute_of s.schema t c.name) (first-none (cell_name_refused c.name (attribute_of s.schema t c.name)) _ (none-is _ k))) cells (each-none (cell_refused s.schema (known variables) t) cells h)

pub all-each : {X : Type 0} (P : X → Type 0) (xs : List X) → ((x : X) → Member x xs → P x) → All P xs
all-each P xs f = all-with P (λ _. Unit {0}) xs (λ x m _. f x m) (λ k d within. tt)

make-refusal : (s : State) (variables : List Variable) (g : IsLegal s) (var ty : List ℕ) (cells : List Cell) (t : ℕ) → type_named s.schema ty ≡ Some t → list_all (has_own s.schema t) cells ≡ true
    → rules_1_2_7 (present s variables) (Make var ty cells) ≡ None → rule_5 (present s variables) (Make var ty cells) ≡ None
    → refusal (present s variables) (Make var ty cells) ≡ makes_refused s t None (givens_of s variables t cells)
unfolding refusal
make-refusal s variables g var ty cells t e owned text live =
    let p = present s variables in
    let st = Make var ty cells in
    nine (rules_1_2_7 p st) (rule_5 p st) (rules.rule_8 p st) (rules.rule_3 p st) (rules.rule_4 p st) (rules.rule_9 p st) text live
    ∙ ap (λ o. first_of (refused_by s None (of_type (λ x. rules.new_fillings p x cells (λ a. false)) o) ∷ spent_type s o ∷ [])) e
    ∙ ap (λ fs. first_of (refused_by s None fs ∷ spent s t ∷ [])) (sym (new-same s variables g t cells owned None (λ a. false) (λ a m. refl)))

-- what is said of what cells give, said of the statement
pub make-as : (s : State) (schema : Outline) (variables : List Variable) (var ty : List ℕ) (cells : List Cell) (t : ℕ) → s.schema ≡ schema → type_named schema ty ≡ Some t
    → (stands : State → Type 0) (asks : List Asked → Type 0) (r : Result EntityId BaseFault)
    → (All (λ (c : Cell). AdmitsTerm s variables c.value) cells → CanMake s t None (givens_of s variables t cells)
    → Changes (makes_refused s t None (givens_of s variables t cells)) stands asks s (givens_set (next_entity s t) (givens_of s variables t cells) (entity_made s t)) (λ made. made ≡ next_entity s t)
    (flat_map (λ (c : Cell). term_stores s.schema variables c.value) cells ++ makes_stores s t None (givens_of s variables t cells)) r)
    → IsChecked (present s variables) (Make var ty cells)
    → Changes (refusal (present s variables) (Make var ty cells)) stands asks s (does (present s variables) (Make var ty cells)).state (λ made. (does (present s variables) (Make var ty cells)).variables ≡ bind var (Entity made) variables)
    (touched s.schema variables (Make var ty cells)) r
make-as s schema variables var ty cells t same e stands asks r h checked =
    let p = present s variables in
    let g = checked.legal in
    let ty_is : type_named s.schema ty ≡ Some t = ap (λ o. type_named o ty) same ∙ e in
    let text = subst (λ o. typed_refused ty (λ x. cells_refused s.schema (known variables) x cells) o ≡ None) ty_is checked.text in
    let singles = cells-single s variables t cells text in
    let fits = cells-checked p g t cells text in
    let lives = cells-live p g cells checked.live in
    let owned = singles-own s.schema t cells singles in
    let there = named-there s.schema ty t ty_is in
    let fresh = next_entity s t in
    let can = can-make s variables g t cells owned fits lives there (own-names cells checked.written) None (λ a. false) (λ a m. refl)
    (λ _ able. admits-all fresh t (λ c. term_value s variables c.value) cells (entity_made s t) (made-nearly s t g.nearly there) (fresh-live s t g.nearly there) (within-itself t s.schema.parents t) singles able) in
    let admits = all-each (λ (c : Cell). AdmitsTerm s variables c.value) cells (terms-admit s variables g t cells owned fits lives) in
    let given = givens_of s variables t cells in
    let starts = flat_map (start_stores s.schema variables) (starts_of (Make var ty cells)) in
    let paths = path_stores s.schema (map (λ (c : Cell). c.value) cells) in
    let effect = make_stores s.schema (type_named s.schema ty) in
    let terms = flat_map (λ (c : Cell). term_stores s.schema variables c.value) cells in
    changes-as (makes_refused s t None given) (refusal p (Make var ty cells)) stands asks s (givens_set fresh given (entity_made s t)) (does p (Make var ty cells)).state (λ made. made ≡ fresh)
    (λ made. (does p (Make var ty cells)).variables ≡ bind var (Entity made) variables) (terms ++ makes_stores s t None given) (touched s.schema variables (Make var ty cells)) r
    (make-refusal s variables g var ty cells t ty_is owned checked.text checked.live)
    (ap (λ o. (makes p var cells o).state) ty_is ∙ sym (sets-same fresh t (λ c. term_value s variables c.value) cells (entity_made s t)))
    (λ x k. ap (λ o. (makes p var cells o).variables) ty_is ∙ ap (λ z. bind var (Entity z) variables) (sym k))
    (among-both terms (makes_stores s t None given) (starts ++ paths ++ effect)
    (among-chain terms paths (starts ++ paths ++ effect) (cells-among s g variables cells) (among-chain paths (starts ++ paths) (starts ++ paths ++ effect) (among-right starts paths) (among-left (starts ++ paths) effect)))
    (among-chain (makes_stores s t None given) effect (starts ++ paths ++ effect)
    (subst (λ o. AreAmong (makes_stores s t None given) (make_stores s.schema o)) (sym ty_is) (makes-among s variables g t cells None)) (among-right (starts ++ paths) effect)))
    (h admits can)
