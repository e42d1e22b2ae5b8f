-- An ensure that was checked.
use Rattle.std.proofs.Common.{◌≡◌, ℕ, ◌<◌, Bool, true, false, List, [], ◌∷◌, Option, Some, None, Result, length, refl, sym, ◌∙◌, ap, subst, arith}
use Rattle.std.specs.Prelude.{◌++◌, not, ◌&&◌, ◌||◌, nat_lt, cond, map, filter_map, flat_map, is_none, is_some, All}
use Rattle.std.specs.List.{list_all, cons_option}
use Rattle.std.specs.Str.{bytes_eq}
use Rattle.st_values.specs.declared.value.EntityId.{EntityId}
use Rattle.st_values.specs.declared.value.Value.{Value}
use Rattle.st_values.specs.declared.value.Value.TheVariants.{Entity}
use Rattle.st_values.specs.Arranged.{each_pair}
use Rattle.st_values.proofs.Tests.{both, left, right, either, one-of}
use Rattle.st_lattice.specs.declared.attribute.Attribute.{Attribute}
use Rattle.st_lattice.specs.declared.stores.StoreKind.TheVariants.{Extent}
use Rattle.st_lattice.specs.Outline.{Outline, type_named, attribute}
use Rattle.st_lattice.specs.Lattice.{isa, attributes_in, attribute_of}
use Rattle.st_lattice.specs.Stores.{store, extents, values_of, index_of, inverse_of, cell, whole, aside, passes}
use Rattle.st_query.specs.declared.statement.Cell.{Cell}
use Rattle.st_query.specs.declared.statement.Statement.TheVariants.{Ensure}
use Rattle.st_query.specs.declared.term.Variable.{Variable}
use Rattle.st_query.specs.Footprint.{start_stores, path_stores, make_stores, cell_stores, cells_stores, key_stores}
use Rattle.st_query.specs.Kinds.{known}
use Rattle.st_query.specs.Terms.{bind}
use Rattle.st_query.specs.Written.{starts_of}
use Rattle.st_state.specs.declared.refusal.Refusal.{Refusal}
use Rattle.st_state.specs.declared.refusal.Refusal.TheVariants.{WrongType}
use Rattle.st_state.specs.State.{State, is_live, next_entity, entity_made, attribute_set}
use Rattle.st_state.specs.Legal.{can_hold, is_counted, IsNearlyLegal, IsLegal}
use Rattle.st_state.specs.Refusals.{first_of}
use Rattle.st_state.specs.Bases.{spent}
use Rattle.st_state.specs.Calls.{HasSet, CanHold, stores_by}
use Rattle.st_state.proofs.Made.{made-nearly, fresh-live}
use Rattle.st_state.proofs.Set.{null, set-nearly}
use Rattle.st_state.proofs.Members.{Member}
use Rattle.st_meaning.specs.Terms.{term_value}
use Rattle.st_meaning.specs.Statements.{holder, key_holder, ensures, ensures_at, does}
use Rattle.st_meaning.specs.Checks.{typed_refused, cells_refused, key_refused, key_name_refused, ensure_refused}
use Rattle.st_meaning.specs.Rules.{cell_of, given, of_type, found_by, ensure_fillings, spent_unless_found, refusal, rules_1_2_7, rule_5}
use Rattle.st_meaning.specs.Rules as rules
use Rattle.st_meaning.proofs.Sorts.{first-none, others-none, when-none}
use Rattle.st_meaning.proofs.Legality.{given-value}
use Rattle.st_meaning.proofs.Cells.{option-cases, found, Found, CanAll, can-all, can-all-step, alone-found, owns}
use Rattle.st_meaning.proofs.Making.{Checked, Lives, Distinct, cell-sort, cell-live, can-set-found, within-itself, named-there, own-names, each-none, none-is, all-map}
use Rattle.st_meaning.proofs.Whole.{cells-checked, cells-live, key-checked, holder-live}
use Rattle.st_plain.specs.declared.fault.BaseFault.{BaseFault}
use Rattle.st_plain.specs.Base.{Asked}
use Rattle.st_terms.specs.Checked.{present, IsChecked, touched}
use Rattle.st_terms.specs.Looks.{AreAmong, Changes}
use Rattle.st_terms.specs.Routes.{AdmitsTerm, term_stores}
use Rattle.st_terms.proofs.Looking.{among-itself, among-chain, among-left, among-right, among-both}
use Rattle.st_makes.specs.declared.given.Given.{Given}
use Rattle.st_makes.specs.declared.filling.Filling.{Filling}
use Rattle.st_makes.specs.Makes.{given_by, givens_of, given_to, filling_by, given_fillings, refused_by, is_key, found_stores, IsMeant, AdmitsValue, AdmitsGivens, givens_stores, CanFill, makes_stores, CanEnsure, ensures_refused, ensured, ensured_entity, ensures_stores}
use Rattle.st_makes.proofs.Checked.{changes-as}
use Rattle.st_makes.proofs.Fillings.{filling-of}
use Rattle.st_makes.proofs.Finds.{found-among}
use Rattle.st_makes.proofs.Celled.{has_single, has_own, bytes-flip, same-test, new-same, given-same, meant-given, admits-all, sets-same, rule}
use Rattle.st_makes.proofs.Makes.{member-among, first-among, cells-among, givens-among, makes-among, terms-admit, can-make, nine, singles-own, cells-single, all-each}
use Rattle.st_makes.proofs.Fresh.{lt-true, ranged, lived, none-own, added-set}

-- ---- stores

-- an entity's extent is one of those of a type that it is of
pub extent-among : (schema : Outline) (ty number : ℕ) → number < length schema.names → isa schema number ty ≡ true → AreAmong (store Extent number ∷ []) (extents schema ty)
extent-among schema ty number within is = λ test h.
    both (test (store Extent number)) true (ranged test (store Extent) (λ t. isa schema t ty) number (length schema.names) 0 (omega arith) (omega (arith, within)) is h) refl

kept-among : (F : Attribute → Option Filling) → ((a : Attribute) (f : Filling) → F a ≡ Some f → f.attribute ≡ a) → (xs : List Attribute) → AreAmong (flat_map (λ (f : Filling). aside f.attribute) (filter_map F xs)) (flat_map aside xs)
kept-among F h [] = among-itself []
kept-among F h (a ∷ xs) =
    let rest = kept-among F h xs in
    let later = among-chain (flat_map (λ (f : Filling). aside f.attribute) (filter_map F xs)) (flat_map aside xs) (aside a ++ flat_map aside xs) rest (among-right (aside a) (flat_map aside xs)) in
    option-cases (F a) (λ o. AreAmong (flat_map (λ (f : Filling). aside f.attribute) (cons_option o (filter_map F xs))) (aside a ++ flat_map aside xs)) (λ _. later)
    (λ f e. among-both (aside f.attribute) (flat_map (λ (x : Filling). aside x.attribute) (filter_map F xs)) (aside a ++ flat_map aside xs)
    (subst (λ z. AreAmong (aside z) (aside a ++ flat_map aside xs)) (sym (h a f e)) (among-left (aside a) (flat_map aside xs))) later)

aside-whole : (schema : Outline) (a : Attribute) → AreAmong (aside a) (whole schema a)
aside-whole schema a =
    among-both (values_of a ++ index_of a) (inverse_of a) (whole schema a)
    (among-both (values_of a) (index_of a) (whole schema a)
    (among-chain (values_of a) (cell schema a) (whole schema a) (among-right (extents schema a.owner) (values_of a))
    (among-chain (cell schema a) (cell schema a ++ index_of a) (whole schema a) (among-left (cell schema a) (index_of a)) (among-left (cell schema a ++ index_of a) (inverse_of a))))
    (among-chain (index_of a) (cell schema a ++ index_of a) (whole schema a) (among-right (cell schema a) (index_of a)) (among-left (cell schema a ++ index_of a) (inverse_of a))))
    (among-right (cell schema a ++ index_of a) (inverse_of a))

key-whole : (schema : Outline) (a : Attribute) → AreAmong (key_stores (Some a)) (whole schema a)
key-whole schema a =
    among-both (index_of a) (inverse_of a) (whole schema a)
    (among-chain (index_of a) (cell schema a ++ index_of a) (whole schema a) (among-right (cell schema a) (index_of a)) (among-left (cell schema a ++ index_of a) (inverse_of a)))
    (among-right (cell schema a ++ index_of a) (inverse_of a))

extents-whole : (schema : Outline) (a : Attribute) → AreAmong (extents schema a.owner) (whole schema a)
extents-whole schema a =
    among-chain (extents schema a.owner) (cell schema a) (whole schema a) (among-left (extents schema a.owner) (values_of a))
    (among-chain (cell schema a) (cell schema a ++ index_of a) (whole schema a) (among-left (cell schema a) (index_of a)) (among-left (cell schema a ++ index_of a) (inverse_of a)))

-- ---- the key and the other cells

module _ (s : State) (variables : List Variable) (g : IsLegal s) (t : ℕ) (there : t < length s.schema.names) (key : Cell) (rest : List Cell) (k : Attribute) (f : attribute_of s.schema t key.name ≡ Some k)
    (unique : k.unique ≡ true) (singles : list_all (has_single s.schema t) rest ≡ true) (checked : Checked (present s variables) g t (key ∷ rest)) (lives : Lives (present s variables) g t (key ∷ rest))
    (distinct : Distinct (present s variables) g t (key ∷ rest)) where
  abbrev val : Cell → Value
  val c = term_value s variables c.value

  abbrev fresh : EntityId
  fresh = next_entity s t

  abbrev made : State
  made = entity_made s t

  abbrev all : List Given
  all = givens_of s variables t (key ∷ rest)

  abbrev others : List Given
  others = givens_of s variables t rest

  abbrev named : Attribute → Bool
  named a = bytes_eq a.name key.name

  at : Found s.schema g.nearly.consistent t key.name k
  at = found s.schema g.nearly.consistent t key.name k f

  pub owned : list_all (has_own s.schema t) (key ∷ rest) ≡ true
  owned = both (has_own s.schema t key) (list_all (has_own s.schema t) rest) (ap is_some f) (singles-own s.schema t rest singles)

  pub first-is : all ≡ record { number = k.number; many = k.many; value = val key } ∷ others
  first-is = ap (λ o. given_by o (val key) ++ others) f

  key-in : Member key (key ∷ rest)
  key-in = λ q a. left (q key) (list_all q rest) a

  pub meant : IsMeant s k (val key)
  meant = record {
    there = at.number;
    sorted = cell-sort (present s variables) g t (key ∷ rest) checked key key-in k f;
    live = cell-live (present s variables) g t (key ∷ rest) lives key key-in;
  }

  pub same-key : (a : Attribute) → Member a (attributes_in s.schema t) → is_key (Some k.number) a.number ≡ named a
  same-key a m = same-test s.schema g.nearly.consistent t key k a f m ∙ bytes-flip key.name a.name

  -- the key of a new entity has a value
  key-given : first_of (map (rules.missing s.schema) (rules.new_fillings (present s variables) t (key ∷ rest) named)) ≡ None → null (val key) ≡ false
  key-given nulls =
      let p = present s variables in
      let filling = λ (a : Attribute). rule a (given p (cell_of (key ∷ rest) a)) (a.no_nulls || named a) in
      let free : rules.missing s.schema (filling k) ≡ None =
      none-is (rules.missing s.schema (filling k))
      (at.member (λ b. is_none (rules.missing s.schema (filling b)))
      (all-map filling (λ x. is_none (rules.missing s.schema x)) (attributes_in s.schema t) (each-none (rules.missing s.schema) (rules.new_fillings p t (key ∷ rest) named) nulls))) in
      let is : given p (cell_of (key ∷ rest) k) ≡ val key = ap (λ b. given p (cond b (Some key) (cell_of rest k))) (bytes-flip key.name k.name ∙ at.named) in
      sym (ap null is) ∙ given-value s.schema (filling k) free (one-of k.no_nulls (named k) at.named)

  put : first_of (map (rules.missing s.schema) (rules.new_fillings (present s variables) t (key ∷ rest) named)) ≡ None → CanAll fresh t made (key ∷ rest) (map val (key ∷ rest)) → AdmitsGivens fresh all made
  put nulls can =
      let near = made-nearly s t g.nearly there in
      let live = fresh-live s t g.nearly there in
      let of = within-itself t s.schema.parents t in
      let able = can.0 k f in
      let own = owns fresh t made near of key.name k f in
      let some = key-given nulls in
      either k.many (λ b. k.many ≡ b → AdmitsGivens fresh all made)
      (λ m _.
      let has : HasSet made fresh k.number = record { live = live; many = subst (λ o. passes (λ x. isa s.schema t x.owner && x.many) o ≡ true) (sym at.number) (both (isa s.schema t k.owner) k.many own m) } in
      let hold : CanHold made k.number (val key) = subst (λ o. passes (λ x. can_hold made x.kind (val key)) o ≡ true) (sym at.number) (able.held some) in
      let head : AdmitsValue k.many made fresh k.number (val key) =
      subst (λ b. AdmitsValue b made fresh k.number (val key)) (sym m) ((has, hold), added-set made k.number fresh (val key) (none-own s t g.nearly there) some) in
      subst (λ gs. AdmitsGivens fresh gs made) (sym first-is) (
        head,
        admits-all fresh t val rest (attribute_set made k.number fresh (val key))
            (set-nearly made k.number fresh (val key) k at.number near live own able.held (alone-found fresh t made k (val key) able)) live of singles (can-all-step fresh t made k.number (val key) rest (map val rest) can.1),
      ))
      (λ m _. admits-all fresh t val (key ∷ rest) made near live of
      (both (has_single s.schema t key) (list_all (has_single s.schema t) rest) (subst (λ o. passes (λ a. not a.many) o ≡ true) (sym f) (ap not m)) singles) can) refl

  rest-checked : Checked (present s variables) g t rest
  rest-checked = right _ _ checked

  rest-lives : Lives (present s variables) g t rest
  rest-lives = right _ _ lives

  rest-distinct : Distinct (present s variables) g t rest
  rest-distinct = right (list_all (λ b. not (bytes_eq b.name key.name)) rest) (each_pair (λ a b. not (bytes_eq b.name a.name)) rest) distinct

  can-fill : (e : EntityId) → is_live s e ≡ true → isa s.schema e.ty t ≡ true → CanFill s t e others
  can-fill e live of = record {
    nearly = g.nearly;
    meant = meant-given s variables g t rest (singles-own s.schema t rest singles) rest-checked rest-lives;
    admits = λ free.
        let p = present s variables in
        let fillings = rules.cell_fillings p t rest in
        let none : refused_by s (Some e) fillings ≡ None = sym (ap (refused_by s (Some e)) (given-same s variables g t rest (singles-own s.schema t rest singles))) ∙ free in
        let later = others-none (first_of (map (λ x. rules.too_long x.attribute.kind x.value) fillings)) _ none in
        let longs = first-none (first_of (map (λ x. rules.too_long x.attribute.kind x.value) fillings)) _ none in
        let nulls = first-none (first_of (map (rules.missing s.schema) fillings)) _ later in
        let shares = first-none (first_of (map (rules.shared s (Some e)) fillings)) [] (others-none (first_of (map (rules.missing s.schema) fillings)) _ later) in
        admits-all e t val rest s g.nearly live of singles (can-all e t s val rest (can-set-found p g t e live of rest rest-distinct rest-checked rest-lives longs nulls shares));
  }

  pub can-ensure : CanEnsure s t k.number others all (holder s t (Some k) (val key))
  can-ensure =
      option-cases (holder s t (Some k) (val key)) (λ o. CanEnsure s t k.number others all o)
      (λ _. can-make s variables g t (key ∷ rest) owned checked lives there distinct (Some k.number) named same-key put)
      (λ e q. let is = holder-live (present s variables) g t (Some k) (val key) e q in can-fill e is.0 is.1)

  -- ---- refused, and what is left

  abbrev refusal-at : Option EntityId → Option Refusal
  refusal-at u = first_of (refused_by s u (ensure_fillings (present s variables) t (key ∷ rest) u) ∷ spent_unless_found s u (Some t) ∷ [])

  pub refusal-by : (u : Option EntityId) → refusal-at u ≡ ensures_refused s t k.number others all u
  refusal-by None = ap (λ fs. first_of (refused_by s None fs ∷ spent s t ∷ [])) (sym (new-same s variables g t (key ∷ rest) owned (Some k.number) named same-key))
  refusal-by (Some e) =
      lone (refused_by s (Some e) (rules.cell_fillings (present s variables) t rest)) ∙ ap (refused_by s (Some e)) (sym (given-same s variables g t rest (singles-own s.schema t rest singles)))
    where
      lone : (o : Option Refusal) → first_of (o ∷ None ∷ []) ≡ o
      lone None = refl
      lone (Some r) = refl

  pub state-by : (var : List ℕ) (u : Option EntityId) → (ensures_at (present s variables) var (key ∷ rest) t u).state ≡ ensured s t others all u
  state-by var None = sym (sets-same fresh t val (key ∷ rest) made)
  state-by var (Some e) = sym (sets-same e t val rest s)

  pub variables-by : (var : List ℕ) (u : Option EntityId) → (ensures_at (present s variables) var (key ∷ rest) t u).variables ≡ bind var (Entity (ensured_entity s t u)) variables
  variables-by var None = refl
  variables-by var (Some e) = refl

  -- ---- the stores

  abbrev effect : List ℕ
  effect = make_stores s.schema (Some t) ++ cells_stores s.schema (key ∷ rest) (Some t)

  makes-in : AreAmong (make_stores s.schema (Some t)) effect
  makes-in = among-left (make_stores s.schema (Some t)) (cells_stores s.schema (key ∷ rest) (Some t))

  cells-in : AreAmong (cells_stores s.schema (key ∷ rest) (Some t)) effect
  cells-in = among-right (make_stores s.schema (Some t)) (cells_stores s.schema (key ∷ rest) (Some t))

  -- all of a cell's attribute
  whole-in : (c : Cell) → Member c (key ∷ rest) → (a : Attribute) → attribute_of s.schema t c.name ≡ Some a → AreAmong (whole s.schema a) effect
  whole-in c m a q =
      among-chain (whole s.schema a) (cells_stores s.schema (key ∷ rest) (Some t)) effect
      (subst (λ o. AreAmong (cell_stores s.schema o) (cells_stores s.schema (key ∷ rest) (Some t))) q
      (member-among (λ (x : Cell). cell_stores s.schema (attribute_of s.schema t x.name)) c (key ∷ rest) m)) cells-in

  found-in-key : AreAmong (found_stores s.schema k.number) effect
  found-in-key =
      among-chain (found_stores s.schema k.number) (key_stores (Some k)) effect (found-among s.schema k at.number unique)
      (among-chain (key_stores (Some k)) (whole s.schema k) effect (key-whole s.schema k) (whole-in key key-in k f))

  ensures-in : (u : Option EntityId) → holder s t (Some k) (val key) ≡ u → AreAmong (ensures_stores s t k.number others all u) effect
  ensures-in None q = among-chain (makes_stores s t (Some k.number) all) (make_stores s.schema (Some t)) effect (makes-among s variables g t (key ∷ rest) (Some k.number)) makes-in
  ensures-in (Some e) q =
      let is = holder-live (present s variables) g t (Some k) (val key) e q in
      let counted = lived (is_counted s) e s.live is.0 g.nearly.counted in
      let within = lt-true e.ty (length s.schema.names) (left (nat_lt e.ty (length s.schema.names)) _ counted) in
      let filled = flat_map (λ (x : Filling). aside x.attribute) (given_fillings s.schema t others) in
      let beside = flat_map aside (attributes_in s.schema t) in
      among-both filled (givens_stores s.schema e others) effect
      (among-chain filled beside effect
      (kept-among (λ a. filling_by a (given_to others a.number)) (λ a x p. filling-of a (given_to others a.number) x p) (attributes_in s.schema t))
      (among-chain beside (make_stores s.schema (Some t)) effect (among-right (store Extent t ∷ []) beside) makes-in))
      (givens-among s.schema t e val effect rest
      (λ c m a p.
      let here = found s.schema g.nearly.consistent t c.name a p in
      let all_of = whole-in c (λ x h. m x (right (x key) (list_all x rest) h)) a p in
      let own = owns e t s g.nearly is.1 c.name a p in
      first-among (store Extent e.ty) (stores_by aside (attribute s.schema a.number)) effect
      (among-chain (store Extent e.ty ∷ []) (extents s.schema a.owner) effect (extent-among s.schema a.owner e.ty within own)
      (among-chain (extents s.schema a.owner) (whole s.schema a) effect (extents-whole s.schema a) all_of))
      (subst (λ o. AreAmong (stores_by aside o) effect) (sym here.number) (among-chain (aside a) (whole s.schema a) effect (aside-whole s.schema a) all_of))))

  pub effect-among : AreAmong (found_stores s.schema k.number ++ ensures_stores s t k.number others all (holder s t (Some k) (val key))) effect
  effect-among =
      among-both (found_stores s.schema k.number) (ensures_stores s t k.number others all (holder s t (Some k) (val key))) effect found-in-key (ensures-in (holder s t (Some k) (val key)) refl)

-- ---- the statement

-- what is said of what cells give
abbrev pub Given_said : State → List Variable → ℕ → Attribute → (State → Type 0) → (List Asked → Type 0) → Result EntityId BaseFault → List Cell → Type 0
Given_said s variables t k stands asks r cells =
    All (λ (c : Cell). AdmitsTerm s variables c.value) cells → (first : Value) (others : List Given) → givens_of s variables t cells ≡ record { number = k.number; many = k.many; value = first } ∷ others
    → IsNearlyLegal s → IsMeant s k first → CanEnsure s t k.number others (givens_of s variables t cells) (holder s t (Some k) first)
    → Changes (ensures_refused s t k.number others (givens_of s variables t cells) (holder s t (Some k) first)) stands asks s
    (ensured s t others (givens_of s variables t cells) (holder s t (Some k) first)) (λ filled. filled ≡ ensured_entity s t (holder s t (Some k) first))
    (flat_map (λ (c : Cell). term_stores s.schema variables c.value) cells
    ++ (found_stores s.schema k.number ++ ensures_stores s t k.number others (givens_of s variables t cells) (holder s t (Some k) first))) r

abbrev pub Ensure_said : State → List Variable → List ℕ → List ℕ → (State → Type 0) → (List Asked → Type 0) → Result EntityId BaseFault → List Cell → Type 0
Ensure_said s variables var ty stands asks r cells =
    IsChecked (present s variables) (Ensure var ty cells)
    → Changes (refusal (present s variables) (Ensure var ty cells)) stands asks s (does (present s variables) (Ensure var ty cells)).state
    (λ made. (does (present s variables) (Ensure var ty cells)).variables ≡ bind var (Entity made) variables) (touched s.schema variables (Ensure var ty cells)) r

ensure-refusal : (s : State) (variables : List Variable) (var ty : List ℕ) (key : Cell) (rest : List Cell) (t : ℕ) (k : Attribute) → type_named s.schema ty ≡ Some t → attribute_of s.schema t key.name ≡ Some k
    → rules_1_2_7 (present s variables) (Ensure var ty (key ∷ rest)) ≡ None → rule_5 (present s variables) (Ensure var ty (key ∷ rest)) ≡ None
    → refusal (present s variables) (Ensure var ty (key ∷ rest))
    ≡ (let u = holder s t (Some k) (term_value s variables key.value) in first_of (refused_by s u (ensure_fillings (present s variables) t (key ∷ rest) u) ∷ spent_unless_found s u (Some t) ∷ []))
unfolding refusal
ensure-refusal s variables var ty key rest t k e f text live =
    let p = present s variables in
    let st = Ensure var ty (key ∷ rest) in
    let cells = key ∷ rest in
    nine (rules_1_2_7 p st) (rule_5 p st) (rules.rule_8 p st) (rules.rule_3 p st) (rules.rule_4 p st) (rules.rule_9 p st) text live
    ∙ ap (λ o. first_of (refused_by s (found_by p cells o) (of_type (λ x. ensure_fillings p x cells (key_holder p x cells)) o) ∷ spent_unless_found s (found_by p cells o) o ∷ [])) e
    ∙ ap (λ q. let u = holder s t q (term_value s variables key.value) in first_of (refused_by s u (ensure_fillings p t cells u) ∷ spent_unless_found s u (Some t) ∷ [])) f

ensure-at : (s : State) (variables : List Variable) (var ty : List ℕ) (key : Cell) (rest : List Cell) (t : ℕ) (k : Attribute) → type_named s.schema ty ≡ Some t → attribute_of s.schema t key.name ≡ Some k
    → (stands : State → Type 0) (asks : List Asked → Type 0) (r : Result EntityId BaseFault) → Given_said s variables t k stands asks r (key ∷ rest) → Ensure_said s variables var ty stands asks r (key ∷ rest)
ensure-at s variables var ty key rest t k e f stands asks r h checked =
    let p = present s variables in
    let g = checked.legal in
    let cells = key ∷ rest in
    let v = term_value s variables key.value in
    let text = subst (λ o. typed_refused ty (λ x. ensure_refused s.schema (known variables) x cells) o ≡ None) e checked.text in
    let key_text = first-none (key_refused s.schema (known variables) t key.name key.value) _ text in
    let rest_text = first-none (cells_refused s.schema (known variables) t rest) [] (others-none (key_refused s.schema (known variables) t key.name key.value) _ text) in
    let unique = when-none k.unique WrongType (subst (λ o. key_name_refused key.name o ≡ None) f (first-none (key_name_refused key.name (attribute_of s.schema t key.name)) _ key_text)) in
    let singles = cells-single s variables t rest rest_text in
    let fits = both _ _ (key-checked p g t key key_text) (cells-checked p g t rest rest_text) in
    let lives = cells-live p g cells checked.live in
    let distinct = own-names cells checked.written in
    let there = named-there s.schema ty t e in
    let u = holder s t (Some k) v in
    let all = givens_of s variables t cells in
    let others = givens_of s variables t rest in
    let starts = flat_map (start_stores s.schema variables) (starts_of (Ensure var ty cells)) in
    let paths = path_stores s.schema (map (λ (c : Cell). c.value) cells) in
    let effect = make_stores s.schema (type_named s.schema ty) ++ cells_stores s.schema cells (type_named s.schema ty) in
    let terms = flat_map (λ (c : Cell). term_stores s.schema variables c.value) cells in
    let own = found_stores s.schema k.number ++ ensures_stores s t k.number others all u in
    let owned_all = owned s variables g t there key rest k f unique singles fits lives distinct in
    changes-as (ensures_refused s t k.number others all u) (refusal p (Ensure var ty cells)) stands asks s (ensured s t others all u) (does p (Ensure var ty cells)).state (λ filled. filled ≡ ensured_entity s t u)
    (λ made. (does p (Ensure var ty cells)).variables ≡ bind var (Entity made) variables) (terms ++ own) (touched s.schema variables (Ensure var ty cells)) r
    (ensure-refusal s variables var ty key rest t k e f checked.text checked.live ∙ refusal-by s variables g t there key rest k f unique singles fits lives distinct u)
    (ap (λ o. (ensures p var cells o).state) e ∙ ap (λ o. (ensures_at p var cells t (holder s t o v)).state) f ∙ state-by s variables g t there key rest k f unique singles fits lives distinct var u)
    (λ x q.
    ap (λ o. (ensures p var cells o).variables) e ∙ ap (λ o. (ensures_at p var cells t (holder s t o v)).variables) f ∙ variables-by s variables g t there key rest k f unique singles fits lives distinct var u
    ∙ ap (λ z. bind var (Entity z) variables) (sym q))
    (among-both terms own (starts ++ paths ++ effect)
    (among-chain terms paths (starts ++ paths ++ effect) (cells-among s g variables cells) (among-chain paths (starts ++ paths) (starts ++ paths ++ effect) (among-right starts paths) (among-left (starts ++ paths) effect)))
    (among-chain own effect (starts ++ paths ++ effect)
    (subst (λ o. AreAmong own (make_stores s.schema o ++ cells_stores s.schema cells o)) (sym e) (effect-among s variables g t there key rest k f unique singles fits lives distinct)) (among-right (starts ++ paths) effect)))
    (h (all-each (λ (c : Cell). AdmitsTerm s variables c.value) cells (terms-admit s variables g t cells owned_all fits lives)) v others
    (first-is s variables g t there key rest k f unique singles fits lives distinct) g.nearly (meant s variables g t there key rest k f unique singles fits lives distinct)
    (can-ensure s variables g t there key rest k f unique singles fits lives distinct))

pub ensure-as : (s : State) (schema : Outline) (variables : List Variable) (var ty : List ℕ) (cells : List Cell) (key : Cell) (rest : List Cell) (t : ℕ) (k : Attribute) → s.schema ≡ schema
    → type_named schema ty ≡ Some t → attribute_of schema t key.name ≡ Some k → cells ≡ key ∷ rest
    → (stands : State → Type 0) (asks : List Asked → Type 0) (r : Result EntityId BaseFault) → Given_said s variables t k stands asks r cells → Ensure_said s variables var ty stands asks r cells
ensure-as s schema variables var ty cells key rest t k same e f is stands asks r =
    subst (λ cs. Given_said s variables t k stands asks r cs → Ensure_said s variables var ty stands asks r cs) (sym is)
    (ensure-at s variables var ty key rest t k (ap (λ o. type_named o ty) same ∙ e) (ap (λ o. attribute_of o t key.name) same ∙ f) stands asks r)
