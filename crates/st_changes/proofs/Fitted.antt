-- A statement with an attribute, a target and a value that passed the checks.
use Rattle.std.proofs.Common.{◌≡◌, ℕ, Bool, true, false, List, [], ◌∷◌, Some, None, refl, sym, ap, subst}
use Rattle.std.specs.Prelude.{◌++◌, ◌&&◌, ◌||◌, is_some, map, flat_map, not, if◌then◌else◌}
use Rattle.st_values.specs.declared.value.EntityId.{EntityId}
use Rattle.st_values.specs.declared.value.Value.{Value}
use Rattle.st_values.specs.declared.value.Value.TheVariants as value
use Rattle.st_values.proofs.Tests.{both, either}
use Rattle.st_lattice.specs.declared.attribute.Attribute.{Attribute}
use Rattle.st_lattice.specs.declared.called.Called.{Called}
use Rattle.st_lattice.specs.declared.called.Called.TheVariants.{Nothing, Own, Inverse}
use Rattle.st_lattice.specs.declared.stores.StoreKind.TheVariants.{Extent}
use Rattle.st_lattice.specs.Called.{called}
use Rattle.st_lattice.specs.Outline.{attribute}
use Rattle.st_lattice.specs.Lattice.{isa}
use Rattle.st_lattice.specs.Stores.{store, extents, values_of, index_of, inverse_of, cell, aside, whole, passes}
use Rattle.st_query.specs.declared.term.Term.{Term}
use Rattle.st_query.specs.declared.term.Variable.{Variable}
use Rattle.st_query.specs.declared.kind.Expected.TheVariants.{Storable}
use Rattle.st_query.specs.declared.kind.Sort.TheVariants as sort
use Rattle.st_query.specs.Kinds.{kind_sort, value_sort, store_well, known}
use Rattle.st_query.specs.Ways.{way}
use Rattle.st_query.specs.Footprint.{feature_stores, path_stores, start_stores, whole_called}
use Rattle.st_state.specs.State.{State, is_live}
use Rattle.st_state.specs.Legal.{can_hold, IsLegal}
use Rattle.st_state.specs.Refusals.{first_of}
use Rattle.st_state.specs.Calls.{HasSingle, HasSet, CanHold, stores_by, changed_stores, found_in}
use Rattle.st_state.proofs.Set.{null}
use Rattle.st_state.specs.declared.refusal.Refusal.TheVariants.{UnknownName, WrongType, NotASet}
use Rattle.st_meaning.specs.Terms.{start_value}
use Rattle.st_meaning.specs.Statements.{value_now}
use Rattle.st_meaning.specs.Checks.{wrong_unless, set_refused, member_refused, term_refused}
use Rattle.st_meaning.specs.Rules.{dead, too_long}
use Rattle.st_meaning.proofs.Sorts.{some-none, LiveValue, first-none, others-none, when-none, called-own, term-sort}
use Rattle.st_meaning.proofs.Legality.{dead-none, storable, of_sort, of_type, first-live, second-live}
use Rattle.st_terms.specs.Looks.{AreAmong}
use Rattle.st_terms.specs.Checked.{present}
use Rattle.st_terms.specs.Routes.{AdmitsTerm, term_stores}
use Rattle.st_terms.proofs.Looking.{among-chain, among-left, among-right, among-both}
use Rattle.st_terms.proofs.Admitted.{admitted-term}
use Rattle.st_terms.proofs.Stores.{term-among}
use Rattle.st_changes.proofs.Places.{extent-among}

-- The name calls an attribute; the target fits its owner and the value its kind, and what both begin with is live.
pub record Fitted (s : State) (variables : List Variable) (name : List ℕ) (t w : Term) : Type 0 where
  pub legal : IsLegal s
  pub a : Attribute
  pub is : called s.schema name ≡ Own a
  pub target : term_refused s.schema (known variables) (Storable (sort.Entity a.owner)) t ≡ None
  pub value : term_refused s.schema (known variables) (Storable (kind_sort a.kind)) w ≡ None
  pub live : first_of (map (λ start. dead s (start_value s variables start)) ((way t).start ∷ (way w).start ∷ [])) ≡ None

module _ (s : State) (variables : List Variable) (name : List ℕ) (t w : Term) (g : IsLegal s)
    (live : first_of (map (λ start. dead s (start_value s variables start)) ((way t).start ∷ (way w).start ∷ [])) ≡ None) where
  -- what a set that was checked has
  pub fitted-set : (c : Called Attribute) → called s.schema name ≡ c → set_refused s.schema (known variables) name t w c ≡ None → (f : Fitted s variables name t w) × (f.a.many ≡ false)
  fitted-set Nothing e h = absurd (some-none (UnknownName name) h)
  fitted-set (Inverse a) e h = absurd (some-none WrongType h)
  fitted-set (Own a) e h =
      let after = others-none (wrong_unless (not a.many)) _ h in (
        record {
          legal = g;
          a = a;
          is = e;
          target = first-none (term_refused s.schema (known variables) (Storable (sort.Entity a.owner)) t) _ after;
          value = first-none (term_refused s.schema (known variables) (Storable (kind_sort a.kind)) w) [] (others-none (term_refused s.schema (known variables) (Storable (sort.Entity a.owner)) t) _ after);
          live = live;
        },
        single a.many (first-none (wrong_unless (not a.many)) _ h),
      )
    where
      single : (b : Bool) → wrong_unless (not b) ≡ None → b ≡ false
      single true k = absurd (some-none WrongType k)
      single false k = refl

  -- what a change of a set that was checked has
  pub fitted-member : (c : Called Attribute) → called s.schema name ≡ c → member_refused s.schema (known variables) name t w c ≡ None → (f : Fitted s variables name t w) × (f.a.many ≡ true)
  fitted-member Nothing e h = absurd (some-none (UnknownName name) h)
  fitted-member (Inverse a) e h = absurd (some-none (NotASet name) h)
  fitted-member (Own a) e h =
      let after = others-none (if a.many then None else Some (NotASet name)) _ h in (
        record {
          legal = g;
          a = a;
          is = e;
          target = first-none (term_refused s.schema (known variables) (Storable (sort.Entity a.owner)) t) _ after;
          value = first-none (term_refused s.schema (known variables) (Storable (kind_sort a.kind)) w) [] (others-none (term_refused s.schema (known variables) (Storable (sort.Entity a.owner)) t) _ after);
          live = live;
        },
        when-none a.many (NotASet name) (first-none (if a.many then None else Some (NotASet name)) _ h),
      )

module _ (s : State) (variables : List Variable) (name : List ℕ) (t w : Term) (f : Fitted s variables name t w) where
  -- both terms can be read
  pub target-admits : AdmitsTerm s variables t
  target-admits =
      admitted-term s f.legal.nearly variables (Storable (sort.Entity f.a.owner)) t f.target
      (dead-none s (start_value s variables (way t).start) (first-none (dead s (start_value s variables (way t).start)) _ f.live))

  pub value-admits : AdmitsTerm s variables w
  value-admits =
      admitted-term s f.legal.nearly variables (Storable (kind_sort f.a.kind)) w f.value
      (dead-none s (start_value s variables (way w).start)
      (first-none (dead s (start_value s variables (way w).start)) [] (others-none (dead s (start_value s variables (way t).start)) _ f.live)))

  pub found : attribute s.schema f.a.number ≡ Some f.a
  found = called-own s.schema name f.a f.is

  -- an entity that is the target is live and has the attribute
  pub target-live : (e : EntityId) → value.Entity e ≡ value_now (present s variables) t → is_live s e ≡ true
  target-live e h = first-live (present s variables) f.legal t w f.live e (sym h)

  pub target-owns : (e : EntityId) → value.Entity e ≡ value_now (present s variables) t → isa s.schema e.ty f.a.owner ≡ true
  target-owns e h = of_type (present s variables) f.legal t f.a.owner e f.target (sym h)

  -- the target is an entity or null
  pub target-entity : (v : Value) → v ≡ value_now (present s variables) t → store_well s.schema (sort.Entity f.a.owner) (value_sort v) ≡ true
  target-entity v h =
      subst (λ u. store_well s.schema (sort.Entity f.a.owner) (value_sort u) ≡ true) (sym h)
      (term-sort s f.legal.nearly variables (sort.Entity f.a.owner) t f.target)

  -- a value that is short enough can be held
  pub value-held : (v : Value) → v ≡ value_now (present s variables) w → too_long f.a.kind v ≡ None → null v ≡ false → CanHold s f.a.number v
  value-held v h l n =
      subst (λ o. passes (λ a. can_hold s a.kind v) o ≡ true) (sym found)
      (storable s f.a.kind v (subst (λ u. store_well s.schema (kind_sort f.a.kind) (value_sort u) ≡ true) (sym h) (of_sort (present s variables) f.legal w f.a.kind f.value))
      (subst (LiveValue s) (sym h) (second-live (present s variables) f.legal t w f.live)) l n)

  pub has-single : (e : EntityId) → value.Entity e ≡ value_now (present s variables) t → f.a.many ≡ false → HasSingle s e f.a.number
  has-single e h m = record {
    live = target-live e h;
    single = subst (λ o. passes (λ a. isa s.schema e.ty a.owner && not a.many) o ≡ true) (sym found) (both (isa s.schema e.ty f.a.owner) (not f.a.many) (target-owns e h) (ap not m));
  }

  pub has-set : (e : EntityId) → value.Entity e ≡ value_now (present s variables) t → f.a.many ≡ true → HasSet s e f.a.number
  has-set e h m = record {
    live = target-live e h;
    many = subst (λ o. passes (λ a. isa s.schema e.ty a.owner && a.many) o ≡ true) (sym found) (both (isa s.schema e.ty f.a.owner) f.a.many (target-owns e h) m);
  }

  -- ---- stores

  -- what changes with the attribute of an entity
  pub changed-among : (e : EntityId) → value.Entity e ≡ value_now (present s variables) t → AreAmong (changed_stores s.schema e f.a.number) (whole s.schema f.a)
  changed-among e h =
      let a = f.a in
      let some = extents s.schema a.owner in
      subst (λ o. AreAmong (store Extent e.ty ∷ stores_by aside o) (whole s.schema a)) (sym found)
      (among-both (store Extent e.ty ∷ []) (aside a) (whole s.schema a)
      (among-chain (store Extent e.ty ∷ []) some (whole s.schema a) (extent-among s f.legal.nearly e (target-live e h) a.owner (target-owns e h)) (cell-part some (among-left some (values_of a))))
      (among-both (values_of a ++ index_of a) (inverse_of a) (whole s.schema a)
      (among-both (values_of a) (index_of a) (whole s.schema a) (cell-part (values_of a) (among-right some (values_of a)))
      (among-chain (index_of a) (cell s.schema a ++ index_of a) (whole s.schema a) (among-right (cell s.schema a) (index_of a)) (among-left (cell s.schema a ++ index_of a) (inverse_of a))))
      (among-right (cell s.schema a ++ index_of a) (inverse_of a))))
    where
      cell-part : (stores : List ℕ) → AreAmong stores (cell s.schema f.a) → AreAmong stores (whole s.schema f.a)
      cell-part stores k =
          let a = f.a in
          among-chain stores (cell s.schema a) (whole s.schema a) k
          (among-chain (cell s.schema a) (cell s.schema a ++ index_of a) (whole s.schema a) (among-left (cell s.schema a) (index_of a)) (among-left (cell s.schema a ++ index_of a) (inverse_of a)))

  pub cell-among : AreAmong (stores_by (cell s.schema) (attribute s.schema f.a.number)) (whole s.schema f.a)
  cell-among =
      let a = f.a in
      subst (λ o. AreAmong (stores_by (cell s.schema) o) (whole s.schema a)) (sym found)
      (among-chain (cell s.schema a) (cell s.schema a ++ index_of a) (whole s.schema a) (among-left (cell s.schema a) (index_of a)) (among-left (cell s.schema a ++ index_of a) (inverse_of a)))

  abbrev starts : List ℕ
  starts = flat_map (start_stores s.schema variables) ((way t).start ∷ (way w).start ∷ [])

  abbrev paths : List ℕ
  paths = path_stores s.schema (t ∷ w ∷ [])

  abbrev effects : List ℕ
  effects = whole_called s.schema (called s.schema name)

  -- all that such a statement may touch
  abbrev pub all-touched : List ℕ
  all-touched = starts ++ paths ++ effects

  pub terms-among : AreAmong (term_stores s.schema variables t ++ term_stores s.schema variables w) all-touched
  terms-among =
      let first = flat_map (λ n. feature_stores s.schema (called s.schema n)) (way t).features in
      let second = flat_map (λ n. feature_stores s.schema (called s.schema n)) (way w).features in
      let one = term_stores s.schema variables t in
      let two = term_stores s.schema variables w in
      among-chain (one ++ two) paths all-touched
      (among-both one two paths
      (among-chain one (first ++ []) paths (term-among s f.legal.nearly variables t) (among-both first [] paths (among-left first (second ++ [])) (λ test h. refl)))
      (among-chain two (second ++ []) paths (term-among s f.legal.nearly variables w) (among-right first (second ++ []))))
      (among-chain paths (starts ++ paths) all-touched (among-right starts paths) (among-left (starts ++ paths) effects))

  pub effects-among : (stores : List ℕ) → AreAmong stores (whole s.schema f.a) → AreAmong stores all-touched
  effects-among stores k =
      among-chain stores effects all-touched (subst (λ c. AreAmong stores (whole_called s.schema c)) (sym f.is) k) (among-right (starts ++ paths) effects)

  -- where the entities are found that have a value of it
  pub found-among : AreAmong (stores_by (found_in s.schema) (attribute s.schema f.a.number)) (whole s.schema f.a)
  found-among =
      let a = f.a in
      let all = whole s.schema a in
      let cells = cell s.schema a in
      let index_part = among-chain (index_of a) (cells ++ index_of a) all (among-right cells (index_of a)) (among-left (cells ++ index_of a) (inverse_of a)) in
      let cell_part = among-chain cells (cells ++ index_of a) all (among-left cells (index_of a)) (among-left (cells ++ index_of a) (inverse_of a)) in
      subst (λ o. AreAmong (stores_by (found_in s.schema) o) all) (sym found)
      (either (is_some a.inverse) (λ b. AreAmong (if b then inverse_of a else if a.index || a.unique then index_of a else cells) all)
      (λ _. among-right (cells ++ index_of a) (inverse_of a))
      (λ _. either (a.index || a.unique) (λ b. AreAmong (if b then index_of a else cells) all) (λ _. index_part) (λ _. cell_part)))
