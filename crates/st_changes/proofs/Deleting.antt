-- What `delete-entity` gives, of what its parts give.
use Rattle.std.proofs.Common.{◌≡◌, ℕ, true, List, [], ◌∷◌, Option, Some, None, refl, sym, ◌∙◌, ap, subst, true≢false}
use Rattle.std.specs.Prelude.{◌++◌, flat_map}
use Rattle.st_values.specs.declared.value.EntityId.{EntityId}
use Rattle.st_values.specs.declared.value.Kind.{Kind}
use Rattle.st_values.specs.declared.value.Kind.TheVariants as kind
use Rattle.st_values.specs.declared.value.Value.{Value}
use Rattle.st_values.specs.declared.value.Value.TheVariants as value
use Rattle.st_values.proofs.Tests.{left}
use Rattle.st_lattice.specs.declared.attribute.Attribute.{Attribute}
use Rattle.st_lattice.specs.declared.called.Called.{Called}
use Rattle.st_lattice.specs.declared.called.Called.TheVariants.{Nothing, Own, Inverse}
use Rattle.st_lattice.specs.Called.{called}
use Rattle.st_lattice.specs.Lattice.{isa}
use Rattle.st_lattice.specs.Stores.{kind_types, deleted}
use Rattle.st_query.specs.declared.statement.Statement.TheVariants.{Delete}
use Rattle.st_query.specs.declared.term.Term.{Term}
use Rattle.st_query.specs.declared.term.Variable.{Variable}
use Rattle.st_query.specs.declared.kind.Expected.TheVariants.{Comparable}
use Rattle.st_query.specs.declared.kind.Sort.TheVariants as sort
use Rattle.st_query.specs.Ways.{Start, Written, Named, way}
use Rattle.st_query.specs.Footprint.{possible_types, value_types, feature_types, path_stores, start_stores}
use Rattle.st_state.specs.declared.refusal.Refusal.{Refusal}
use Rattle.st_state.specs.State.{State, is_live}
use Rattle.st_state.specs.Legal.{can_hold}
use Rattle.st_state.specs.Refusals.{first_of}
use Rattle.st_state.specs.Bases.{still_needed}
use Rattle.st_state.proofs.Members.{Member}
use Rattle.st_meaning.specs.Terms.{single, feature_value, features_value, start_value, term_meaning}
use Rattle.st_meaning.specs.Statements.{value_now, does, deletes}
use Rattle.st_meaning.specs.Rules.{rules_1_2_7, rule_5, refusal, dead, null_target, needed_value}
use Rattle.st_meaning.proofs.Sorts.{LiveValue, first-none, called-own, attribute-gives, inverse-gives, term-live}
use Rattle.st_meaning.proofs.Legality.{dead-none}
use Rattle.st_terms.specs.Looks.{AreAmong}
use Rattle.st_terms.specs.Checked.{present, IsChecked, touched}
use Rattle.st_terms.specs.Routes.{AdmitsTerm, term_stores}
use Rattle.st_terms.proofs.Looking.{among-chain, among-left, among-right, among-both}
use Rattle.st_terms.proofs.Admitted.{admitted-term}
use Rattle.st_terms.proofs.Stores.{term-among}
use Rattle.st_changes.specs.Effects.{delete_call, AdmitsCall, due_by, left_by, stores_of_call}
use Rattle.st_changes.proofs.Running.{first-without}
use Rattle.st_changes.proofs.Places.{flat-among, type-member}

not-entity : (e : EntityId) → value.Null ≡ value.Entity e → ⊥
not-entity e h = cc

module _ (s : State) (variables : List Variable) (t : Term) (k : IsChecked (present s variables) (Delete t)) where
  start-live : LiveValue s (start_value s variables (way t).start)
  start-live = dead-none s (start_value s variables (way t).start) (first-none (dead s (start_value s variables (way t).start)) [] k.live)

  -- the target can be read
  pub admits : AdmitsTerm s variables t
  admits = admitted-term s k.legal.nearly variables (Comparable (sort.Entity 0)) t k.text start-live

  target-live : LiveValue s (value_now (present s variables) t)
  target-live = term-live s k.legal.nearly variables t start-live

  -- and the entity that it is can be deleted
  pub can-delete : (v : Value) → v ≡ value_now (present s variables) t → AdmitsCall s (delete_call v)
  can-delete value.Null e = tt
  can-delete (value.Int _) e = tt
  can-delete (value.Bool _) e = tt
  can-delete (value.Text _) e = tt
  can-delete (value.Entity x) e = target-live x (sym e)

  pad : (o : Option Refusal) → first_of (o ∷ None ∷ []) ≡ first_of (o ∷ [])
  pad None = refl
  pad (Some r) = refl

  -- rules 11 and 6 are left
  pub delete-refused : (v : Value) → v ≡ value_now (present s variables) t → first_of (null_target v ∷ due_by s (delete_call v) ∷ []) ≡ refusal (present s variables) (Delete t)
  unfolding refusal
  delete-refused v e =
      let p = present s variables in
      by v ∙ ap (λ w. first_of (null_target w ∷ None ∷ None ∷ None ∷ needed_value s w ∷ None ∷ [])) e
      ∙ sym (first-without (rules_1_2_7 p (Delete t)) _ k.text ∙ first-without (rule_5 p (Delete t)) _ k.live)
    where
      by : (w : Value) → first_of (null_target w ∷ due_by s (delete_call w) ∷ []) ≡ first_of (null_target w ∷ None ∷ None ∷ None ∷ needed_value s w ∷ None ∷ [])
      by value.Null = refl
      by (value.Int _) = refl
      by (value.Bool _) = refl
      by (value.Text _) = refl
      by (value.Entity x) = sym (pad (still_needed s x))

  pub delete-leaves : (v : Value) → v ≡ value_now (present s variables) t → left_by s (delete_call v) ≡ (does (present s variables) (Delete t)).state
  delete-leaves v e = by v ∙ ap (deletes s) e
    where
      by : (w : Value) → left_by s (delete_call w) ≡ deletes s w
      by value.Null = refl
      by (value.Int _) = refl
      by (value.Bool _) = refl
      by (value.Text _) = refl
      by (value.Entity x) = refl

  -- the type of the entity is a possible one
  type-possible : (x : EntityId) (features : List (List ℕ)) (start : Start) → single (features_value s features (start_value s variables start)) ≡ value.Entity x → is_live s x ≡ true
      → Member x.ty (possible_types s.schema variables features start)
  type-possible x [] (Written written) e l = subst (λ v. Member x.ty (value_types v)) (sym e) (λ q a. left (q x.ty) true a)
  type-possible x [] (Named name) e l = subst (λ v. Member x.ty (value_types v)) (sym e) (λ q a. left (q x.ty) true a)
  type-possible x (name ∷ names) start e l = by (called s.schema name) refl e
    where
      rest : Value
      rest = single (features_value s names (start_value s variables start))

      of-kind : (a : Kind) → can_hold s a (value.Entity x) ≡ true → Member x.ty (kind_types s.schema a)
      of-kind kind.Int h = absurd (true≢false (sym h))
      of-kind kind.Bool h = absurd (true≢false (sym h))
      of-kind (kind.Text limit) h = absurd (true≢false (sym h))
      of-kind (kind.Entity ty) h = type-member s k.legal.nearly x l ty (left (isa s.schema x.ty ty) (is_live s x) h)

      by : (c : Called Attribute) → called s.schema name ≡ c → single (feature_value s c rest) ≡ value.Entity x → Member x.ty (feature_types s.schema c)
      by Nothing f m = absurd (not-entity x m)
      by (Own a) f m =
          attribute-gives s k.legal.nearly a rest (called-own s.schema name a f) (λ w. w ≡ value.Entity x → Member x.ty (kind_types s.schema a.kind))
          (λ i. absurd (not-entity x i)) (λ w h i. of-kind a.kind (subst (λ z. can_hold s a.kind z ≡ true) i h)) m
      by (Inverse a) f m = absurd (not-entity x (sym (inverse-gives s k.legal.nearly a rest) ∙ m))

  starts : List ℕ
  starts = flat_map (start_stores s.schema variables) ((way t).start ∷ [])

  paths : List ℕ
  paths = path_stores s.schema (t ∷ [])

  effects : List ℕ
  effects = flat_map (deleted s.schema) (possible_types s.schema variables (way t).features (way t).start)

  term-touched : AreAmong (term_stores s.schema variables t) (touched s.schema variables (Delete t))
  unfolding starts paths effects
  term-touched =
      among-chain (term_stores s.schema variables t) (starts ++ paths) (starts ++ paths ++ effects)
      (among-chain (term_stores s.schema variables t) paths (starts ++ paths) (term-among s k.legal.nearly variables t) (among-right starts paths)) (among-left (starts ++ paths) effects)

  call-touched : (v : Value) → v ≡ value_now (present s variables) t → AreAmong (stores_of_call s.schema (delete_call v)) (touched s.schema variables (Delete t))
  unfolding starts paths effects term_meaning
  call-touched value.Null e = λ test h. refl
  call-touched (value.Int _) e = λ test h. refl
  call-touched (value.Bool _) e = λ test h. refl
  call-touched (value.Text _) e = λ test h. refl
  call-touched (value.Entity x) e =
      among-chain (deleted s.schema x.ty) effects (starts ++ paths ++ effects)
      (flat-among (deleted s.schema) x.ty (possible_types s.schema variables (way t).features (way t).start) (possible (sym e))) (among-right (starts ++ paths) effects)
    where
      possible : value_now (present s variables) t ≡ value.Entity x → Member x.ty (possible_types s.schema variables (way t).features (way t).start)
      possible h = type-possible x (way t).features (way t).start h (target-live x h)

  pub delete-term : AreAmong (term_stores s.schema variables t) (touched s.schema variables (Delete t))
  delete-term = term-touched

  pub delete-among : (v : Value) → v ≡ value_now (present s variables) t → AreAmong (term_stores s.schema variables t ++ stores_of_call s.schema (delete_call v)) (touched s.schema variables (Delete t))
  delete-among v e = among-both (term_stores s.schema variables t) (stores_of_call s.schema (delete_call v)) (touched s.schema variables (Delete t)) term-touched (call-touched v e)
