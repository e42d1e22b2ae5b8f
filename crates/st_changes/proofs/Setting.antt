-- What `set` gives, of what its parts give.
use Rattle.std.proofs.Common.{◌≡◌, ℕ, false, List, [], ◌∷◌, Option, Some, None, refl, sym, ◌∙◌, ap, subst, true≢false}
use Rattle.std.specs.Prelude.{◌++◌, map}
use Rattle.st_values.specs.declared.value.EntityId.{EntityId}
use Rattle.st_values.specs.declared.value.Value.{Value}
use Rattle.st_values.specs.declared.value.Value.TheVariants as value
use Rattle.st_lattice.specs.declared.attribute.Attribute.{Attribute}
use Rattle.st_lattice.specs.declared.called.Called.{Called}
use Rattle.st_lattice.specs.declared.called.Called.TheVariants.{Own}
use Rattle.st_lattice.specs.Called.{called}
use Rattle.st_lattice.specs.Outline.{Outline, attribute}
use Rattle.st_lattice.specs.Stores.{cell}
use Rattle.st_query.specs.declared.statement.Statement.TheVariants.{Set as SetTo}
use Rattle.st_query.specs.declared.term.Term.{Term}
use Rattle.st_query.specs.declared.term.Variable.{Variable}
use Rattle.st_state.specs.declared.refusal.Refusal.{Refusal}
use Rattle.st_state.specs.State.{State}
use Rattle.st_state.specs.Refusals.{first_of}
use Rattle.st_state.specs.Bases.{not_unique}
use Rattle.st_state.specs.Calls.{CanBe, shared_at, stores_by, changed_stores}
use Rattle.st_meaning.specs.Statements.{value_now, does, sets}
use Rattle.st_meaning.specs.Rules.{rules_1_2_7, rule_5, refusal, set_fillings, too_long, missing, shared, entity_in, null_target}
use Rattle.st_meaning.proofs.Sorts.{first-none}
use Rattle.st_terms.specs.Looks.{AreAmong}
use Rattle.st_terms.specs.Checked.{present, IsChecked, touched, set_place}
use Rattle.st_terms.specs.Routes.{term_stores}
use Rattle.st_terms.proofs.Looking.{among-both}
use Rattle.st_changes.specs.Effects.{set_rules, set_call, get_call, AdmitsCall, due_by, left_by, stores_of_call}
use Rattle.st_changes.proofs.Running.{first-without}
use Rattle.st_changes.proofs.Fitted.{Fitted, fitted-set, found, target-entity, value-held, has-single, changed-among, cell-among, terms-among, effects-among}

module _ (s : State) (variables : List Variable) (name : List ℕ) (t w : Term) (k : IsChecked (present s variables) (SetTo name t w)) where
  abbrev fit : (f : Fitted s variables name t w) × (f.a.many ≡ false)
  fit = fitted-set s variables name t w k.legal k.live (called s.schema name) refl k.text

  abbrev pub fitted : Fitted s variables name t w
  fitted = fit.0

  -- the call that is looked up, and the values that were found
  module _ (schema : Outline) (same : s.schema ≡ schema) (c : Called Attribute) (is : c ≡ called schema name) (tv wv : Value) (target : tv ≡ value_now (present s variables) t) (written : wv ≡ value_now (present s variables) w) where
    owned : c ≡ Own fitted.a
    owned = is ∙ ap (λ o. called o name) (sym same) ∙ fitted.is

    pub called-same : c ≡ called s.schema name
    called-same = is ∙ ap (λ o. called o name) (sym same)

    -- where no rule refuses that needs no base, the base admits the call
    pub can-set : first_of (set_rules schema c tv wv) ≡ None → AdmitsCall s (set_call c tv wv)
    can-set h =
        subst (λ d. AdmitsCall s (set_call d tv wv)) (sym owned)
        (by tv target (subst (λ d. first_of (set_rules schema d tv wv) ≡ None) owned h))
      where
        be : (e : EntityId) (v : Value) → v ≡ value_now (present s variables) w → too_long fitted.a.kind v ≡ None → CanBe s fitted.a.number v
        be e value.Null m l = tt
        be e (value.Int i) m l = value-held s variables name t w fitted (value.Int i) m l refl
        be e (value.Bool i) m l = value-held s variables name t w fitted (value.Bool i) m l refl
        be e (value.Text i) m l = value-held s variables name t w fitted (value.Text i) m l refl
        be e (value.Entity i) m l = value-held s variables name t w fitted (value.Entity i) m l refl

        by : (v : Value) → v ≡ value_now (present s variables) t → first_of (set_rules schema (Own fitted.a) v wv) ≡ None → AdmitsCall s (set_call (Own fitted.a) v wv)
        by value.Null m h = tt
        by (value.Int i) m h = tt
        by (value.Bool i) m h = tt
        by (value.Text i) m h = tt
        by (value.Entity e) m h = (has-single s variables name t w fitted e m fit.1, be e wv written (first-none (too_long fitted.a.kind wv) [] (first-none _ _ h)))

    -- rules 11, 8, 3 and 4 are left
    pub set-refused : first_of (first_of (set_rules schema c tv wv) ∷ due_by s (set_call c tv wv) ∷ []) ≡ refusal (present s variables) (SetTo name t w)
    unfolding refusal
    set-refused =
        let p = present s variables in
        let rest = λ (d : Called Attribute) (u v : Value). first_of (null_target u ∷ first_of (map (λ f. too_long f.attribute.kind f.value) (set_fillings v d))
        ∷ first_of (map (missing s.schema) (set_fillings v d)) ∷ first_of (map (shared s (entity_in u)) (set_fillings v d)) ∷ None ∷ None ∷ []) in
        ap (λ o. first_of (first_of (set_rules o c tv wv) ∷ due_by s (set_call c tv wv) ∷ [])) (sym same)
        ∙ subst (λ d. first_of (first_of (set_rules s.schema d tv wv) ∷ due_by s (set_call d tv wv) ∷ []) ≡ rest d tv wv) (sym owned) (by tv target)
        ∙ ap (λ d. rest d tv wv) called-same
        ∙ ap (λ u. rest (called s.schema name) u wv) target
        ∙ ap (λ v. rest (called s.schema name) (value_now p t) v) written
        ∙ sym (first-without (rules_1_2_7 p (SetTo name t w)) _ k.text ∙ first-without (rule_5 p (SetTo name t w)) _ k.live)
      where
        a : Attribute
        a = fitted.a

        long : Option Refusal
        long = first_of (too_long a.kind wv ∷ [])

        lacks : Option Refusal
        lacks = first_of (missing s.schema (record { attribute = a; value = wv; wanted = a.no_nulls }) ∷ [])

        order : (x y z : Option Refusal) → first_of (first_of (x ∷ y ∷ []) ∷ z ∷ []) ≡ first_of (x ∷ y ∷ first_of (z ∷ []) ∷ None ∷ None ∷ [])
        order None None None = refl
        order None None (Some z) = refl
        order None (Some y) z = refl
        order (Some x) y z = refl

        by : (v : Value) → v ≡ value_now (present s variables) t
            → first_of (first_of (set_rules s.schema (Own a) v wv) ∷ due_by s (set_call (Own a) v wv) ∷ [])
            ≡ first_of (null_target v ∷ long ∷ lacks ∷ first_of (shared s (entity_in v) (record { attribute = a; value = wv; wanted = a.no_nulls }) ∷ []) ∷ None ∷ None ∷ [])
        by value.Null m = refl
        by (value.Int i) m = absurd (true≢false (sym (target-entity s variables name t w fitted (value.Int i) m)))
        by (value.Bool i) m = absurd (true≢false (sym (target-entity s variables name t w fitted (value.Bool i) m)))
        by (value.Text i) m = absurd (true≢false (sym (target-entity s variables name t w fitted (value.Text i) m)))
        by (value.Entity e) m =
            ap (λ o. first_of (first_of (long ∷ lacks ∷ []) ∷ shared_at s o e wv ∷ [])) (found s variables name t w fitted)
            ∙ order long lacks (not_unique s a (Some e) wv)

    pub set-leaves : left_by s (set_call c tv wv) ≡ (does (present s variables) (SetTo name t w)).state
    set-leaves =
        subst (λ d. left_by s (set_call d tv wv) ≡ sets s d tv wv) (sym owned) (by tv)
        ∙ ap (λ d. sets s d tv wv) called-same ∙ ap (λ u. sets s (called s.schema name) u wv) target ∙ ap (λ v. sets s (called s.schema name) (value_now (present s variables) t) v) written
      where
        by : (v : Value) → left_by s (set_call (Own fitted.a) v wv) ≡ sets s (Own fitted.a) v wv
        by value.Null = refl
        by (value.Int i) = refl
        by (value.Bool i) = refl
        by (value.Text i) = refl
        by (value.Entity e) = refl

    terms : List ℕ
    terms = term_stores s.schema variables t ++ term_stores s.schema variables w

    pub set-among : AreAmong (term_stores s.schema variables t ++ term_stores s.schema variables w ++ stores_of_call s.schema (set_call c tv wv)) (touched s.schema variables (SetTo name t w))
    set-among =
        among-both (term_stores s.schema variables t ++ term_stores s.schema variables w) (stores_of_call s.schema (set_call c tv wv)) (touched s.schema variables (SetTo name t w))
        (terms-among s variables name t w fitted)
        (subst (λ d. AreAmong (stores_of_call s.schema (set_call d tv wv)) (touched s.schema variables (SetTo name t w))) (sym owned) (by tv target))
      where
        by : (v : Value) → v ≡ value_now (present s variables) t → AreAmong (stores_of_call s.schema (set_call (Own fitted.a) v wv)) (touched s.schema variables (SetTo name t w))
        by value.Null m = λ test h. refl
        by (value.Int i) m = λ test h. refl
        by (value.Bool i) m = λ test h. refl
        by (value.Text i) m = λ test h. refl
        by (value.Entity e) m = effects-among s variables name t w fitted (changed_stores s.schema e fitted.a.number) (changed-among s variables name t w fitted e m)

    -- and where it only looked
    pub get-among : AreAmong (term_stores s.schema variables t ++ term_stores s.schema variables w ++ stores_of_call s.schema (get_call c tv)) (touched s.schema variables (SetTo name t w))
    get-among =
        among-both (term_stores s.schema variables t ++ term_stores s.schema variables w) (stores_of_call s.schema (get_call c tv)) (touched s.schema variables (SetTo name t w))
        (terms-among s variables name t w fitted)
        (subst (λ d. AreAmong (stores_of_call s.schema (get_call d tv)) (touched s.schema variables (SetTo name t w))) (sym owned) (by tv))
      where
        by : (v : Value) → AreAmong (stores_of_call s.schema (get_call (Own fitted.a) v)) (touched s.schema variables (SetTo name t w))
        by value.Null = λ test h. refl
        by (value.Int i) = λ test h. refl
        by (value.Bool i) = λ test h. refl
        by (value.Text i) = λ test h. refl
        by (value.Entity e) = effects-among s variables name t w fitted (stores_by (cell s.schema) (attribute s.schema fitted.a.number)) (cell-among s variables name t w fitted)

    pub place-same : set_place c tv ≡ set_place (called s.schema name) (value_now (present s variables) t)
    place-same = ap (λ d. set_place d tv) called-same ∙ ap (set_place (called s.schema name)) target

  pub set-terms : AreAmong (term_stores s.schema variables t ++ term_stores s.schema variables w) (touched s.schema variables (SetTo name t w))
  set-terms = terms-among s variables name t w fitted
