-- What `delete-from-set` gives, of what its parts give.
use Rattle.std.proofs.Common.{◌≡◌, ℕ, true, List, [], ◌∷◌, Option, Some, None, refl, sym, ◌∙◌, ap, subst, true≢false}
use Rattle.std.specs.Prelude.{◌++◌, map}
use Rattle.st_values.specs.declared.value.Value.{Value}
use Rattle.st_values.specs.declared.value.Value.TheVariants as value
use Rattle.st_lattice.specs.declared.attribute.Attribute.{Attribute}
use Rattle.st_lattice.specs.declared.called.Called.{Called}
use Rattle.st_lattice.specs.declared.called.Called.TheVariants.{Own}
use Rattle.st_lattice.specs.Called.{called}
use Rattle.st_lattice.specs.Outline.{Outline, attribute}
use Rattle.st_lattice.specs.Stores.{whole}
use Rattle.st_query.specs.declared.statement.Statement.TheVariants.{Take as TakeFrom}
use Rattle.st_query.specs.declared.term.Term.{Term}
use Rattle.st_query.specs.declared.term.Variable.{Variable}
use Rattle.st_state.specs.declared.refusal.Refusal.{Refusal}
use Rattle.st_state.specs.State.{State}
use Rattle.st_state.specs.Refusals.{first_of}
use Rattle.st_state.specs.Bases.{not_unique}
use Rattle.st_state.specs.Calls.{stores_by, changed_stores, found_in}
use Rattle.st_meaning.specs.Statements.{value_now, does, takes}
use Rattle.st_meaning.specs.Rules.{Filling, rules_1_2_7, rule_5, refusal, member_fillings, too_long, missing, shared, null_target}
use Rattle.st_meaning.proofs.Sorts.{first-none}
use Rattle.st_meaning.proofs.Legality.{given-value}
use Rattle.st_terms.specs.Looks.{AreAmong}
use Rattle.st_terms.specs.Checked.{present, IsChecked, touched}
use Rattle.st_terms.specs.Routes.{term_stores}
use Rattle.st_terms.proofs.Looking.{among-both}
use Rattle.st_changes.specs.Effects.{take_rules, take_call, take_unless, take_due, take_due_unless, AdmitsCall, left_by, member_stores}
use Rattle.st_changes.proofs.Running.{first-without}
use Rattle.st_changes.proofs.Strangers.{held-nowhere, taken-nothing}
use Rattle.st_changes.proofs.Fitted.{Fitted, fitted-member, target-entity, found, value-held, has-set, changed-among, found-among, terms-among, effects-among}

module _ (s : State) (variables : List Variable) (name : List ℕ) (t w : Term) (k : IsChecked (present s variables) (TakeFrom name t w)) where
  abbrev fit : (f : Fitted s variables name t w) × (f.a.many ≡ true)
  fit = fitted-member s variables name t w k.legal k.live (called s.schema name) refl k.text

  abbrev pub fitted : Fitted s variables name t w
  fitted = fit.0

  pub take-terms : AreAmong (term_stores s.schema variables t ++ term_stores s.schema variables w) (touched s.schema variables (TakeFrom name t w))
  take-terms = terms-among s variables name t w fitted

  -- the call that is looked up, and the values that were found
  module _ (schema : Outline) (same : s.schema ≡ schema) (c : Called Attribute) (is : c ≡ called schema name) (tv wv : Value) (target : tv ≡ value_now (present s variables) t) (written : wv ≡ value_now (present s variables) w) where
    called-same : c ≡ called s.schema name
    called-same = is ∙ ap (λ o. called o name) (sym same)

    owned : c ≡ Own fitted.a
    owned = called-same ∙ fitted.is

    abbrev filling : Filling
    filling = record { attribute = fitted.a; value = wv; wanted = true }

    abbrev long : Option Refusal
    long = too_long fitted.a.kind wv

    abbrev lacks : Outline → Option Refusal
    lacks o = first_of (missing o filling ∷ [])

    -- where no rule refuses that needs no base, the base admits the call
    pub can-take : first_of (take_rules schema c tv wv) ≡ None → AdmitsCall s (take_call c tv wv)
    can-take h =
        subst (λ d. AdmitsCall s (take_call d tv wv)) (sym owned) (by tv target (subst (λ d. first_of (take_rules schema d tv wv) ≡ None) owned h))
      where
        by : (v : Value) → v ≡ value_now (present s variables) t → first_of (take_rules schema (Own fitted.a) v wv) ≡ None → AdmitsCall s (take_call (Own fitted.a) v wv)
        by value.Null m h = tt
        by (value.Int i) m h = tt
        by (value.Bool i) m h = tt
        by (value.Text i) m h = tt
        by (value.Entity e) m h = unless long refl
          where
            unless : (o : Option Refusal) → too_long fitted.a.kind wv ≡ o → AdmitsCall s (take_unless fitted.a e wv o)
            unless (Some r) l = tt
            unless None l = (
              has-set s variables name t w fitted e m fit.1,
              value-held s variables name t w fitted wv written l (given-value schema filling (first-none (missing schema filling) [] (first-none (lacks schema) [] h)) refl),
            )

    -- rules 11, 3 and 4 are left
    pub take-refused : first_of (first_of (take_rules schema c tv wv) ∷ take_due s c tv wv ∷ []) ≡ refusal (present s variables) (TakeFrom name t w)
    unfolding refusal
    take-refused =
        let p = present s variables in
        let rest = λ (d : Called Attribute) (u v : Value). first_of (null_target u ∷ None
        ∷ first_of (map (missing s.schema) (member_fillings v d)) ∷ first_of (map (shared s None) (member_fillings v d)) ∷ None ∷ None ∷ []) in
        ap (λ o. first_of (first_of (take_rules o c tv wv) ∷ take_due s c tv wv ∷ [])) (sym same)
        ∙ subst (λ d. first_of (first_of (take_rules s.schema d tv wv) ∷ take_due s d tv wv ∷ []) ≡ rest d tv wv) (sym owned) (by tv target)
        ∙ ap (λ d. rest d tv wv) called-same
        ∙ ap (λ u. rest (called s.schema name) u wv) target
        ∙ ap (λ v. rest (called s.schema name) (value_now p t) v) written
        ∙ sym (first-without (rules_1_2_7 p (TakeFrom name t w)) _ k.text ∙ first-without (rule_5 p (TakeFrom name t w)) _ k.live)
      where
        order : (x y : Option Refusal) → first_of (first_of (x ∷ []) ∷ y ∷ []) ≡ first_of (x ∷ first_of (y ∷ []) ∷ None ∷ None ∷ [])
        order None None = refl
        order None (Some y) = refl
        order (Some x) y = refl

        -- where a text is too long nobody has it
        rule_four : (o : Option Refusal) → too_long fitted.a.kind wv ≡ o → take_due_unless s fitted.a wv o ≡ not_unique s fitted.a None wv
        rule_four None l = refl
        rule_four (Some r) l = sym (held-nowhere s fitted.legal.nearly fitted.a (found s variables name t w fitted) wv r l)

        by : (v : Value) → v ≡ value_now (present s variables) t
            → first_of (first_of (take_rules s.schema (Own fitted.a) v wv) ∷ take_due s (Own fitted.a) v wv ∷ [])
            ≡ first_of (null_target v ∷ None ∷ lacks s.schema ∷ first_of (shared s None filling ∷ []) ∷ None ∷ None ∷ [])
        by value.Null m = refl
        by (value.Int i) m = absurd (true≢false (sym (target-entity s variables name t w fitted (value.Int i) m)))
        by (value.Bool i) m = absurd (true≢false (sym (target-entity s variables name t w fitted (value.Bool i) m)))
        by (value.Text i) m = absurd (true≢false (sym (target-entity s variables name t w fitted (value.Text i) m)))
        by (value.Entity e) m = ap (λ o. first_of (first_of (lacks s.schema ∷ []) ∷ o ∷ [])) (rule_four long refl) ∙ order (lacks s.schema) (not_unique s fitted.a None wv)

    pub take-leaves : left_by s (take_call c tv wv) ≡ (does (present s variables) (TakeFrom name t w)).state
    take-leaves =
        subst (λ d. left_by s (take_call d tv wv) ≡ takes s d tv wv) (sym owned) (by tv)
        ∙ ap (λ d. takes s d tv wv) called-same ∙ ap (λ u. takes s (called s.schema name) u wv) target ∙ ap (λ v. takes s (called s.schema name) (value_now (present s variables) t) v) written
      where
        by : (v : Value) → left_by s (take_call (Own fitted.a) v wv) ≡ takes s (Own fitted.a) v wv
        by value.Null = refl
        by (value.Int i) = refl
        by (value.Bool i) = refl
        by (value.Text i) = refl
        by (value.Entity e) = unless long refl
          where
            unless : (o : Option Refusal) → too_long fitted.a.kind wv ≡ o → left_by s (take_unless fitted.a e wv o) ≡ takes s (Own fitted.a) (value.Entity e) wv
            unless None l = refl
            unless (Some r) l = taken-nothing s fitted.legal.nearly fitted.a (found s variables name t w fitted) wv r l e

    pub take-among : AreAmong (term_stores s.schema variables t ++ term_stores s.schema variables w ++ member_stores s.schema (take_call c tv wv)) (touched s.schema variables (TakeFrom name t w))
    take-among =
        among-both (term_stores s.schema variables t ++ term_stores s.schema variables w) (member_stores s.schema (take_call c tv wv)) (touched s.schema variables (TakeFrom name t w))
        take-terms
        (subst (λ d. AreAmong (member_stores s.schema (take_call d tv wv)) (touched s.schema variables (TakeFrom name t w))) (sym owned) (by tv target))
      where
        by : (v : Value) → v ≡ value_now (present s variables) t → AreAmong (member_stores s.schema (take_call (Own fitted.a) v wv)) (touched s.schema variables (TakeFrom name t w))
        by value.Null m = λ test h. refl
        by (value.Int i) m = λ test h. refl
        by (value.Bool i) m = λ test h. refl
        by (value.Text i) m = λ test h. refl
        by (value.Entity e) m = unless long
          where
            unless : (o : Option Refusal) → AreAmong (member_stores s.schema (take_unless fitted.a e wv o)) (touched s.schema variables (TakeFrom name t w))
            unless (Some r) = λ test h. refl
            unless None =
                let looked = stores_by (found_in s.schema) (attribute s.schema fitted.a.number) in
                let changed = changed_stores s.schema e fitted.a.number in
                effects-among s variables name t w fitted (looked ++ changed)
                (among-both looked changed (whole s.schema fitted.a) (found-among s variables name t w fitted) (changed-among s variables name t w fitted e m))
