-- Values put into an entity, one after another.
use Rattle.std.proofs.Common.{◌≡◌, ℕ, ◌+◌, ◌<◌, true, List, ◌∷◌, Option, None, Result, Ok, Err, length, take, drop, get_or, refl, sym, ◌∙◌, ap, subst}
use Rattle.std.specs.Prelude.{◌++◌, flat_map, ⊤}
use Rattle.st_values.specs.declared.value.EntityId.{EntityId}
use Rattle.st_state.specs.declared.refusal.Refusal.{Refusal}
use Rattle.st_state.specs.State.{State, attribute_set}
use Rattle.st_state.specs.Calls.{changed_stores}
use Rattle.st_plain.specs.declared.fault.BaseFault.{BaseFault}
use Rattle.st_plain.specs.declared.fault.BaseFault.TheVariants.{Refused, Page, Memory}
use Rattle.st_plain.specs.Base.{Asked}
use Rattle.st_terms.specs.Looks.{AreAmong, AskedAt, Changes}
use Rattle.st_terms.proofs.Looking.{at-more, change-then}
use Rattle.st_makes.specs.declared.given.Given.{Given}
use Rattle.st_makes.specs.Makes.{givens_set, AdmitsValue, AdmitsGivens, givens_stores}
use Rattle.st_makes.proofs.Gives.{drop-next, upto-among, next-among}

-- behind the first of what is given there is a state, which admits the others, and they leave the state that all leave
pub record SetSoFar (stands : State → Type 0) (asks : List Asked → Type 0) (entity : EntityId) (all done others : List Given) (s : State) : Type 0 where
  pub between : State
  pub stood : stands between
  pub schema : between.schema ≡ s.schema
  pub admits : AdmitsGivens entity others between
  pub after : givens_set entity others between ≡ givens_set entity all s
  pub asked : AskedAt asks true (givens_stores s.schema entity done)

-- a refusal, or another fault, leaves nothing to be said of what was to come
pub changes-err : {A C : Type 0} (due : Option Refusal) (stands : State → Type 0) (asks : List Asked → Type 0) (before after other : State) (right : A → Type 0) (right_other : C → Type 0) (some others : List ℕ) (e : BaseFault) (r : Result C BaseFault)
    → r ≡ Err e → AreAmong some others → Changes due stands asks before after right some (Err e) → Changes due stands asks before other right_other others r
changes-err {C = C} due stands asks before after other right right_other some others e r is among f = subst (λ r. Changes due stands asks before other right_other others r) (sym is) (by e f)
  where
    by : (e : BaseFault) → Changes due stands asks before after right some (Err e) → Changes {A = C} due stands asks before other right_other others (Err e)
    by (Refused refusal) g = record { concludes = g.concludes; asked = at-more asks true some others among g.asked }
    by (Page fault) g = record { concludes = g.concludes; asked = at-more asks true some others among g.asked }
    by Memory g = record { concludes = tt; asked = at-more asks true some others among g.asked }

module _ (entity : EntityId) (all : List Given) (i : ℕ) (g : Given) (s : State) (stands behind : State → Type 0) (first second whole : List Asked → Type 0)
    (on : (k h : List Asked) → first k → second h → whole (k ++ h)) (within : i < length all) (is : g ≡ get_or all i g) (before : SetSoFar stands first entity all (take i all) (drop i all) s) where
  abbrev stores : Given → List ℕ
  stores x = changed_stores s.schema entity x.number

  t : State
  t = before.between

  here : AdmitsGivens entity (g ∷ drop (i + 1) all) before.between
  here = subst (λ gs. AdmitsGivens entity gs before.between) (drop-next all i g within is) before.admits

  -- what the next call gives
  abbrev pub Next : {A : Type 0} → Result A BaseFault → Type 0
  Next r =
      (t : State) → stands t → AdmitsValue g.many t entity g.number g.value
      → Changes None behind second t (attribute_set t g.number entity g.value) (λ _. ⊤) (changed_stores t.schema entity g.number) r

  both_asked : {A : Type 0} (r : Result A BaseFault) → Next r
      → Changes None behind whole s (attribute_set before.between g.number entity g.value) (λ _. ⊤) (flat_map stores (take i all) ++ stores g) r
  both_asked r now =
      change-then {A = Unit {0}} stands behind first second whole (λ _. ⊤) (λ _. ⊤) (flat_map stores (take i all)) (stores g) tt None s before.between (attribute_set before.between g.number entity g.value) r on
      (record { concludes = (refl, tt, before.stood); asked = before.asked })
      (subst (λ o. Changes None behind second before.between (attribute_set before.between g.number entity g.value) (λ _. ⊤) (changed_stores o entity g.number) r) before.schema
      (now before.between before.stood here.0))

  pub set-fails : {A C : Type 0} (e : BaseFault) (r : Result C BaseFault) → r ≡ Err e → Next {A = A} (Err e) → Changes None behind whole s (givens_set entity all s) (λ _. ⊤) (givens_stores s.schema entity all) r
  set-fails {A = A} e r was now =
      changes-err {A = A} None behind whole s (attribute_set before.between g.number entity g.value) (givens_set entity all s) (λ _. ⊤) (λ _. ⊤) (flat_map stores (take i all) ++ stores g) (flat_map stores all) e r was
      (upto-among stores all i g within is) (both_asked (Err e) now)

  pub set-next : {A : Type 0} (x : A) → Next (Ok x) → SetSoFar behind whole entity all (take (i + 1) all) (drop (i + 1) all) s
  set-next x now =
      let f = both_asked (Ok x) now in
      record {
        between = attribute_set before.between g.number entity g.value;
        stood = f.concludes.2;
        schema = before.schema;
        admits = here.1;
        after = sym (ap (λ gs. givens_set entity gs before.between) (drop-next all i g within is)) ∙ before.after;
        asked = at-more whole true (flat_map stores (take i all) ++ stores g) (flat_map stores (take (i + 1) all)) (next-among stores all i g within is) f.asked;
      }
