-- Rules that are asked without a base, and a call behind them.
use Rattle.std.proofs.Common.{◌≡◌, inl, inr, ℕ, Bool, true, false, List, [], ◌∷◌, Option, Some, None, Result, Ok, Err, refl, sym, ◌∙◌, ap, subst}
use Rattle.std.specs.Prelude.{◌++◌, ◌⊎◌, All, OnOk, is_ok, length, nat_le, if◌then◌else◌, ⊤}
use Rattle.std.proofs.lemmas.List.{append_assoc}
use Rattle.std.proofs.lemmas.List.Elements.{All-append}
use Rattle.st_values.specs.declared.value.EntityId.{EntityId}
use Rattle.st_values.specs.declared.value.Kind.{Kind}
use Rattle.st_values.specs.declared.value.Kind.TheVariants as kind
use Rattle.st_values.specs.declared.value.Value.{Value}
use Rattle.st_values.specs.declared.value.Value.TheVariants as value
use Rattle.st_state.specs.declared.refusal.Refusal.{Refusal}
use Rattle.st_state.specs.declared.refusal.Refusal.TheVariants.{UnknownName, WrongType, NullNotAllowed, NotUnique, NoSuchEntity, StillNeeded, NotASet, TextTooLong, NumbersSpent, Aborted, NullEntity, TooManyPages, Full}
use Rattle.st_state.specs.State.{State}
use Rattle.st_state.specs.Refusals.{first_of}
use Rattle.st_state.specs.Calls.{Set}
use Rattle.st_meaning.specs.Rules.{too_long}
use Rattle.st_plain.specs.declared.fault.BaseFault.{BaseFault}
use Rattle.st_plain.specs.declared.fault.BaseFault.TheVariants.{Refused, Page, Memory}
use Rattle.st_plain.specs.Base.{Asked, Refuses, Reaches, behind}
use Rattle.st_terms.specs.Looks.{AreAmong, AskedAt, Place, Looks, Changes}
use Rattle.st_terms.proofs.Looking.{at-nothing, at-more, at-looking, at-both, all-map, among-left, reaches-map, looks-change}
use Rattle.st_changes.specs.Effects.{Tells, SetsAt}

pub some-none : {A : Type 0} (a : A) → Some a ≡ None → ⊥
some-none a e = cc

-- ---- the first of several refusals

-- the first of several, and then of those behind
pub first-nested : (xs ys : List (Option Refusal)) → first_of (first_of xs ∷ ys) ≡ first_of (xs ++ ys)
first-nested [] ys = refl
first-nested (None ∷ xs) ys = first-nested xs ys
first-nested (Some x ∷ xs) ys = refl

pub first-one : (o : Option Refusal) → first_of (o ∷ []) ≡ o
first-one None = refl
first-one (Some r) = refl

-- one that refuses nothing can be left out
pub first-without : (o : Option Refusal) (os : List (Option Refusal)) → o ≡ None → first_of (o ∷ os) ≡ first_of os
first-without None os e = refl
first-without (Some r) os e = absurd (some-none r e)

-- ---- rules

-- a refusal that is due, and none by pages
pub refuses-own : (due : Option Refusal) (same : Type 0) (r : Refusal) → due ≡ Some r → behind r ≡ None → same → Refuses due same r
refuses-own due same (UnknownName n) e b h = (e, h)
refuses-own due same WrongType e b h = (e, h)
refuses-own due same (NullNotAllowed n) e b h = (e, h)
refuses-own due same (NotUnique n x) e b h = (e, h)
refuses-own due same (NoSuchEntity x) e b h = (e, h)
refuses-own due same (StillNeeded x n) e b h = (e, h)
refuses-own due same (NotASet n) e b h = (e, h)
refuses-own due same (TextTooLong x y) e b h = (e, h)
refuses-own due same (NumbersSpent n) e b h = (e, h)
refuses-own due same Aborted e b h = (e, h)
refuses-own due same NullEntity e b h = (e, h)
refuses-own due same (TooManyPages n) e b h = absurd (some-none _ b)
refuses-own due same (Full n) e b h = absurd (some-none _ b)

-- rules that refuse, before anything is asked
pub told-fail : {C : Type 0} (stands : State → Type 0) (asks : List Asked → Type 0) (right : C → Type 0) (due later : Option Refusal) (stores : List ℕ) (before after : State) (e : BaseFault)
    → Tells {A = C} due (Err e) → stands before → asks [] → Changes {A = C} (first_of (due ∷ later ∷ [])) stands asks before after right stores (Err e)
told-fail stands asks right due later stores before after (Refused r) t h n =
    record { concludes = refuses-own (first_of (due ∷ later ∷ [])) (stands before) r (ap (λ o. first_of (o ∷ later ∷ [])) t.0) t.1 h; asked = at-nothing asks true stores n }
told-fail stands asks right due later stores before after (Page fault) t h n = absurd t
told-fail stands asks right due later stores before after Memory t h n = record { concludes = tt; asked = at-nothing asks true stores n }

-- rules that refuse nothing, and what comes behind
pub told-then : {C : Type 0} (stands : State → Type 0) (asks : List Asked → Type 0) (right : C → Type 0) (due later : Option Refusal) (stores : List ℕ) (before after : State) (r : Result C BaseFault)
    → due ≡ None → Changes later stands asks before after right stores r → Changes (first_of (due ∷ later ∷ [])) stands asks before after right stores r
told-then stands asks right due later stores before after r h g =
    subst (λ d. Changes d stands asks before after right stores r) (sym (first-without due (later ∷ []) h ∙ first-one later)) g

-- ---- what was asked

pub change-more : {C : Type 0} (due : Option Refusal) (stands : State → Type 0) (asks : List Asked → Type 0) (before after : State) (right : C → Type 0) (some others : List ℕ) (r : Result C BaseFault)
    → AreAmong some others → Changes due stands asks before after right some r → Changes due stands asks before after right others r
change-more due stands asks before after right some others r among g = record { concludes = g.concludes; asked = at-more asks true some others among g.asked }

-- ---- terms that are looked at, and a change behind them

-- said of another due, another state behind and more stores
pub looked-then : {A C : Type 0} (stands : Type 0) (behind : State → Type 0) (first second whole : List Asked → Type 0) (got : EntityId → ℕ → Type 0) (right_first : A → Type 0) (right : C → Type 0)
    (some others stores : List ℕ) (places : List Place) (x : A) (due other_due : Option Refusal) (before after other_after : State) (r : Result C BaseFault)
    → ((f g : List Asked) → first f → second g → whole (f ++ g)) → due ≡ other_due → after ≡ other_after → AreAmong (some ++ others) stores
    → Looks stands first got right_first some places (Ok x) → Changes due behind second before after right others r → Changes other_due behind whole before other_after right stores r
looked-then stands behind first second whole got right_first right some others stores places x due other_due before after other_after r on d e among f g =
    let whole_change = looks-change stands behind first second whole got right_first right some others places x due before after r on f g in
    change-more other_due behind whole before other_after right (some ++ others) stores r among
    (subst (λ a. Changes other_due behind whole before a right (some ++ others) r) e (subst (λ o. Changes o behind whole before after right (some ++ others) r) d whole_change))

pub looked-fail : {A C : Type 0} (stands : Type 0) (behind : State → Type 0) (asks : List Asked → Type 0) (got : EntityId → ℕ → Type 0) (right_first : A → Type 0) (right : C → Type 0)
    (some stores : List ℕ) (places : List Place) (e : BaseFault) (due : Option Refusal) (before after : State)
    → AreAmong some stores → Looks stands asks got right_first some places (Err e) → Changes {A = C} due behind asks before after right stores (Err e)
looked-fail stands behind asks got right_first right some stores places (Refused r) due before after among f = absurd f.answers
looked-fail stands behind asks got right_first right some stores places (Page fault) due before after among f = record { concludes = f.answers; asked = at-more asks true some stores among (at-looking asks true some f.asked) }
looked-fail stands behind asks got right_first right some stores places Memory due before after among f = record { concludes = tt; asked = at-more asks true some stores among (at-looking asks true some f.asked) }

-- what was reached by terms, and by what comes behind
pub looked-reaches : {C : Type 0} (got got_then : EntityId → ℕ → Type 0) (places further others : List Place) (r : Result C BaseFault)
    → ((e : EntityId) (n : ℕ) → got e n → got_then e n) → further ≡ others
    → All (λ p. got p.entity p.number) places → Reaches (All (λ p. got_then p.entity p.number) further) r → Reaches (All (λ p. got_then p.entity p.number) (places ++ others)) r
looked-reaches got got_then places further others r stay e f g =
    reaches-map (All (λ p. got_then p.entity p.number) further) (All (λ p. got_then p.entity p.number) (places ++ others)) r
    (λ h. All-append (λ p. got_then p.entity p.number) places others (all-map (λ p. got p.entity p.number) (λ p. got_then p.entity p.number) places (λ p. stay p.entity p.number) f)
    (subst (All (λ p. got_then p.entity p.number)) e h)) g

-- calls that only look reach nothing where they are not answered
pub fail-reaches : {A : Type 0} (C : Type 0) (stands : Type 0) (asks : List Asked → Type 0) (got : EntityId → ℕ → Type 0) (right : A → Type 0) (stores : List ℕ) (places : List Place) (P : Type 0) (e : BaseFault)
    → Looks stands asks got right stores places (Err e) → Reaches {A = C} P (Err e)
fail-reaches C stands asks got right stores places P (Refused r) f = absurd f.answers
fail-reaches C stands asks got right stores places P (Page fault) f = tt
fail-reaches C stands asks got right stores places P Memory f = tt

-- a page is reached, or calls only looked, behind terms
pub looked-first : {A : Type 0} (stands : Type 0) (first second whole : List Asked → Type 0) (got : EntityId → ℕ → Type 0) (right : A → Type 0) (some others stores : List ℕ) (places : List Place) (x : A) (P Q : Type 0)
    → ((f g : List Asked) → first f → second g → whole (f ++ g)) → (P → Q) → AreAmong (some ++ others) stores
    → Looks stands first got right some places (Ok x) → P ⊎ AskedAt second false others → Q ⊎ AskedAt whole false stores
looked-first stands first second whole got right some others stores places x P Q on same among f (inl p) = inl (same p)
looked-first stands first second whole got right some others stores places x P Q on same among f (inr g) =
    inr (at-more whole false (some ++ others) stores among (at-both first second whole false some others on f.asked g))

-- the one call that sets a value
pub set-asked : {C : Type 0} (asks : List Asked → Type 0) (s : State) (e : EntityId) (n : ℕ) (v : Value) (r : Result C BaseFault)
    → asks (record { state = s; call = Set e n v; answered = is_ok r } ∷ []) → OnOk r (SetsAt asks s (record { entity = e; number = n }))
set-asked asks s e n v (Ok x) h = record { before = []; value = v; asked = h }
set-asked asks s e n v (Err fault) h = tt

-- calls that set a value, behind others
pub sets-behind : (first second whole : List Asked → Type 0) (s : State) (calls : List Asked) → ((f g : List Asked) → first f → second g → whole (f ++ g)) → first calls → (place : Place) → SetsAt second s place → SetsAt whole s place
sets-behind first second whole s calls on f place g = record {
  before = calls ++ g.before;
  value = g.value;
  asked = subst whole (sym (append_assoc calls g.before (record { state = s; call = Set place.entity place.number g.value; answered = true } ∷ []))) (on calls _ f g.asked);
}

pub sets-all-behind : {C : Type 0} (first second whole : List Asked → Type 0) (s : State) (calls : List Asked) (places others : List Place) (r : Result C BaseFault)
    → ((f g : List Asked) → first f → second g → whole (f ++ g)) → places ≡ others → first calls → OnOk r (All (SetsAt second s) places) → OnOk r (All (SetsAt whole s) others)
sets-all-behind first second whole s calls places others (Ok x) on e f g =
    subst (All (SetsAt whole s)) e (all-map (SetsAt second s) (SetsAt whole s) places (λ place. sets-behind first second whole s calls on f place) g)
sets-all-behind first second whole s calls places others (Err fault) on e f g = tt

-- rule 8 is none of those by pages
pub long_own : (k : Kind) (v : Value) (r : Refusal) → too_long k v ≡ Some r → behind r ≡ None
long_own kind.Int v r e = absurd (some-none r (sym e))
long_own kind.Bool v r e = absurd (some-none r (sym e))
long_own (kind.Entity ty) v r e = absurd (some-none r (sym e))
long_own (kind.Text limit) value.Null r e = absurd (some-none r (sym e))
long_own (kind.Text limit) (value.Int i) r e = absurd (some-none r (sym e))
long_own (kind.Text limit) (value.Bool i) r e = absurd (some-none r (sym e))
long_own (kind.Text limit) (value.Entity i) r e = absurd (some-none r (sym e))
long_own (kind.Text limit) (value.Text text) r e = by (nat_le (length text) limit) e
  where
    inside : (x y : Refusal) → Some x ≡ Some y → x ≡ y
    inside x y h = cc

    by : (b : Bool) → (if b then None else Some (TextTooLong (length text) limit)) ≡ Some r → behind r ≡ None
    by true h = absurd (some-none r (sym h))
    by false h = subst (λ x. behind x ≡ None) (inside (TextTooLong (length text) limit) r h) refl

-- ---- a rule that is asked of a base, and a call behind it

-- where the rule was not answered, nothing is called
pub change-stop : {C : Type 0} (due : Option Refusal) (stands : State → Type 0) (asks : List Asked → Type 0) (before after other_after : State) (right : C → Type 0) (some others : List ℕ) (e : BaseFault)
    → Changes {A = C} due stands asks before after right some (Err e) → Changes {A = C} due stands asks before other_after right (some ++ others) (Err e)
change-stop due stands asks before after other_after right some others (Refused r) g = record { concludes = g.concludes; asked = at-more asks true some (some ++ others) (among-left some others) g.asked }
change-stop due stands asks before after other_after right some others (Page fault) g = record { concludes = g.concludes; asked = at-more asks true some (some ++ others) (among-left some others) g.asked }
change-stop due stands asks before after other_after right some others Memory g = record { concludes = tt; asked = at-more asks true some (some ++ others) (among-left some others) g.asked }

-- rules that tell, behind terms or values that were looked at
pub looked-told : {A : Type 0} (stands : Type 0) (behind : State → Type 0) (first : List Asked → Type 0) (got : EntityId → ℕ → Type 0) (right : A → Type 0) (stores : List ℕ) (places : List Place) (x : A) (due : Option Refusal) (before : State) (r : Result (Unit {0}) BaseFault)
    → Looks stands first got right stores places (Ok x) → (stands → behind before) → Tells due r → Changes due behind first before before (λ _. ⊤) stores r
looked-told stands behind first got right stores places x due before (Ok y) f h t = record { concludes = (t, tt, h f.answers.1); asked = at-looking first true stores f.asked }
looked-told stands behind first got right stores places x due before (Err (Refused r)) f h t = record { concludes = refuses-own due (behind before) r t.0 t.1 (h f.answers.1); asked = at-looking first true stores f.asked }
looked-told stands behind first got right stores places x due before (Err (Page fault)) f h t = absurd t
looked-told stands behind first got right stores places x due before (Err Memory) f h t = record { concludes = tt; asked = at-looking first true stores f.asked }
