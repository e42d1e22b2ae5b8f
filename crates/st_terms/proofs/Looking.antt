-- Calls that only look, one after another.
use Rattle.std.proofs.Common.{◌≡◌, ℕ, Bool, true, false, List, [], Option, Some, None, Result, Ok, Err, refl, sym, ◌∙◌, ap, subst, arith}
use Rattle.std.specs.Prelude.{◌++◌, ◌||◌, All, IsTrue}
use Rattle.std.specs.List.{list_all}
use Rattle.std.proofs.lemmas.Grind.{flat_map-append}
use Rattle.std.proofs.lemmas.List.Elements.{All-append, All-nil}
use Rattle.std.proofs.lemmas.List.Folds.{list_any-append, list_all-append}
use Rattle.st_page.specs.declared.fault.PageFault.{PageFault}
use Rattle.st_values.specs.declared.value.EntityId.{EntityId}
use Rattle.st_values.proofs.Tests.{left, right, both}
use Rattle.st_state.specs.declared.refusal.Refusal.{Refusal}
use Rattle.st_state.specs.declared.refusal.Refusal.TheVariants.{UnknownName, WrongType, NullNotAllowed, NotUnique, NoSuchEntity, StillNeeded, NotASet, TextTooLong, NumbersSpent, Aborted, NullEntity, TooManyPages, Full}
use Rattle.st_state.specs.State.{State}
use Rattle.st_state.specs.Calls.{may_change, call_stores}
use Rattle.st_plain.specs.declared.fault.BaseFault.{BaseFault}
use Rattle.st_plain.specs.declared.fault.BaseFault.TheVariants.{Refused, Page, Memory}
use Rattle.st_plain.specs.Base.{Met, Asked, TellsMet, Reaches, puts, stores_asked, fault_behind}
use Rattle.st_terms.specs.Looks.{AreAmong, AskedAt, Place, Looks, Concludes, Changes, Keeps}

-- ---- numbers among others

pub among-itself : (xs : List ℕ) → AreAmong xs xs
among-itself xs = λ test h. h

pub among-chain : (xs ys zs : List ℕ) → AreAmong xs ys → AreAmong ys zs → AreAmong xs zs
among-chain xs ys zs f g = λ test h. f test (g test h)

pub among-left : (xs ys : List ℕ) → AreAmong xs (xs ++ ys)
among-left xs ys = λ test h. left (list_all test xs) (list_all test ys) (sym (list_all-append test xs ys) ∙ h)

pub among-right : (xs ys : List ℕ) → AreAmong ys (xs ++ ys)
among-right xs ys = λ test h. right (list_all test xs) (list_all test ys) (sym (list_all-append test xs ys) ∙ h)

pub among-both : (xs ys zs : List ℕ) → AreAmong xs zs → AreAmong ys zs → AreAmong (xs ++ ys) zs
among-both xs ys zs f g = λ test h. list_all-append test xs ys ∙ both (list_all test xs) (list_all test ys) (f test h) (g test h)

-- ---- what was asked

pub at-nothing : (asks : List Asked → Type 0) (changes : Bool) (stores : List ℕ) → asks [] → AskedAt asks changes stores
at-nothing asks changes stores h = record { calls = []; asked = h; looks = λ c. refl; within = λ test t. refl }

pub at-more : (asks : List Asked → Type 0) (changes : Bool) (some others : List ℕ) → AreAmong some others → AskedAt asks changes some → AskedAt asks changes others
at-more asks changes some others f h = record { calls = h.calls; asked = h.asked; looks = h.looks; within = among-chain (stores_asked h.calls) some others h.within f }

-- calls that only look are calls that may change something
pub at-looking : (asks : List Asked → Type 0) (changes : Bool) (stores : List ℕ) → AskedAt asks false stores → AskedAt asks changes stores
at-looking asks changes stores h = record { calls = h.calls; asked = h.asked; looks = λ _. h.looks refl; within = h.within }

neither : (a b : Bool) → a ≡ false → b ≡ false → (a || b) ≡ false
neither a b h k = ap (λ z. z || b) h ∙ k

pub at-both : (first second whole : List Asked → Type 0) (changes : Bool) (some others : List ℕ) → ((f g : List Asked) → first f → second g → whole (f ++ g)) → AskedAt first changes some → AskedAt second changes others → AskedAt whole changes (some ++ others)
at-both first second whole changes some others on f g = record {
  calls = f.calls ++ g.calls;
  asked = on f.calls g.calls f.asked g.asked;
  looks = λ c. list_any-append (λ q. may_change q.call) f.calls g.calls ∙ neither (puts f.calls) (puts g.calls) (f.looks c) (g.looks c);
  within =
      λ test h. subst (λ numbers. IsTrue (list_all test numbers)) (sym (flat_map-append (λ q. call_stores q.state.schema q.call) f.calls g.calls))
      (among-both (stores_asked f.calls) (stores_asked g.calls) (some ++ others)
      (among-chain (stores_asked f.calls) some (some ++ others) f.within (among-left some others))
      (among-chain (stores_asked g.calls) others (some ++ others) g.within (among-right some others)) test h);
}

-- ---- what is reached

pub all-map : {X : Type 0} (P Q : X → Type 0) (xs : List X) → ((x : X) → P x → Q x) → All P xs → All Q xs
all-map P Q xs f h = λ k d within. f _ (h k d within)

-- an answer, or a refusal by pages, tells the more
pub reaches-map : {A : Type 0} (P Q : Type 0) (r : Result A BaseFault) → (P → Q) → Reaches P r → Reaches Q r
reaches-map P Q (Ok x) f h = f h
reaches-map P Q (Err (Refused (UnknownName n))) f h = tt
reaches-map P Q (Err (Refused WrongType)) f h = tt
reaches-map P Q (Err (Refused (NullNotAllowed n))) f h = tt
reaches-map P Q (Err (Refused (NotUnique n e))) f h = tt
reaches-map P Q (Err (Refused (NoSuchEntity e))) f h = tt
reaches-map P Q (Err (Refused (StillNeeded e n))) f h = tt
reaches-map P Q (Err (Refused (NotASet n))) f h = tt
reaches-map P Q (Err (Refused (TextTooLong a b))) f h = tt
reaches-map P Q (Err (Refused (NumbersSpent n))) f h = tt
reaches-map P Q (Err (Refused Aborted)) f h = tt
reaches-map P Q (Err (Refused NullEntity)) f h = tt
reaches-map P Q (Err (Refused (TooManyPages n))) f h = f h
reaches-map P Q (Err (Refused (Full n))) f h = f h
reaches-map P Q (Err (Page fault)) f h = tt
reaches-map P Q (Err Memory) f h = tt

-- no place
pub reaches-nothing : {A : Type 0} (P : Place → Type 0) (r : Result A BaseFault) → Reaches (All P []) r
reaches-nothing P (Ok x) = All-nil P
reaches-nothing P (Err (Refused (UnknownName n))) = tt
reaches-nothing P (Err (Refused WrongType)) = tt
reaches-nothing P (Err (Refused (NullNotAllowed n))) = tt
reaches-nothing P (Err (Refused (NotUnique n e))) = tt
reaches-nothing P (Err (Refused (NoSuchEntity e))) = tt
reaches-nothing P (Err (Refused (StillNeeded e n))) = tt
reaches-nothing P (Err (Refused (NotASet n))) = tt
reaches-nothing P (Err (Refused (TextTooLong a b))) = tt
reaches-nothing P (Err (Refused (NumbersSpent n))) = tt
reaches-nothing P (Err (Refused Aborted)) = tt
reaches-nothing P (Err (Refused NullEntity)) = tt
reaches-nothing P (Err (Refused (TooManyPages n))) = All-nil P
reaches-nothing P (Err (Refused (Full n))) = All-nil P
reaches-nothing P (Err (Page fault)) = tt
reaches-nothing P (Err Memory) = tt

-- ---- what calls give

-- calls that only look, behind others that were answered
pub looks-then : {A C : Type 0} (stands behind : Type 0) (first second whole : List Asked → Type 0) (got got_then : EntityId → ℕ → Type 0) (right_first : A → Type 0) (right_then : C → Type 0)
    (some others : List ℕ) (places further : List Place) (x : A) (r : Result C BaseFault)
    → ((f g : List Asked) → first f → second g → whole (f ++ g)) → ((e : EntityId) (n : ℕ) → got e n → got_then e n)
    → Looks stands first got right_first some places (Ok x) → Looks behind second got_then right_then others further r → Looks behind whole got_then right_then (some ++ others) (places ++ further) r
looks-then stands behind first second whole got got_then right_first right_then some others places further x r on stay f g = record {
  answers = g.answers;
  asked = at-both first second whole false some others on f.asked g.asked;
  reached =
      reaches-map (All (λ p. got_then p.entity p.number) further) (All (λ p. got_then p.entity p.number) (places ++ further)) r
      (All-append (λ p. got_then p.entity p.number) places further (all-map (λ p. got p.entity p.number) (λ p. got_then p.entity p.number) places (λ p. stay p.entity p.number) f.reached)) g.reached;
}

-- calls that only look, and one that was not answered, whatever was to come behind
pub looks-fail : {A C : Type 0} (stands behind : Type 0) (asks : List Asked → Type 0) (got : EntityId → ℕ → Type 0) (right : A → Type 0) (right_then : C → Type 0) (some others : List ℕ) (places further : List Place) (e : BaseFault)
    → Looks stands asks got right some places (Err e) → Looks behind asks got right_then (some ++ others) further (Err e)
looks-fail stands behind asks got right right_then some others places further (Refused r) f = absurd f.answers
looks-fail stands behind asks got right right_then some others places further (Page fault) f = record { answers = f.answers; asked = at-more asks false some (some ++ others) (among-left some others) f.asked; reached = tt }
looks-fail stands behind asks got right right_then some others places further Memory f = record { answers = tt; asked = at-more asks false some (some ++ others) (among-left some others) f.asked; reached = tt }

-- at more stores
pub looks-more : {A : Type 0} (stands : Type 0) (asks : List Asked → Type 0) (got : EntityId → ℕ → Type 0) (right : A → Type 0) (some others : List ℕ) (places : List Place) (r : Result A BaseFault)
    → AreAmong some others → Looks stands asks got right some places r → Looks stands asks got right others places r
looks-more stands asks got right some others places r among f = record { answers = f.answers; asked = at-more asks false some others among f.asked; reached = f.reached }

-- without the places
pub no-places : {A : Type 0} (stands : Type 0) (asks : List Asked → Type 0) (got : EntityId → ℕ → Type 0) (right : A → Type 0) (stores : List ℕ) (places : List Place) (r : Result A BaseFault)
    → Looks stands asks got right stores places r → Looks stands asks got right stores [] r
no-places stands asks got right stores places r f = record {
  answers = f.answers;
  asked = f.asked;
  reached = reaches-map (All (λ p. got p.entity p.number) places) (All (λ p. got p.entity p.number) []) r (λ _. All-nil (λ p. got p.entity p.number)) f.reached;
}

-- calls that may change something, behind calls that only look
pub looks-change : {A C : Type 0} (stands : Type 0) (behind : State → Type 0) (first second whole : List Asked → Type 0) (got : EntityId → ℕ → Type 0) (right_first : A → Type 0) (right_then : C → Type 0)
    (some others : List ℕ) (places : List Place) (x : A) (due : Option Refusal) (before after : State) (r : Result C BaseFault)
    → ((f g : List Asked) → first f → second g → whole (f ++ g))
    → Looks stands first got right_first some places (Ok x) → Changes due behind second before after right_then others r → Changes due behind whole before after right_then (some ++ others) r
looks-change stands behind first second whole got right_first right_then some others places x due before after r on f g = record {
  concludes = g.concludes;
  asked = at-both first second whole true some others on (at-looking first true some f.asked) g.asked;
}

-- calls that only look, and one that was not answered, where something was to be changed behind
pub change-fail : {A C : Type 0} (stands : Type 0) (behind : State → Type 0) (asks : List Asked → Type 0) (got : EntityId → ℕ → Type 0) (right : A → Type 0) (right_then : C → Type 0)
    (some others : List ℕ) (places : List Place) (e : BaseFault) (due : Option Refusal) (before after : State)
    → Looks stands asks got right some places (Err e) → Changes due behind asks before after right_then (some ++ others) (Err e)
change-fail stands behind asks got right right_then some others places (Refused r) due before after f = absurd f.answers
change-fail stands behind asks got right right_then some others places (Page fault) due before after f = record { concludes = f.answers; asked = at-more asks true some (some ++ others) (among-left some others) (at-looking asks true some f.asked) }
change-fail stands behind asks got right right_then some others places Memory due before after f = record { concludes = tt; asked = at-more asks true some (some ++ others) (among-left some others) (at-looking asks true some f.asked) }

-- calls that may change something, behind others that were answered: nothing is due any more
pub change-then : {A C : Type 0} (stands behind : State → Type 0) (first second whole : List Asked → Type 0) (right_first : A → Type 0) (right_then : C → Type 0)
    (some others : List ℕ) (x : A) (due : Option Refusal) (before between after : State) (r : Result C BaseFault)
    → ((f g : List Asked) → first f → second g → whole (f ++ g))
    → Changes due stands first before between right_first some (Ok x) → Changes None behind second between after right_then others r → Changes due behind whole before after right_then (some ++ others) r
change-then {C = C} stands behind first second whole right_first right_then some others x due before between after r on f g = record {
  concludes = by r g.concludes;
  asked = at-both first second whole true some others on f.asked g.asked;
}
  where
    never : {B : Type 0} (refusal : Refusal) → None ≡ Some refusal → B
    never refusal e = absurd (nothing e)
      where
        nothing : None ≡ Some refusal → ⊥
        nothing k = cc

    by : (r : Result C BaseFault) → Concludes None behind between after right_then r → Concludes due behind before after right_then r
    by (Ok y) h = (f.concludes.0, h.1, h.2)
    by (Err (Refused (UnknownName n))) h = never _ h.0
    by (Err (Refused WrongType)) h = never _ h.0
    by (Err (Refused (NullNotAllowed n))) h = never _ h.0
    by (Err (Refused (NotUnique n e))) h = never _ h.0
    by (Err (Refused (NoSuchEntity e))) h = never _ h.0
    by (Err (Refused (StillNeeded e n))) h = never _ h.0
    by (Err (Refused (NotASet n))) h = never _ h.0
    by (Err (Refused (TextTooLong a b))) h = never _ h.0
    by (Err (Refused (NumbersSpent n))) h = never _ h.0
    by (Err (Refused Aborted)) h = never _ h.0
    by (Err (Refused NullEntity)) h = never _ h.0
    by (Err (Refused (TooManyPages n))) h = f.concludes.0
    by (Err (Refused (Full n))) h = f.concludes.0
    by (Err (Page fault)) h = h
    by (Err Memory) h = tt

-- ---- what calls keep

told-then : (a b c : Met) (told : Option PageFault) → TellsMet a b None → TellsMet b c told → TellsMet a c told
told-then a b c told f g = record {
  never_falls = omega (arith, f.never_falls, g.never_falls);
  is_last = λ fault e. let last = g.is_last fault e in (last.0, λ h. omega (arith, f.never_falls, last.1 h));
}

pub keeps-then : {A C : Type 0} (first second whole : Type 0) (a b c : Met) (x : A) (r : Result C BaseFault)
    → (first → second → whole) → Keeps first a b (Ok x) → Keeps second b c r → Keeps whole a c r
keeps-then first second whole a b c x r on f g = record {
  below = on f.below g.below;
  met = told-then a b c (fault_behind r) f.met g.met;
  own = g.own;
}

pub keeps-fail : {A C : Type 0} (follows : Type 0) (a b : Met) (e : BaseFault) → Keeps {A = A} follows a b (Err e) → Keeps {A = C} follows a b (Err e)
keeps-fail follows a b (Refused r) h = record { below = h.below; met = h.met; own = tt }
keeps-fail follows a b (Page fault) h = record { below = h.below; met = h.met; own = h.own }
keeps-fail follows a b Memory h = record { below = h.below; met = h.met; own = tt }

-- whatever was answered
pub keeps-as : {A C : Type 0} (follows : Type 0) (a b : Met) (x : A) (y : C) → Keeps follows a b (Ok x) → Keeps follows a b (Ok y)
keeps-as follows a b x y h = record { below = h.below; met = h.met; own = tt }
