-- Calls that check and then change.
use Rattle.std.proofs.Common.{◌≡◌, ℕ, true, List, [], ◌∷◌, Option, Some, None, Result, Ok, Err, refl, sym, ◌∙◌, ap, subst}
use Rattle.std.specs.Prelude.{◌++◌, map, flat_map, All}
use Rattle.st_page.specs.declared.fault.PageFault.TheVariants as page
use Rattle.st_values.specs.declared.value.EntityId.{EntityId}
use Rattle.st_lattice.specs.declared.stores.StoreKind.TheVariants.{Extent}
use Rattle.st_lattice.specs.Stores.{store, aside}
use Rattle.st_state.specs.declared.refusal.Refusal.{Refusal}
use Rattle.st_state.specs.declared.refusal.Refusal.TheVariants.{UnknownName, WrongType, NullNotAllowed, NotUnique, NoSuchEntity, StillNeeded, NotASet, TextTooLong, NumbersSpent, Aborted, NullEntity, TooManyPages, Full}
use Rattle.st_state.specs.State.{State, next_entity, entity_made}
use Rattle.st_state.specs.Refusals.{first_of}
use Rattle.st_plain.specs.declared.fault.BaseFault.{BaseFault}
use Rattle.st_plain.specs.declared.fault.BaseFault.TheVariants.{Refused, Page, Memory}
use Rattle.st_plain.specs.Base.{Asked, Met, TellsMet, Refuses, behind}
use Rattle.st_terms.specs.Looks.{AreAmong, Looks, Concludes, Changes, Keeps}
use Rattle.st_terms.proofs.Looking.{at-more, at-looking, looks-change, change-then, change-fail}
use Rattle.st_makes.specs.declared.given.Given.{Given}
use Rattle.st_makes.specs.declared.filling.Filling.{Filling}
use Rattle.st_makes.specs.Makes.{rule_of, refused_by, IsMeant, givens_set, AdmitsGivens, givens_stores}

-- a refusal that is due, and is none by pages
pub refuses-due : (due : Option Refusal) (same : Type 0) (r : Refusal) → behind r ≡ None → due ≡ Some r → same → Refuses due same r
refuses-due due same (UnknownName n) b e h = (e, h)
refuses-due due same WrongType b e h = (e, h)
refuses-due due same (NullNotAllowed n) b e h = (e, h)
refuses-due due same (NotUnique n x) b e h = (e, h)
refuses-due due same (NoSuchEntity x) b e h = (e, h)
refuses-due due same (StillNeeded x n) b e h = (e, h)
refuses-due due same (NotASet n) b e h = (e, h)
refuses-due due same (TextTooLong m n) b e h = (e, h)
refuses-due due same (NumbersSpent n) b e h = (e, h)
refuses-due due same Aborted b e h = (e, h)
refuses-due due same NullEntity b e h = (e, h)
refuses-due due same (TooManyPages n) b e h = absurd (no b)
  where
    no : Some (page.TooManyPages n) ≡ None → ⊥
    no k = cc
refuses-due due same (Full n) b e h = absurd (no b)
  where
    no : Some (page.Full n) ≡ None → ⊥
    no k = cc

-- the rules refuse
pub refused-now : {C : Type 0} (stands : State → Type 0) (asks : List Asked → Type 0) (got : EntityId → ℕ → Type 0) (rules due : Option Refusal) (some others : List ℕ) (s after : State) (right : C → Type 0) (x : Option Refusal) (r : Refusal)
    → x ≡ Some r → behind r ≡ None → (rules ≡ Some r → due ≡ Some r) → AreAmong some others → Looks (stands s) asks got (λ o. o ≡ rules) some [] (Ok x) → Changes due stands asks s after right others (Err (Refused r))
refused-now stands asks got rules due some others s after right x r is own turn among f = record {
  concludes = refuses-due due (stands s) r own (turn (sym f.answers.0 ∙ is)) f.answers.1;
  asked = at-more asks true some others among (at-looking asks true some f.asked);
}

pub keeps-refused : {A C : Type 0} (follows : Type 0) (a b : Met) (x : A) (r : Refusal) → behind r ≡ None → Keeps follows a b (Ok x) → Keeps {A = C} follows a b (Err (Refused r))
keeps-refused follows a b x r own h = record { below = h.below; met = subst (λ o. TellsMet a b o) (sym own) h.met; own = tt }

-- the rules don't refuse, and then something is changed
pub checked-then : {C : Type 0} (stands : Type 0) (behind : State → Type 0) (first second whole : List Asked → Type 0) (got : EntityId → ℕ → Type 0) (rules due later : Option Refusal) (some others : List ℕ) (s after : State) (right : C → Type 0)
    (x : Option Refusal) (r : Result C BaseFault)
    → ((f g : List Asked) → first f → second g → whole (f ++ g)) → x ≡ None → (rules ≡ None → due ≡ later)
    → Looks stands first got (λ o. o ≡ rules) some [] (Ok x) → (rules ≡ None → stands → Changes later behind second s after right others r) → Changes due behind whole s after right (some ++ others) r
checked-then stands behind first second whole got rules due later some others s after right x r on is turn f g =
    let none : rules ≡ None = sym f.answers.0 ∙ is in
    looks-change stands behind first second whole got (λ o. o ≡ rules) right some others [] x due s after r on f
    (subst (λ d. Changes d behind second s after right others r) (sym (turn none)) (g none f.answers.1))

-- a new entity, and then what it gets
pub made-then : (s : State) (ty : ℕ) (givens : List Given) (entity : EntityId) (due : Option Refusal) (stands behind : State → Type 0) (first second whole : List Asked → Type 0) (r : Result EntityId BaseFault)
    → ((f g : List Asked) → first f → second g → whole (f ++ g))
    → Changes due stands first s (entity_made s ty) (λ made. made ≡ next_entity s ty) (store Extent ty ∷ []) (Ok entity)
    → ((t : State) → stands t → AdmitsGivens entity givens t → Changes None behind second t (givens_set entity givens t) (λ filled. filled ≡ entity) (givens_stores t.schema entity givens) r)
    → AdmitsGivens (next_entity s ty) givens (entity_made s ty)
    → Changes due behind whole s (givens_set (next_entity s ty) givens (entity_made s ty)) (λ made. made ≡ next_entity s ty) (store Extent ty ∷ [] ++ givens_stores s.schema (next_entity s ty) givens) r
made-then s ty givens entity due stands behind first second whole r on f g admits =
    let e : entity ≡ next_entity s ty = f.concludes.1 in
    change-then stands behind first second whole (λ made. made ≡ next_entity s ty) (λ made. made ≡ next_entity s ty) (store Extent ty ∷ []) (givens_stores s.schema (next_entity s ty) givens) entity due s (entity_made s ty)
    (givens_set (next_entity s ty) givens (entity_made s ty)) r on f
    (subst (λ x. Changes None behind second (entity_made s ty) (givens_set x givens (entity_made s ty)) (λ filled. filled ≡ x) (givens_stores s.schema x givens) r) e
    (g (entity_made s ty) f.concludes.2 (subst (λ x. AdmitsGivens x givens (entity_made s ty)) (sym e) admits)))

-- the rules on what is to be filled, by another name
pub rules-at : (s : State) (filled : Option EntityId) (fs gs : List Filling) → fs ≡ gs → (stands : Type 0) (asks : List Asked → Type 0) (got : EntityId → ℕ → Type 0) (r : Result (Option Refusal) BaseFault)
    → (All (λ (f : Filling). IsMeant s f.attribute f.value) fs → Looks stands asks got (λ o. o ≡ refused_by s filled (map rule_of fs)) (flat_map (λ (f : Filling). aside f.attribute) fs) [] r)
    → All (λ (f : Filling). IsMeant s f.attribute f.value) gs → Looks stands asks got (λ o. o ≡ refused_by s filled (map rule_of gs)) (flat_map (λ (f : Filling). aside f.attribute) gs) [] r
rules-at s filled fs gs e stands asks got r f =
    subst (λ hs. All (λ (f : Filling). IsMeant s f.attribute f.value) hs → Looks stands asks got (λ o. o ≡ refused_by s filled (map rule_of hs)) (flat_map (λ (f : Filling). aside f.attribute) hs) [] r) e f

pub first-some : (rules later : Option Refusal) (r : Refusal) → rules ≡ Some r → first_of (rules ∷ later ∷ []) ≡ Some r
first-some rules later r e = ap (λ o. first_of (o ∷ later ∷ [])) e

pub first-later : (rules later : Option Refusal) → rules ≡ None → first_of (rules ∷ later ∷ []) ≡ later
first-later rules later e = ap (λ o. first_of (o ∷ later ∷ [])) e ∙ by later
  where
    by : (o : Option Refusal) → first_of (o ∷ []) ≡ o
    by None = refl
    by (Some r) = refl

-- something is looked up, and then something is changed by it
pub next-changes : {A C : Type 0} (stands : Type 0) (behind : State → Type 0) (first second whole : List Asked → Type 0) (got : EntityId → ℕ → Type 0)
    (s : State) (due : A → Option Refusal) (after : A → State) (right : A → C → Type 0) (others : A → List ℕ) (Can : A → Type 0) (some : List ℕ) (x u y : A) (r : Result C BaseFault)
    → ((f g : List Asked) → first f → second g → whole (f ++ g)) → u ≡ x → Looks stands first got (λ z. z ≡ y) some [] (Ok x)
    → (stands → Can u → Changes (due u) behind second s (after u) (right u) (others u) r) → Can y → Changes (due y) behind whole s (after y) (right y) (some ++ others y) r
next-changes stands behind first second whole got s due after right others Can some x u y r on same f g can =
    let e : u ≡ y = same ∙ f.answers.0 in
    looks-change stands behind first second whole got (λ z. z ≡ y) (right y) some (others y) [] x (due y) s (after y) r on f
    (subst (λ z. Changes (due z) behind second s (after z) (right z) (others z) r) e (g f.answers.1 (subst Can (sym e) can)))

pub stops-changes : {A C : Type 0} (stands : Type 0) (behind : State → Type 0) (asks : List Asked → Type 0) (got : EntityId → ℕ → Type 0) (right : A → Type 0) (right_then : C → Type 0) (some others : List ℕ) (e : BaseFault) (due : Option Refusal) (before after : State) (r : Result C BaseFault)
    → r ≡ Err e → Looks stands asks got right some [] (Err e) → Changes due behind asks before after right_then (some ++ others) r
stops-changes stands behind asks got right right_then some others e due before after r is f =
    subst (λ x. Changes due behind asks before after right_then (some ++ others) x) (sym is) (change-fail stands behind asks got right right_then some others [] e due before after f)

pub changes-as : {A : Type 0} (due other : Option Refusal) (stands : State → Type 0) (asks : List Asked → Type 0) (before after next : State) (right turned : A → Type 0) (some others : List ℕ) (r : Result A BaseFault)
    → other ≡ due → next ≡ after → ((x : A) → right x → turned x) → AreAmong some others → Changes due stands asks before after right some r → Changes other stands asks before next turned others r
changes-as {A = A} due other stands asks before after next right turned some others r e k f among h =
    subst (λ d. Changes d stands asks before next turned others r) (sym e) (subst (λ z. Changes due stands asks before z turned others r) (sym k) (record { concludes = by r h.concludes; asked = at-more asks true some others among h.asked }))
  where
    by : (r : Result A BaseFault) → Concludes due stands before after right r → Concludes due stands before after turned r
    by (Ok x) m = (m.0, f x m.1, m.2)
    by (Err (Refused refusal)) m = m
    by (Err (Page fault)) m = m
    by (Err Memory) m = m
