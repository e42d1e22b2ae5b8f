-- Calls that only look, for one after another of a list.
use Rattle.std.proofs.Common.{◌≡◌, ℕ, false, ◌+◌, ◌<◌, List, [], ◌∷◌, Result, Ok, Err, length, take, drop, get_or, sym, ◌∙◌, ap, subst}
use Rattle.std.specs.Prelude.{◌++◌, flat_map, All}
use Rattle.std.proofs.lemmas.List.{take-append-drop, take_more, drop_more, append-nil}
use Rattle.std.proofs.lemmas.List.Elements.{All-nil}
use Rattle.std.proofs.lemmas.Grind.{flat_map-append}
use Rattle.st_values.specs.declared.value.EntityId.{EntityId}
use Rattle.st_lattice.specs.Lattice.{attribute_of}
use Rattle.st_query.specs.declared.statement.Cell.{Cell}
use Rattle.st_query.specs.declared.term.Variable.{Variable}
use Rattle.st_state.specs.State.{State}
use Rattle.st_meaning.specs.Terms.{term_value}
use Rattle.st_plain.specs.declared.fault.BaseFault.{BaseFault}
use Rattle.st_plain.specs.declared.fault.BaseFault.TheVariants.{Refused, Page, Memory}
use Rattle.st_plain.specs.Base.{Asked, Met}
use Rattle.st_terms.specs.Looks.{AreAmong, Place, Looks, Keeps}
use Rattle.st_terms.specs.Routes.{term_stores}
use Rattle.st_terms.proofs.Looking.{among-itself, among-left, at-more}
use Rattle.st_makes.specs.declared.given.Given.{Given}
use Rattle.st_makes.specs.Makes.{given_by, givens_of}
use Rattle.st_makes.proofs.Turns.{looks-as, looks-next}

-- ---- a list up to an item, and with it

pub take-next : {X : Type 0} (xs : List X) (i : ℕ) (x : X) → i < length xs → x ≡ get_or xs i x → take (i + 1) xs ≡ take i xs ++ x ∷ []
take-next xs i x h e = take_more xs i x h ∙ ap (λ y. take i xs ++ y ∷ []) (sym e)

pub drop-next : {X : Type 0} (xs : List X) (i : ℕ) (x : X) → i < length xs → x ≡ get_or xs i x → drop i xs ≡ x ∷ drop (i + 1) xs
drop-next xs i x h e = drop_more xs i x h ∙ ap (λ y. y ∷ drop (i + 1) xs) (sym e)

pub item-has : {X : Type 0} (P : X → Type 0) (xs : List X) (i : ℕ) (x : X) → i < length xs → x ≡ get_or xs i x → All P xs → P x
item-has P xs i x h e all = subst P (sym e) (all i x h)

pub flat-next : {X Y : Type 0} (f : X → List Y) (xs : List X) (x : X) → flat_map f (xs ++ x ∷ []) ≡ flat_map f xs ++ f x
flat-next f xs x = flat_map-append f xs (x ∷ []) ∙ ap (λ ys. flat_map f xs ++ ys) (append-nil (f x))

pub front-among : {X : Type 0} (f : X → List ℕ) (xs : List X) (i : ℕ) → AreAmong (flat_map f (take i xs)) (flat_map f xs)
front-among f xs i =
    subst (λ ys. AreAmong (flat_map f (take i xs)) ys) (sym (flat_map-append f (take i xs) (drop i xs)) ∙ ap (flat_map f) (take-append-drop i xs))
    (among-left (flat_map f (take i xs)) (flat_map f (drop i xs)))

-- ---- answers of another kind

pub looks-err : {A C : Type 0} (stands behind : Type 0) (asks : List Asked → Type 0) (got : EntityId → ℕ → Type 0) (right : A → Type 0) (other : C → Type 0) (some others : List ℕ) (places : List Place) (e : BaseFault) (r : Result C BaseFault)
    → r ≡ Err e → AreAmong some others → Looks stands asks got right some places (Err e) → Looks behind asks got other others places r
looks-err {C = C} stands behind asks got right other some others places e r is among f = subst (λ r. Looks behind asks got other others places r) (sym is) (by e f)
  where
    by : (e : BaseFault) → Looks stands asks got right some places (Err e) → Looks {A = C} behind asks got other others places (Err e)
    by (Refused refusal) g = absurd g.answers
    by (Page fault) g = record { answers = g.answers; asked = at-more asks false some others among g.asked; reached = tt }
    by Memory g = record { answers = tt; asked = at-more asks false some others among g.asked; reached = tt }

pub looks-ok : {A C : Type 0} (stands : Type 0) (asks : List Asked → Type 0) (got : EntityId → ℕ → Type 0) (right : A → Type 0) (other : C → Type 0) (some others : List ℕ) (x : A) (y : C)
    → (right x → other y) → AreAmong some others → Looks stands asks got right some [] (Ok x) → Looks stands asks got other others [] (Ok y)
looks-ok stands asks got right other some others x y f among g =
    record { answers = (f g.answers.0, g.answers.1); asked = at-more asks false some others among g.asked; reached = All-nil (λ p. got p.entity p.number) }

-- ---- what cells give

module _ (s : State) (variables : List Variable) (ty : ℕ) where
  abbrev pub stores : Cell → List ℕ
  stores c = term_stores s.schema variables c.value

  abbrev pub gives : Cell → List Given
  gives c = given_by (attribute_of s.schema ty c.name) (term_value s variables c.value)

  -- one cell more
  pub give-next : {A : Type 0} (done : List Cell) (cell : Cell) (before now : List Given) (r : Result A BaseFault) (stands behind : Type 0) (first second whole : List Asked → Type 0) (got got_then : EntityId → ℕ → Type 0)
      → ((f g : List Asked) → first f → second g → whole (f ++ g)) → ((e : EntityId) (n : ℕ) → got e n → got_then e n)
      → Looks stands first got (λ givens. givens ≡ givens_of s variables ty done) (flat_map stores done) [] (Ok before)
      → (stands → Looks behind second got_then (λ _. now ≡ before ++ gives cell) (stores cell) [] r)
      → Looks behind whole got_then (λ _. now ≡ givens_of s variables ty (done ++ cell ∷ [])) (flat_map stores done ++ stores cell) [] r
  give-next done cell before now r stands behind first second whole got got_then on stay f g =
      let e : before ≡ givens_of s variables ty done = f.answers.0 in
      looks-next stands behind first second whole got got_then (λ givens. givens ≡ givens_of s variables ty done) (λ _. now ≡ givens_of s variables ty (done ++ cell ∷ [])) (flat_map stores done) (stores cell) [] before r on stay f
      (looks-as behind second got_then (λ _. now ≡ before ++ gives cell) (λ _. now ≡ givens_of s variables ty (done ++ cell ∷ [])) (stores cell) (stores cell) [] r
      (λ _ k. k ∙ ap (λ gs. gs ++ gives cell) e ∙ sym (flat-next gives done cell)) (among-itself (stores cell)) (g f.answers.1))

-- ---- within the whole list

pub upto-among : {X : Type 0} (f : X → List ℕ) (xs : List X) (i : ℕ) (x : X) → i < length xs → x ≡ get_or xs i x → AreAmong (flat_map f (take i xs) ++ f x) (flat_map f xs)
upto-among f xs i x h e =
    subst (λ ys. AreAmong ys (flat_map f xs)) (ap (flat_map f) (take-next xs i x h e) ∙ flat-next f (take i xs) x) (front-among f xs (i + 1))

pub next-among : {X : Type 0} (f : X → List ℕ) (xs : List X) (i : ℕ) (x : X) → i < length xs → x ≡ get_or xs i x → AreAmong (flat_map f (take i xs) ++ f x) (flat_map f (take (i + 1) xs))
next-among f xs i x h e =
    subst (λ ys. AreAmong (flat_map f (take i xs) ++ f x) ys) (sym (ap (flat_map f) (take-next xs i x h e) ∙ flat-next f (take i xs) x)) (among-itself (flat_map f (take i xs) ++ f x))

pub keeps-ok : {A C : Type 0} (follows : Type 0) (a b : Met) (x : A) (y : C) → Keeps follows a b (Ok x) → Keeps follows a b (Ok y)
keeps-ok follows a b x y h = record { below = h.below; met = h.met; own = tt }
