-- Calls that only look, one after another at the same stores, as a loop makes them.
use Rattle.std.proofs.Common.{◌≡◌, ℕ, ◌<◌, ◌+◌, Bool, true, false, List, [], ◌∷◌, Result, Ok, Err, refl, sym, ◌∙◌, ap, subst, length, get_or, take, map, arith, zero, suc}
use Rattle.std.specs.Prelude.{◌++◌, All, flat_map}
use Rattle.std.specs.List.{list_all}
use Rattle.std.proofs.lemmas.List.{take_more, map-append}
use Rattle.std.proofs.lemmas.List.Elements.{All-nil}
use Rattle.std.proofs.lemmas.List.Folds.{list_all_at, list_all-append}
use Rattle.st_values.proofs.Tests.{both}
use Rattle.st_values.specs.declared.value.EntityId.{EntityId}
use Rattle.st_lattice.specs.Outline.{Outline}
use Rattle.st_plain.specs.declared.fault.BaseFault.{BaseFault}
use Rattle.st_plain.specs.declared.fault.BaseFault.TheVariants.{Refused, Page, Memory}
use Rattle.st_plain.specs.Base.{Met, Asked}
use Rattle.st_terms.specs.Looks.{AreAmong, AskedAt, Looks, Keeps}
use Rattle.st_terms.proofs.Loops.{item-holds}
use Rattle.st_terms.proofs.Looking.{among-itself, among-chain, among-left, among-right, among-both, at-both, at-more, keeps-then}

-- ---- what calls give

-- the fault that a call passes on
at-error : {D : Type 0} (P : Result D BaseFault → Type 0) (r : Result D BaseFault) (e : BaseFault) → (y : BaseFault) × (r ≡ Err y) × (y ≡ e) → P (Err e) → P r
at-error P r e told p = subst P (sym (told.1 ∙ ap (λ (y : BaseFault). Err y) told.2)) p

module _ (stands behind : Type 0) (first second whole : List Asked → Type 0) (got got_then : EntityId → ℕ → Type 0) (some stores : List ℕ)
    (on : (f g : List Asked) → first f → second g → whole (f ++ g)) (among : AreAmong some stores) where
  asked : AskedAt first false stores → AskedAt second false some → AskedAt whole false stores
  asked f g =
      at-more whole false (stores ++ some) stores (among-both stores some stores (among-itself stores) among)
      (at-both first second whole false stores some on f g)

  -- one more that was answered
  pub looks-step : {A C D : Type 0} (right : A → Type 0) (right_then : C → Type 0) (right_all : D → Type 0) (x : A) (y : C) (z : D)
      → Looks stands first got right stores [] (Ok x) → Looks behind second got_then right_then some [] (Ok y)
      → (right x → right_then y → right_all z) → Looks behind whole got_then right_all stores [] (Ok z)
  looks-step right right_then right_all x y z f g h = record {
    answers = (h f.answers.0 g.answers.0, g.answers.1);
    asked = asked f.asked g.asked;
    reached = All-nil (λ p. got_then p.entity p.number);
  }

  -- one more that was not
  pub looks-stop : {A C D : Type 0} (right : A → Type 0) (right_then : C → Type 0) (right_all : D → Type 0) (x : A) (e : BaseFault) (r : Result D BaseFault) → (y : BaseFault) × (r ≡ Err y) × (y ≡ e)
      → Looks stands first got right stores [] (Ok x) → Looks {A = C} behind second got_then right_then some [] (Err e)
      → Looks behind whole got_then right_all stores [] r
  looks-stop {C = C} {D = D} right right_then right_all x e r told f g = at-error (Looks behind whole got_then right_all stores []) r e told (by e g)
    where
      by : (e : BaseFault) → Looks {A = C} behind second got_then right_then some [] (Err e) → Looks {A = D} behind whole got_then right_all stores [] (Err e)
      by (Refused refusal) g = absurd g.answers
      by (Page fault) g = record { answers = g.answers; asked = asked f.asked g.asked; reached = tt }
      by Memory g = record { answers = tt; asked = asked f.asked g.asked; reached = tt }

  -- one more that was answered, and then no memory
  pub looks-spent : {A C D : Type 0} (right : A → Type 0) (right_then : C → Type 0) (right_all : D → Type 0) (x : A) (y : C) (r : Result D BaseFault) → (z : BaseFault) × (r ≡ Err z) × (z ≡ Memory)
      → Looks stands first got right stores [] (Ok x) → Looks behind second got_then right_then some [] (Ok y)
      → Looks behind whole got_then right_all stores [] r
  looks-spent right right_then right_all x y r told f g =
      at-error (Looks behind whole got_then right_all stores []) r Memory told (record { answers = tt; asked = asked f.asked g.asked; reached = tt })

-- a call that was not answered, and nothing behind it
pub looks-handed : {C D : Type 0} (stands : Type 0) (asks : List Asked → Type 0) (got : EntityId → ℕ → Type 0) (stores : List ℕ) (right : C → Type 0) (right_all : D → Type 0) (e : BaseFault) (r : Result D BaseFault) → (y : BaseFault) × (r ≡ Err y) × (y ≡ e)
    → Looks {A = C} stands asks got right stores [] (Err e) → Looks stands asks got right_all stores [] r
looks-handed {C = C} {D = D} stands asks got stores right right_all e r told f = at-error (Looks stands asks got right_all stores []) r e told (by e f)
  where
    by : (e : BaseFault) → Looks {A = C} stands asks got right stores [] (Err e) → Looks {A = D} stands asks got right_all stores [] (Err e)
    by (Refused refusal) f = absurd f.answers
    by (Page fault) f = record { answers = f.answers; asked = f.asked; reached = tt }
    by Memory f = record { answers = tt; asked = f.asked; reached = tt }

-- a call that was answered, and then no memory
pub looks-lost : {C D : Type 0} (stands : Type 0) (asks : List Asked → Type 0) (got : EntityId → ℕ → Type 0) (stores : List ℕ) (right : C → Type 0) (right_all : D → Type 0) (x : C) (r : Result D BaseFault) → (z : BaseFault) × (r ≡ Err z) × (z ≡ Memory)
    → Looks stands asks got right stores [] (Ok x) → Looks stands asks got right_all stores [] r
looks-lost stands asks got stores right right_all x r told f = at-error (Looks stands asks got right_all stores []) r Memory told (record { answers = tt; asked = f.asked; reached = tt })

-- ---- what calls keep

pub keeps-step : {A C D : Type 0} (first second whole : Type 0) (a b c : Met) (x : A) (y : C) (z : D)
    → (first → second → whole) → Keeps first a b (Ok x) → Keeps second b c (Ok y) → Keeps whole a c (Ok z)
keeps-step first second whole a b c x y z on f g =
    let both = keeps-then first second whole a b c x (Ok y) on f g in
    record { below = both.below; met = record { never_falls = both.met.never_falls; is_last = both.met.is_last }; own = tt }

-- ---- one of several

-- what an element has, all have together
among-at : {X : Type 0} (f : X → List ℕ) (xs : List X) (i : ℕ) (d : X) → i < length xs → AreAmong (f (get_or xs i d)) (flat_map f xs)
among-at f [] i d h = absurd (omega (arith, h))
among-at f (x ∷ xs) zero d h = among-left (f x) (flat_map f xs)
among-at f (x ∷ xs) (suc i) d h = among-chain (f (get_or xs i d)) (flat_map f xs) (f x ++ flat_map f xs) (among-at f xs i d (omega (arith, h))) (among-right (f x) (flat_map f xs))

-- the element that a loop is at
pub among-item : {X : Type 0} (f : X → List ℕ) (xs : List X) (i : ℕ) (x : X) → i < length xs → x ≡ get_or xs i x → AreAmong (f x) (flat_map f xs)
among-item f xs i x h e = subst (λ y. AreAmong (f y) (flat_map f xs)) (sym e) (among-at f xs i x h)

-- what is of a schema is of the same schema behind some calls
pub all-item-of : {X : Type 0} (P : Outline → X → Type 0) (old new : Outline) (xs : List X) (i : ℕ) (x : X) → new ≡ old → i < length xs → x ≡ get_or xs i x → All (P old) xs → P new x
all-item-of P old new xs i x same h e all = subst (λ o. P o x) (sym same) (item-holds (P old) xs i x h e all)

pub all-of : {X : Type 0} (P : Outline → X → Type 0) (old new : Outline) (xs : List X) → new ≡ old → All (P old) xs → All (P new) xs
all-of P old new xs same all = subst (λ o. All (P o) xs) (sym same) all

-- ---- one element more

pub all-but-here : {X : Type 0} (p : X → Bool) (xs : List X) (i : ℕ) (x : X) (b : Bool) → i < length xs → x ≡ get_or xs i x → b ≡ p x → b ≡ false → false ≡ list_all p xs
all-but-here p xs i x b h e is fails = sym (list_all_at p xs i x h (sym (ap p e) ∙ sym is ∙ fails))

pub all-so-far : {X : Type 0} (p : X → Bool) (xs : List X) (i : ℕ) (x : X) (b : Bool) → i < length xs → x ≡ get_or xs i x → b ≡ true → true ≡ list_all p (take i xs) → b ≡ p x
    → true ≡ list_all p (take (i + 1) xs)
all-so-far p xs i x b h e true_here sofar is =
    sym (ap (list_all p) (take_more xs i x h) ∙ list_all-append p (take i xs) (get_or xs i x ∷ [])
    ∙ both (list_all p (take i xs)) (list_all p (get_or xs i x ∷ [])) (sym sofar) (both (p (get_or xs i x)) true (sym (ap p e) ∙ sym is ∙ true_here) refl))

pub mapped-more : {X Y : Type 0} (f : X → Y) (xs : List X) (i : ℕ) (x : X) (y : Y) (ys new : List Y) → i < length xs → x ≡ get_or xs i x → new ≡ ys ++ y ∷ []
    → ys ≡ map f (take i xs) → y ≡ f x → new ≡ map f (take (i + 1) xs)
mapped-more f xs i x y ys new h e is sofar k =
    is ∙ ap (λ zs. zs ++ y ∷ []) sofar ∙ ap (λ z. map f (take i xs) ++ z ∷ []) (k ∙ ap f e)
    ∙ sym (ap (map f) (take_more xs i x h) ∙ map-append f (take i xs) (get_or xs i x ∷ []))
