-- The first of some entities that is not live, looked for one after the other.
use Rattle.std.proofs.Common.{◌≡◌, ℕ, ◌+◌, ◌<◌, Bool, true, false, List, [], ◌∷◌, Some, None, Ok, Err, refl, sym, ◌∙◌, ap, subst, arith, length, take, get_or}
use Rattle.std.specs.Prelude.{◌++◌, zero, suc, cond, not, find, flat_map}
use Rattle.std.proofs.lemmas.List.Elements.{All-nil}
use Rattle.st_values.specs.declared.value.EntityId.{EntityId}
use Rattle.st_values.proofs.Tests.{either}
use Rattle.st_lattice.specs.declared.stores.StoreKind.TheVariants.{Extent}
use Rattle.st_lattice.specs.Stores.{store}
use Rattle.st_state.specs.State.{State, is_live}
use Rattle.st_plain.specs.declared.fault.BaseFault.{BaseFault}
use Rattle.st_plain.specs.Base.{Asked}
use Rattle.st_terms.specs.Looks.{Place, Looks}
use Rattle.st_terms.proofs.Looking.{at-more, no-places}
use Rattle.st_terms.proofs.Loops.{taken, front-among, loop-next, loop-fail}
use Rattle.st_running.specs.Named.{extents_of}

-- an answer that is used for what it says alone
as-said : {A : Type 0} (stands : Type 0) (asks : List Asked → Type 0) (got : EntityId → ℕ → Type 0) (right : A → Type 0) (stores : List ℕ) (places : List Place) (x : A)
    → Looks stands asks got right stores places (Ok x) → Looks stands asks got (λ (_ : Unit {0}). right x) stores places (Ok tt)
as-said stands asks got right stores places x f = record { answers = f.answers; asked = f.asked; reached = f.reached }

abbrev pub gone : State → EntityId → Bool
gone s e = not (is_live s e)

find-over : {X : Type 0} (p : X → Bool) (xs ys : List X) → find p xs ≡ None → find p (xs ++ ys) ≡ find p ys
find-over p [] ys h = refl
find-over p (x ∷ xs) ys h =
    either (p x) (λ b. cond b (Some x) (find p xs) ≡ None → cond b (Some x) (find p (xs ++ ys)) ≡ find p ys)
    (λ _ k. absurd (some-none k)) (λ _ k. find-over p xs ys k) h
  where
    some-none : Some x ≡ None → ⊥
    some-none e = cc

find-here : {X : Type 0} (p : X → Bool) (xs : List X) (i : ℕ) (x : X) → i < length xs → x ≡ get_or xs i x → find p (take i xs) ≡ None → p x ≡ true → find p xs ≡ Some x
find-here p [] i x h e f k = absurd (omega (arith, h))
find-here p (y ∷ ys) zero x h e f k = subst (λ z. cond (p z) (Some z) (find p ys) ≡ Some x) e (ap (λ b. cond b (Some x) (find p ys)) k)
find-here p (y ∷ ys) (suc i) x h e f k =
    either (p y) (λ b. cond b (Some y) (find p (take i ys)) ≡ None → cond b (Some y) (find p ys) ≡ Some x)
    (λ _ m. absurd (some-none m)) (λ _ m. find-here p ys i x (omega (arith, h)) e m k) f
  where
    some-none : Some y ≡ None → ⊥
    some-none e = cc

module _ (s : State) (xs : List EntityId) (i : ℕ) (x : EntityId) (within : i < length xs) (is : x ≡ get_or xs i x)
    (stands behind : Type 0) (first second whole : List Asked → Type 0) (got got_then : EntityId → ℕ → Type 0)
    (on : (f g : List Asked) → first f → second g → whole (f ++ g)) (stay : (e : EntityId) (n : ℕ) → got e n → got_then e n)
    (before : Looks stands first got (λ (_ : Unit {0}). find (gone s) (take i xs) ≡ None) (flat_map (λ (e : EntityId). store Extent e.ty ∷ []) (take i xs)) (flat_map (λ (e : EntityId). []) (take i xs)) (Ok tt)) where
  -- an entity that is live
  pub dead-next : (live : Bool) → live ≡ true → Looks behind second got_then (λ l. l ≡ is_live s x) (store Extent x.ty ∷ []) [] (Ok live)
      → Looks behind whole got_then (λ (_ : Unit {0}). find (gone s) (take (i + 1) xs) ≡ None) (flat_map (λ (e : EntityId). store Extent e.ty ∷ []) (take (i + 1) xs)) (flat_map (λ (e : EntityId). []) (take (i + 1) xs)) (Ok tt)
  dead-next live h f =
      loop-next xs i x within is (λ e. store Extent e.ty ∷ []) (λ e. []) stands behind first second whole got got_then (λ _. find (gone s) (take i xs) ≡ None) (λ _. live ≡ is_live s x) (λ _. find (gone s) (take (i + 1) xs) ≡ None) on stay
      (λ none answer. ap (find (gone s)) (taken xs i x within is) ∙ find-over (gone s) (take i xs) (x ∷ []) none ∙ ap (λ b. cond (not b) (Some x) None) (sym answer ∙ h))
      before (as-said behind second got_then (λ l. l ≡ is_live s x) (store Extent x.ty ∷ []) [] live f)

  -- the first one that is not
  pub dead-found : (live : Bool) → live ≡ false → Looks behind second got_then (λ l. l ≡ is_live s x) (store Extent x.ty ∷ []) [] (Ok live)
      → Looks behind whole got_then (λ dead. dead ≡ find (gone s) xs) (extents_of xs) [] (Ok (Some x))
  dead-found live h f =
      let g = loop-next xs i x within is (λ e. store Extent e.ty ∷ []) (λ e. []) stands behind first second whole got got_then (λ _. find (gone s) (take i xs) ≡ None) (λ _. live ≡ is_live s x) (λ _. find (gone s) xs ≡ Some x) on stay
      (λ none answer. find-here (gone s) xs i x within is none (ap not (sym answer ∙ h)))
      before (as-said behind second got_then (λ l. l ≡ is_live s x) (store Extent x.ty ∷ []) [] live f) in
      record {
        answers = (sym g.answers.0, g.answers.1);
        asked = at-more whole false (flat_map (λ (e : EntityId). store Extent e.ty ∷ []) (take (i + 1) xs)) (extents_of xs) (front-among (λ e. store Extent e.ty ∷ []) xs (i + 1)) g.asked;
        reached = All-nil (λ p. got_then p.entity p.number);
      }

  -- one of which nothing was answered
  pub dead-failed : (e : BaseFault) → Looks behind second got_then (λ l. l ≡ is_live s x) (store Extent x.ty ∷ []) [] (Err e)
      → Looks behind whole got_then (λ dead. dead ≡ find (gone s) xs) (extents_of xs) [] (Err e)
  dead-failed e f =
      no-places behind whole got_then (λ dead. dead ≡ find (gone s) xs) (extents_of xs) (flat_map (λ (e : EntityId). []) xs) (Err e)
      (loop-fail xs i x within is (λ e. store Extent e.ty ∷ []) (λ e. []) stands behind first second whole got got_then (λ _. find (gone s) (take i xs) ≡ None) (λ l. l ≡ is_live s x) (λ dead. dead ≡ find (gone s) xs) e on stay before f)
