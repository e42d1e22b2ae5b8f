-- Calls that look before they change, and refuse by rule 4 where they find another holder of a value.
use Rattle.std.proofs.Common.{◌≡◌, ℕ, ◌+◌, ◌*◌, ◌≤◌, ◌==◌, ◌||◌, Bool, true, false, List, [], ◌∷◌, ◌++◌, Option, Some, None, Result, Ok, Err, IsTrue, refl, sym, ap, ◌∙◌, subst, arith, true≢false, if◌then◌else◌}
use Rattle.std.specs.Prelude.{◌&&◌, not, find, IsSome}
use Rattle.std.specs.List.{All}
use Rattle.st_keys.specs.Keys.{IsEntity}
use Rattle.st_lattice.specs.Lattice.{isa}
use Rattle.st_state.proofs.Changed.{number-is}
use Rattle.st_state.proofs.Members.{find-passes}
use Rattle.st_standing.proofs.OfKind.{live-entity}
use Rattle.std.proofs.lemmas.List.Folds.{list_any-append}
use Rattle.st_page.specs.declared.fault.PageFault.{PageFault}
use Rattle.st_values.specs.declared.value.EntityId.{EntityId}
use Rattle.st_values.specs.declared.value.Value.{Value}
use Rattle.st_values.proofs.Tests.{either, left, not-true, one-of, other-of, right}
use Rattle.st_lattice.specs.declared.attribute.Attribute.{Attribute}
use Rattle.st_lattice.specs.Outline.{Outline, attribute, attribute_name}
use Rattle.st_pages.specs.declared.places.Place.{Place}
use Rattle.st_pages.specs.Attempt.{Array, Attempt, over}
use Rattle.st_pages.specs.Calls.{is_of_looking}
use Rattle.st_pages.specs.Reading.{OfDamage}
use Rattle.st_pages.proofs.Carried.{Stays}
use Rattle.st_state.specs.declared.refusal.Refusal.{Refusal}
use Rattle.st_state.specs.State.{State, turned}
use Rattle.st_state.specs.Bases.{is_other, shared_with}
use Rattle.st_state.specs.Calls.{Admits, Call, CanBe, after, call_stores, due, shared_at, stores_by, Set as SetCall}
use Rattle.st_lattice.specs.declared.stores.StoreKind.TheVariants.{Extent}
use Rattle.st_lattice.specs.Stores.{aside, passes, store}
use Rattle.st_lookups.specs.Looks.{Finds}
use Rattle.st_page.specs.declared.fault.PageFault.TheVariants.{BadPage, Conflict, DiskFault, Closed, Memory}
use Rattle.st_page.specs.declared.fault.PageFault.TheVariants as page
use Rattle.st_pages.specs.Calls as pages
use Rattle.st_state.specs.declared.refusal.Refusal.TheVariants.{UnknownName, WrongType, NullNotAllowed, NotUnique, NoSuchEntity, StillNeeded, NotASet, TextTooLong, NumbersSpent, Aborted, NullEntity, TooManyPages, Full}
use Rattle.st_plain.specs.declared.fault.BaseFault.TheVariants.{Refused}
use Rattle.st_plain.specs.Base.{Gives}
use Rattle.st_state.specs.Rows.{rows_added, rows_changed}
use Rattle.st_store.specs.Stores.{among}
use Rattle.st_index.proofs.Called.{PageLaws}
use Rattle.st_database.specs.Touches.{Touches}
use Rattle.st_database.proofs.Touching.{AreAmong, touches-more, touches-then}
use Rattle.st_standing.specs.Standing.{NearlyStandsAt}
use Rattle.st_edits.specs.Edits.{Alters, Behaves, IsUnanswered, told}
use Rattle.st_edits.specs.Steps.{IsSettled, IsShared, Turns}
use Rattle.st_edits.specs.Values.{IsFreeFor, IsToBeSet}

-- stores in front of others that they are among
among-both : (stores others : List ℕ) → AreAmong stores others → AreAmong (stores ++ others) others
among-both stores others more t h =
    either (among stores t) (λ _. IsTrue (among others t)) (λ k. more t k)
    (λ k. other-of (among stores t) (among others t) (sym (list_any-append (λ s. s == t) stores others) ∙ h) k)

module _ {Self : Type 0} (attempt : Self → Attempt) (follows : Self → Self → Type 0) (asked : Self → Self → (ℕ → Bool) → (ℕ → Bool) → ℕ → Type 0) (page_laws : PageLaws attempt follows asked)
    (array : Array) (s : State) (call : Call) (stores : List ℕ) (some : AreAmong stores (call_stores s.schema call)) where
  -- what a look in front of a call adds to what it touches
  pub touches-later : (x y z : Self) → follows x y → follows y z → Touches (asked x y) (attempt x) (attempt y) array stores false 0 0
      → Touches (asked y z) (attempt y) (attempt z) array (call_stores s.schema call) true (17 * rows_added s (after s call)) (34 * rows_changed s (after s call))
      → Touches (asked x z) (attempt x) (attempt z) array (call_stores s.schema call) true (17 * rows_added s (after s call)) (34 * rows_changed s (after s call))
  touches-later x y z xy yz first second =
      touches-more attempt follows asked page_laws x z array (stores ++ call_stores s.schema call) (call_stores s.schema call) true true (0 + 17 * rows_added s (after s call)) (17 * rows_added s (after s call)) (0 + 34 * rows_changed s (after s call)) (34 * rows_changed s (after s call))
      (among-both stores (call_stores s.schema call) some) (λ h. h) (omega arith) (omega arith)
      (touches-then attempt follows asked page_laws x y z xy yz array stores (call_stores s.schema call) false true 0 (17 * rows_added s (after s call)) 0 (34 * rows_changed s (after s call)) first second)

  -- a look alone
  pub touches-look : (x y : Self) → Touches (asked x y) (attempt x) (attempt y) array stores false 0 0
      → Touches (asked x y) (attempt x) (attempt y) array (call_stores s.schema call) true (17 * rows_added s (after s call)) (34 * rows_changed s (after s call))
  touches-look x y first =
      touches-more attempt follows asked page_laws x y array stores (call_stores s.schema call) false true 0 (17 * rows_added s (after s call)) 0 (34 * rows_changed s (after s call)) some (λ h. absurd (true≢false (sym h))) (omega arith) (omega arith) first

  pub turns-later : {A : Type 0} (right : A → Type 0) (result : Result A PageFault) (x y z : Self) → follows x y → follows y z → Touches (asked x y) (attempt x) (attempt y) array stores false 0 0
      → Turns (asked y z) (attempt y) (attempt z) array s call right result → Turns (asked x z) (attempt x) (attempt z) array s call right result
  turns-later right result x y z xy yz first second = record {
    answers = second.answers;
    sound = second.sound;
    early = second.early;
    touches = touches-later x y z xy yz first second.touches;
  }

  pub turns-early : {A : Type 0} (right : A → Type 0) (fault : PageFault) (x y : Self) → OfDamage (λ page at. ⊥) fault → IsTrue (is_of_looking fault) → Touches (asked x y) (attempt x) (attempt y) array stores false 0 0
      → Turns {A = A} (asked x y) (attempt x) (attempt y) array s call right (Err fault)
  turns-early right fault x y sound looks first = record {
    answers = tt;
    sound = sound;
    early = λ h. absurd (true≢false (sym looks ∙ h));
    touches = touches-look x y first;
  }

-- ---- rule 4

-- which refusal is due, by another holder
pub due-shared : (s : State) (e : EntityId) (a : Attribute) (v : Value) (other : Option EntityId) → attribute s.schema a.number ≡ Some a → other ≡ (if a.unique then find (is_other (Some e)) (turned a.number v s.triples) else None)
    → due s (SetCall e a.number v) ≡ shared_with s.schema a other
due-shared s e a v other f is =
    ap (λ (o : Option Attribute). shared_at s o e v) f
    ∙ either a.unique (λ b. (if b then shared_with s.schema a (find (is_other (Some e)) (turned a.number v s.triples)) else None) ≡ shared_with s.schema a (if b then find (is_other (Some e)) (turned a.number v s.triples) else None)) (λ _. refl) (λ _. refl)
    ∙ ap (shared_with s.schema a) (sym is)

-- where none is due, the value is free
pub free-of : (s : State) (e : EntityId) (a : Attribute) (v : Value) (other : Option EntityId) (schema : Outline) → other ≡ (if a.unique then find (is_other (Some e)) (turned a.number v s.triples) else None) → shared_with schema a other ≡ None → IsFreeFor s e a v
free-of s e a v other schema is none = λ unique.
    sym (ap (λ (b : Bool). if b then find (is_other (Some e)) (turned a.number v s.triples) else None) unique) ∙ sym is ∙ nobody other none
  where
    nobody : (o : Option EntityId) → shared_with schema a o ≡ None → o ≡ None
    nobody None h = refl
    nobody (Some x) h = absurd (cc)

-- what stands beside the extents is among what a setting asks for
pub aside-called : (s : State) (e : EntityId) (a : Attribute) (v : Value) → attribute s.schema a.number ≡ Some a → AreAmong (aside a) (call_stores s.schema (SetCall e a.number v))
aside-called s e a v f t h =
    subst (λ (o : Option Attribute). among (store Extent e.ty ∷ stores_by aside o) t ≡ true) (sym f) (one-of (store Extent e.ty == t) (among (aside a) t) h)

-- so does the extent of the entity's type
pub extent-called : (s : State) (e : EntityId) (n : ℕ) (v : Value) → AreAmong (store Extent e.ty ∷ []) (call_stores s.schema (SetCall e n v))
extent-called s e n v t h =
    either (store Extent e.ty == t) (λ b. (b || false) ≡ true → (b || among (stores_by aside (attribute s.schema n)) t) ≡ true) (λ _ _. refl) (λ _ k. absurd (true≢false (sym k))) h

-- ---- how it ends

module _ {Self : Type 0} (attempt : Self → Attempt) (follows : Self → Self → Type 0) (asked : Self → Self → (ℕ → Bool) → (ℕ → Bool) → ℕ → Type 0) (page_laws : PageLaws attempt follows asked)
    (form : Place → Array → List ℕ → List (List ℕ) → Type 0) (array : Array) (places : List Place) (s : State) (e : EntityId) (a : Attribute) (v : Value) (f : attribute s.schema a.number ≡ Some a) (other : Option EntityId) (x y : Self) (xy : follows x y)
    (found : Finds (asked x y) (attempt x) (attempt y) array (λ o. o ≡ (if a.unique then find (is_other (Some e)) (turned a.number v s.triples) else None)) (aside a) (Ok other)) where
  -- the value was set
  pub settles-set : (z : Self) → follows y z → shared_with s.schema a other ≡ None → (done : Unit {0}) → Alters form (asked y z) (attempt y) (attempt z) array places s (SetCall e a.number v) (Ok done)
      → Turns {A = Option Refusal} (asked x z) (attempt x) (attempt z) array s (SetCall e a.number v) (IsSettled form (attempt z) array places s (SetCall e a.number v)) (Ok None)
  settles-set z yz none done alters = record {
    answers = (due-shared s e a v other f found.answers ∙ none, alters.answers);
    sound = tt;
    early = tt;
    touches = touches-later attempt follows asked page_laws array s (SetCall e a.number v) (aside a) (aside-called s e a v f) x y z xy yz found.touches alters.touches;
  }

  -- a fault came
  pub settles-fault : (z : Self) → follows y z → shared_with s.schema a other ≡ None → (fault : PageFault) → Alters {A = Unit {0}} form (asked y z) (attempt y) (attempt z) array places s (SetCall e a.number v) (Err fault)
      → Turns {A = Option Refusal} (asked x z) (attempt x) (attempt z) array s (SetCall e a.number v) (IsSettled form (attempt z) array places s (SetCall e a.number v)) (Err fault)
  settles-fault z yz none fault alters = record {
    answers = tt;
    sound = alters.sound;
    early = λ _. due-shared s e a v other f found.answers ∙ none;
    touches = touches-later attempt follows asked page_laws array s (SetCall e a.number v) (aside a) (aside-called s e a v f) x y z xy yz found.touches alters.touches;
  }

  -- a refusal is due
  pub settles-refused : (refusal : Refusal) → shared_with s.schema a other ≡ Some refusal → NearlyStandsAt form (over (attempt y) array) places s
      → Turns {A = Option Refusal} (asked x y) (attempt x) (attempt y) array s (SetCall e a.number v) (IsSettled form (attempt y) array places s (SetCall e a.number v)) (Ok (Some refusal))
  settles-refused refusal is stands = record {
    answers = (due-shared s e a v other f found.answers ∙ is, stands);
    sound = tt;
    early = tt;
    touches = touches-look attempt follows asked page_laws array s (SetCall e a.number v) (aside a) (aside-called s e a v f) x y found.touches;
  }

  -- memory wants
  pub settles-memory : Turns {A = Option Refusal} (asked x y) (attempt x) (attempt y) array s (SetCall e a.number v) (IsSettled form (attempt y) array places s (SetCall e a.number v)) (Err Memory)
  settles-memory = turns-early attempt follows asked page_laws array s (SetCall e a.number v) (aside a) (aside-called s e a v f) (IsSettled form (attempt y) array places s (SetCall e a.number v)) Memory x y tt refl found.touches

-- ---- by the number of an attribute

-- a call of a base that is admitted
pub to-be-set : (s : State) (e : EntityId) (n : ℕ) (a : Attribute) (v : Value) → attribute s.schema n ≡ Some a → Admits s (SetCall e n v) → IsToBeSet s e a v
to-be-set s e n a v f admits =
    let single : (isa s.schema e.ty a.owner && not a.many) ≡ true = sym (ap (passes (λ b. isa s.schema e.ty b.owner && not b.many)) f) ∙ admits.0.single in
    record {
      live = admits.0.live;
      owner = left (isa s.schema e.ty a.owner) (not a.many) single;
      one = not-true a.many (right (isa s.schema e.ty a.owner) (not a.many) single);
      fits = subst (λ (k : ℕ). CanBe s k v) (sym (number-is a.number n (find-passes (λ b. b.number == n) a s.schema.attributes f))) admits.1;
    }

pub number-of : (schema : Outline) (n : ℕ) (a : Attribute) → attribute schema n ≡ Some a → a.number ≡ n
number-of schema n a f = number-is a.number n (find-passes (λ b. b.number == n) a schema.attributes f)

pub never-none : (s : State) (e : EntityId) (n : ℕ) (v : Value) → attribute s.schema n ≡ None → Admits s (SetCall e n v) → ⊥
never-none s e n v none admits = true≢false (sym (sym (ap (passes (λ b. isa s.schema e.ty b.owner && not b.many)) none) ∙ admits.0.single))

pub never-nil : (s : State) (e : EntityId) (n : ℕ) (v : Value) → All IsEntity s.live → e.serial ≡ 0 → Admits s (SetCall e n v) → ⊥
never-nil s e n v entities nil admits = let some = (live-entity s entities e admits.0.live).0 in omega (arith, some, nil)

-- ---- what was seen

pub stays-seen : (a b : Attempt) (page : ℕ) → Stays a b → IsSome (a.seen page) → IsSome (b.seen page)
stays-seen a b page stays some = by (a.seen page) refl some
  where
    by : (o : Option (List ℕ)) → a.seen page ≡ o → IsSome o → IsSome (b.seen page)
    by None e h = absurd (true≢false (sym h))
    by (Some image) e h = subst IsSome (sym (stays page image e)) refl

-- ---- how a base tells it

pub shared-is : (schema : Outline) (a : Attribute) (o : Option EntityId) (r : Refusal) → shared_with schema a o ≡ Some r → IsShared r
shared-is schema a None r h = absurd (nothing r h)
  where
    nothing : (r : Refusal) → None ≡ Some r → ⊥
    nothing r e = cc
shared-is schema a (Some x) r h = subst IsShared (is (NotUnique (attribute_name schema a) x) r h) tt
  where
    is : (q r : Refusal) → Some q ≡ Some r → q ≡ r
    is q r e = cc

pub behaves-refused : {A : Type 0} (follows : Type 0) (old new : pages.Met) (e : EntityId) (n : ℕ) (v : Value) (r : Refusal) → IsShared r → follows → old.count ≤ new.count → Behaves {A = A} follows old new (SetCall e n v) (Err (Refused r))
behaves-refused follows old new e n v (NotUnique name holder) h below rises = record {
  below = below;
  met = record { never_falls = rises; is_last = λ f m. absurd (nothing f m) };
  own = refl;
}
  where
    nothing : (f : PageFault) → None ≡ Some f → ⊥
    nothing f m = cc
behaves-refused follows old new e n v (UnknownName name) h below rises = absurd h
behaves-refused follows old new e n v WrongType h below rises = absurd h
behaves-refused follows old new e n v (NullNotAllowed name) h below rises = absurd h
behaves-refused follows old new e n v (NoSuchEntity x) h below rises = absurd h
behaves-refused follows old new e n v (StillNeeded x name) h below rises = absurd h
behaves-refused follows old new e n v (NotASet name) h below rises = absurd h
behaves-refused follows old new e n v (TextTooLong length limit) h below rises = absurd h
behaves-refused follows old new e n v (NumbersSpent name) h below rises = absurd h
behaves-refused follows old new e n v Aborted h below rises = absurd h
behaves-refused follows old new e n v NullEntity h below rises = absurd h
behaves-refused follows old new e n v (TooManyPages count) h below rises = absurd h
behaves-refused follows old new e n v (Full in_use) h below rises = absurd h

pub gives-refused : {A : Type 0} (stands : State → Type 0) (s : State) (call : Call) (right : A → Type 0) (r : Refusal) → IsShared r → due s call ≡ Some r → stands s → Gives {A = A} stands s call right (Err (Refused r))
gives-refused stands s call right (NotUnique name holder) h is here = (is, here)
gives-refused stands s call right (UnknownName name) h is here = absurd h
gives-refused stands s call right WrongType h is here = absurd h
gives-refused stands s call right (NullNotAllowed name) h is here = absurd h
gives-refused stands s call right (NoSuchEntity x) h is here = absurd h
gives-refused stands s call right (StillNeeded x name) h is here = absurd h
gives-refused stands s call right (NotASet name) h is here = absurd h
gives-refused stands s call right (TextTooLong length limit) h is here = absurd h
gives-refused stands s call right (NumbersSpent name) h is here = absurd h
gives-refused stands s call right Aborted h is here = absurd h
gives-refused stands s call right NullEntity h is here = absurd h
gives-refused stands s call right (TooManyPages count) h is here = absurd h
gives-refused stands s call right (Full in_use) h is here = absurd h

pub told-unanswered : (A : Type 0) (fault : PageFault) → IsTrue (is_of_looking fault) → IsUnanswered {A = A} (Err (told fault))
told-unanswered A (BadPage page place) h = tt
told-unanswered A (Conflict page holder) h = tt
told-unanswered A (page.Full in_use) h = absurd (true≢false (sym h))
told-unanswered A (page.TooManyPages count) h = absurd (true≢false (sym h))
told-unanswered A DiskFault h = tt
told-unanswered A Closed h = tt
told-unanswered A Memory h = tt
