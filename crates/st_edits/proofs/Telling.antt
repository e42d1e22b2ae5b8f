-- What steps whose faults are those of pages say of the calls of bases.
use Rattle.std.proofs.Common.{◌≡◌, ℕ, ◌≤◌, ◌==◌, Bool, false, List, Option, Some, None, Ok, Err, IsTrue, refl, sym, ◌∙◌, subst}
use Rattle.std.specs.Prelude.{IfSome}
use Rattle.std.specs.List.{list_any}
use Rattle.st_edge.specs.Faults.{Rose}
use Rattle.st_page.specs.declared.fault.PageFault.{PageFault}
use Rattle.st_page.specs.declared.fault.PageFault.TheVariants.{BadPage, Conflict, Full, TooManyPages, DiskFault, Closed, Memory}
use Rattle.st_pages.specs.declared.places.Place.{Place}
use Rattle.st_pages.specs.Attempt.{Array, Attempt, over}
use Rattle.st_pages.specs.Calls as pages
use Rattle.st_pages.specs.Reading.{OfDamage}
use Rattle.st_state.specs.State.{State}
use Rattle.st_state.specs.Calls.{Call, due, rules_of}
use Rattle.st_plain.specs.Base.{Gives, IsOwn, fault_behind}
use Rattle.st_standing.specs.Standing.{NearlyStandsAt}
use Rattle.st_edits.specs.Edits.{Behaves, Edits, told}
use Rattle.st_edits.specs.Steps.{Left, Turns}

some-is : (f g : PageFault) → Some f ≡ Some g → f ≡ g
some-is f g e = cc

none-some : (g : PageFault) → None ≡ Some g → ⊥
none-some g e = cc

-- ---- what was met

behind-is : (A : Type 0) (fault : PageFault) → fault_behind {A = A} (Err (told fault)) ≡ pages.met_fault fault
behind-is A (BadPage page place) = refl
behind-is A (Conflict page holder) = refl
behind-is A (Full in_use) = refl
behind-is A (TooManyPages count) = refl
behind-is A DiskFault = refl
behind-is A Closed = refl
behind-is A Memory = refl

for-met : (P : PageFault → Type 0) (o : Option PageFault) → IfSome o P → (f : PageFault) → o ≡ Some f → P f
for-met P None h f e = absurd (none-some f e)
for-met P (Some g) h f e = subst P (some-is g f e) h

own-told : (A : Type 0) (call : Call) → IsTrue (list_any (λ rule. rule == 12) (rules_of call)) → IsTrue (list_any (λ rule. rule == 13) (rules_of call)) → (fault : PageFault) → IsOwn {A = A} call (Err (told fault))
own-told A call many full (BadPage page place) = refl
own-told A call many full (Conflict page holder) = refl
own-told A call many full (Full in_use) = full
own-told A call many full (TooManyPages count) = many
own-told A call many full DiskFault = refl
own-told A call many full Closed = refl
own-told A call many full Memory = tt

-- a fault of pages is told as one of bases
pub behaves-told : {A : Type 0} (X : Type 0) (follows : Type 0) (old new : pages.Met) (call : Call) (fault : PageFault) → IsTrue (list_any (λ rule. rule == 12) (rules_of call)) → IsTrue (list_any (λ rule. rule == 13) (rules_of call))
    → follows → old.count ≤ new.count → pages.HandsOn {A = X} old new (Err fault) → Behaves {A = A} follows old new call (Err (told fault))
behaves-told {A} X follows old new call fault many full below rises met = record {
  below = below;
  met = record {
    never_falls = rises;
    is_last = λ f e. for-met (λ z. (new.last ≡ Some z) × Rose old.count new.count) (pages.met_fault fault) met f (sym (behind-is A fault) ∙ e);
  };
  own = own-told A call many full fault;
}

-- ---- what is given

gives-told : {A : Type 0} (stands : State → Type 0) (s : State) (call : Call) (right : A → Type 0) (fault : PageFault) → OfDamage (λ page at. ⊥) fault → (pages.is_of_looking fault ≡ false → due s call ≡ None)
    → Gives {A = A} stands s call right (Err (told fault))
gives-told stands s call right (BadPage page place) sound early = absurd sound
gives-told stands s call right (Conflict page holder) sound early = refl
gives-told stands s call right (Full in_use) sound early = early refl
gives-told stands s call right (TooManyPages count) sound early = early refl
gives-told stands s call right DiskFault sound early = refl
gives-told stands s call right Closed sound early = refl
gives-told stands s call right Memory sound early = tt

module _ (form : Place → Array → List ℕ → List (List ℕ) → Type 0) (asked : (ℕ → Bool) → (ℕ → Bool) → ℕ → Type 0) (a b : Attempt) (array : Array) (places : List Place) (s : State) (call : Call) where
  pub edits-told : {A X : Type 0} (right : A → Type 0) (found : X → Type 0) (fault : PageFault) → Turns asked a b array s call found (Err fault) → Edits form asked a b array places s call right (Err (told fault))
  edits-told right found fault x = record {
    gives = gives-told (NearlyStandsAt form (over b array) places) s call right fault x.sound x.early;
    touches = x.touches;
  }

  pub edits-left : (wanted changed : Bool) → due s call ≡ None → Turns asked a b array s call (Left form b array places s call wanted) (Ok changed) → Edits form asked a b array places s call (λ c. c ≡ wanted) (Ok changed)
  edits-left wanted changed none x = record { gives = (none, x.answers.0, x.answers.1); touches = x.touches }
