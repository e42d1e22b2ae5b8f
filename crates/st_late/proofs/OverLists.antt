-- What a base gives that reads its store late, from what its lists give.
use Rattle.std.proofs.Common.{◌≡◌, ℕ, Bool, true, false, Option, Result, Ok, Err, refl, sym, ◌∙◌, ap, subst}
use Rattle.st_page.specs.declared.fault.PageFault.{PageFault}
use Rattle.st_state.specs.declared.refusal.Refusal.{Refusal}
use Rattle.st_state.specs.declared.refusal.Refusal.TheVariants.{UnknownName, WrongType, NullNotAllowed, NotUnique, NoSuchEntity, StillNeeded, NotASet, TextTooLong, NumbersSpent, Aborted, NullEntity, TooManyPages, Full}
use Rattle.st_state.specs.State.{State}
use Rattle.st_state.specs.Calls.{Call, due, after, Admits}
use Rattle.st_plain.specs.declared.fault.BaseFault.{BaseFault}
use Rattle.st_plain.specs.declared.fault.BaseFault.TheVariants.{Refused, Page, Memory}
use Rattle.st_plain.specs.Held.{Held}
use Rattle.st_plain.specs.Base.{Refuses, Gives}
use Rattle.st_late.specs.Late.{Agrees, StandsFor, Ends}

true-false : true ≡ false → ⊥
true-false e = cc

-- behind the call the store is read: what lists held before it is the state that the witness stood for
state_is : (old new : Held) (was_read is_read : Bool) (w s : State) → is_read ≡ true → new.mark ≡ old.mark → Agrees new is_read w → StandsFor old was_read w s → old.state ≡ s
state_is old new true is_read w s read mark agrees stands = stands.read refl
state_is old new false is_read w s read mark agrees stands = let fresh = stands.unread refl in fresh.1 ∙ sym mark ∙ sym (agrees.read read) ∙ fresh.0

stands_of : (new : Held) (is_read : Bool) (w s : State) → is_read ≡ true → new.state ≡ s → StandsFor new is_read w s
stands_of new is_read w s read e = record { unread = λ unread. absurd (true-false (sym read ∙ unread)); read = λ _. e; schema = sym (ap (λ t. t.schema) e) }

refuses_map : (due : Option Refusal) (same other : Type 0) (refusal : Refusal) → (same → other) → Refuses due same refusal → Refuses due other refusal
refuses_map due same other (UnknownName name) f h = (h.0, f h.1)
refuses_map due same other WrongType f h = (h.0, f h.1)
refuses_map due same other (NullNotAllowed name) f h = (h.0, f h.1)
refuses_map due same other (NotUnique name holder) f h = (h.0, f h.1)
refuses_map due same other (NoSuchEntity entity) f h = (h.0, f h.1)
refuses_map due same other (StillNeeded entity name) f h = (h.0, f h.1)
refuses_map due same other (NotASet name) f h = (h.0, f h.1)
refuses_map due same other (TextTooLong size limit) f h = (h.0, f h.1)
refuses_map due same other (NumbersSpent ty) f h = (h.0, f h.1)
refuses_map due same other Aborted f h = (h.0, f h.1)
refuses_map due same other NullEntity f h = (h.0, f h.1)
refuses_map due same other (TooManyPages count) f h = h
refuses_map due same other (Full in_use) f h = h

gives_map : {A : Type 0} (P Q : State → Type 0) (s : State) (call : Call) (right : A → Type 0) (r : Result A BaseFault) → ((t : State) → P t → Q t) → Gives P s call right r → Gives Q s call right r
gives_map P Q s call right (Ok x) f g = (g.0, g.1, f (after s call) g.2)
gives_map P Q s call right (Err (Refused refusal)) f g = refuses_map (due s call) (P s) (Q s) refusal (f s) g
gives_map P Q s call right (Err (Page fault)) f g = g
gives_map P Q s call right (Err Memory) f g = tt

-- what a call gives over lists that hold this
abbrev pub GivesOver : {A : Type 0} → Held → Held → Call → (State → A → Type 0) → Result A BaseFault → Type 0
GivesOver old new call right r = (s : State) → old.state ≡ s → Admits s call → Gives (λ t. new.state ≡ t) s call (right s) r

-- what a call that only looks gives, where lists gave it: before, as the store was read, and behind the call
pub read_gives : {A : Type 0} (old begun new : Held) (was_read is_read : Bool) (call : Call) (right : State → A → Type 0) (r : Result A BaseFault) → begun ≡ old → new.mark ≡ begun.mark → is_read ≡ true → GivesOver begun new call right r → (w s : State) → Agrees new is_read w → StandsFor old was_read w s → Admits s call → Gives (StandsFor new is_read w) s call (right s) r
read_gives old begun new was_read is_read call right r same mark read over w s agrees stands admits =
    let e : old.state ≡ s = state_is old new was_read is_read w s read (mark ∙ ap (λ h. h.mark) same) agrees stands in
    gives_map (λ t. new.state ≡ t) (StandsFor new is_read w) s call (right s) r (λ t h. stands_of new is_read w t read h) (over s (ap (λ h. h.state) same ∙ e) admits)

-- a call that may change something: it ends as over lists, or pages refuse it
ended_gives : {A : Type 0} (old new : ℕ) (told : Option PageFault) (P : State → Type 0) (s : State) (call : Call) (right : A → Type 0) (a r : Result A BaseFault) → Ends old new told a r → Gives P s call right a → Gives P s call right r
ended_gives {A = A} old new told P s call right (Err fault) r e g = let Q : Result A BaseFault → Type 0 = Gives P s call right in subst Q (sym e.0) g
ended_gives old new told P s call right (Ok x) (Ok y) e g = (g.0, subst right (sym e.0) g.1, g.2)
ended_gives old new told P s call right (Ok x) (Err (Refused (TooManyPages count))) e g = g.0
ended_gives old new told P s call right (Ok x) (Err (Refused (Full in_use))) e g = g.0
ended_gives old new told P s call right (Ok x) (Err _) e g = absurd e

-- what a call that may change something gives, where lists gave it: before, as the store was read, behind the call, and at its end
pub write_gives : {A : Type 0} (old begun new ended : Held) (was_read begun_read is_read : Bool) (met_old met_new : ℕ) (told : Option PageFault) (call : Call) (right : State → A → Type 0) (a r : Result A BaseFault) → begun ≡ old → new.mark ≡ begun.mark → ended ≡ new → begun_read ≡ true → is_read ≡ begun_read → GivesOver begun new call right a → Ends met_old met_new told a r → (w s : State) → Agrees ended is_read w → StandsFor old was_read w s → Admits s call → Gives (StandsFor ended is_read w) s call (right s) r
write_gives old begun new ended was_read begun_read is_read met_old met_new told call right a r same mark ends read stays over e w s agrees stands admits =
    let P : Held → Type 0 = λ h. GivesOver begun h call right a in
    ended_gives met_old met_new told (StandsFor ended is_read w) s call (right s) a r e
    (read_gives old begun ended was_read is_read call right a same (ap (λ h. h.mark) ends ∙ mark) (stays ∙ read) (subst P (sym ends) over) w s agrees stands admits)
