-- What calls on pages give, as calls of a base: which states are stood for behind them.
use Rattle.std.proofs.Common.{◌≡◌, Option, Some, None, Result, Ok, Err, IsTrue, IfOk, IfErr, OnOk, inl, inr, refl, sym, subst, true≢false}
use Rattle.std.specs.Prelude.{◌⊎◌}
use Rattle.st_page.specs.declared.fault.PageFault.{PageFault}
use Rattle.st_page.specs.declared.fault.PageFault.TheVariants as page
use Rattle.st_pages.specs.declared.places.Place.{Place}
use Rattle.st_pages.specs.Calls as pages
use Rattle.st_pages.specs.Reading.{OfDamage}
use Rattle.st_state.specs.declared.refusal.Refusal.{Refusal}
use Rattle.st_state.specs.declared.refusal.Refusal.TheVariants.{UnknownName, WrongType, NullNotAllowed, NotUnique, NoSuchEntity, StillNeeded, NotASet, TextTooLong, NumbersSpent, Aborted, NullEntity, TooManyPages, Full}
use Rattle.st_state.specs.State.{State}
use Rattle.st_state.specs.Calls.{Call, Live, Make, Get, Set, Members, Add, Take, Turned, Delete, Listed, after, due}
use Rattle.st_plain.specs.declared.fault.BaseFault.{BaseFault}
use Rattle.st_plain.specs.declared.fault.BaseFault.TheVariants.{Refused, Page, Memory}
use Rattle.st_plain.specs.Base.{Gives, Reaches, Refuses}
use Rattle.st_edits.specs.Edits.{IsUnanswered}
use Rattle.st_paged.specs.Answers.{told_answer}

-- no call changes the schema
pub schema-after : (s : State) (call : Call) → (after s call).schema ≡ s.schema
schema-after s (Live e) = refl
schema-after s (Make ty) = refl
schema-after s (Get e number) = refl
schema-after s (Set e number value) = refl
schema-after s (Members e number) = refl
schema-after s (Add e number value) = refl
schema-after s (Take e number value) = refl
schema-after s (Turned number value) = refl
schema-after s (Delete e) = refl
schema-after s (Listed ty) = refl

-- a refusal says less where less is the same
refuses-less : (due : Option Refusal) (same less : Type 0) → (same → less) → (refusal : Refusal) → Refuses due same refusal → Refuses due less refusal
refuses-less due same less to (TooManyPages count) h = h
refuses-less due same less to (Full in_use) h = h
refuses-less due same less to (UnknownName name) h = (h.0, to h.1)
refuses-less due same less to WrongType h = (h.0, to h.1)
refuses-less due same less to (NullNotAllowed name) h = (h.0, to h.1)
refuses-less due same less to (NotUnique name holder) h = (h.0, to h.1)
refuses-less due same less to (NoSuchEntity e) h = (h.0, to h.1)
refuses-less due same less to (StillNeeded e name) h = (h.0, to h.1)
refuses-less due same less to (NotASet name) h = (h.0, to h.1)
refuses-less due same less to (TextTooLong length limit) h = (h.0, to h.1)
refuses-less due same less to (NumbersSpent name) h = (h.0, to h.1)
refuses-less due same less to Aborted h = (h.0, to h.1)
refuses-less due same less to NullEntity h = (h.0, to h.1)

-- and so does what a call gives
pub gives-less : {A : Type 0} (more less : State → Type 0) (s : State) (call : Call) (right : A → Type 0) → (more s → less s) → (more (after s call) → less (after s call)) → (result : Result A BaseFault) → Gives more s call right result → Gives less s call right result
gives-less more less s call right at then (Ok x) h = (h.0, h.1, then h.2)
gives-less more less s call right at then (Err (Refused refusal)) h = refuses-less (due s call) (more s) (less s) at refusal h
gives-less more less s call right at then (Err (Page fault)) h = h
gives-less more less s call right at then (Err Memory) h = tt

-- what look-ups give
pub gives-found : {A : Type 0} (stands : State → Type 0) (s : State) (call : Call) (right : A → Type 0) → due s call ≡ None → stands (after s call) → (result : Result A PageFault) → IfOk result right → IfErr result (OfDamage (λ page at. ⊥))
    → IfErr result (λ fault. IsTrue (pages.is_of_looking fault)) → Gives stands s call right (told_answer result)
gives-found stands s call right none then (Ok x) answers sound looks = (none, answers, then)
gives-found stands s call right none then (Err (page.BadPage number place)) answers sound looks = absurd sound
gives-found stands s call right none then (Err (page.Conflict number holder)) answers sound looks = refl
gives-found stands s call right none then (Err (page.Full in_use)) answers sound looks = absurd (true≢false (sym looks))
gives-found stands s call right none then (Err (page.TooManyPages count)) answers sound looks = absurd (true≢false (sym looks))
gives-found stands s call right none then (Err page.DiskFault) answers sound looks = refl
gives-found stands s call right none then (Err page.Closed) answers sound looks = refl
gives-found stands s call right none then (Err page.Memory) answers sound looks = tt

-- that a page was got is told by an answer alone
pub reaches-found : {A : Type 0} (got : Type 0) (result : Result A PageFault) → OnOk result got → IfErr result (λ fault. IsTrue (pages.is_of_looking fault)) → Reaches got (told_answer result)
reaches-found got (Ok x) h looks = h
reaches-found got (Err (page.BadPage number place)) h looks = tt
reaches-found got (Err (page.Conflict number holder)) h looks = tt
reaches-found got (Err (page.Full in_use)) h looks = absurd (true≢false (sym looks))
reaches-found got (Err (page.TooManyPages count)) h looks = absurd (true≢false (sym looks))
reaches-found got (Err page.DiskFault) h looks = tt
reaches-found got (Err page.Closed) h looks = tt
reaches-found got (Err page.Memory) h looks = tt

-- ---- what was got in front of a change

got-or : {A : Type 0} (got : Type 0) (result : Result A BaseFault) → (IsUnanswered result → ⊥) → got ⊎ IsUnanswered result → got
got-or got result never (inl h) = h
got-or got result never (inr u) = absurd (never u)

-- an answer, or a refusal by pages, tells that the page was got
pub reaches-put : {A : Type 0} (got : Type 0) (result : Result A BaseFault) → got ⊎ IsUnanswered result → Reaches got result
reaches-put {A} got (Ok x) h = got-or {A = A} got (Ok x) (λ u. u) h
reaches-put {A} got (Err (Refused (TooManyPages count))) h = got-or {A = A} got (Err (Refused (TooManyPages count))) (λ u. u) h
reaches-put {A} got (Err (Refused (Full in_use))) h = got-or {A = A} got (Err (Refused (Full in_use))) (λ u. u) h
reaches-put got (Err (Refused (UnknownName name))) h = tt
reaches-put got (Err (Refused WrongType)) h = tt
reaches-put got (Err (Refused (NullNotAllowed name))) h = tt
reaches-put got (Err (Refused (NotUnique name holder))) h = tt
reaches-put got (Err (Refused (NoSuchEntity e))) h = tt
reaches-put got (Err (Refused (StillNeeded e name))) h = tt
reaches-put got (Err (Refused (NotASet name))) h = tt
reaches-put got (Err (Refused (TextTooLong length limit))) h = tt
reaches-put got (Err (Refused (NumbersSpent name))) h = tt
reaches-put got (Err (Refused Aborted)) h = tt
reaches-put got (Err (Refused NullEntity)) h = tt
reaches-put got (Err (Page fault)) h = tt
reaches-put got (Err Memory) h = tt

some-place : (x y : Place) → Some x ≡ Some y → x ≡ y
some-place x y e = cc

none-place : (y : Place) → None ≡ Some y → ⊥
none-place y e = cc

-- what holds of the one place that there may be, or something else
pub of-place : (o : Option Place) (Got : Place → Type 0) (Other : Type 0) → ((place : Place) → o ≡ Some place → Got place ⊎ Other) → ((place : Place) → o ≡ Some place → Got place) ⊎ Other
of-place None Got Other h = inl (λ place e. absurd (none-place place e))
of-place (Some x) Got Other h = elim (h x refl) [
  | inl got ↦ inl (λ place e. subst Got (some-place x place e) got)
  | inr other ↦ inr other
]
