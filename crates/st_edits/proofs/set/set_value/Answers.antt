use Rattle.std.proofs.Common.{Option, Ok, Err, sym, ap, subst, inl, inr}
use Rattle.std.specs.Prelude.{⊤, IfSome}
use Rattle.st_state.specs.declared.refusal.Refusal.{Refusal}
use Rattle.st_pages.specs.Attempt.{over}
use Rattle.st_state.specs.Calls.{Set}
use Rattle.st_standing.specs.Standing.{NearlyStandsAt}
use Rattle.st_plain.specs.declared.fault.BaseFault.{BaseFault}
use Rattle.st_edits.specs.Edits.{Edits, IsUnanswered}
use Rattle.st_edits.specs.Steps.{IsSettled, IsShared}
use Rattle.st_edits.proofs.Settling.{behaves-refused, gives-refused, told-unanswered}
use Rattle.st_edits.proofs.Telling.{edits-told}
use Rattle.st_edits.proofs.set.set_value.Goals as goal

pub returns-in-Ok-None-clause-edits : goal.returns-in-Ok-None-clause-edits
returns-in-Ok-None-clause-edits g c = λ array s agrees same stands admits.
    let x = c.in-Ok-None.ensures.turns array s agrees same stands admits in
    let settled = subst (λ (o : Option Refusal). IsSettled g.S.Store.holds (g.P.Pages.attempt c.set_found.new.pages) array c.args.places.now s (Set c.args.entity c.args.number c.args.value.now) o) c.in-Ok-None.field-0-is x.answers in
    record { gives = (settled.0, tt, settled.1); touches = x.touches }

pub returns-in-Ok-None-clause-put : goal.returns-in-Ok-None-clause-put
returns-in-Ok-None-clause-put g c = λ array s agrees same stands admits place at.
    c.in-Ok-None.ensures.put array s agrees same stands admits (ap (λ (o : Option Refusal). Ok o) c.in-Ok-None.field-0-is) place at

pub returns-in-Ok-Some-clause-behaves : goal.returns-in-Ok-Some-clause-behaves
returns-in-Ok-Some-clause-behaves g c =
    behaves-refused (g.P.Pages.follows c.args.pages.now c.set_found.new.pages) (g.P.Pages.met c.args.pages.now) (g.P.Pages.met c.set_found.new.pages) c.args.entity c.args.number c.args.value.now c.in-Ok-Some.refusal
    (subst (λ (o : Option Refusal). IfSome o IsShared) c.in-Ok-Some.field-0-is c.in-Ok-Some.ensures.own) c.set_found.ensures.follows (g.met.P.Pages.met_never_falls c.args.pages.now c.set_found.new.pages c.set_found.ensures.follows)

pub returns-in-Ok-Some-clause-edits : goal.returns-in-Ok-Some-clause-edits
returns-in-Ok-Some-clause-edits g c = λ array s agrees same stands admits.
    let call = Set c.args.entity c.args.number c.args.value.now in
    let B = g.P.Pages.attempt c.set_found.new.pages in
    let x = c.in-Ok-Some.ensures.turns array s agrees same stands admits in
    let settled = subst (λ (o : Option Refusal). IsSettled g.S.Store.holds B array c.args.places.now s call o) c.in-Ok-Some.field-0-is x.answers in
    record {
      gives = gives-refused {A = Unit {0}} (NearlyStandsAt g.S.Store.holds (over B array) c.args.places.now) s call (λ done. ⊤) c.in-Ok-Some.refusal (subst (λ (o : Option Refusal). IfSome o IsShared) c.in-Ok-Some.field-0-is c.in-Ok-Some.ensures.own) settled.0 settled.1;
      touches = x.touches;
    }

pub returns-in-Err-clause-edits : goal.returns-in-Err-clause-edits
returns-in-Err-clause-edits g c = λ array s agrees same stands admits.
    let call = Set c.args.entity c.args.number c.args.value.now in
    let B = g.P.Pages.attempt c.set_found.new.pages in
    subst (λ (fault : BaseFault). Edits {A = Unit {0}} g.S.Store.holds (g.P.Pages.asked c.args.pages.now c.set_found.new.pages) (g.P.Pages.attempt c.args.pages.now) B array c.args.places.now s call (λ done. ⊤) (Err fault)) (sym c.told.ensures)
    (edits-told g.S.Store.holds (g.P.Pages.asked c.args.pages.now c.set_found.new.pages) (g.P.Pages.attempt c.args.pages.now) B array c.args.places.now s call (λ done. ⊤) (IsSettled g.S.Store.holds B array c.args.places.now s call) c.in-Err.fault
    (c.in-Err.ensures.turns array s agrees same stands admits))

pub returns-in-Err-clause-first : goal.returns-in-Err-clause-first
returns-in-Err-clause-first g c = λ array s agrees same stands admits place at.
    elim (c.in-Err.ensures.first array s agrees same stands admits place at) [
      | inl seen ↦ inl seen
      | inr looked ↦ inr (subst (λ (fault : BaseFault). IsUnanswered {A = Unit {0}} (Err fault)) (sym c.told.ensures) (told-unanswered (Unit {0}) c.in-Err.fault looked.0), looked.1)
    ]

pub returns-in-Ok-Some-clause-first : goal.returns-in-Ok-Some-clause-first
returns-in-Ok-Some-clause-first g c = λ array s agrees same stands admits place at.
    elim (c.in-Ok-Some.ensures.first array s agrees same stands admits place at) [
      | inl seen ↦ inl seen
      | inr looked ↦ absurd looked.0
    ]
