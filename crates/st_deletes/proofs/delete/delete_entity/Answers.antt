use Rattle.std.proofs.Common.{Option, Err, sym, subst}
use Rattle.std.specs.Prelude.{⊤, IfSome}
use Rattle.st_state.specs.declared.refusal.Refusal.{Refusal}
use Rattle.st_pages.specs.Attempt.{over}
use Rattle.st_state.specs.Calls.{Delete}
use Rattle.st_standing.specs.Standing.{NearlyStandsAt}
use Rattle.st_plain.specs.declared.fault.BaseFault.{BaseFault}
use Rattle.st_edits.specs.Edits.{Edits}
use Rattle.st_edits.specs.Steps.{IsSettled}
use Rattle.st_edits.proofs.Telling.{edits-told}
use Rattle.st_deletes.specs.Needs.{IsNeeded}
use Rattle.st_deletes.proofs.Ending.{behaves-needed, gives-needed}
use Rattle.st_deletes.proofs.delete.delete_entity.Goals as goal

pub returns-in-Ok-None-clause-edits : goal.returns-in-Ok-None-clause-edits
returns-in-Ok-None-clause-edits g c = λ array s agrees same stands admits.
    let x = c.in-Ok-None.ensures.turns array s agrees same stands admits in
    let settled = subst (λ (o : Option Refusal). IsSettled g.S.Store.holds (g.P.Pages.attempt c.delete_settled.new.pages) array c.args.places.now s (Delete c.args.entity) o) c.in-Ok-None.field-0-is x.answers in
    record { gives = (settled.0, tt, settled.1); touches = x.touches }

pub returns-in-Ok-Some-clause-behaves : goal.returns-in-Ok-Some-clause-behaves
returns-in-Ok-Some-clause-behaves g c =
    behaves-needed (g.P.Pages.follows c.args.pages.now c.delete_settled.new.pages) (g.P.Pages.met c.args.pages.now) (g.P.Pages.met c.delete_settled.new.pages) c.args.entity c.in-Ok-Some.refusal
    (subst (λ (o : Option Refusal). IfSome o IsNeeded) c.in-Ok-Some.field-0-is c.in-Ok-Some.ensures.own) c.delete_settled.ensures.follows (g.met.P.Pages.met_never_falls c.args.pages.now c.delete_settled.new.pages c.delete_settled.ensures.follows)

pub returns-in-Ok-Some-clause-edits : goal.returns-in-Ok-Some-clause-edits
returns-in-Ok-Some-clause-edits g c = λ array s agrees same stands admits.
    let B = g.P.Pages.attempt c.delete_settled.new.pages in
    let x = c.in-Ok-Some.ensures.turns array s agrees same stands admits in
    let settled = subst (λ (o : Option Refusal). IsSettled g.S.Store.holds B array c.args.places.now s (Delete c.args.entity) o) c.in-Ok-Some.field-0-is x.answers in
    record {
      gives = gives-needed {A = Unit {0}} (NearlyStandsAt g.S.Store.holds (over B array) c.args.places.now) s (Delete c.args.entity) (λ done. ⊤) c.in-Ok-Some.refusal (subst (λ (o : Option Refusal). IfSome o IsNeeded) c.in-Ok-Some.field-0-is c.in-Ok-Some.ensures.own)
          settled.0 settled.1;
      touches = x.touches;
    }

pub returns-in-Err-clause-edits : goal.returns-in-Err-clause-edits
returns-in-Err-clause-edits g c = λ array s agrees same stands admits.
    let B = g.P.Pages.attempt c.delete_settled.new.pages in
    subst (λ (fault : BaseFault). Edits {A = Unit {0}} g.S.Store.holds (g.P.Pages.asked c.args.pages.now c.delete_settled.new.pages) (g.P.Pages.attempt c.args.pages.now) B array c.args.places.now s (Delete c.args.entity) (λ done. ⊤) (Err fault)) (sym c.told.ensures)
    (edits-told g.S.Store.holds (g.P.Pages.asked c.args.pages.now c.delete_settled.new.pages) (g.P.Pages.attempt c.args.pages.now) B array c.args.places.now s (Delete c.args.entity) (λ done. ⊤) (IsSettled g.S.Store.holds B array c.args.places.now s (Delete c.args.entity))
    c.in-Err.fault (c.in-Err.ensures.turns array s agrees same stands admits))
