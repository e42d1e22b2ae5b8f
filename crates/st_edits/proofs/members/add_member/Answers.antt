use Rattle.std.proofs.Common.{◌≡◌, Bool, Err, refl, sym, subst}
use Rattle.std.specs.Prelude.{not}
use Rattle.st_state.specs.State.{has_value}
use Rattle.st_state.specs.Calls.{Add}
use Rattle.st_edits.specs.Edits.{Edits}
use Rattle.st_edits.specs.Steps.{Left}
use Rattle.st_edits.proofs.Telling.{edits-left, edits-told}
use Rattle.st_edits.proofs.members.add_member.Goals as goal

pub returns-in-Ok-clause-edits : goal.returns-in-Ok-clause-edits
returns-in-Ok-clause-edits g c = λ array s agrees same stands admits.
    edits-left g.S.Store.holds (g.P.Pages.asked c.args.pages.now c.add_there.new.pages) (g.P.Pages.attempt c.args.pages.now) (g.P.Pages.attempt c.add_there.new.pages) array c.args.places.now s (Add c.args.entity c.args.number c.args.value.now)
    (not (has_value s c.args.number c.args.entity c.args.value.now)) c.in-Ok.changed refl (c.in-Ok.ensures.turns array s agrees same stands admits)

pub returns-in-Err-clause-edits : goal.returns-in-Err-clause-edits
returns-in-Err-clause-edits g c = λ array s agrees same stands admits.
    let asked = g.P.Pages.asked c.args.pages.now c.add_there.new.pages in
    let A = g.P.Pages.attempt c.args.pages.now in
    let B = g.P.Pages.attempt c.add_there.new.pages in
    let call = Add c.args.entity c.args.number c.args.value.now in
    subst (λ fault. Edits {A = Bool} g.S.Store.holds asked A B array c.args.places.now s call (λ changed. changed ≡ not (has_value s c.args.number c.args.entity c.args.value.now)) (Err fault)) (sym c.told.ensures)
    (edits-told g.S.Store.holds asked A B array c.args.places.now s call (λ changed. changed ≡ not (has_value s c.args.number c.args.entity c.args.value.now)) (Left g.S.Store.holds B array c.args.places.now s call (not (has_value s c.args.number c.args.entity c.args.value.now))) c.in-Err.fault
    (c.in-Err.ensures.turns array s agrees same stands admits))
