use Rattle.std.proofs.Common.{refl}
use Rattle.st_edits.proofs.make.make_with.Goals as goal

pub returns-in-Ok-clause-leads : goal.returns-in-Ok-clause-leads
returns-in-Ok-clause-leads g c = λ array schema places view agrees d at.
    let x = c.in-Ok.ensures.leads array schema places view agrees d at in
    record { answers = (refl, x.answers.1); sound = tt; touches = x.touches }

pub returns-in-Err-clause-leads : goal.returns-in-Err-clause-leads
returns-in-Err-clause-leads g c = λ array schema places view agrees d at.
    let x = c.in-Err.ensures.leads array schema places view agrees d at in
    record { answers = tt; sound = x.sound; touches = x.touches }
