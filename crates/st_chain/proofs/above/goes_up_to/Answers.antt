use Rattle.std.proofs.Common.{◌∙◌, ◌-◌, inr, arith}
use Rattle.st_image.specs.Fields.{rows_of}
use Rattle.st_chain.proofs.Keys.{ge-is, up-to-last}
use Rattle.st_chain.proofs.Walks.{count-rows}
use Rattle.st_chain.proofs.above.goes_up_to.Goals as goal

pub returns-then-count-gt0-clause-up_to : goal.returns-then-count-gt0-clause-up_to
returns-then-count-gt0-clause-up_to c = λ h.
    let place = c.args.place in
    let size = count-rows place c.args.page.now in
    let p = up-to-last place.key (rows_of place.width c.args.page.now) c.key_at.result.now c.args.key.now (c.count-count.result - 1) c.ge.result
    (c.ge.ensures ∙ ge-is c.key_at.result.now c.args.key.now) c.key_at.ensures (omega (arith, size)) c.requires.key c.requires.sound.1.body.ascend in
    inr (p.0 h)

pub returns-then-count-gt0-clause-below : goal.returns-then-count-gt0-clause-below
returns-then-count-gt0-clause-below c = λ h.
    let place = c.args.place in
    let size = count-rows place c.args.page.now in
    let p = up-to-last place.key (rows_of place.width c.args.page.now) c.key_at.result.now c.args.key.now (c.count-count.result - 1) c.ge.result
    (c.ge.ensures ∙ ge-is c.key_at.result.now c.args.key.now) c.key_at.ensures (omega (arith, size)) c.requires.key c.requires.sound.1.body.ascend in
    record { more = omega (arith, c.next.ensures, c.if-next-eq0.false); rows = p.1 h }
