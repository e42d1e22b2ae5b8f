use Rattle.std.proofs.Common.{◌∙◌, ◌-◌, arith}
use Rattle.st_image.specs.Fields.{rows_of}
use Rattle.st_chain.proofs.Keys.{above-from, lt-is}
use Rattle.st_chain.proofs.Walks.{count-rows}
use Rattle.st_chain.proofs.above.is_above.Goals as goal

pub returns : goal.returns
returns c =
    let place = c.args.place in
    let size = count-rows place c.args.page.now in
    let p = above-from place.key (rows_of place.width c.args.page.now) (rows_of place.width c.args.next.now) c.key_at.result.now c.key_at-2.result.now (c.count-count.result - 1) c.lt.result
    (c.lt.ensures ∙ lt-is c.key_at.result.now c.key_at-2.result.now) c.key_at.ensures c.key_at-2.ensures (omega (arith, size)) c.requires.sound.1.body.ascend c.requires.next_sound.1.body.ascend in
    (λ h. record { some = λ e. c.if-count-eq0.false (c.count.ensures ∙ e); ascend = p.0 h }, λ a. p.1 a.ascend)
