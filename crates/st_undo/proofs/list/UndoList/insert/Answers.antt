use Rattle.std.proofs.Common.{length, ap, arith}
use Rattle.st_undo.proofs.Logged.{logs_put}
use Rattle.st_undo.proofs.list.UndoList.insert.Goals as goal

pub invariant_of-self-2 : goal.invariant_of-self-2
invariant_of-self-2 g c =
    let le = ap (λ v. length v.items) c.self.view_is in
    let now = rw c.reserve.ensures.items at c.log.ensures.items in
    let l = logs_put c.self.inside.changes.items c.self.inside.items.items _ c.insert.new.self.items c.args.place c.args.item now c.in_ok-insert.ensures.items (omega (arith, le, c.requires)) in
    omega (arith, l.high, c.self.invariant, c.insert.ensures.capacity, c.insert.new.self.ok.0, c.insert.new.self.ok.1)

pub returns-clause-mark : goal.returns-clause-mark
returns-clause-mark g c =
    let le = ap (λ v. length v.items) c.self.view_is in
    let now = rw c.reserve.ensures.items at c.log.ensures.items in
    let l = logs_put c.self.inside.changes.items c.self.inside.items.items _ c.insert.new.self.items c.args.place c.args.item now c.in_ok-insert.ensures.items (omega (arith, le, c.requires)) in
    rw (← c.self.view_is) l.mark
