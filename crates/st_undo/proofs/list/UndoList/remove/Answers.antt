use Rattle.std.proofs.Common.{length, ap, arith}
use Rattle.st_undo.proofs.Logged.{logs_took}
use Rattle.st_undo.proofs.list.UndoList.remove.Goals as goal

pub invariant_of-self : goal.invariant_of-self
invariant_of-self g c =
    let lt = ap (λ v. length v.items) c.self.view_is in
    let l = logs_took c.self.inside.changes.items c.self.inside.items.items c.log.new.changes.items c.remove-item.new.self.items c.args.place c.remove-item.result
    c.log.ensures.items c.remove-item.ensures.items (omega (arith, lt, c.requires.there)) c.remove-item.ensures.value in
    omega (arith, l.high, c.self.invariant, c.remove-item.ensures.capacity, c.remove-item.new.self.ok.0, c.remove-item.new.self.ok.1)

pub returns-clause-mark : goal.returns-clause-mark
returns-clause-mark g c =
    let lt = ap (λ v. length v.items) c.self.view_is in
    let l = logs_took c.self.inside.changes.items c.self.inside.items.items c.log.new.changes.items c.remove-item.new.self.items c.args.place c.remove-item.result
    c.log.ensures.items c.remove-item.ensures.items (omega (arith, lt, c.requires.there)) c.remove-item.ensures.value in
    rw (← c.self.view_is) l.mark
