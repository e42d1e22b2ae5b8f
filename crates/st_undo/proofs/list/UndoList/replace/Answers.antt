use Rattle.std.proofs.Common.{length, ap, arith, length-set}
use Rattle.st_undo.proofs.Logged.{logs_replaced}
use Rattle.st_undo.proofs.list.UndoList.replace.Goals as goal

pub invariant_of-self : goal.invariant_of-self
invariant_of-self g c =
    let lt = ap (λ v. length v.items) c.self.view_is in
    let l = logs_replaced c.self.inside.changes.items c.self.inside.items.items c.log.new.changes.items c.args.place c.replace-before.new.dest c.replace-before.result
    c.log.ensures.items (omega (arith, lt, c.requires.there)) (rw c.replace-before.ensures.value c.index_mut.ensures.value) in
    omega (arith, l.high, c.self.invariant, length-set c.self.inside.items.items c.args.place c.replace-before.new.dest, c.self.inside.items.ok.0, c.self.inside.items.ok.1)

pub returns-clause-mark : goal.returns-clause-mark
returns-clause-mark g c =
    let lt = ap (λ v. length v.items) c.self.view_is in
    let l = logs_replaced c.self.inside.changes.items c.self.inside.items.items c.log.new.changes.items c.args.place c.replace-before.new.dest c.replace-before.result
    c.log.ensures.items (omega (arith, lt, c.requires.there)) (rw c.replace-before.ensures.value c.index_mut.ensures.value) in
    rw (← c.self.view_is) l.mark
