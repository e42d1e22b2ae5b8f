use Rattle.std.proofs.Common.{refl, ◌∙◌, arith}
use Rattle.st_undo.proofs.Logged.{unlogs}
use Rattle.st_undo.proofs.change.undo_all.Goals as goal

pub undo-requires : goal.undo-requires
undo-requires g c =
    let u = unlogs c.loop-change.changes.items c.loop-change.items.items c.pop.new.self.items _ c.in-Some.change c.in-Some.ensures.items refl in
    omega (arith, u.long, c.loop-change.invariant.room)

pub loop-change-preserved : goal.loop-change-preserved
loop-change-preserved g c =
    let u = unlogs c.loop-change.changes.items c.loop-change.items.items c.pop.new.self.items c.undo.new.items.items c.in-Some.change c.in-Some.ensures.items c.undo.ensures.items in
    record {
      back = u.mark ∙ c.loop-change.invariant.back;
      room = omega (arith, u.high, c.loop-change.invariant.room, c.undo.ensures.capacity);
      capacity = omega (arith, c.loop-change.invariant.capacity, c.pop.ensures.capacity);
    }
