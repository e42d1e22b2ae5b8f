use Rattle.std.proofs.Common.{◌-◌, refl, arith}
use Rattle.st_memory_pages.proofs.Calling.{left-none, left-some, fresh-sound, fresh-drew}
use Rattle.st_memory_pages.proofs.attempted.Attempted.fresh.Goals as goal

pub returns-in_default-clause-cause : goal.returns-in_default-clause-cause
returns-in_default-clause-cause c =
    (refl, left-none _ c.args.self.now.table.items _ _ _ _ c.args.self.now.sound (rw c.deref.ensures.value at c.in_default.ensures.none))

pub overflow_sub-self : goal.overflow_sub-self
overflow_sub-self c =
    let sound = c.args.self.now.sound in
    let size = sound.size in
    let within = rw c.deref.ensures.value at c.in-Some.ensures.within in
    left-some _ c.args.self.now.table.items c.in-Some.page _ _ _ _ (omega (arith, size, within)) sound (rw c.deref.ensures.value at c.in-Some.ensures.free)

pub invariant_of-self-2 : goal.invariant_of-self-2
invariant_of-self-2 c =
    let sound = c.args.self.now.sound in
    let size = sound.size in
    let within = rw c.deref.ensures.value at c.in-Some.ensures.within in
    record {
      sound = fresh-sound _ c.args.self.now.table _ c.in-Some.page _ _ _ _ (omega (arith, size, within)) sound
          (rw c.deref.ensures.value at c.in-Some.ensures.free) (rw c.deref.ensures.value at c.in-Some.ensures.first)
          (rw c.deref_mut.ensures.value at c.draw.ensures);
    }

pub returns-clause-ok : goal.returns-clause-ok
returns-clause-ok c =
    let sound = c.args.self.now.sound in
    let size = sound.size in
    let within = rw c.deref.ensures.value at c.in-Some.ensures.within in
    fresh-drew _ c.args.self.now.table _ c.in-Some.page _ _ _ _ (omega (arith, size, within)) sound
    (rw c.deref.ensures.value at c.in-Some.ensures.free) (rw c.deref_mut.ensures.value at c.draw.ensures)

pub returns-clause-room : goal.returns-clause-room
returns-clause-room c =
    let sound = c.args.self.now.sound in
    let size = sound.size in
    let within = rw c.deref.ensures.value at c.in-Some.ensures.within in
    let some = left-some _ c.args.self.now.table.items c.in-Some.page _ _ _ _ (omega (arith, size, within)) sound (rw c.deref.ensures.value at c.in-Some.ensures.free) in
    (c.args.self.now.left - 1, omega (arith, some), refl)
