use Rattle.st_memory_pages.proofs.Calling.{get-sound, get-saw}
use Rattle.st_memory_pages.proofs.attempted.Attempted.get.Goals as goal

pub invariant_of-self : goal.invariant_of-self
invariant_of-self c =
    record { sound = get-sound _ c.args.self.now.table _ c.args.page _ _ _ _ c.requires c.args.self.now.sound (rw c.deref_mut.ensures.value at c.see.ensures) }

pub returns-clause-saw : goal.returns-clause-saw
returns-clause-saw c =
    let slot = rw c.deref-2.ensures.value at c.slot_at.ensures in
    get-saw _ c.args.self.now.table _ _ c.args.page _ _ _ _ c.requires c.args.self.now.sound
    (rw c.deref_mut.ensures.value at c.see.ensures) (rw (c.deref.ensures.value, slot) at c.copy_known.ensures)
