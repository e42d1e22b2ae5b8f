use Rattle.std.proofs.Common.{◌≡◌, ap, ◌∙◌, arith, inl}
use Rattle.st_page.specs.declared.fault.PageFault.TheVariants.{TooManyPages}
use Rattle.st_memory_pages.specs.Slots.{kept_of}
use Rattle.st_memory_pages.specs.Whole.{seen-here, seen-within}
use Rattle.st_memory_pages.proofs.Calling.{changed-counted, free-counted, left-most, put-sound, put-wrote, put-changes, put-room}
use Rattle.st_memory_pages.proofs.Counting.{one-too-many}
use Rattle.st_memory_pages.proofs.attempted.Attempted.put.Goals as goal

pub recounted-changed-requires-clause-was : goal.recounted-changed-requires-clause-was
recounted-changed-requires-clause-was c =
    let sound = c.args.self.now.sound in
    let images = c.args.self.now.images.items in
    let table = c.args.self.now.table.items in
    let page = c.args.page in
    let seen = seen-here images table page c.requires in
    let slot : c.slot_at-slot.result.now ≡ kept_of table page = rw c.deref.ensures.value at c.slot_at-slot.ensures in
    let was = rw (slot, c.deref-2.ensures.value) at c.is_changed-was_changed.ensures in
    rw was (changed-counted images table page _ _ _ _ (seen-within images table page _ _ _ _ sound seen) sound)

pub returns-then-changed-gt-MOST_CHANGED-clause-cause : goal.returns-then-changed-gt-MOST_CHANGED-clause-cause
returns-then-changed-gt-MOST_CHANGED-clause-cause c =
    let sound = c.args.self.now.sound in
    let few = sound.kept.few in
    let images = c.args.self.now.images.items in
    let table = c.args.self.now.table.items in
    let page = c.args.page in
    let seen = seen-here images table page c.requires in
    let slot : c.slot_at-slot.result.now ≡ kept_of table page = rw c.deref.ensures.value at c.slot_at-slot.ensures in
    let was = rw (slot, c.deref-2.ensures.value) at c.is_changed-was_changed.ensures in
    let is = rw c.deref-3.ensures.value at c.differs_at-will_differ.ensures.differs in
    let changes = put-changes images table c.args.image.now page _ _ _ _ c.recounted-changed.result sound seen (rw (was, is) at c.recounted-changed.ensures) in
    let count : c.recounted-changed.result ≡ 4001 = one-too-many _ _ 4000 _ _ few c.if-changed-gt-MOST_CHANGED.true c.recounted-changed.ensures in
    inl (ap TooManyPages count, changes ∙ count)

pub recounted-self-requires-clause-was : goal.recounted-self-requires-clause-was
recounted-self-requires-clause-was c =
    let sound = c.args.self.now.sound in
    let images = c.args.self.now.images.items in
    let table = c.args.self.now.table.items in
    let page = c.args.page in
    let seen = seen-here images table page c.requires in
    let slot : c.slot_at-slot.result.now ≡ kept_of table page = rw c.deref.ensures.value at c.slot_at-slot.ensures in
    let was = rw slot at c.is_free-was_free.ensures in
    rw was (free-counted images table page _ _ _ _ (seen-within images table page _ _ _ _ sound seen) sound)

pub recounted-self-requires-clause-few : goal.recounted-self-requires-clause-few
recounted-self-requires-clause-few c = left-most c.args.self.now.images.items c.args.self.now.table.items _ _ _ _ c.args.self.now.sound

pub invariant_of-self-2 : goal.invariant_of-self-2
invariant_of-self-2 c =
    let sound = c.args.self.now.sound in
    let images = c.args.self.now.images.items in
    let table = c.args.self.now.table.items in
    let page = c.args.page in
    let seen = seen-here images table page c.requires in
    let slot : c.slot_at-slot.result.now ≡ kept_of table page = rw c.deref.ensures.value at c.slot_at-slot.ensures in
    let was = rw (slot, c.deref-2.ensures.value) at c.is_changed-was_changed.ensures in
    let is = rw c.deref-3.ensures.value at c.differs_at-will_differ.ensures.differs in
    let was_free = rw slot at c.is_free-was_free.ensures in
    let freed = rw was_free at c.recounted-self.ensures in
    record {
      sound = put-sound images c.args.self.now.table _ c.args.image.now page _ _ _ _ c.recounted-changed.result c.recounted-self.result sound seen
          c.differs_at-will_differ.ensures.image (rw (was, is) at c.recounted-changed.ensures) (omega arith) (omega (arith, freed))
          (rw c.deref_mut.ensures.value at c.in-Ok.ensures.ok);
    }

pub returns-clause-ok : goal.returns-clause-ok
returns-clause-ok c =
    let images = c.args.self.now.images.items in
    let table = c.args.self.now.table.items in
    let seen = seen-here images table c.args.page c.requires in
    put-wrote images c.args.self.now.table _ c.args.image.now c.args.page _ _ _ _ c.args.self.now.sound seen
    (rw c.deref_mut.ensures.value at c.in-Ok.ensures.ok)

pub returns-clause-room : goal.returns-clause-room
returns-clause-room c =
    let images = c.args.self.now.images.items in
    let table = c.args.self.now.table.items in
    let page = c.args.page in
    let seen = seen-here images table page c.requires in
    let slot : c.slot_at-slot.result.now ≡ kept_of table page = rw c.deref.ensures.value at c.slot_at-slot.ensures in
    let was = rw slot at c.is_free-was_free.ensures in
    let freed = c.recounted-self.ensures in
    put-room images table page _ _ _ _ c.recounted-self.result c.is_free-was_free.result c.args.self.now.sound seen was (omega (arith, freed))
