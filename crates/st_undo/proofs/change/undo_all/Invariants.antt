use Rattle.std.proofs.Common.{◌≡◌, ◌≤◌, vec_len, vec_capacity}
use Rattle.st_undo.specs.Undone.{undone, longest}
use Rattle.st_undo.proofs.change.undo_all.Given as goal

abbrev pub invariant-loop-change : goal.invariant-loop-change
invariant-loop-change g l = record {
  back : undone l.changes.items l.items.items ≡ undone l.initial.changes.items l.initial.items.items;
  room : longest l.changes.items l.items.items ≤ vec_capacity l.items;
  capacity : vec_capacity l.initial.changes ≤ vec_capacity l.changes;
}

abbrev pub decreases-loop-change : goal.decreases-loop-change
decreases-loop-change g l = vec_len l.changes
