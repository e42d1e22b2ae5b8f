use Rattle.std.proofs.Common.{◌≡◌, ◌+◌, ◌≤◌}
use Rattle.std.specs.List.{remove_range}
use Rattle.st_triples.proofs.cells.remove_range.Given as goal

-- those up to the counter are taken out, and there is room for the others
abbrev pub invariant-loop : goal.invariant-loop
invariant-loop l = record {
  items : l.cells.items ≡ remove_range l.fn.cells.items l.from l.counter;
  mark : l.cells.mark ≡ l.fn.cells.mark;
  room : l.to ≤ l.cells.room + l.counter;
}
