use Rattle.std.proofs.Common.{◌≡◌, map, take, vec_len}
use Rattle.std.specs.Prelude.{IsTrue}
use Rattle.std.specs.List.{list_all}
use Rattle.st_triples.specs.Steps.{bare, is_roomy}
use Rattle.st_triples.proofs.whole.make_room.Given as goal

-- the columns are the same but for their rooms, and in the first there is room
abbrev pub invariant-loop-place : goal.invariant-loop-place
invariant-loop-place l = record {
  long : vec_len l.columns ≡ l.place-end;
  same : map bare l.columns.items ≡ map bare l.fn.columns.items;
  room : IsTrue (list_all (is_roomy l.entity) (take l.place l.columns.items));
}
