use Rattle.std.proofs.Common.{◌≡◌, map, drop, vec_len}
use Rattle.std.specs.Prelude.{IsTrue}
use Rattle.std.specs.List.{list_all}
use Rattle.st_triples.specs.Steps.{bare, is_roomy, rid_of}
use Rattle.st_triples.proofs.Steps.{halfway}
use Rattle.st_triples.proofs.whole.sift.Given as goal

-- the first columns are rid of the entity, and in the others there is room for it
abbrev pub invariant-loop-place : goal.invariant-loop-place
invariant-loop-place l = record {
  long : vec_len l.columns ≡ l.place-end;
  changed : map bare l.columns.items ≡ halfway (rid_of l.fn.entity) l.fn.columns.items l.place;
  room : IsTrue (list_all (is_roomy l.fn.entity) (drop l.place l.columns.items));
  sieve : l.sieve.entity ≡ l.fn.entity;
}
