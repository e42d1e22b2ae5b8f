use Rattle.std.proofs.Common.{◌≡◌, map, vec_len}
use Rattle.st_triples.specs.Steps.{bare, rolled_back}
use Rattle.st_triples.proofs.Steps.{halfway}
use Rattle.st_triples.proofs.whole.roll_back.Given as goal

abbrev pub invariant-loop-place : goal.invariant-loop-place
invariant-loop-place l = record {
  long : vec_len l.columns ≡ l.place-end;
  changed : map bare l.columns.items ≡ halfway rolled_back l.fn.columns.items l.place;
}
