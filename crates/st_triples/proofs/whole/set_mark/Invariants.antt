use Rattle.std.proofs.Common.{◌≡◌, map, vec_len}
use Rattle.st_triples.specs.Steps.{bare, marked}
use Rattle.st_triples.proofs.Steps.{halfway}
use Rattle.st_triples.proofs.whole.set_mark.Given as goal

abbrev pub invariant-loop-place : goal.invariant-loop-place
invariant-loop-place l = record {
  long : vec_len l.columns ≡ l.place-end;
  changed : map bare l.columns.items ≡ halfway marked l.fn.columns.items l.place;
}
