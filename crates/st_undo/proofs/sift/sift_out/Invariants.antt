use Rattle.std.proofs.Common.{◌≡◌, ◌≤◌, not, vec_capacity}
use Rattle.std.proofs.lemmas.List.Filters.{FiltersInPlace}
use Rattle.st_undo.proofs.Sifted.{Sifts}
use Rattle.st_undo.proofs.sift.sift_out.Given as goal

abbrev pub invariant-loop-place : goal.invariant-loop-place
invariant-loop-place g l = record {
  in_place : FiltersInPlace (λ x. not (g.S.Sieve.takes l.sieve x)) l.initial.items.items l.items.items l.kept l.place;
  sifts : Sifts (g.S.Sieve.takes l.sieve) l.initial.changes.items l.initial.items.items l.changes.items l.place;
  items_capacity : vec_capacity l.items ≡ vec_capacity l.initial.items;
  capacity : vec_capacity l.initial.changes ≤ vec_capacity l.changes;
}
