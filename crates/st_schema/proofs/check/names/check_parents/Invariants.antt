use Rattle.std.proofs.Common.{◌≡◌, drop, take, map, []}
use Rattle.st_schema.specs.Checks.{parents_fault}
use Rattle.st_schema.proofs.check.names.check_parents.Given as goal

abbrev pub invariant-loop-ty : goal.invariant-loop-ty
invariant-loop-ty l = record {
  counted : l.index ≡ l.ty-index;
  left : parents_fault (map (λ t. t.name) (take l.ty-index l.types)) (drop l.ty-index l.types) ≡ parents_fault [] l.types;
}
