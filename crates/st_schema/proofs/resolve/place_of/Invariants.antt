use Rattle.std.proofs.Common.{◌≡◌, ◌+◌, drop}
use Rattle.st_schema.specs.Resolved.{place_of}
use Rattle.st_schema.proofs.resolve.place_of.Given as goal

abbrev pub invariant-loop-other : goal.invariant-loop-other
invariant-loop-other l = record {
  counted : l.place ≡ l.other-index;
  left : l.place + place_of (drop l.other-index l.names) l.name ≡ place_of l.names l.name;
}
