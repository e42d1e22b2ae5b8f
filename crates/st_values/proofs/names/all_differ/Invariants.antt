use Rattle.std.proofs.Common.{◌≡◌, drop}
use Rattle.st_values.specs.Names.{all_differ}
use Rattle.st_values.proofs.names.all_differ.Given as goal

-- all differ where those from here on do
abbrev pub invariant-loop-index : goal.invariant-loop-index
invariant-loop-index l = all_differ (drop l.index l.names) ≡ all_differ l.names
