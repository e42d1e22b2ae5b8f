use Rattle.std.proofs.Common.{◌≡◌, drop}
use Rattle.st_schema.specs.Resolved.{inverse_in}
use Rattle.st_schema.proofs.resolve.inverse_in.Given as goal

abbrev pub invariant-loop-choice : goal.invariant-loop-choice
invariant-loop-choice l = inverse_in (drop l.choice-index l.choices) ≡ inverse_in l.choices
