use Rattle.std.proofs.Common.{◌≡◌, drop, Some}
use Rattle.std.specs.Prelude.{find}
use Rattle.st_state.specs.Bases.{is_other}
use Rattle.st_edits.proofs.holder.first_other.Given as goal

-- none so far is another one
abbrev pub invariant-loop-other : goal.invariant-loop-other
invariant-loop-other l = find (is_other (Some l.entity)) (drop l.other-index l.entities) ≡ find (is_other (Some l.entity)) l.entities
