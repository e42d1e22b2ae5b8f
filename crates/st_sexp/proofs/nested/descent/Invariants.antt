use Rattle.std.proofs.Common.{◌≡◌, length}
use Rattle.st_sexp.specs.Flat.{tokens_of}
use Rattle.st_sexp.specs.Nested.{descent}
use Rattle.st_sexp.proofs.Descents.{onto}
use Rattle.st_sexp.proofs.nested.descent.Given as goal

abbrev pub invariant-loop-step : goal.invariant-loop-step
invariant-loop-step l = onto l.levels (descent l.form) ≡ descent l.fn.form

abbrev pub decreases-loop-step : goal.decreases-loop-step
decreases-loop-step l = length (tokens_of l.form)
