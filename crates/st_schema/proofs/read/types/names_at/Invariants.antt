use Rattle.std.proofs.Common.{◌≡◌, ◌++◌, drop, Ok}
use Rattle.st_sexp.specs.Items.{and_then}
use Rattle.st_schema.specs.Written.{names_at}
use Rattle.st_schema.proofs.read.types.names_at.Given as goal

abbrev pub invariant-loop-form : goal.invariant-loop-form
invariant-loop-form l = and_then (names_at (drop l.form-index l.forms)) (λ more. Ok (l.names ++ more)) ≡ names_at l.forms
