use Rattle.std.proofs.Common.{◌≡◌, ◌++◌, drop, Ok}
use Rattle.st_sexp.specs.Items.{and_then}
use Rattle.st_schema.specs.Written.{type_forms}
use Rattle.st_schema.proofs.read.types.type_forms.Given as goal

abbrev pub invariant-loop-form : goal.invariant-loop-form
invariant-loop-form l = and_then (type_forms (drop l.form-index l.forms)) (λ more. Ok (l.types ++ more)) ≡ type_forms l.forms
