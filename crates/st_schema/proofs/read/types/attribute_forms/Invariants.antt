use Rattle.std.proofs.Common.{◌≡◌, ◌++◌, drop, Ok}
use Rattle.st_sexp.specs.Items.{and_then}
use Rattle.st_schema.specs.Written.{attribute_forms}
use Rattle.st_schema.proofs.read.types.attribute_forms.Given as goal

abbrev pub invariant-loop-form : goal.invariant-loop-form
invariant-loop-form l = and_then (attribute_forms (drop l.form-index l.forms)) (λ more. Ok (l.attributes ++ more)) ≡ attribute_forms l.forms
