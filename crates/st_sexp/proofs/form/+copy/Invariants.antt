use Rattle.std.proofs.Common.{◌≡◌, take}
use Rattle.st_sexp.proofs.form.+copy.Given as goal

abbrev pub invariant-copy_forms-loop-form : goal.invariant-copy_forms-loop-form
invariant-copy_forms-loop-form l = l.copied ≡ take l.form-index l.forms
