-- What a form is, by its shape.
use Rattle.std.proofs.Common.{◌≡◌, ℕ, List, Some, None, ap, sym, ◌∙◌}
use Rattle.std.specs.Prelude.{ℤ}
use Rattle.st_sexp.specs.declared.form.Form.{Form}
use Rattle.st_sexp.specs.declared.form.Shape.{out-Shape}
use Rattle.st_sexp.specs.declared.form.Shape.TheOpen.{Shape-F}
use Rattle.st_sexp.specs.declared.form.Shape.TheViews.{out-roll-Shape}
use Rattle.st_sexp.specs.declared.form.Shape.TheVariants.{rolls-Name, rolls-Number, rolls-Quoted, rolls-List}
use Rattle.st_sexp.specs.declared.form.Shape.TheVariants as shape
use Rattle.st_sexp.specs.Views.{shape_name, shape_number, shape_list, as_name, as_number, as_list}

out-Name : (letters : List ℕ) → out-Shape (shape.Name letters) ≡ Shape-F.Name letters
out-Name letters = ap out-Shape (sym (rolls-Name letters)) ∙ out-roll-Shape (Shape-F.Name letters)

out-Number : (number : ℤ) → out-Shape (shape.Number number) ≡ Shape-F.Number number
out-Number number = ap out-Shape (sym (rolls-Number number)) ∙ out-roll-Shape (Shape-F.Number number)

out-List : (forms : List Form) → out-Shape (shape.List forms) ≡ Shape-F.List forms
out-List forms = ap out-Shape (sym (rolls-List forms)) ∙ out-roll-Shape (Shape-F.List forms)

pub as_name-name : (letters : List ℕ) (from to : ℕ) → as_name (record { shape = shape.Name letters; from = from; to = to }) ≡ Some letters
unfolding as_name
as_name-name letters from to = ap shape_name (out-Name letters)

pub as_list-name : (letters : List ℕ) (from to : ℕ) → as_list (record { shape = shape.Name letters; from = from; to = to }) ≡ None
unfolding as_list
as_list-name letters from to = ap shape_list (out-Name letters)

pub as_number-number : (number : ℤ) (from to : ℕ) → as_number (record { shape = shape.Number number; from = from; to = to }) ≡ Some number
unfolding as_number
as_number-number number from to = ap shape_number (out-Number number)

pub as_list-list : (forms : List Form) (from to : ℕ) → as_list (record { shape = shape.List forms; from = from; to = to }) ≡ Some forms
unfolding as_list
as_list-list forms from to = ap shape_list (out-List forms)
