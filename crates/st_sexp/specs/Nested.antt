-- Forms inside forms: the only recursions over them that readers need. A path goes down by the second form of each list; the
-- lists of one head are spliced into one another.
use Rattle.std.specs.Prelude.{ℕ, Bool, true, false, if◌then◌else◌, List, [], ◌∷◌, map, flat_map, Option, Some, None, Result, Ok, Err}
use Rattle.st_sexp.specs.declared.form.Form.{Form}
use Rattle.st_sexp.specs.declared.form.Shape.{Shape}
use Rattle.st_sexp.specs.declared.form.Shape.TheFolds.{para-Shape}
use Rattle.st_sexp.specs.declared.form.Shape.TheOpen.{Shape-F, Form-F}
use Rattle.st_sexp.specs.declared.nested.Step.{Step}
use Rattle.st_sexp.specs.declared.nested.Path.{Path}
use Rattle.st_sexp.specs.Views.{is_word}

-- the first of a list, and the others
abbrev pub front : {A : Type 0} → List A → Option (A × List A)
front [] = None
front (x ∷ xs) = Some (x, xs)

-- what a form is by its shape, and by what its forms are
abbrev pub of_form : {A : Type 0} → Form-F (Shape × (Form → A)) (Form × A) → A
of_form f = f.shape.1 (record { shape = f.shape.0; from = f.from; to = f.to })

-- ---- paths

-- where a path ends: no list, or one of less than two forms
abbrev pub innermost : Form → Path
innermost form = record { levels = []; inner = form }

-- a list of two forms or more, and the descent of the second
abbrev pub outward : Step → Path → Path
outward step below = record { levels = step ∷ below.levels; inner = below.inner }

abbrev pub descent_by_shape : Shape-F (Shape × (Form → Path)) (Form × Path) → Form → Path
descent_by_shape (Shape-F.List (head ∷ second ∷ more)) form = outward (record { head = head.0; more = map (λ f. f.0) more }) (second.1)
descent_by_shape _ form = innermost form

-- the lists of a path, from the outermost on, and the form that it leads to
unfoldable pub descent : Form → Path
descent form = para-Shape (Form → Path) Path descent_by_shape of_form form.shape form

-- the same, one list at a time
abbrev pub descent_step : Form → Option (List Form) → Path
descent_step form (Some (head ∷ second ∷ more)) = outward (record { head = head; more = more }) (descent second)
descent_step form _ = innermost form

-- whether a list has two forms or more
abbrev pub is_path : Option (List Form) → Bool
is_path (Some (head ∷ second ∷ more)) = true
is_path _ = false

abbrev pub step_of : List Form → Option (Step × Form)
step_of (head ∷ second ∷ more) = Some (record { head = head; more = more }, second)
step_of _ = None

-- a list of two forms or more: its step, and the second form
abbrev pub path_parts : Form → Option (List Form) → Result (Step × Form) Form
path_parts form (Some (head ∷ second ∷ more)) = Ok (record { head = head; more = more }, second)
path_parts form _ = Err form

-- ---- lists in lists

abbrev pub spliced_by_shape : List ℕ → Shape-F (Shape × (Form → List Form)) (Form × List Form) → Form → List Form
spliced_by_shape word (Shape-F.List (head ∷ items)) form = if is_word (head.0) word then flat_map (λ item. item.1) items else form ∷ []
spliced_by_shape word _ form = form ∷ []

-- the items of a list with this head, those of inner ones in their place, at any depth; another form is one item
unfoldable pub spliced : List ℕ → Form → List Form
spliced word form = para-Shape (Form → List Form) (List Form) (spliced_by_shape word) of_form form.shape form

-- the same, one list at a time
abbrev pub spliced_step : List ℕ → Form → Option (List Form) → List Form
spliced_step word form (Some items) = flat_map (spliced word) items
spliced_step word form None = form ∷ []
